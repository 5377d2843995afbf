-- A step changes the variables of one child or flow.
use Rattle.rank_defs.proofs.Prelude.{refl, arith, ◌≡◌, false, true, Bool, ◌≢◌, ap, rules, Memory, State, put_back, same_who, same_flow, Who}
use Rattle.rank_defs.specs.declared.environment.FlowKey.{FlowKey}
use Rattle.rank_defs.specs.declared.environment.Who.TheVariants.{Child, Flow}

pub same_flow-refl : (f : FlowKey) → same_flow f f ≡ true
same_flow-refl f = grind (arith, rules)

pub same_flow-is : (f g : FlowKey) → same_flow f g ≡ true → f ≡ g
same_flow-is f g h = grind (arith, rules)

pub same_who-refl : (who : Who) → same_who who who ≡ true
same_who-refl (Child i) = grind (arith, rules)
same_who-refl (Flow f) = same_flow-refl f

pub same_who-is : (v w : Who) → same_who v w ≡ true → v ≡ w
same_who-is (Child i) (Child j) h = grind (arith, rules)
same_who-is (Flow f) (Flow g) h = ap Flow (same_flow-is f g h)
same_who-is (Child i) (Flow g) h = cc
same_who-is (Flow f) (Child j) h = cc

pub same_who-other : (v w : Who) → v ≢ w → same_who v w ≡ false
same_who-other v w n =
    let P : Bool → Type 0 = λ b. same_who v w ≡ b → b ≡ false
    in (elim (same_who v w) as (λ b. same_who v w ≡ b → same_who v w ≡ false) [ true ↦ λ e. absurd (n (same_who-is v w e)) | false ↦ λ e. e ]) refl

pub put_back-same : (who : Who) (m : Memory) (s : State) → (put_back who m s).eaches who ≡ m.eaches
put_back-same who m s = rw (same_who-refl who) refl

pub put_back-other : (who other : Who) (m : Memory) (s : State) → other ≢ who → (put_back who m s).eaches other ≡ s.eaches other
put_back-other who other m s n = rw (same_who-other other who n) refl

-- either the same child or flow, or a different one
pub by_same_who : {P : Type 0} (v w : Who) → (v ≡ w → P) → (v ≢ w → P) → P
by_same_who {P} v w alike apart =
    (elim (same_who v w) as (λ b. same_who v w ≡ b → P) [ true ↦ λ e. alike (same_who-is v w e) | false ↦ λ e. apart (λ k. let t : same_who v w ≡ true = rw k (same_who-refl w) in cc) ]) refl
