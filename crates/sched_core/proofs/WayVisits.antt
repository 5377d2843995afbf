-- The visits on the path from a level down.
use Rattle.sched_core.proofs.Prelude.{arith, ◌≡◌, ap, ◌∙◌, sym, ℕ, List, length, subst, ◌<◌, [], refl, ◌∷◌, ◌+◌, ◌≤◌, get_or, suc, zero, ◌++◌, length-append, drop_all, AllByRecursion, Packet, Node, State, Visit, States, env_for, ranks_pushed, visits_from, rank_at, with_state, visit, visits_below, Tree, Address, LeadsToLeaf, inner, leaf, Trees, more, none, root_of, marks_on, tree_for, class_for, IsReady, stop, ahead, part, place, way, who_on, PacketPath}
use Rattle.policy_defs.specs.Policy.{Class}
use Rattle.policy_rules.proofs.Lists.{all-weaker}
use Rattle.sched_core.proofs.TreeParts.{ends}
use Rattle.sched_core.proofs.StateUpdates.{with-apart}
use Rattle.sched_core.proofs.Levels.{leads-at, ahead-next, place-next, next-at, part-next}

-- ---- no address on the path is shorter than the one at which it begins
abbrev pub IsNoShorter : Address → Visit → Type 0
IsNoShorter a v = length a ≤ length v.address

module _ (c : Class) (p : Packet) (moment : ℕ) where
  mutual
    no-shorter : (t : Tree Node) (a : Address) (digits : List ℕ) → AllByRecursion (IsNoShorter a) (visits_from t a digits c p moment)
    no-shorter (leaf n) a digits = (omega arith, tt)
    no-shorter (inner n ts) a [] = tt
    no-shorter (inner n ts) a (i ∷ digits) = (omega arith, all-weaker (IsNoShorter (a ++ i ∷ [])) (IsNoShorter a) _ (λ v l. omega (arith, l, length-append a (i ∷ []))) (no-shorter_below ts i (a ++ i ∷ []) digits))

    no-shorter_below : (ts : Trees Node) (i : ℕ) (a : Address) (digits : List ℕ) → AllByRecursion (IsNoShorter a) (visits_below ts i a digits c p moment)
    no-shorter_below none i a digits = tt
    no-shorter_below (more t ts) zero a digits = no-shorter t a digits
    no-shorter_below (more t ts) (suc i) a digits = no-shorter_below ts i a digits

-- so another state above changes no rank on the path
ranks-apart : (values : States) (a b : Address) (s : State) (visits : List Visit) → length a < length b → AllByRecursion (IsNoShorter b) visits → ranks_pushed (with_state values a s) visits ≡ ranks_pushed values visits
ranks-apart values a b s [] l h = refl
ranks-apart values a b s (v ∷ visits) l h =
    let same : with_state values a s v.address ≡ values v.address = with-apart values a v.address s (λ e. omega (arith, l, h.0, ap length e)) in
    ap (λ (t : State). rank_at (λ _. t) v ∷ ranks_pushed (with_state values a s) visits) same ∙ ap (λ rs. rank_at values v ∷ rs) (ranks-apart values a b s visits l h.1)

-- ---- lists with one more item
pub all-more : (P : ℕ → Type 0) (xs : List ℕ) (x : ℕ) → AllByRecursion P xs → P x → AllByRecursion P (xs ++ x ∷ [])
all-more P [] x h k = (k, tt)
all-more P (y ∷ xs) x h k = (h.0, all-more P xs x h.1 k)

module _ (e : PacketPath) (ready : IsReady e) where
  abbrev digits : List ℕ
  digits = (class_for e).leaf

  -- ---- from a level above the leaf to the next one
  module _ (level : ℕ) (h : level < length (class_for e).leaf) where
    abbrev i : ℕ
    i = get_or digits level 0

    pub way-next : way e level ≡ stop e level ∷ way e (level + 1)
    way-next =
        let n = next-at (tree_for e) digits ready.leads level h in
        let step : visits_from (part e level) (place e level) (i ∷ ahead e (level + 1)) (class_for e) e.packet.now e.moment
        ≡ visit (place e level) (root_of (part e level)).program (who_on (root_of (part e level)).group (i ∷ ahead e (level + 1)) e.packet.now) (env_for e.packet.now e.moment (marks_on (part e level) (i ∷ ahead e (level + 1)) (class_for e))) ∷ way e (level + 1)
        = n.visits (place e level) (class_for e) e.packet.now e.moment
        ∙ ap (λ (t : Tree Node). visit (place e level) (root_of (part e level)).program (who_on (root_of (part e level)).group (i ∷ ahead e (level + 1)) e.packet.now) (env_for e.packet.now e.moment (marks_on (part e level) (i ∷ ahead e (level + 1)) (class_for e))) ∷ visits_from t (place e level ++ i ∷ []) (ahead e (level + 1)) (class_for e) e.packet.now e.moment) (sym (part-next (tree_for e) digits ready.leads level h))
        ∙ ap (λ (a : Address). visit (place e level) (root_of (part e level)).program (who_on (root_of (part e level)).group (i ∷ ahead e (level + 1)) e.packet.now) (env_for e.packet.now e.moment (marks_on (part e level) (i ∷ ahead e (level + 1)) (class_for e))) ∷ visits_from (part e (level + 1)) a (ahead e (level + 1)) (class_for e) e.packet.now e.moment) (sym (place-next (tree_for e) digits ready.leads level h)) in
        subst (λ (ds : List ℕ). visits_from (part e level) (place e level) ds (class_for e) e.packet.now e.moment
        ≡ visit (place e level) (root_of (part e level)).program (who_on (root_of (part e level)).group ds e.packet.now) (env_for e.packet.now e.moment (marks_on (part e level) ds (class_for e))) ∷ way e (level + 1))
        (sym (ahead-next (tree_for e) digits ready.leads level h)) step

    -- the ranks below are the ones from before the step here
    pub ranks-next : (values : States) (s : State) → ranks_pushed values (way e level) ≡ rank_at values (stop e level) ∷ ranks_pushed (with_state values (place e level) s) (way e (level + 1))
    ranks-next values s =
        ap (ranks_pushed values) way-next
        ∙ ap (λ rs. rank_at values (stop e level) ∷ rs) (sym (ranks-apart values (place e level) (place e (level + 1)) s (way e (level + 1))
        (omega (arith, ap length (place-next (tree_for e) digits ready.leads level h), length-append (place e level) (i ∷ [])))
        (no-shorter (class_for e) e.packet.now e.moment (part e (level + 1)) (place e (level + 1)) (ahead e (level + 1)))))

  -- ---- at the leaf
  pub way-ends : (level : ℕ) → level ≡ length (class_for e).leaf → way e level ≡ stop e level ∷ []
  way-ends level is =
      let none : ahead e level ≡ [] = drop_all level digits (omega (arith, is)) in
      let leads : LeadsToLeaf (part e level) [] = subst (LeadsToLeaf (part e level)) none (leads-at (tree_for e) digits ready.leads level (omega (arith, is))) in
      subst (λ (ds : List ℕ). visits_from (part e level) (place e level) ds (class_for e) e.packet.now e.moment
      ≡ visit (place e level) (root_of (part e level)).program (who_on (root_of (part e level)).group ds e.packet.now) (env_for e.packet.now e.moment (marks_on (part e level) ds (class_for e))) ∷ [])
      (sym none) (ends (part e level) (place e level) (class_for e) e.packet.now e.moment leads)
