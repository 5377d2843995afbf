-- Outputs that depend on inputs, which may be rejected.
use Rattle.replay_app.proofs.Prelude.{subst, sym, ℕ, List, ◌≡◌, refl, ap, Option, on_ok_weaker, on_err_weaker, IfOk-weaker, Err, Result, Ok, IfOk, OnOk, OnErr, Ghosts, Appended, AppendedPrefix, Stop, FaultKind, IsAsItWas, Answer, IsTold, IsDone, refusal, Each, Follows, goes_on, stops, status_code, kind_status, Status}

-- nothing changed
pub unchanged : {F : Type 0} (fabrics : Ghosts F) (f : F) → IsAsItWas fabrics f f
unchanged fabrics f = record { shape = refl; queues = λ b. refl; pushes = refl; pops = refl; spills = refl }

-- an input is rejected with only one code and position, or accepted as only one value
pub record AreOne {T : Type 0} (refused : ℕ → ℕ → Type 0) (accepted : T → Type 0) : Type 0 where
  pub one_refusal : (code place d m : ℕ) → refused code place → refused d m → (code ≡ d) × (place ≡ m)
  pub one : (t u : T) → accepted t → accepted u → t ≡ u
  pub no_both : (t : T) (code place : ℕ) → accepted t → refused code place → ⊥

-- ---- results
all_ok : {T E : Type 0} {P Q : T → Type 0} {R : Type 0} (r : Result T E) → ((t : T) → P t → R → Q t) → IfOk r P → OnOk r R → IfOk r Q
all_ok (Ok t) f p q = f t p q
all_ok (Err e) f p q = tt

pub always_ok : {T E : Type 0} {P : Type 0} (r : Result T E) → P → OnOk r P
always_ok (Ok t) p = p
always_ok (Err e) p = tt

pub always_err : {T E : Type 0} {P : Type 0} (r : Result T E) → P → OnErr r P
always_err (Ok t) p = tt
always_err (Err e) p = p

-- ---- outputs
module _ {T : Type 0} (kind : FaultKind) (refused : ℕ → ℕ → Type 0) (accepted : T → Type 0) (after : T → Answer → Type 0) where
  -- each output is an error, or follows from an accepted value
  pub each-follows : (P : Answer → Type 0) → ((code place : ℕ) → refused code place → P (refusal kind code place)) → ((t : T) (a : Answer) → accepted t → after t a → P a)
      → (a : Answer) → Follows kind refused accepted after a → P a
  each-follows P stop go a (stops code place h) = stop code place h
  each-follows P stop go a (goes_on t _ h k) = go t a h k

  module _ (are : AreOne refused accepted) where
    -- if P holds of the error, it holds of every output
    pub refused-each : (P : Answer → Type 0) (code place : ℕ) → refused code place → P (refusal kind code place) → Each (Follows kind refused accepted after) P
    refused-each P code place h p = each-follows P
        (λ d m k. let same = are.one_refusal code place d m h k in subst (λ (n : ℕ). P (refusal kind n m)) same.0 (subst (λ (n : ℕ). P (refusal kind code n)) same.1 p))
        (λ t a k follows. absurd (are.no_both t code place k h))

    -- if P holds of every output for the accepted value, it holds of every output
    pub accepted-each : (P : Answer → Type 0) (t : T) → accepted t → Each (after t) P → Each (Follows kind refused accepted after) P
    accepted-each P t h each = each-follows P
        (λ d m k. absurd (are.no_both t d m h k))
        (λ u a k follows. each a (subst (λ (v : T). after v a) (sym (are.one t u h k)) follows))

    pub one-follows : ((t : T) (a b : Answer) → after t a → after t b → a ≡ b) → (a b : Answer) → Follows kind refused accepted after a → Follows kind refused accepted after b → a ≡ b
    one-follows one a b x y = each-follows (λ a. a ≡ b)
        (λ code place h. refused-each (λ c. refusal kind code place ≡ c) code place h (λ i. refusal kind code place) b y)
        (λ t a h k. accepted-each (λ c. a ≡ c) t h (λ c l. one t a c k l) b y) a x

  -- an output exists if the input is rejected or accepted, and each accepted value has an output
  pub some-follows : (((t : T) → accepted t → ⊥) → ((code place : ℕ) → refused code place → ⊥) → ⊥) → ((t : T) → accepted t → ((a : Answer) → after t a → ⊥) → ⊥)
      → ((a : Answer) → Follows kind refused accepted after a → ⊥) → ⊥
  some-follows read more none = read (λ t h. more t h (λ a k. none a (goes_on t a h k))) (λ code place h. none (refusal kind code place) (stops code place h))

  -- ---- the effect of a call
  module _ (are : AreOne refused accepted) (r : Result Status Stop) where
    -- the call rejected the input
    pub refused_told : (old new : Option (List ℕ)) (code place : ℕ) → refused code place → IfOk r (λ s. s ≡ kind_status kind) → OnOk r (Appended old new (refusal kind code place).text) →
        OnErr r (AppendedPrefix old new (refusal kind code place).text) → IsTold (Follows kind refused accepted after) r old new
    refused_told old new code place h status text part = record {
      whole = all_ok r (λ s t u. record { answer = refusal kind code place; is = stops code place h; status_is = ap status_code t; text = u }) status text;
      part = on_err_weaker r (λ p. refused-each are (λ a. AppendedPrefix old new a.text) code place h p) part;
    }

    -- the call accepted the input, and went on
    pub accepted_told : (old new : Option (List ℕ)) (t : T) → accepted t → IsTold (after t) r old new → IsTold (Follows kind refused accepted after) r old new
    accepted_told old new t h told = record {
      whole = IfOk-weaker r _ _ (λ s given. record { answer = given.answer; is = goes_on t given.answer h given.is; status_is = given.status_is; text = given.text }) told.whole;
      part = on_err_weaker r (λ p. accepted-each are (λ a. AppendedPrefix old new a.text) t h p) told.part;
    }

-- ---- one output
module _ (x : Answer) (r : Result Status Stop) where
  pub exactly_told : (old new : Option (List ℕ)) → IfOk r (λ s. status_code s ≡ x.status) → OnOk r (Appended old new x.text) → OnErr r (AppendedPrefix old new x.text) → IsTold (λ b. b ≡ x) r old new
  exactly_told old new status text part = record {
    whole = all_ok r (λ s t u. record { answer = x; is = λ i. x; status_is = t; text = u }) status text;
    part = on_err_weaker r (λ p. λ b e. subst (λ (c : Answer). AppendedPrefix old new c.text) (sym e) p) part;
  }

  pub exactly_done : (whole part : Answer → Type 0) → OnOk r (whole x) → OnErr r (part x) → IsDone (λ b. b ≡ x) r whole part
  exactly_done whole part done stopped = record {
    whole = on_ok_weaker r (λ p. λ b e. subst whole (sym e) p) done;
    part = on_err_weaker r (λ p. λ b e. subst part (sym e) p) stopped;
  }

-- ---- statuses
pub known-status : (r : Result Status Stop) (kind : FaultKind) → IfOk r (λ s. s ≡ kind_status kind) → IfOk r (λ s. status_code s ≡ status_code (kind_status kind))
known-status (Ok s) kind e = ap status_code e
known-status (Err e) kind h = tt
