-- Reading repeatedly while the tokens begin with something.
use Rattle.policy_text_defs.proofs.Prelude.{List, ℕ, [], refl, ◌≡◌, Some, ◌++◌, subst, sym, None, arith, ◌∙◌, ap, suc, zero, length, ◌<◌, append_assoc, length-append, Glyph, pick, pure, Outcome, Reader, ◌>>=◌, refuse}
use Rattle.policy_text_defs.specs.StatementReading.{repeated, many}
use Rattle.policy_text_defs.proofs.StepLaws.{steps, same_value, same_rest}

-- a prefix of the tokens leads from one value to another
pub record Leads {A : Type 0} (Step : A → List Glyph → A → Type 0) (a : A) (gs : List Glyph) (b : A) (rest : List Glyph) : Type 0 where
  pub front : List Glyph
  pub split : gs ≡ front ++ rest
  pub is : Step a front b

-- steps one after another
pub data Goes {A : Type 0} (Step : A → List Glyph → A → Type 0) : A → List Glyph → A → Type 0 where
  no_step : (a : A) → Goes Step a [] a
  onward : (ts us : List Glyph) (a b c : A) → Step a ts b → Goes Step b us c → Goes Step a (ts ++ us) c

module _ {K A : Type 0} (take : List Glyph → Outcome K) (step : K → A → Reader A) where
  pub repeated_ends : (k : ℕ) (a : A) (gs : List Glyph) → take gs ≡ None → repeated take step k a gs ≡ Some (a, gs)
  unfolding repeated
  repeated_ends zero a gs none = rw none refl
  repeated_ends (suc k) a gs none = rw none refl

  pub repeated_more : (k : ℕ) (t : K) (a b : A) (gs hs is : List Glyph) → take gs ≡ Some (t, hs) → step t a hs ≡ Some (b, is) → repeated take step (suc k) a gs ≡ repeated take step k b is
  unfolding repeated
  repeated_more k t a b gs hs is found read = rw (found, read) refl

  module _ {Step : A → List Glyph → A → Type 0} (sound : (t : K) (a b : A) (gs hs is : List Glyph) → take gs ≡ Some (t, hs) → step t a hs ≡ Some (b, is) → Leads Step a gs b is) where
    goes_end : (a c : A) (gs left : List Glyph) → pure a gs ≡ Some (c, left) → Leads (Goes Step) a gs c left
    goes_end a c gs left e = record { front = []; split = same_rest a c gs left e; is = subst (Goes Step a []) (same_value a c gs left e) (no_step a) }

    goes_last : (a c : A) (gs left : List Glyph) (found : Outcome K) → pick found (pure a gs) (λ _. refuse gs) ≡ Some (c, left) → Leads (Goes Step) a gs c left
    goes_last a c gs left None e = goes_end a c gs left e
    goes_last a c gs left (Some t) e = absurd cc

    goes_case : (k : ℕ) → ((a c : A) (gs left : List Glyph) → repeated take step k a gs ≡ Some (c, left) → Leads (Goes Step) a gs c left) → (a c : A) (gs left : List Glyph) (found : Outcome K) → take gs ≡ found → pick found (pure a gs) (λ t. (step t.0 a >>= repeated take step k) t.1) ≡ Some (c, left) → Leads (Goes Step) a gs c left
    goes_case k later a c gs left None is e = goes_end a c gs left e
    goes_case k later a c gs left (Some t) is e =
        let first = steps (step t.0 a t.1) (repeated take step k) c left e in
        let one = sound t.0 a first.value gs t.1 first.left is first.read in
        let on = later first.value c first.left left first.next in
        record { front = one.front ++ on.front; split = one.split ∙ ap (λ l. one.front ++ l) on.split ∙ sym (append_assoc one.front on.front left); is = onward one.front on.front a first.value c one.is on.is }

    pub repeated_was : (k : ℕ) (a c : A) (gs left : List Glyph) → repeated take step k a gs ≡ Some (c, left) → Leads (Goes Step) a gs c left
    unfolding repeated
    repeated_was zero a c gs left e = goes_last a c gs left (take gs) e
    repeated_was (suc k) a c gs left e = goes_case k (repeated_was k) a c gs left (take gs) refl e

    pub many_was : (a c : A) (gs left : List Glyph) → many take step a gs ≡ Some (c, left) → Leads (Goes Step) a gs c left
    unfolding many
    many_was a c gs left e = repeated_was (length gs) a c gs left e

-- a step takes tokens if its prefix isn't empty
pub leads_shrink : {A : Type 0} {Step : A → List Glyph → A → Type 0} (a b : A) (gs rest : List Glyph) (l : Leads Step a gs b rest) → 0 < length l.front → length rest < length gs
leads_shrink a b gs rest l some = omega (arith, ap length l.split, length-append l.front rest)
