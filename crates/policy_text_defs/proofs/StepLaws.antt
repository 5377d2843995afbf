-- Steps of reading: the tokens that each took.
use Rattle.policy_text_defs.proofs.Prelude.{List, ℕ, [], refl, ◌≡◌, ◌∷◌, Some, ◌++◌, subst, Bool, true, false, sym, None, ◌∙◌, Option, ap, cond, bytes_eq-Decides, bytes_eq, mark_of-text, Glyph, text, sign, mark_of, mark_text, Mark, ahead, pick, pure, Outcome, Reader, refuse, and_then, is_sign, literal, mark, expect, with_rest}
use Rattle.policy_text_defs.specs.Reading.{is_text}

-- an outcome of two steps is made of two outcomes
pub record Steps {A B : Type 0} (first : Outcome A) (then : A → Reader B) (b : B) (rest : List Glyph) : Type 0 where
  pub value : A
  pub left : List Glyph
  pub read : first ≡ Some (value, left)
  pub next : then value left ≡ Some (b, rest)

pub steps : {A B : Type 0} (first : Outcome A) (then : A → Reader B) (b : B) (rest : List Glyph) → and_then first then ≡ Some (b, rest) → Steps first then b rest
steps None then b rest e = absurd cc
steps (Some p) then b rest e = record { value = p.0; left = p.1; read = refl; next = e }

-- equal outcomes have the same value and leave the same tokens
pub same_value : {A : Type 0} (a b : A) (gs hs : List Glyph) → pure a gs ≡ Some (b, hs) → a ≡ b
same_value a b gs hs e = ap (λ v. pick v a (λ p. p.0)) e

pub same_rest : {A : Type 0} (a b : A) (gs hs : List Glyph) → pure a gs ≡ Some (b, hs) → gs ≡ hs
same_rest a b gs hs e = ap (λ v. pick v gs (λ p. p.1)) e

-- a prefix of the tokens is the form of a value
pub record With {A : Type 0} (Is : List Glyph → A → Type 0) (gs : List Glyph) (a : A) (left : List Glyph) : Type 0 where
  pub front : List Glyph
  pub split : gs ≡ front ++ left
  pub is : Is front a

-- the first token passes the test with a value
pub record Stands {A : Type 0} (test : Glyph → Option A) (gs : List Glyph) (a : A) (hs : List Glyph) : Type 0 where
  pub glyph : Glyph
  pub split : gs ≡ glyph ∷ hs
  pub is : test glyph ≡ Some a

stands_case : {A : Type 0} (test : Glyph → Option A) (g : Glyph) (gs hs : List Glyph) (a : A) (found : Option A) → test g ≡ found → with_rest gs found ≡ Some (a, hs) → Stands test (g ∷ gs) a hs
stands_case test g gs hs a None is e = absurd cc
stands_case test g gs hs a (Some b) is e =
    record { glyph = g; split = ap (λ l. g ∷ l) (same_rest b a gs hs e); is = is ∙ ap Some (same_value b a gs hs e) }

pub stands : {A : Type 0} (test : Glyph → Option A) (gs hs : List Glyph) (a : A) → ahead test gs ≡ Some (a, hs) → Stands test gs a hs
stands test [] hs a e = absurd cc
stands test (g ∷ gs) hs a e = stands_case test g gs hs a (test g) refl e

pub ahead_at : {A : Type 0} (test : Glyph → Option A) (g : Glyph) (gs : List Glyph) (a : A) → test g ≡ Some a → ahead test (g ∷ gs) ≡ Some (a, gs)
ahead_at test g gs a e = ap (with_rest gs) e

-- a token that passes is taken
pub record Taken (test : Glyph → Bool) (gs left : List Glyph) : Type 0 where
  pub glyph : Glyph
  pub split : gs ≡ glyph ∷ left
  pub is : test glyph ≡ true

taken_case : (test : Glyph → Bool) (g : Glyph) (gs left : List Glyph) (u : Unit {0}) (v : Bool) → test g ≡ v → cond v (pure tt) refuse gs ≡ Some (u, left) → Taken test (g ∷ gs) left
taken_case test g gs left u true is e = record { glyph = g; split = ap (λ v. g ∷ pick v gs (λ p. p.1)) e; is = is }
taken_case test g gs left u false is e = absurd cc

pub taken : (test : Glyph → Bool) (gs left : List Glyph) (u : Unit {0}) → expect test gs ≡ Some (u, left) → Taken test gs left
taken test [] left u e = absurd cc
taken test (g ∷ gs) left u e = taken_case test g gs left u (test g) refl e

same_mark : (s t : Mark) → mark_text s ≡ mark_text t → s ≡ t
same_mark s t e = let both : Some s ≡ Some t = sym (mark_of-text s) ∙ ap mark_of e ∙ mark_of-text t in ap (λ v. pick v s (λ u. u)) both

pub sign_is : (s : Mark) (g : Glyph) → is_sign s g ≡ true → g ≡ sign s
sign_is s (sign t) e = ap sign (same_mark t s ((bytes_eq-Decides (mark_text t) (mark_text s)).0 e))
sign_is s _ e = absurd cc

pub text_is : (w : List ℕ) (g : Glyph) → is_text w g ≡ true → g ≡ text w
text_is w (text v) e = ap text ((bytes_eq-Decides v w).0 e)
text_is w _ e = absurd cc

pub marked : (s : Mark) (gs left : List Glyph) (u : Unit {0}) → mark s gs ≡ Some (u, left) → gs ≡ sign s ∷ left
marked s gs left u e = let t = taken (is_sign s) gs left u e in t.split ∙ ap (λ g. g ∷ left) (sign_is s t.glyph t.is)

pub worded : (w : List ℕ) (gs left : List Glyph) (u : Unit {0}) → literal w gs ≡ Some (u, left) → gs ≡ text w ∷ left
worded w gs left u e = let t = taken (is_text w) gs left u e in t.split ∙ ap (λ g. g ∷ left) (text_is w t.glyph t.is)

-- ---- tables of words

table_case : {A : Type 0} (P : A → Type 0) (v : Bool) (x k : A) (other : Option A) → (v ≡ true → P x) → (other ≡ Some k → P k) → cond v (Some x) other ≡ Some k → P k
table_case P true x k other here later e = subst P (ap (λ o. pick o x (λ y. y)) e) (here refl)
table_case P false x k other here later e = later e

-- a table gives its value at the first word that matches, or further down
pub in_table : {A : Type 0} (P : A → Type 0) (w v : List ℕ) (x k : A) (other : Option A) → (w ≡ v → P x) → (other ≡ Some k → P k) → cond (bytes_eq w v) (Some x) other ≡ Some k → P k
in_table P w v x k other here later e = table_case P (bytes_eq w v) x k other (λ t. here ((bytes_eq-Decides w v).0 t)) later e
