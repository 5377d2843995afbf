-- Bytes have one meaning as tokens, and the spans of the tokens lead to it.
use Rattle.text_core.proofs.Prelude.{length, ◌≡◌, arith, ◌+◌, List, [], ap, drop, sym, ◌∷◌, subst, take, ◌∙◌, Some, refl, ℕ, ◌-◌, None, Option, prefix_len, Glyph, AreSaid, said, Says, SaysIn, SaysFromIn, skipped, StandIn, begun, token_in, Dialect, Classic, Third, after_blanks, is_blank, Token}
use Rattle.text_core.proofs.LineLaws.{drop-drop, drop-over}

abbrev pub pick : {A : Type 0} {B : Type 0} → Option A → B → (A → B) → B
pick None d f = d
pick (Some x) d f = f x

pub none_in : (d : Dialect) → token_in d [] ≡ None
none_in Classic = refl
none_in Third = refl

pub skipped-at : (line : List ℕ) (from : ℕ) → skipped (drop from line) ≡ drop (after_blanks line from) line
skipped-at line from = drop-drop from (prefix_len is_blank (drop from line)) line

module _ (d : Dialect) where
  -- bytes have only one list of tokens
  pub SaysFromIn-one : (bytes : List ℕ) (gs hs : List Glyph) → SaysFromIn d bytes gs → SaysFromIn d bytes hs → gs ≡ hs
  SaysFromIn-one bytes [] [] a b = refl
  SaysFromIn-one bytes [] (h ∷ hs) a b = let wrong : None ≡ Some (begun b.0 b.1) = sym (none_in d) ∙ ap (token_in d) (sym a) ∙ b.2 in absurd cc
  SaysFromIn-one bytes (g ∷ gs) [] a b = let wrong : None ≡ Some (begun a.0 a.1) = sym (none_in d) ∙ ap (token_in d) (sym b) ∙ a.2 in absurd cc
  SaysFromIn-one bytes (g ∷ gs) (h ∷ hs) a b =
      let same = sym a.2 ∙ b.2 in
      let kind : a.0 ≡ b.0 = ap (λ v. pick v a.0 (λ p. p.0)) same in
      let len : a.1 ≡ b.1 = ap (λ v. pick v a.1 (λ p. p.1)) same in
      let Q : ℕ → Type 0 = λ n. SaysFromIn d (skipped (drop n bytes)) gs in
      let rest = SaysFromIn-one (skipped (drop b.1 bytes)) gs hs (subst Q len a.4) b.4 in
      let words : Some g ≡ Some h = sym a.3 ∙ ap (λ k. said k (take a.1 bytes)) kind ∙ ap (λ n. said b.0 (take n bytes)) len ∙ b.3 in
      let first : g ≡ h = ap (λ v. pick v g (λ x. x)) words in
      ap (λ x. x ∷ gs) first ∙ ap (λ l. h ∷ l) rest

  pub SaysIn-one : (bytes : List ℕ) (gs hs : List Glyph) → SaysIn d bytes gs → SaysIn d bytes hs → gs ≡ hs
  SaysIn-one bytes gs hs a b = SaysFromIn-one (skipped bytes) gs hs a b

  -- the tokens of a line, with their spans, have the meaning of its bytes
  pub StandIn-SaysIn : (line : List ℕ) (from : ℕ) (ts : List Token) (gs : List Glyph) → StandIn d line from ts (length line) → AreSaid line ts gs → SaysIn d (drop from line) gs
  StandIn-SaysIn line from [] [] stand say = skipped-at line from ∙ ap (λ n. drop n line) (sym stand) ∙ drop-over (length line) line (omega arith)
  StandIn-SaysIn line from [] (g ∷ gs) stand say = absurd say
  StandIn-SaysIn line from (t ∷ ts) [] stand say = absurd say
  StandIn-SaysIn line from (t ∷ ts) (g ∷ gs) stand say =
      let at : skipped (drop from line) ≡ drop t.start line = skipped-at line from ∙ ap (λ n. drop n line) (sym stand.0) in
      let ordered = stand.1 in
      let end : t.start + (t.end - t.start) ≡ t.end = omega arith in
      let behind : drop (t.end - t.start) (drop t.start line) ≡ drop t.end line = drop-drop t.start (t.end - t.start) line ∙ ap (λ n. drop n line) end in
      let later = StandIn-SaysIn line t.end ts gs stand.4 say.1 in
      let P : List ℕ → Type 0 = λ l. SaysFromIn d (skipped l) gs in
      let Q : List ℕ → Type 0 = λ l. SaysFromIn d l (g ∷ gs) in
      subst Q (sym at) (t.kind, t.end - t.start, stand.3, say.0, subst P (sym behind) later)

pub Says-one : (bytes : List ℕ) (gs hs : List Glyph) → Says bytes gs → Says bytes hs → gs ≡ hs
Says-one bytes gs hs a b = SaysIn-one Classic bytes gs hs a b
