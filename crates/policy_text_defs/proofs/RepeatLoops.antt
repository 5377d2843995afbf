-- Loops that read repeatedly: how far they got.
use Rattle.policy_text_defs.proofs.Prelude.{List, ℕ, refl, ◌≡◌, Some, None, arith, ◌≤◌, ◌∙◌, suc, zero, length, ◌<◌, Glyph, Outcome, Reader}
use Rattle.policy_text_defs.specs.StatementReading.{repeated, many}
use Rattle.policy_text_defs.proofs.RepeatLaws.{repeated_ends, repeated_more}

-- the result of the whole reading is the result of N turns from here
pub record Repeats {K A : Type 0} (take : List Glyph → Outcome K) (step : K → A → Reader A) (whole : Outcome A) (a : A) (gs : List Glyph) : Type 0 where
  pub turns : ℕ
  pub enough : length gs ≤ turns
  pub same : whole ≡ repeated take step turns a gs

pub repeats_start : {K A : Type 0} (take : List Glyph → Outcome K) (step : K → A → Reader A) (a : A) (gs : List Glyph) → Repeats take step (many take step a gs) a gs
unfolding many
repeats_start take step a gs = record { turns = length gs; enough = omega arith; same = refl }

-- if nothing more is taken, this is the result
pub repeats_over : {K A : Type 0} (take : List Glyph → Outcome K) (step : K → A → Reader A) (whole : Outcome A) (a : A) (gs : List Glyph) → Repeats take step whole a gs → take gs ≡ None → whole ≡ Some (a, gs)
repeats_over take step whole a gs before none = before.same ∙ repeated_ends take step before.turns a gs none

more_from : {K A : Type 0} (take : List Glyph → Outcome K) (step : K → A → Reader A) (k : ℕ) (whole : Outcome A) (t : K) (a b : A) (gs hs is : List Glyph) → length gs ≤ k → whole ≡ repeated take step k a gs → take gs ≡ Some (t, hs) → step t a hs ≡ Some (b, is) → length is < length gs → Repeats take step whole b is
more_from take step zero whole t a b gs hs is enough same found read less = absurd (omega arith)
more_from take step (suc k) whole t a b gs hs is enough same found read less = record { turns = k; enough = omega arith; same = same ∙ repeated_more take step k t a b gs hs is found read }

-- one turn
pub repeats_more : {K A : Type 0} (take : List Glyph → Outcome K) (step : K → A → Reader A) (whole : Outcome A) (t : K) (a b : A) (gs hs is : List Glyph) → Repeats take step whole a gs → take gs ≡ Some (t, hs) → step t a hs ≡ Some (b, is) → length is < length gs → Repeats take step whole b is
repeats_more take step whole t a b gs hs is before found read less = more_from take step before.turns whole t a b gs hs is before.enough before.same found read less

stuck_from : {K A : Type 0} (take : List Glyph → Outcome K) (step : K → A → Reader A) (k : ℕ) (t : K) (a : A) (gs hs : List Glyph) → take gs ≡ Some (t, hs) → step t a hs ≡ None → repeated take step k a gs ≡ None
unfolding repeated
stuck_from take step zero t a gs hs found none = rw found refl
stuck_from take step (suc k) t a gs hs found none = rw (found, none) refl

-- if something is taken and nothing can be read after it, nothing is read
pub repeats_stuck : {K A : Type 0} (take : List Glyph → Outcome K) (step : K → A → Reader A) (whole : Outcome A) (t : K) (a : A) (gs hs : List Glyph) → Repeats take step whole a gs → take gs ≡ Some (t, hs) → step t a hs ≡ None → whole ≡ None
repeats_stuck take step whole t a gs hs before found none = before.same ∙ stuck_from take step before.turns t a gs hs found none
