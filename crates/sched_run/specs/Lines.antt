-- A report as a recorder: each outcome is a line.
use Rattle.std.specs.Prelude.{◌≡◌, ℕ, ◌+◌, Option, None, Some, List, [], ◌∷◌, ◌++◌, length}
use Rattle.std.proofs.Common.{sym, ap, ◌∙◌, subst, arith, append_assoc, append-nil}
use Rattle.outside_core.specs.Written.{Appended}
use Rattle.outside_core.proofs.WrittenLaws.{appended_nothing, appended_in_turn}
use Rattle.outside_core.specs.Text.{IsCut, appended}
use Rattle.report_core.specs.Gathered.{Gathered, text_of}
use Rattle.report_core.proofs.TextLaws.{IsCut-append, IsCut-longer}
use Rattle.policy_defs.specs.Policy.{Policy}
use Rattle.sched_defs.specs.Events.{Outcome}
use Rattle.sched_defs.specs.Report.{outcome_line, lines_from}
use Rattle.sched_run.specs.Recording.{AreJoined}

-- the text grew by a line for each outcome
abbrev pub adds_lines : Gathered → Option (List ℕ) → Policy → ℕ → List Outcome → Gathered → Option (List ℕ) → Type 0
adds_lines report written policy event outcomes report' written' = Appended (text_of written report) (text_of written' report') (lines_from policy event outcomes)

-- a prefix of the text and of a line for each outcome is written
abbrev pub cuts_lines : Gathered → Option (List ℕ) → Policy → ℕ → List Outcome → Option (List ℕ) → Type 0
cuts_lines report written policy event outcomes written' = IsCut (text_of written report) (lines_from policy event outcomes) written'

-- ---- joined lines
pub lines_from-append : (policy : Policy) (event : ℕ) (os ps : List Outcome) → lines_from policy event (os ++ ps) ≡ lines_from policy event os ++ lines_from policy (event + length os) ps
lines_from-append policy event [] ps = let e : event + 0 ≡ event = omega arith in ap (λ n. lines_from policy n ps) (sym e)
lines_from-append policy event (o ∷ os) ps =
    let e : (event + 1) + length os ≡ event + length (o ∷ os) = omega arith in
    ap (λ ls. outcome_line policy event o ++ ls) (lines_from-append policy (event + 1) os ps ∙ ap (λ n. lines_from policy (event + 1) os ++ lines_from policy n ps) e)
    ∙ sym (append_assoc (outcome_line policy event o) (lines_from policy (event + 1) os) (lines_from policy (event + length (o ∷ os)) ps))

-- the bytes written are a prefix of the text, and of the text with anything after it
pub cut_unwritten : (written : Option (List ℕ)) (unwritten more : List ℕ) → IsCut (appended written unwritten) more written
cut_unwritten None unwritten more = tt
cut_unwritten (Some w) unwritten more = record { rest = unwritten ++ more; joined = append_assoc w unwritten more }

pub lines_are_joined : AreJoined adds_lines cuts_lines
lines_are_joined = record {
  none = λ policy event w a. appended_nothing (text_of a w);
  both = λ policy event os ps w v x a b c first second. subst (Appended (text_of a w) (text_of c x)) (sym (lines_from-append policy event os ps))
      (appended_in_turn (text_of a w) (text_of b v) (text_of c x) _ _ first second);
  written = λ policy event os w v a b all. subst (λ (l : List ℕ). IsCut (text_of a w) l b) (append-nil (lines_from policy event os))
      (IsCut-append (text_of a w) (text_of b v) b (lines_from policy event os) [] all (cut_unwritten b v.unwritten []));
  longer = λ policy event os ps w a b cut. subst (λ (l : List ℕ). IsCut (text_of a w) l b) (sym (lines_from-append policy event os ps)) (IsCut-longer (text_of a w) b _ _ cut);
  later = λ policy event os ps w v a b c first cut. subst (λ (l : List ℕ). IsCut (text_of a w) l c) (sym (lines_from-append policy event os ps))
      (IsCut-append (text_of a w) (text_of b v) c _ _ first cut);
}
