-- What options ask for, by whether there is a study, and by whether the run is on rank stores.
use Rattle.std.specs.Prelude.{IfSome, IsTrue}
use Rattle.std.specs.Borrow.{Bor}
use Rattle.std.proofs.Common.{◌≡◌, ℕ, Bool, true, false, List, Option, None, Some, sym, ap, subst}
use Rattle.front_defs.specs.declared.options.Options.{Options}
use Rattle.replay_app.specs.Answer.{IsGiven}
use Rattle.replay_app.specs.Output.{Answers}
use Rattle.replay_app.specs.Statuses.{CanEnd}
use Rattle.replay_app.specs.Words.{AreLent, WhereTold, check, file_words}
use Rattle.block_replay.specs.Output.{IsBlockOutput}
use Rattle.block_replay.specs.Words.{CanBlockEnd, block_file_words}
use Rattle.front_upgrade.specs.Upgraded.{IsUpgraded}
use Rattle.study.specs.Files.{study_files, CanStudyEnd}
use Rattle.study.specs.Studied.{IsAnswered}
use Rattle.study.specs.declared.parts.Study.{Study}
use Rattle.tap_core.specs.Lists.{Entry}
use Rattle.zovatsemo.specs.Front.{Asked, upgrade_of, study_of, run_of, block_of, latest, asked, asked_first, upgrade_asked, run_asked, asked_by, asked_files, words_asked, words_asked_by, form_asked, block_form_asked, study_asked, AnswersAsked, CanEndAsked}

-- the files may be opened
abbrev pub LentFor : (List ℕ → Bool) → Asked → Type 0
LentFor lends a = AreLent lends (asked_files a)

-- the output is one for these files
abbrev pub AnswersFor : (List ℕ → Option (List ℕ)) → List Entry → ℕ → Option (List ℕ) → Option (List ℕ) → Asked → Type 0
AnswersFor content taps status old new a = WhereTold content (asked_files a) (λ contents. AnswersAsked a contents taps status old new)

-- ---- a run
in_queues : (o : Options) → o.block ≡ false → words_asked o ≡ run_of (form_asked o)
in_queues o is = ap (λ b. words_asked_by b (form_asked o) (block_form_asked o)) is

on_stores : (o : Options) → o.block ≡ true → words_asked o ≡ block_of (block_form_asked o)
on_stores o is = ap (λ b. words_asked_by b (form_asked o) (block_form_asked o)) is

pub lent_in_queues : (lends : List ℕ → Bool) (o : Options) → o.block ≡ false → LentFor lends (words_asked o) → AreLent lends (file_words (form_asked o))
lent_in_queues lends o is = subst (LentFor lends) (in_queues o is)

pub lent_on_stores : (lends : List ℕ → Bool) (o : Options) → o.block ≡ true → LentFor lends (words_asked o) → AreLent lends (block_file_words (block_form_asked o))
lent_on_stores lends o is = subst (LentFor lends) (on_stores o is)

pub answered_in_queues : (content : List ℕ → Option (List ℕ)) (taps : List Entry) (status : ℕ) (old new : Option (List ℕ)) (o : Options) → o.block ≡ false
    → WhereTold content (file_words (form_asked o)) (λ contents. Answers (form_asked o) contents taps status old new)
    → AnswersFor content taps status old new (words_asked o)
answered_in_queues content taps status old new o is = subst (AnswersFor content taps status old new) (sym (in_queues o is))

pub answered_on_stores : (content : List ℕ → Option (List ℕ)) (taps : List Entry) (status : ℕ) (old new : Option (List ℕ)) (o : Options) → o.block ≡ true
    → WhereTold content (block_file_words (block_form_asked o)) (λ contents. IsGiven (IsBlockOutput (block_form_asked o) contents taps) status old new)
    → AnswersFor content taps status old new (words_asked o)
answered_on_stores content taps status old new o is = subst (AnswersFor content taps status old new) (sym (on_stores o is))

pub ended_in_queues : (status : ℕ) (o : Options) → o.block ≡ false → CanEnd (form_asked o) status → CanEndAsked (words_asked o) status
ended_in_queues status o is = subst (λ a. CanEndAsked a status) (sym (in_queues o is))

pub ended_on_stores : (status : ℕ) (o : Options) → o.block ≡ true → CanBlockEnd (block_form_asked o) status → CanEndAsked (words_asked o) status
ended_on_stores status o is = subst (λ a. CanEndAsked a status) (sym (on_stores o is))

-- ---- a study, or a run
is_study : (o : Options) (wanted : Study) → study_asked o ≡ Some wanted → run_asked o ≡ study_of wanted
is_study o wanted is = ap (λ s. asked_by s (words_asked o)) is

is_run : (o : Options) → study_asked o ≡ None → run_asked o ≡ words_asked o
is_run o is = ap (λ s. asked_by s (words_asked o)) is

pub lent_for_study : (lends : List ℕ → Bool) (o : Options) (wanted : Study) → study_asked o ≡ Some wanted → LentFor lends (run_asked o) → AreLent lends (study_files wanted)
lent_for_study lends o wanted is = subst (LentFor lends) (is_study o wanted is)

pub lent_for_run : (lends : List ℕ → Bool) (o : Options) → study_asked o ≡ None → LentFor lends (run_asked o) → LentFor lends (words_asked o)
lent_for_run lends o is = subst (LentFor lends) (is_run o is)

pub answered_by_study : (content : List ℕ → Option (List ℕ)) (taps : List Entry) (status : ℕ) (old new : Option (List ℕ)) (o : Options) (wanted : Study) → study_asked o ≡ Some wanted
    → WhereTold content (study_files wanted) (λ contents. IsAnswered wanted contents status old new)
    → AnswersFor content taps status old new (run_asked o)
answered_by_study content taps status old new o wanted is = subst (AnswersFor content taps status old new) (sym (is_study o wanted is))

pub answered_by_run : (content : List ℕ → Option (List ℕ)) (taps : List Entry) (status : ℕ) (old new : Option (List ℕ)) (o : Options) → study_asked o ≡ None
    → AnswersFor content taps status old new (words_asked o) → AnswersFor content taps status old new (run_asked o)
answered_by_run content taps status old new o is = subst (AnswersFor content taps status old new) (sym (is_run o is))

pub ended_by_study : (status : ℕ) (o : Options) (wanted : Study) → study_asked o ≡ Some wanted → CanStudyEnd wanted status → CanEndAsked (run_asked o) status
ended_by_study status o wanted is = subst (λ a. CanEndAsked a status) (sym (is_study o wanted is))

pub ended_by_run : (status : ℕ) (o : Options) → study_asked o ≡ None → CanEndAsked (words_asked o) status → CanEndAsked (run_asked o) status
ended_by_run status o is = subst (λ a. CanEndAsked a status) (sym (is_run o is))

-- ---- an upgrade, or the others
is_upgrade : (o : Options) (policy : Bor (List ℕ)) → upgrade_asked o ≡ Some policy → asked o ≡ upgrade_of policy.now
is_upgrade o policy is = ap (λ u. asked_first u (run_asked o)) is

is_other : (o : Options) → upgrade_asked o ≡ None → asked o ≡ run_asked o
is_other o is = ap (λ u. asked_first u (run_asked o)) is

pub lent_for_upgrade : (lends : List ℕ → Bool) (o : Options) (policy : Bor (List ℕ)) → upgrade_asked o ≡ Some policy → LentFor lends (asked o) → IsTrue (lends policy.now)
lent_for_upgrade lends o policy is lent = (subst (LentFor lends) (is_upgrade o policy is) lent).0

pub lent_for_other : (lends : List ℕ → Bool) (o : Options) → upgrade_asked o ≡ None → LentFor lends (asked o) → LentFor lends (run_asked o)
lent_for_other lends o is = subst (LentFor lends) (is_other o is)

-- an output for the content of a file
of_content : (content : Option (List ℕ)) (text : List ℕ) (P : List ℕ → Type 0) → content ≡ Some text → IfSome content P → P text
of_content content text P is has = subst (λ (c : Option (List ℕ)). IfSome c P) is has

pub answered_by_upgrade : (content : List ℕ → Option (List ℕ)) (taps : List Entry) (status : ℕ) (old new : Option (List ℕ)) (o : Options) (policy : Bor (List ℕ)) → upgrade_asked o ≡ Some policy
    → IfSome (content policy.now) (λ text. IsGiven (IsUpgraded text) status old new)
    → AnswersFor content taps status old new (asked o)
answered_by_upgrade content taps status old new o policy is has = subst (AnswersFor content taps status old new) (sym (is_upgrade o policy is))
    (λ contents told. of_content (content policy.now) (contents policy.now) (λ text. IsGiven (IsUpgraded text) status old new) told.0 has)

pub answered_by_other : (content : List ℕ → Option (List ℕ)) (taps : List Entry) (status : ℕ) (old new : Option (List ℕ)) (o : Options) → upgrade_asked o ≡ None
    → AnswersFor content taps status old new (run_asked o) → AnswersFor content taps status old new (asked o)
answered_by_other content taps status old new o is = subst (AnswersFor content taps status old new) (sym (is_other o is))

pub ended_by_upgrade : (status : ℕ) (o : Options) (policy : Bor (List ℕ)) → upgrade_asked o ≡ Some policy → CanEnd (check latest policy.now) status → CanEndAsked (asked o) status
ended_by_upgrade status o policy is = subst (λ a. CanEndAsked a status) (sym (is_upgrade o policy is))

pub ended_by_other : (status : ℕ) (o : Options) → upgrade_asked o ≡ None → CanEndAsked (run_asked o) status → CanEndAsked (asked o) status
ended_by_other status o is = subst (λ a. CanEndAsked a status) (sym (is_other o is))
