-- A call that stops at once because it is out of memory.
use Rattle.std.proofs.Common.{rules, ◌≡◌, ℕ, List, Option, inl, inr, ap, subst, ◌∙◌, map, string_bytes, String}
use Rattle.std.specs.declared.alloc.Global.{Global}
use Rattle.outside_core.proofs.WrittenLaws.{appended_nothing, prefix_of_nothing}
use Rattle.front_defs.specs.Options.{words_of}
use Rattle.front_defs.specs.declared.options.Options.{Options}
use Rattle.replay_app.specs.Answer.{Answer, IsGiven}
use Rattle.replay_app.specs.Output.{Answers}
use Rattle.replay_app.specs.Statuses.{CanEnd, IsStop}
use Rattle.replay_app.specs.Words.{Form, WhereTold, file_words, form_up_to, form_of}
use Rattle.block_replay.specs.Output.{IsBlockOutput}
use Rattle.block_replay.specs.Words.{BlockForm, CanBlockEnd, block_file_words, block_form_up_to, block_form_of}
use Rattle.tap_core.specs.Lists.{Entry}
use Rattle.study.specs.Files.{CanStudyEnd}
use Rattle.study.specs.Studied.{IsAnswered}
use Rattle.study.specs.declared.parts.Study.{Study}
use Rattle.zovatsemo.specs.Front.{latest, form_asked, block_form_asked, Asked, upgrade_of, study_of, run_of, block_of, AnswersAsked, CanEndAsked}

pub no_memory : IsStop 10
no_memory = search rules

-- nothing is written
pub given_nothing : (output : Answer → Type 0) (old : Option (List ℕ)) → IsGiven output 10 old old
given_nothing output old = inr (record { stop = no_memory; part = λ a is. prefix_of_nothing old old a.text (appended_nothing old) })

pub ends_so : (form : Form) → CanEnd form 10
ends_so form = inr no_memory

-- the arguments that the options give have the expected form
pub same_form : (words items : List (String Global)) (options : Options) → words ≡ items → map string_bytes items ≡ words_of options → form_up_to latest words ≡ form_asked options
same_form words items options read same = ap (form_up_to latest) read ∙ ap (form_of latest) same

-- the output for arguments is the output for their form
pub answered_so : (content : List ℕ → Option (List ℕ)) (taps : List Entry) (status : ℕ) (old new : Option (List ℕ)) (given asked : Form) → given ≡ asked
    → WhereTold content (file_words given) (λ contents. Answers given contents taps status old new)
    → WhereTold content (file_words asked) (λ contents. Answers asked contents taps status old new)
answered_so content taps status old new given asked same =
    let P : Form → Type 0 = λ form. WhereTold content (file_words form) (λ contents. Answers form contents taps status old new) in
    subst P same

-- ---- on rank stores
pub block_ends_so : (form : BlockForm) → CanBlockEnd form 10
block_ends_so form = inr no_memory

pub same_block_form : (words items : List (String Global)) (options : Options) → words ≡ items → map string_bytes items ≡ words_of options → block_form_up_to latest words ≡ block_form_asked options
same_block_form words items options read same = ap (block_form_up_to latest) read ∙ ap (block_form_of latest) same

pub block_answered_so : (content : List ℕ → Option (List ℕ)) (taps : List Entry) (status : ℕ) (old new : Option (List ℕ)) (given asked : BlockForm) → given ≡ asked
    → WhereTold content (block_file_words given) (λ contents. IsGiven (IsBlockOutput given contents taps) status old new)
    → WhereTold content (block_file_words asked) (λ contents. IsGiven (IsBlockOutput asked contents taps) status old new)
block_answered_so content taps status old new given asked same =
    let P : BlockForm → Type 0 = λ form. WhereTold content (block_file_words form) (λ contents. IsGiven (IsBlockOutput form contents taps) status old new) in
    subst P same

-- ---- for all that options ask for
pub study_nothing : (wanted : Study) (contents : List ℕ → List ℕ) (old : Option (List ℕ)) → IsAnswered wanted contents 10 old old
study_nothing wanted contents old = inl (given_nothing _ old)

pub study_ends_so : (wanted : Study) → CanStudyEnd wanted 10
study_ends_so wanted = inr no_memory

pub asked_nothing : (a : Asked) (contents : List ℕ → List ℕ) (taps : List Entry) (old : Option (List ℕ)) → AnswersAsked a contents taps 10 old old
asked_nothing (upgrade_of policy) contents taps old = given_nothing _ old
asked_nothing (study_of wanted) contents taps old = study_nothing wanted contents old
asked_nothing (run_of form) contents taps old = given_nothing _ old
asked_nothing (block_of form) contents taps old = given_nothing _ old

pub asked_ends_so : (a : Asked) → CanEndAsked a 10
asked_ends_so (upgrade_of policy) = inr no_memory
asked_ends_so (study_of wanted) = inr no_memory
asked_ends_so (run_of form) = inr no_memory
asked_ends_so (block_of form) = inr no_memory
