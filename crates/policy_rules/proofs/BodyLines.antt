-- Parsed lines of a body.
use Rattle.policy_rules.proofs.Prelude.{◌∙◌, ap, List, ◌≡◌, sym, ℕ, ◌∷◌, take, length, ◌+◌, ◌<◌, get_or, drop, drop_more, Entry, sense_of, IsSoundBody, with_names, entries_of, Name, declared, each_name, keep_name}
use Rattle.policy_rules.proofs.Lines.{Line, entry_of, within-entries, entry-at}
use Rattle.policy_rules.proofs.SoundBodies.{keeps_more, eaches_more}

-- the lines left from an index
pub drop_line : (lines : List Line) (i : ℕ) (x : Line) → i < length lines → x ≡ get_or lines i x → drop i (entries_of lines) ≡ entry_of x ∷ drop (i + 1) (entries_of lines)
drop_line lines i x within is =
    drop_more (entries_of lines) i (entry_of x) (within-entries lines i within) ∙ ap (λ e. e ∷ drop (i + 1) (entries_of lines)) (entry-at lines i x (entry_of x) within is)

module _ (lines : List Line) (i : ℕ) (x : Line) (sound : IsSoundBody (entries_of lines)) (within : i < length lines) (is : x ≡ get_or lines i x) where
  pub keeps_line : (old new : List Name) → old ≡ declared keep_name (take i (entries_of lines)) → new ≡ with_names old (keep_name (sense_of x.1)) → new ≡ declared keep_name (take (i + 1) (entries_of lines))
  keeps_line old new before after =
      after ∙ ap (λ (l : List Name). with_names l (keep_name (sense_of x.1))) before
      ∙ ap (λ (e : Entry). with_names (declared keep_name (take i (entries_of lines))) (keep_name e.1)) (sym (entry-at lines i x (entry_of x) within is))
      ∙ keeps_more (entries_of lines) i (entry_of x) (within-entries lines i within) sound

  pub eaches_line : (old new : List Name) → old ≡ declared each_name (take i (entries_of lines)) → new ≡ with_names old (each_name (sense_of x.1)) → new ≡ declared each_name (take (i + 1) (entries_of lines))
  eaches_line old new before after =
      after ∙ ap (λ (l : List Name). with_names l (each_name (sense_of x.1))) before
      ∙ ap (λ (e : Entry). with_names (declared each_name (take i (entries_of lines))) (each_name e.1)) (sym (entry-at lines i x (entry_of x) within is))
      ∙ eaches_more (entries_of lines) i (entry_of x) (within-entries lines i within) sound
