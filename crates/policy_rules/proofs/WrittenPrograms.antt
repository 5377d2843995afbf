-- The transactions that lines begin, line by line.
use Rattle.policy_rules.proofs.Prelude.{◌∙◌, ap, List, ◌≡◌, sym, ℕ, ◌++◌, take, length, subst, ◌+◌, ◌<◌, get_or, map, drop, ◌-◌, append_assoc, map-append, drop-map, take_rest, AllByRecursion, All, Entry, sense_of, IsValid, Program, AreFew, bodies, Body, opened, IsSoundBody, entries_of, AreRising, programs, program_in}
use Rattle.policy_rules.proofs.Lines.{Line, entry_of, within-entries, entry-at}
use Rattle.policy_rules.proofs.BodyLines.{drop_line}
use Rattle.policy_rules.proofs.StatementBodies.{sound_begun}

-- the entries after a line
behind : (lines : List Line) (i : ℕ) → entries_of (take (length lines - i) (drop i lines)) ≡ drop i (entries_of lines)
behind lines i = ap entries_of (take_rest lines i) ∙ sym (drop-map entry_of i lines)

module _ (lines : List Line) (i : ℕ) (x : Line) (within : i < length lines) (is : x ≡ get_or lines i x) where
  pub begun_requires : AreRising (entries_of lines) → AreFew (entries_of lines) → All (λ e. IsValid e.1) (entries_of lines)
      → AllByRecursion (λ b. IsSoundBody b.lines) (opened (sense_of x.1) (entries_of (take (length lines - (i + 1)) (drop (i + 1) lines))))
  begun_requires rising few valid =
      subst (λ (l : List Entry). AllByRecursion (λ (b : Body). IsSoundBody b.lines) (opened (sense_of x.1) l)) (sym (behind lines (i + 1)))
      (sound_begun (entries_of lines) rising few valid i (entry_of x) (within-entries lines i within) (entry-at lines i x (entry_of x) within is))

  pub begun_more : (old new all : List Program) → old ++ programs (drop i (entries_of lines)) ≡ all
      → new ≡ old ++ map (λ b. program_in b.lines) (opened (sense_of x.1) (entries_of (take (length lines - (i + 1)) (drop (i + 1) lines)))) → new ++ programs (drop (i + 1) (entries_of lines)) ≡ all
  begun_more old new all before after =
      let later : List Entry = drop (i + 1) (entries_of lines) in
      ap (λ (l : List Program). l ++ programs later) (after ∙ ap (λ (l : List Entry). old ++ map (λ b. program_in b.lines) (opened (sense_of x.1) l)) (behind lines (i + 1)))
      ∙ append_assoc old (map (λ b. program_in b.lines) (opened (sense_of x.1) later)) (programs later)
      ∙ ap (λ (l : List Program). old ++ l) (sym (map-append (λ (b : Body). program_in b.lines) (opened (sense_of x.1) later) (bodies later)))
      ∙ ap (λ (l : List Entry). old ++ programs l) (sym (drop_line lines i x within is))
      ∙ before
