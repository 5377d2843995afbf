-- Lines with increasing numbers and statements that can be written, as entries.
use Rattle.policy_core.proofs.Prelude.{List, ◌≡◌, ℕ, ap, sym, subst, arith, length, ◌<◌, get_or, length-entries, entries_of, AreRising, AreWritten, IsRising, IsWritten_IsValid, Entry, sense_of, IsValid, Statement, AreValid}
use Rattle.std.proofs.lemmas.List.{get_or-map}
use Rattle.policy_text_defs.specs.declared.statement.Statement.TheVariants as statement
use Rattle.policy_rules.proofs.Lines.{entry_of}

no-line : ℕ × Statement
no-line = (0, statement.Version 1)

at : (ls : List (ℕ × Statement)) (i : ℕ) (d : Entry) → i < length (entries_of ls) → entry_of (get_or ls i no-line) ≡ get_or (entries_of ls) i d
at ls i d within = sym (get_or-map entry_of ls i no-line d (omega (arith, within, length-entries ls)))

pub rising : (ls : List (ℕ × Statement)) → IsRising ls → AreRising (entries_of ls)
rising ls up = λ i j d before within.
    let low : (get_or ls i no-line).0 < (get_or ls j no-line).0 = up i j no-line before (omega (arith, within, length-entries ls)) in
    omega (arith, low, ap (λ (e : Entry). e.0) (at ls i d (omega (arith, before, within))), ap (λ (e : Entry). e.0) (at ls j d within))

pub valid : (ls : List (ℕ × Statement)) → AreWritten ls → AreValid (entries_of ls)
valid ls written = λ k d within.
    subst (λ (e : Entry). IsValid e.1) (at ls k d within) (IsWritten_IsValid (sense_of (get_or ls k no-line).1) (written k no-line (omega (arith, within, length-entries ls))))
