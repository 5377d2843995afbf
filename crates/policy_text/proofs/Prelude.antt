-- The names that the proofs of this crate take from outside, passed on from one place. Declares nothing.
pub use Rattle.std.proofs.Common.{◌≡◌, ap, length, sym, ◌++◌, ◌∙◌, refl, [], map, ◌+◌, List, arith, subst, ℕ, ◌∷◌, drop, None, Some, suc, ◌≤◌, true, ◌*◌, ◌<◌, Err, IfErr, IfOk, Ok, Option, Result, append_assoc, codes, false, get_or, inl, inr, length-append, max, take, zero, ◌-◌, ◌≢◌}
pub use Rattle.std.proofs.lemmas.Result.{err_from_is_err_and}
pub use Rattle.policy_text_defs.proofs.RepeatLoops.{Repeats, repeats_more, repeats_over, repeats_stuck, repeats_start}
pub use Rattle.policy_text_defs.specs.Canonical.{canonical_text, more_conditions_text, names_text}
pub use Rattle.policy_text_defs.specs.Editions.{chosen, edition_at, after, edition_of}
pub use Rattle.policy_text_defs.specs.Phrase.{phrase_of, Phrase, choice, depth, negation, number, two, word}
pub use Rattle.policy_text_defs.specs.Ranges.{most_text}
pub use Rattle.policy_text_defs.specs.Reading.{pure, Outcome, Reader, ahead}
pub use Rattle.policy_text_defs.specs.Sense.{Sense, numbered, sense_of, Entry, entry}
pub use Rattle.policy_text_defs.specs.Statements.{IsFormAt}
pub use Rattle.policy_text_defs.specs.Text.{CarriesAt, Entries, HasEntries, IsWritten, over, Fault, FirstFault, IsFault, IsFirstFault, ReadsBack, carried, empty, not_text, shaping, syntax_fault}
pub use Rattle.policy_text_defs.specs.declared.edition.Edition.{Edition}
pub use Rattle.policy_text_defs.specs.declared.edition.Edition.TheVariants.{Classic}
pub use Rattle.policy_text_defs.specs.declared.edition.Mode.{Mode}
pub use Rattle.policy_text_defs.specs.declared.edition.Mode.TheVariants.{Opening, Within}
pub use Rattle.policy_text_defs.specs.declared.statement.Statement.{Statement}
pub use Rattle.text_core.specs.Glyphs.{glyphs_of, Glyph}
pub use Rattle.text_core.specs.Lines.{line_text, statements_of}
pub use Rattle.text_core.specs.declared.refusal.Refusal.{Refusal}
pub use Rattle.text_core.specs.declared.refusal.Refusal.TheVariants.{NoForm, NoMemory}
pub use Rattle.policy_text.specs.Entries.{Numbered, entry_of, AreWritten, sense_at, IsRising, mode_after}
pub use Rattle.policy_text.specs.Reads.{Refuses}
pub use Rattle.policy_text.specs.States.{StatesErr}
