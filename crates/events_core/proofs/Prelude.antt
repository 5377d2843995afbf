-- The names that the proofs of this crate take from outside, passed on from one place. Declares nothing.
pub use Rattle.std.proofs.Common.{sym, ◌∙◌, ◌≡◌, arith, refl, subst, ◌++◌, List, [], ap, length, ℕ, ◌+◌, ◌∷◌, ◌≤◌, Some, append_assoc, drop, get_or, inl, inr, ◌⊎◌, Bool, Err, None, Ok, Option, Result, bytes_eq, false, length-append, length-drop, map, option_map, rules, suc, take, true, ◌-◌, ◌<◌}
pub use Rattle.std.proofs.lemmas.List.{append-nil, length-map, map-append, take_all}
pub use Rattle.text_core.specs.Lines.{statements_of, Follow, is_clean, is_clean_text, line_text}
pub use Rattle.events_core.specs.Script.{Carries, IsFirstFault, IsScript, Carry, most_bytes, most_count, over, IsAtFault, next}
pub use Rattle.events_core.specs.Steps.{counts_of, alone, counted_step, line_steps, word_step}
pub use Rattle.events_core.specs.declared.fault.ScriptFault.{ScriptFault}
pub use Rattle.events_core.specs.declared.fault.ScriptFault.TheVariants.{NoMemory, TooMany}
pub use Rattle.events_core.specs.declared.step.Step.{Step}
pub use Rattle.events_core.specs.declared.step.Step.TheVariants.{Arrive, Depart, Drain, Rest}
