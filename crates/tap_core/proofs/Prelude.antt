-- The names that the proofs of this crate take from outside, passed on from one place. Declares nothing.
pub use Rattle.std.proofs.Common.{◌≡◌, ◌∙◌, ap, refl, sym, ◌++◌, List, length, take, ℕ, ◌<◌, [], rules, ◌∷◌, get_or, map, ◌≤◌, None, Some, arith, drop, Vec, add-one, append_assoc, false, remove, set, subst, suc, true, zero, ◌+◌, Err, Ok, Result, append-nil, decimal, Bool, Option, cond, filter, nat_lt, not, replicate, ◌||◌}
pub use Rattle.std.proofs.lemmas.List.{take_all, length-map, with_items_is, drop_all, map-append, set-get_or, take_more}
pub use Rattle.std.specs.List.{join_with_byte}
pub use Rattle.std.specs.Prelude.{slice_get, IfOk, OnOk, is_none}
pub use Rattle.std.specs.declared.alloc.Global.{Global}
pub use Rattle.tap_core.specs.Lines.{words_of, line}
pub use Rattle.tap_core.specs.Lists.{entries, Entry, left_after_one, Shown, Slot, Tracks, dropped, entry, stepped, lines_of, entry_after, full, is_done, left_after, step, waiting, answers_done, departed, is_named, state_after}
pub use Rattle.tap_core.specs.declared.kinds.Dropped.{Dropped}
pub use Rattle.tap_core.specs.declared.kinds.TapKind.{TapKind}
