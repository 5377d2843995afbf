-- The names that the proofs of this crate take from outside, passed on from one place. Declares nothing.
pub use Rattle.std.proofs.Common.{arith, ◌≡◌, ◌≤◌, List, Some, length, sym, ℕ, ◌∙◌, [], refl, ◌∷◌, pos, ap, codes, subst, ◌<◌, None, Option, replicate, suc, take, zero, ◌≢◌, Bool, IfSome, drop, false, get_or, inl, inr, negsuc, true, ◌*◌, ◌++◌, ◌+◌, ◌⊎◌}
pub use Rattle.embed_defs.specs.Target.{leaves, IsArity, least_arity, most_arity, most_height}
pub use Rattle.toml.proofs.Views.{table_get, Entry, items_view-push}
pub use Rattle.toml.specs.Data.{Items, Members, array, get_member, integer, item, no_items, Data, boolean, datetime, float, string, table, as_array, push_item}
pub use Rattle.toml.specs.View.{table_view, items_view, view, array_view, members_view}
pub use Rattle.toml.specs.declared.value.Value.{Value}
pub use Rattle.target_core.specs.TargetText.{AreArities, each_arity, one_arity, GivesArities, HasNumber, IsRefused, IsToml, first_arity, keys, large, not_toml, off_keys, too_long, IsTargetText, IsOffKeys}
