-- The names that the proofs of this crate take from outside, passed on from one place. Declares nothing.
pub use Rattle.std.proofs.Common.{◌≡◌, refl, ap, sym, subst, ◌∙◌, ℕ, suc, zero, arith, List, [], ◌∷◌, ◌++◌, map, drop, take, length, get_or, codes, Bool, true, false, append-nil, inl, inr, Option}
pub use Rattle.std.specs.Prelude.{IfOk, IfSome, OnOk, OnErr, Result, Ok, Err, ◌≤◌, not}
