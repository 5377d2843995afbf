-- The names that the proofs of this crate take from outside, passed on from one place. Declares nothing.
pub use Rattle.std.proofs.Common.{arith, ◌≡◌, ◌∙◌, sym, ap, refl, subst, ◌≤◌, IsTrue, false, ℕ, Bool, List, None, Ok, Some, [], if◌then◌else◌, length, ◌+◌, ◌<◌, ◌≢◌, Err, Option, true, ◌∷◌}
pub use Rattle.std.specs.Prelude.{IsSomeAnd, OnErr, OnOk, Result, is_some, max, nat_eq}
pub use Rattle.embed_core.proofs.MapShapes.{leads-alike, depth-alike}
pub use Rattle.outside_core.specs.Memory.{is_begun}
pub use Rattle.packet_defs.specs.declared.packet.Packet.{Packet}
pub use Rattle.policy_defs.specs.Accepted.{IsAccepted, IsClassReady}
pub use Rattle.policy_defs.specs.Policy.{Policy, Node, node_at, Class}
pub use Rattle.rank_defs.specs.Programs.{Program}
pub use Rattle.rank_defs.specs.declared.transaction.Span.{Span}
pub use Rattle.sched_core.specs.Arrivals.{pushes_of, arrival_of, leaf_number}
pub use Rattle.sched_core.specs.Standing.{StandForOne, ForEachState}
pub use Rattle.sched_core.specs.declared.scheduler.Arrival.{Arrival}
pub use Rattle.sched_core.specs.declared.scheduler.Arrival.TheVariants.{Dropped, Pushed}
pub use Rattle.sched_defs.proofs.Soundness.{sound_arrived, sound_start, by_fullness, sound_departed, with_packet-other}
pub use Rattle.sched_defs.specs.Events.{CanArrive, Arrive, CanMake, after}
pub use Rattle.sched_defs.specs.Numbered.{IsSendable, IsHeldBelow}
pub use Rattle.sched_defs.specs.SourceState.{arrived, SourceState, start, is_full, Held, class_of, departed, dropped, pushed, with_packet}
pub use Rattle.tree_core.specs.Shape.{topology}
pub use Rattle.tree_defs.specs.Tree.{depth, Address, Tree, inner, leaf, IsAddressOf, LeadsToLeaf, SameShape, more, nodes, none, subtree}
