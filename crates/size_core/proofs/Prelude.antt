-- The names that the proofs of this crate take from outside, passed on from one place. Declares nothing.
pub use Rattle.std.proofs.Common.{◌≡◌, ◌∙◌, ℕ, length, sym, ap, List, arith, subst, ◌+◌, ◌<◌, ◌≤◌, IfSome, Some, [], refl, ◌∷◌, Option, ◌++◌, suc, None, zero, map, Bool, false, true, append_assoc, ◌-◌, get_or, inl, inr, nat_lt, ◌≢◌, if◌then◌else◌, set, drop, ◌==◌, max, ◌^◌, take, ◌⊎◌, append-nil, deque_items, length-set, min, nat_le, rules, ◌*◌, cond, deque_len, drop_of_length-le, filter, pow_mono, replicate, ◌||◌}
pub use Rattle.std.proofs.lemmas.Bool.{cases_lt, eq-eqb, ne_eqb, lt-leb, eqb-false, eqb-true, le-ltb, lt-ltb, true≢false}
pub use Rattle.std.proofs.lemmas.Bool.Decides.{nat_tests}
pub use Rattle.std.proofs.lemmas.List.{length-append, get_or-map, get_or-set_same, length-map, map-set, take_all, with_items_is}
pub use Rattle.std.proofs.lemmas.Result.{on_ok_weaker}
pub use Rattle.std.specs.List.{range_with_len, AllByRecursion, sum_by, list_any}
pub use Rattle.std.specs.Option.{option_map_or, ForSome}
pub use Rattle.std.specs.Prelude.{slice_get, option_map, Vec, unwrap_or, slice_index, nat_eq}
pub use Rattle.embed_core.proofs.PathLifts.{lifted-lift, lifted-within}
pub use Rattle.embed_defs.specs.Images.{image_map, image_at}
pub use Rattle.embed_defs.specs.Lift.{lift_ranks}
pub use Rattle.policy_core.specs.Numbering.{address_at, HasAt}
pub use Rattle.policy_defs.specs.Policy.{Policy, name_at}
pub use Rattle.sched_defs.proofs.Soundness.{sound_start, popped_is_held, sound_arrived, sound_departed}
pub use Rattle.sched_defs.specs.Events.{outcomes, Arrive, CanMake, Depart, Event, Outcome, departure, outcome}
pub use Rattle.sched_defs.specs.SourceState.{start, Leaver, SourceState, arrival_ranks, arrived, class_of, departed, dropped, is_full, leaver, leaving, left_from, left_with}
pub use Rattle.sched_embedded.specs.Laid.{Laid, leaf_of}
pub use Rattle.tree_defs.proofs.TopologyLaws.{after-append, after-is}
pub use Rattle.tree_defs.specs.Queue.{Queue, Entry, Taking, put, take_least, sooner, take_from}
pub use Rattle.tree_defs.specs.Topology.{after, IsPrefixOf, Topology, topologies_of, topology_of}
pub use Rattle.tree_defs.specs.Tree.{Address, Tree, nodes, option_bind, IsAddressOf, LeadsToLeaf, Popping, SameShape, Trees, inner, leaf, more, none, root_of, subtree, subtree_in}
pub use Rattle.size_core.specs.Hops.{Uses, Watched, passed_at, popped_along, pushed_along, rank_on, value_on, ClassHops, class_hops_in, popped_at, pushed_at, watched_all, AreInside, watched}
pub use Rattle.size_core.specs.Limits.{first_of, is_wide, passes}
pub use Rattle.size_core.specs.Memory.{queue_bits}
pub use Rattle.size_core.specs.Names.{IsServed, IsImage}
pub use Rattle.size_core.specs.Paths.{address_in, Keys, Grows, IsOnce, IsPathTo, IsHop, IsPath}
pub use Rattle.size_core.specs.Places.{addresses, add_paths, add_prefixes, add, add_path, places}
pub use Rattle.size_core.specs.Results.{figures_of, lines_of, AreUnused, line_with, crossing_in, line_if, name_in, HasSizes, IsUnused}
pub use Rattle.size_core.specs.Sizes.{Line, IsNameAt, Sized, line_of, unused_at, AreSizesOf, Crossing, IsSizeOf, crossing_along, entry_at, is_on, line_address, with_pushes, HasImage, crossing_at, crossing_of, no_sizes, pop_sized, push_sized, sized, sized_all, sizes_after, stores_at}
pub use Rattle.size_core.specs.Stores.{flow_of, store_popped, Stores, head_in, leads, store_pushed, heads_in, last_rank, flow_popped, flow_pushed, with_flow, with_spill}
pub use Rattle.size_core.specs.Use.{Use, pushed, popped, spread, highest, lowest_from, taken, unused}
pub use Rattle.size_core.specs.Watching.{Has, HaveUses, IsCrest, Follows, Watches, WatchesAll, class_hops_of}
pub use Rattle.size_core.specs.declared.hop.Hop.{Hop}
pub use Rattle.size_core.specs.declared.limits.Limits.{Limits}
pub use Rattle.size_core.specs.declared.limits.Passed.{Passed}
pub use Rattle.size_core.specs.declared.size.NodeSize.{NodeSize}
pub use Rattle.size_core.specs.declared.size.StoreUse.{StoreUse}
