-- The names that the proofs of this crate take from outside, passed on from one place. Declares nothing.
pub use Rattle.std.proofs.Common.{refl, ◌≡◌, [], ℕ, ◌∙◌, arith, sym, ◌∷◌, List, Some, ap, subst, suc, zero, ◌≤◌, true, None, inl, inr, length, ◌++◌, false, Option, codes, ◌+◌, Bool, drop, ◌<◌, append-nil, ◌≢◌, ◌⊎◌, bytes_eq, eq-eqb, length-append, nat_eq, ◌&&◌, ◌-◌, ◌||◌, ◌↔◌, Global, Vec, append_assoc, eqb, get_or, lit≤, ltb, map, max, nat_lt, pred, replicate, zero-add}
pub use Rattle.std.proofs.lemmas.Bool.{and_parts, and_from, or_cases, cases_Bool, cases_order, eqb-true, le-ltb, ltb-true, not-true}
pub use Rattle.std.proofs.lemmas.Int.{clamps, ints}
pub use Rattle.std.proofs.lemmas.Slice.Eq.{bytes_eq-Decides}
pub use Rattle.std.specs.Int.{int_max, int_min}
pub use Rattle.std.specs.List.{AllByRecursion, list_any, Contains}
pub use Rattle.std.specs.Option.{option_map_or}
pub use Rattle.std.specs.Prelude.{slice_index, Err, pos, ℤ, ◌≤ℤ◌, IfOk, IsErrOf, IsSomeAnd, Ok, Result, int_div, negsuc, not, option_map, slice_set, unsigned_abs, unwrap_or, ◌*ℤ◌, ◌+ℤ◌}
pub use Rattle.embed_defs.proofs.Subtrees.{subtree-root, same_address, subtree-then}
pub use Rattle.embed_defs.specs.Images.{image_map, image_at}
pub use Rattle.embed_defs.specs.LiftLaws.{Maps}
pub use Rattle.embed_defs.specs.Placed.{Placement, Placements, part, ArePlaced, IsPlaced, digits_below, lift_digits}
pub use Rattle.fabric_core.specs.declared.fabric.Fabric.{Ghosts}
pub use Rattle.packet_defs.specs.declared.packet.Packet.{Packet}
pub use Rattle.policy_core.proofs.NumberedAddresses.{address-down, address-up, address-undone, number-undone}
pub use Rattle.policy_core.specs.Numbering.{address_at}
pub use Rattle.policy_text_defs.specs.declared.edition.Edition.{Edition}
pub use Rattle.policy_defs.specs.Accepted.{IsAccepted, IsNodeReady, AreMarksInRange, IsClassReady}
pub use Rattle.policy_defs.specs.BuiltIn.{AreBuiltIn}
pub use Rattle.policy_defs.specs.Policy.{Node, node_at, Policy, Marks, no_marks, node_below, Class}
pub use Rattle.rank_defs.proofs.Table.{same_name-is, builtins-checked, same_name-refl}
pub use Rattle.rank_defs.specs.Builtins.{fifo, same_name, stfq, builtin, lstf, rr, strict, counter, named}
pub use Rattle.rank_defs.specs.Programs.{Program, max_rank, span}
pub use Rattle.rank_defs.specs.Shapes.{IsEnvInRange, IsStateInRange, AreWithin, max_len}
pub use Rattle.rank_defs.specs.States.{State}
pub use Rattle.rank_defs.specs.Steps.{push_rank, after_push, clamped, pop_step, push_step, after_pop, run}
pub use Rattle.rank_defs.specs.Values.{num, apply, quotient}
pub use Rattle.rank_defs.specs.declared.environment.Env.{Env}
pub use Rattle.rank_defs.specs.declared.environment.Who.{Who}
pub use Rattle.rank_defs.specs.declared.environment.Who.TheVariants.{Child, Flow}
pub use Rattle.replay_app.proofs.AnswerLaws.{is_stop, no_stop, told-later}
pub use Rattle.replay_app.proofs.FollowLaws.{accepted_told, refused_told, each-follows, exactly_told, known-status, one-follows, some-follows, unchanged}
pub use Rattle.replay_app.proofs.Inputs.{policies_are_one, rooms_are_one, targets_are_one, placement}
pub use Rattle.replay_app.proofs.OneAnswer.{one-answer, same-answer}
pub use Rattle.replay_app.specs.Answer.{Answer, IsGiven, refusal, IsTold}
pub use Rattle.replay_app.specs.Behind.{HoldsLeft, UsesNoFabric}
pub use Rattle.replay_app.specs.Output.{IsOutput, forward_run, laid_run, watchers}
pub use Rattle.replay_app.specs.Statuses.{IsStop, status_code, IsOneOf, forward_status, kind_status}
pub use Rattle.replay_app.specs.Words.{no_form, Form, Pacing, check, direct, form_up_to, forward, link, plan, replay, script, soak, via}
pub use Rattle.sched_defs.proofs.Members.{all_mapped, IsIn, all_joined, contains_of, in_of}
pub use Rattle.sched_defs.proofs.States.{AreStatesInRange, after_pushes-in_range}
pub use Rattle.sched_defs.proofs.Visits.{IsVisitTo, visits_from-are, IsPart, no_marks_in_range, root_stands}
pub use Rattle.sched_defs.specs.Events.{Event, Arrive, CanArrive, CanMake, Depart}
pub use Rattle.sched_defs.specs.SourceState.{start, SourceState, arrival_ranks, arrived, class_of, departed, left_from, left_with, pushed, way_in, way_out}
pub use Rattle.sched_defs.specs.Visits.{Visit, after_pushes, States, after_pops, rank_at, with_state, child_marks, env_for, ranks_pushed, visit, visits_below, visits_from}
pub use Rattle.tree_core.specs.Shape.{topology, topology_step}
pub use Rattle.tree_defs.proofs.Shapes.{same_shape, topology_of-empty, topology_of-same}
pub use Rattle.tree_defs.proofs.TopologyLaws.{after-append, after-is, leads_to, leaf_at}
pub use Rattle.tree_defs.specs.Queue.{Queue, Taking, put, take_least}
pub use Rattle.tree_defs.specs.SourceTree.{SourceTree, empty_tree, pop, empty_trees, of_first, of_inner, of_later, of_leaf, pop_child, push, push_child}
pub use Rattle.tree_defs.specs.Topology.{topology_of, Topology, IsPrefixOf, complete}
pub use Rattle.tree_defs.specs.Tree.{Address, Tree, Trees, inner, leaf, none, more, root_of, IsAddressOf, LeadsToLeaf, subtree, subtree_in, LeadsBelow, child, Popping, SameShape, nodes, HasChild, SameShapes, most_nodes, nodes_below, trees_of}
pub use Rattle.block_replay.specs.Calm.{HaveOwnDigits, IsMapOf, HasOwnDigit, NeverSpills, UsesSteadyAt}
pub use Rattle.block_replay.specs.CalmLaws.{DifferBehind, IsLaidCalmly, UsesSteady, CalmAtEachNode, CalmPoliciesNeverSpill, CalmRunsNeverSpill, NoneSpills, SpillsNowhere}
pub use Rattle.block_replay.specs.CalmPolicies.{is_spread, all_differ, digits_behind, has_steady_nodes, is_steady, steady, are_spread, have_steady_nodes, is_calm, node_using}
pub use Rattle.block_replay.specs.Output.{IsCalmTold, IsBlockOutput, calm_answer}
pub use Rattle.block_replay.specs.Words.{end_status, shared, calm}
