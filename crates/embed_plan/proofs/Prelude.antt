-- The names that the proofs of this crate take from outside, passed on from one place. Declares nothing.
pub use Rattle.std.proofs.Common.{◌++◌, ◌∙◌, ◌≡◌, List, ap, sym, ℕ, take, length, refl, [], arith, map, ◌∷◌, append_assoc, false, get_or, inl, inr, subst, true, ◌-◌, Bool, Bor, None, Option, Some, decimal, suc, take_all, zero, ◌+◌, ◌<◌}
pub use Rattle.std.specs.List.{concat}
pub use Rattle.embed_defs.proofs.EmbeddingLaws.{topologies_have_one_need-holds, canonical_placements_are_one-holds}
pub use Rattle.embed_defs.specs.Embedding.{HasEmbedding}
pub use Rattle.embed_defs.specs.Images.{image_map, image_at}
pub use Rattle.embed_defs.specs.Levels.{levels, down_from}
pub use Rattle.policy_core.specs.Numbering.{address_at, address_below, sibling_of}
pub use Rattle.policy_defs.specs.Policy.{Policy, Node, name_at, node_at}
pub use Rattle.tree_defs.specs.Topology.{complete, topology_of, Topology}
pub use Rattle.tree_defs.specs.Tree.{Address, Tree, Trees, inner, leaf, more, nodes, nodes_below, none}
pub use Rattle.embed_plan.specs.Plan.{least_line, map_lines, no_room, placed, IsPlan, address_text, line_for, map_line}
pub use Rattle.embed_plan.specs.Preorder.{addresses, addresses_below}
