use Rattle.tree_core.proofs.Prelude.{arith, ap, ◌∙◌, get_or, ◌≤◌, rules, TreeContents}
use Rattle.tree_core.proofs.ReserveSteps.{goes_within, goes_on, same_tree, still_sound, has_room, OnOk-then}
use Rattle.tree_core.proofs.PlaceLaws.{no_fewer_at_node, no_fewer_below}
use Rattle.tree_core.proofs.tree.SourceTree.+reserve.Goals as goal

pub index_mut-requires : goal.index_mut-requires
index_mut-requires t c =
    omega (arith, goes_within c.self.inside.queue c.self.inside.children.items c.args.self.now c.self.view_is c.args.digits.now (omega arith) c.requires.leaf)

pub reserve-requires-in-len1-up : goal.reserve-requires-in-len1-up
reserve-requires-in-len1-up t c =
    (search rules, goes_on c.self.inside.queue c.self.inside.children.items c.args.self.now c.self.view_is c.args.digits.now (omega arith) c.requires.leaf c.index_mut.result.now c.index_mut.ensures.value)

pub invariant_of-self-in-len1-up : goal.invariant_of-self-in-len1-up
invariant_of-self-in-len1-up t c =
    still_sound c.self.inside.queue c.self.inside.children.items c.args.self.now c.self.view_is c.args.digits.now (omega arith) c.requires.leaf c.reserve.new.self c.index_mut.result.now c.reserve-in-len1-up.new.self
    c.index_mut.ensures.value c.reserve.ensures.entries c.reserve-in-len1-up.ensures.tree c.reserve.ensures.pushes c.reserve-in-len1-up.ensures.pushes c.self.invariant

pub returns-in-len1-up-clause-tree : goal.returns-in-len1-up-clause-tree
returns-in-len1-up-clause-tree t c =
    same_tree c.self.inside.queue c.self.inside.children.items c.args.self.now c.self.view_is c.args.digits.now (omega arith) c.requires.leaf c.reserve.new.self c.index_mut.result.now c.reserve-in-len1-up.new.self
    c.index_mut.ensures.value c.reserve.ensures.entries c.reserve-in-len1-up.ensures.tree ∙ ap (λ (g : TreeContents). g.tree) c.self.view_is

pub returns-in-len1-up-clause-room : goal.returns-in-len1-up-clause-room
returns-in-len1-up-clause-room t c =
    let free : 1 ≤ c.reserve.new.self.spare = c.in_ok-reserve.ensures.room in
    OnOk-then c.reserve-in-len1-up.result _ _ (has_room c.self.inside.queue c.self.inside.children.items c.args.self.now c.self.view_is c.args.digits.now (omega arith) c.requires.leaf c.reserve.new.self c.index_mut.result.now c.reserve-in-len1-up.new.self
    c.index_mut.ensures.value c.reserve.ensures.entries c.reserve-in-len1-up.ensures.tree (omega arith)) c.reserve-in-len1-up.ensures.room

pub returns-in_err-reserve-clause-kept : goal.returns-in_err-reserve-clause-kept
returns-in_err-reserve-clause-kept t c = no_fewer_at_node c.self.inside.queue c.reserve.new.self c.self.inside.children.items c.args.self.now c.self.view_is c.reserve.ensures.kept

pub returns-in-len1-up-clause-kept : goal.returns-in-len1-up-clause-kept
returns-in-len1-up-clause-kept t c =
    no_fewer_below c.self.inside.queue c.reserve.new.self c.self.inside.children.items c.args.self.now c.self.view_is c.reserve.ensures.kept (get_or c.args.digits.now 0 0) c.index_mut.result.now c.reserve-in-len1-up.new.self
    c.index_mut.ensures.value c.reserve-in-len1-up.ensures.kept
