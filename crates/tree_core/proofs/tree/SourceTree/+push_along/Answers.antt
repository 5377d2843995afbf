use Rattle.tree_core.proofs.Prelude.{arith, ◌≡◌, ap, ◌∙◌, get_or, length, ◌<◌, ◌^◌, rules, put, push, digits_of, ranks_of, TreeContents}
use Rattle.tree_core.proofs.PushSteps.{leads_here, index_within, pushed_here, sound_here, sound_leaf, child_needs}
use Rattle.tree_core.proofs.PlaceLaws.{used_here}
use Rattle.tree_core.proofs.tree.SourceTree.+push_along.Goals as goal

pub invariant_of-self : goal.invariant_of-self
invariant_of-self t c = sound_leaf c.self.inside.queue c.push.new.self c.self.inside.children.items c.args.steps.now (omega arith) (leads_here c.self.inside.queue c.self.inside.children.items c.args.self.now c.self.view_is (digits_of c.args.steps.now) c.requires.leaf)

pub index_mut-requires : goal.index_mut-requires
index_mut-requires t c = let h : (get_or c.args.steps.now 0 (0, 0)).0 < length c.self.inside.children.items = index_within c.self.inside.queue c.self.inside.children.items c.args.self.now c.self.view_is c.args.steps.now (omega arith) c.requires.leaf in omega (arith, h)

pub push_along-requires : goal.push_along-requires
push_along-requires t c =
    (search rules, child_needs c.self.inside.queue c.self.inside.children.items c.args.self.now c.self.view_is c.index_mut.result.now c.args.steps.now (omega arith) c.index_mut.ensures.value c.requires.leaf c.requires.room c.requires.few c.self.invariant)

pub invariant_of-self-in-len1-up : goal.invariant_of-self-in-len1-up
invariant_of-self-in-len1-up t c =
    let entries : c.push-in-len1-up.new.self.entries ≡ put c.self.inside.queue.entries (get_or c.args.steps.now 0 (0, 0)).1 (get_or c.args.steps.now 0 (0, 0)).0 = cc in
    let within : (get_or c.args.steps.now 0 (0, 0)).0 < length c.self.inside.children.items = index_within c.self.inside.queue c.self.inside.children.items c.args.self.now c.self.view_is c.args.steps.now (omega arith) c.requires.leaf in
    let narrow : (get_or c.args.steps.now 0 (0, 0)).0 < 2 ^ 32 = search rules in
    sound_here c.self.inside.queue c.push-in-len1-up.new.self c.self.inside.children.items c.index_mut.result.now c.push_along.new.self c.args.steps.now c.args.last c.args.value
    (leads_here c.self.inside.queue c.self.inside.children.items c.args.self.now c.self.view_is (digits_of c.args.steps.now) c.requires.leaf)
    (record { nonempty = omega arith; child = c.index_mut.ensures.value; entries = entries; tree = c.push_along.ensures.tree })
    c.push-in-len1-up.ensures.pushes c.push_along.ensures.pushes within narrow c.self.invariant

pub returns-in-len1-up-clause-tree : goal.returns-in-len1-up-clause-tree
returns-in-len1-up-clause-tree t c =
    let entries : c.push-in-len1-up.new.self.entries ≡ put c.self.inside.queue.entries (get_or c.args.steps.now 0 (0, 0)).1 (get_or c.args.steps.now 0 (0, 0)).0 = cc in
    pushed_here c.self.inside.queue c.push-in-len1-up.new.self c.self.inside.children.items c.index_mut.result.now c.push_along.new.self c.args.steps.now c.args.last c.args.value
    (leads_here c.self.inside.queue c.self.inside.children.items c.args.self.now c.self.view_is (digits_of c.args.steps.now) c.requires.leaf)
    (record { nonempty = omega arith; child = c.index_mut.ensures.value; entries = entries; tree = c.push_along.ensures.tree })
    ∙ ap (λ (g : TreeContents). push g.tree (digits_of c.args.steps.now) (ranks_of c.args.steps.now c.args.last) c.args.value) c.self.view_is

pub returns-in-len1-up-clause-spare : goal.returns-in-len1-up-clause-spare
returns-in-len1-up-clause-spare t c =
    used_here c.self.inside.queue c.push-in-len1-up.new.self c.self.inside.children.items c.args.self.now c.self.view_is c.args.steps.now c.requires.leaf c.push-in-len1-up.ensures.spare
    c.index_mut.result.now c.push_along.new.self (omega arith) c.index_mut.ensures.value c.push_along.ensures.spare
