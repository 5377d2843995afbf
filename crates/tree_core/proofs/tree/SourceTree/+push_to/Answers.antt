use Rattle.tree_core.proofs.Prelude.{arith, ◌≡◌, ap, ◌∙◌, get_or, length, ◌<◌, ◌^◌, rules, put, push, TreeContents}
use Rattle.tree_core.proofs.PushSteps.{leads_here}
use Rattle.tree_core.proofs.AddressSteps.{digit_within, needed_next, sound_next, pushed_next, used_next}
use Rattle.tree_core.proofs.tree.SourceTree.+push_to.Goals as goal

pub index_mut-requires : goal.index_mut-requires
index_mut-requires t c = let h : get_or c.args.address.now 0 0 < length c.self.inside.children.items = digit_within c.self.inside.queue c.self.inside.children.items c.args.self.now c.self.view_is c.args.address.now (omega arith) c.requires.leaf in omega (arith, h)

pub push_to-requires : goal.push_to-requires
push_to-requires t c =
    (search rules, needed_next c.self.inside.queue c.self.inside.children.items c.args.self.now c.self.view_is c.index_mut.result.now c.args.address.now c.args.ranks.now (omega arith) c.requires.ranks c.index_mut.ensures.value c.requires.leaf c.requires.room c.requires.few c.self.invariant)

pub invariant_of-self-in-len1-up-address : goal.invariant_of-self-in-len1-up-address
invariant_of-self-in-len1-up-address t c =
    let entries : c.push-in-len1-up-address.new.self.entries ≡ put c.self.inside.queue.entries (get_or c.args.ranks.now 0 0) (get_or c.args.address.now 0 0) = cc in
    let within : get_or c.args.address.now 0 0 < length c.self.inside.children.items = digit_within c.self.inside.queue c.self.inside.children.items c.args.self.now c.self.view_is c.args.address.now (omega arith) c.requires.leaf in
    let narrow : get_or c.args.address.now 0 0 < 2 ^ 32 = search rules in
    sound_next c.self.inside.queue c.push-in-len1-up-address.new.self c.self.inside.children.items c.index_mut.result.now c.push_to.new.self c.args.address.now c.args.ranks.now c.args.value
    (leads_here c.self.inside.queue c.self.inside.children.items c.args.self.now c.self.view_is c.args.address.now c.requires.leaf)
    (record { nonempty = omega arith; child = c.index_mut.ensures.value; entries = entries; tree = c.push_to.ensures.tree })
    c.push-in-len1-up-address.ensures.pushes c.push_to.ensures.pushes within narrow c.self.invariant

pub returns-in-len1-up-address-clause-tree : goal.returns-in-len1-up-address-clause-tree
returns-in-len1-up-address-clause-tree t c =
    let entries : c.push-in-len1-up-address.new.self.entries ≡ put c.self.inside.queue.entries (get_or c.args.ranks.now 0 0) (get_or c.args.address.now 0 0) = cc in
    pushed_next c.self.inside.queue c.push-in-len1-up-address.new.self c.self.inside.children.items c.index_mut.result.now c.push_to.new.self c.args.address.now c.args.ranks.now c.args.value
    (leads_here c.self.inside.queue c.self.inside.children.items c.args.self.now c.self.view_is c.args.address.now c.requires.leaf)
    (record { nonempty = omega arith; child = c.index_mut.ensures.value; entries = entries; tree = c.push_to.ensures.tree })
    ∙ ap (λ (g : TreeContents). push g.tree c.args.address.now c.args.ranks.now c.args.value) c.self.view_is

pub returns-in-len1-up-address-clause-spare : goal.returns-in-len1-up-address-clause-spare
returns-in-len1-up-address-clause-spare t c =
    used_next c.self.inside.queue c.self.inside.children.items c.args.self.now c.self.view_is c.push-in-len1-up-address.new.self c.index_mut.result.now c.push_to.new.self c.args.address.now
    c.requires.leaf c.push-in-len1-up-address.ensures.spare (omega arith) c.index_mut.ensures.value c.push_to.ensures.spare
