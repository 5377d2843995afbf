use Rattle.library_tests.proofs.Prelude.{arith, ◌≡◌, ◌∙◌, sym, ap, length, leads-alike, depth-alike, topology}
use Rattle.std.proofs.lemmas.List.{with_items_is}
use Rattle.tree_core.specs.Paths.{digits}
use Rattle.library_tests.proofs.embed.goes_to.Goals as goal

pub lift-requires-clause-leaf : goal.lift-requires-clause-leaf
lift-requires-clause-leaf c = leads-alike (topology c.args.topo.now) c.args.map.now (digits c.args.path.now) c.requires.shape c.requires.leaf

pub pick-requires-clause-leaf : goal.pick-requires-clause-leaf
pick-requires-clause-leaf c =
    let m : length c.lift.new.digits ≡ length c.in_ok-image.image.items = c.lift.auto.digits ∙ ap length c.deref_mut.ensures.value in
    let n : length c.lift.new.digits ≡ c.in_ok-image.image.len = omega (arith, m, c.in_ok-image.image.ok.0) in
    let e : c.deref.result.now ≡ c.lift.new.digits = c.deref.ensures.value ∙ with_items_is c.in_ok-image.image c.lift.new.digits n in
    (digits c.args.path.now, record { leaf = leads-alike (topology c.args.topo.now) c.args.map.now (digits c.args.path.now) c.requires.shape c.requires.leaf; image_is = sym (e ∙ c.lift.ensures.digits) })

pub pick-requires-clause-room : goal.pick-requires-clause-room
pick-requires-clause-room c = omega (arith, depth-alike (topology c.args.topo.now) c.args.map.now c.requires.shape, c.requires.room)
