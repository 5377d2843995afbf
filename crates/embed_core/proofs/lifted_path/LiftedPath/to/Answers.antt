use Rattle.embed_core.proofs.Prelude.{◌≡◌, length, arith, sym, ◌∙◌, ap, List, ◌+◌, ℕ, with_items_is, length-range_with_len, range_with_len, lift_ranks}
use Rattle.std.specs.Vec.{with_items}
use Rattle.embed_core.proofs.lifted_path.LiftedPath.to.Goals as goal

pub lift-requires-clause-whole : goal.lift-requires-clause-whole
lift-requires-clause-whole c = length-range_with_len 0 (length c.args.address.now + 1)

pub returns : goal.returns
returns c =
    let m : length c.lift.new.digits ≡ length c.in_ok-image.image.items = c.lift.auto.digits ∙ ap length c.deref_mut.ensures.value in
    let m' : length c.lift.new.ranks ≡ length c.in_ok-steps.steps.items = c.lift.auto.ranks ∙ ap length c.deref_mut-2.ensures.value in
    let n : length c.lift.new.digits ≡ c.in_ok-image.image.len = omega (arith, m, c.in_ok-image.image.ok.0) in
    let n' : length c.lift.new.ranks ≡ c.in_ok-steps.steps.len = omega (arith, m', c.in_ok-steps.steps.ok.0) in
    let more : length c.lift.new.ranks ≡ length c.lift.new.digits + 1 = omega (arith, n, n', c.in_ok-image.ensures.len, c.in_ok-steps.ensures.len) in
    let image : (with_items c.in_ok-image.image c.lift.new.digits).items ≡ c.lift.new.digits = with_items_is c.in_ok-image.image c.lift.new.digits n in
    let steps : (with_items c.in_ok-steps.steps c.lift.new.ranks).items ≡ lift_ranks c.args.map.now c.args.address.now (range_with_len 0 (length c.args.address.now + 1))
    = with_items_is c.in_ok-steps.steps c.lift.new.ranks n' ∙ c.lift.ensures.ranks in
    record {
      lifted = record {
        image = image ∙ c.lift.ensures.digits;
        long = ap length (with_items_is c.in_ok-steps.steps c.lift.new.ranks n') ∙ more ∙ ap (λ (z : List ℕ). length z + 1) (sym image);
        steps = steps;
        address_is = c.in_ok-to_vec.ensures.items_if_clones_equal (λ x y p. p);
        depths = c.in_ok-depths.ensures.depths;
      };
    }
