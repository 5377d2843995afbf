use Rattle.embed_plan.proofs.Prelude.{◌++◌, ◌∙◌, ◌≡◌, List, ap, sym, ℕ, take, refl, arith, map, append_assoc, take_all, concat, address_at, Address, line_for, map_line, addresses}
use Rattle.embed_plan.proofs.PreorderAddresses.{one_more, count}
use Rattle.embed_plan.proofs.PlanLines.{name-told, image-told}
use Rattle.embed_plan.proofs.planning.put_maps.Goals as goal

pub loop-node-preserved : goal.loop-node-preserved
loop-node-preserved c =
    let policy = c.args.policy.now.policy in
    let images = c.args.map.now in
    let n = c.loop-node.node in
    let a = address_at policy.tree n in
    let old = c.args.into.now.items in
    let line = line_for policy images in
    let source : c.address-source.result.now ≡ a = c.address-source.ensures.address in
    let name = name-told policy a c.name.result.now c.name.ensures.name in
    let image = image-told images a c.image.result c.unwrap_or-image.result _ c.unwrap_or-image.ensures refl (rw source at c.image.ensures.image) in
    let told : map_line c.name.result.now c.address-source.result.now c.unwrap_or-image.result.now ≡ line a = λ i. map_line (name i) (source i) (image i) in
    record {
      text = c.in_ok-put_map.ensures
          ∙ (λ i. (c.loop-node.invariant.text i) ++ told i)
          ∙ append_assoc old (concat (map line (take n (addresses policy.tree)))) (line a)
          ∙ ap (λ (s : List ℕ). old ++ s) (sym (one_more policy.tree line n (omega (arith, c.loop-node-test.true, c.count-node-end.ensures.count))));
    }

pub returns : goal.returns
returns c =
    let policy = c.args.policy.now.policy in
    c.loop-node.invariant.text
    ∙ ap (λ (all : List Address). c.args.into.now.items ++ concat (map (line_for policy c.args.map.now) all))
    (take_all c.loop-node.node (addresses policy.tree) (omega (arith, count policy.tree, c.loop-node-test.false, c.count-node-end.ensures.count)))
