use Rattle.mapcheck_core.proofs.Prelude.{subst, both_ways, topology, nodes, IsFirstPair, prefix}
use Rattle.mapcheck_core.proofs.MapLaws.{outside_broken, none_outside, leaf_broken, leaves_kept, root_kept, root_broken, pair_found, all_kept, embeds}
use Rattle.mapcheck_core.proofs.check.first_fault.Goals as goal

pub returns-in-Some : goal.returns-in-Some
returns-in-Some c = outside_broken (topology c.args.topo.now) (topology c.args.middle.now) c.args.given.now c.least_line.result c.in-Some.line c.least_line.ensures c.in-Some.is

pub returns-then-not-is_empty : goal.returns-then-not-is_empty
returns-then-not-is_empty c =
    let s = topology c.args.topo.now in
    let t = topology c.args.middle.now in
    let g = c.args.given.now in
    root_broken s t g c.as_slice.result.now c.index-as_slice-0.result c.as_slice-then-not-is_empty.result.now (none_outside s t g c.least_line.result c.least_line.ensures c.in_default.not-Some)
    c.requires.given.images c.as_slice.ensures c.index-as_slice-0.is (λ e. both_ways c.is_empty.result c.if-not-is_empty.true (c.is_empty.ensures.1 e)) c.as_slice-then-not-is_empty.ensures

pub returns-in-Some-least_line : goal.returns-in-Some-least_line
returns-in-Some-least_line c =
    let s = topology c.args.topo.now in
    let t = topology c.args.middle.now in
    let g = c.args.given.now in
    leaf_broken s t g c.least_line-2.result c.in-Some-least_line.line c.requires.topo.branched (none_outside s t g c.least_line.result c.least_line.ensures c.in_default.not-Some)
    (root_kept s g c.as_slice.result.now c.index-as_slice-0.result c.requires.given.images c.as_slice.ensures c.index-as_slice-0.is (c.is_empty.ensures.0 c.if-not-is_empty.false)) c.least_line-2.ensures c.in-Some-least_line.is

pub returns-in-Some-first_pair : goal.returns-in-Some-first_pair
returns-in-Some-first_pair c =
    let s = topology c.args.topo.now in
    let t = topology c.args.middle.now in
    let g = c.args.given.now in
    prefix _ _ (none_outside s t g c.least_line.result c.least_line.ensures c.in_default.not-Some)
    (root_kept s g c.as_slice.result.now c.index-as_slice-0.result c.requires.given.images c.as_slice.ensures c.index-as_slice-0.is (c.is_empty.ensures.0 c.if-not-is_empty.false))
    (leaves_kept s t g c.least_line-2.result c.requires.topo.branched c.least_line-2.ensures c.in_default-least_line.not-Some)
    (pair_found s g c.in-Some-first_pair.first c.in-Some-first_pair.second (subst (IsFirstPair s g (nodes s)) c.in-Some-first_pair.is c.first_pair.ensures))

pub returns-in-None : goal.returns-in-None
returns-in-None c =
    let s = topology c.args.topo.now in
    let t = topology c.args.middle.now in
    let g = c.args.given.now in
    embeds s t g (none_outside s t g c.least_line.result c.least_line.ensures c.in_default.not-Some)
    (root_kept s g c.as_slice.result.now c.index-as_slice-0.result c.requires.given.images c.as_slice.ensures c.index-as_slice-0.is (c.is_empty.ensures.0 c.if-not-is_empty.false))
    (leaves_kept s t g c.least_line-2.result c.requires.topo.branched c.least_line-2.ensures c.in_default-least_line.not-Some)
    (all_kept s g (subst (IsFirstPair s g (nodes s)) c.in-None.is c.first_pair.ensures))
