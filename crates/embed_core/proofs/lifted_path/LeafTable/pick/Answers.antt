use Rattle.embed_core.proofs.Prelude.{◌≡◌, length, arith, sym, ◌∙◌, ap, List, ℕ, ◌+◌, [], ◌∷◌, ◌++◌, subst, map, take, take_all, map_more, slice_index, image_map, picked_ranks, Address, LeadsToLeaf, IsLeafPath}
use Rattle.embed_core.proofs.DepthSteps.{picked-depths, depths-long, depths-within, leads-short}
use Rattle.embed_core.proofs.lifted_path.LeafTable.pick.Goals as goal

pub loop-step-init : goal.loop-step-init
loop-step-init c =
    let l : IsLeafPath c.args.map.now c.in-Some.path.now = c.requires.paths c.in-Some.ensures.among.0 c.in-Some.path.now c.in-Some.ensures.among.1 in
    record {
      whole = omega (arith, ap length (c.as_slice-depths.ensures.value ∙ l.leads.depths), ap length (c.as_slice-address.ensures.value ∙ l.leads.address_is), depths-long c.args.map.now l.address l.leaf);
      within = rw (c.as_slice-depths.ensures.value, l.leads.depths, c.requires.ranks) (depths-within (length c.args.digits.now) c.args.map.now l.address c.requires.good.deep l.leaf);
      short = omega (arith, ap length (c.as_slice-address.ensures.value ∙ l.leads.address_is), leads-short c.args.map.now l.address l.leaf, c.requires.room);
      digits = c.clear.ensures.digits;
      ranks = c.clear.ensures.ranks;
      room = c.clear.ensures.room;
    }

pub returns-clause-leads : goal.returns-clause-leads
returns-clause-leads c =
    let l : IsLeafPath c.args.map.now c.in-Some.path.now = c.requires.paths c.in-Some.ensures.among.0 c.in-Some.path.now c.in-Some.ensures.among.1 in
    let all : c.last.new.self.digits ≡ c.as_slice-address.result.now = c.last.ensures.digits ∙ c.loop-step.invariant.digits ∙ take_all c.loop-step.step c.as_slice-address.result.now c.loop-step-test.false in
    let digits : c.last.new.self.digits ≡ l.address = all ∙ c.as_slice-address.ensures.value ∙ l.leads.address_is in
    record {
      leaf = subst (LeadsToLeaf c.args.map.now) (sym digits) l.leaf;
      image_is = ap (image_map c.args.map.now) digits ∙ sym l.leads.image ∙ c.in-Some.ensures.image;
    }

pub returns-clause-ranks : goal.returns-clause-ranks
returns-clause-ranks c =
    let l : IsLeafPath c.args.map.now c.in-Some.path.now = c.requires.paths c.in-Some.ensures.among.0 c.in-Some.path.now c.in-Some.ensures.among.1 in
    let all : c.last.new.self.digits ≡ c.as_slice-address.result.now = c.last.ensures.digits ∙ c.loop-step.invariant.digits ∙ take_all c.loop-step.step c.as_slice-address.result.now c.loop-step-test.false in
    let end : length c.as_slice-address.result.now ≡ c.loop-step.step = omega (arith, c.loop-step.auto.step-end, c.loop-step-test.false) in
    c.last.ensures.ranks
    ∙ ap (λ (z : List ℕ). z ++ slice_index c.args.ranks.now (slice_index c.as_slice-depths.result.now (length c.as_slice-address.result.now)) ∷ []) c.loop-step.invariant.ranks
    ∙ ap (λ (n : ℕ). map (slice_index c.args.ranks.now) (take c.loop-step.step c.as_slice-depths.result.now) ++ slice_index c.args.ranks.now (slice_index c.as_slice-depths.result.now n) ∷ []) end
    ∙ sym (map_more (slice_index c.args.ranks.now) c.as_slice-depths.result.now c.loop-step.step 0 (omega (arith, end, c.loop-step.invariant.whole)))
    ∙ ap (map (slice_index c.args.ranks.now)) (take_all (c.loop-step.step + 1) c.as_slice-depths.result.now (omega (arith, end, c.loop-step.invariant.whole)))
    ∙ ap (λ (z : List ℕ). map (slice_index c.args.ranks.now) z) (c.as_slice-depths.ensures.value ∙ l.leads.depths)
    ∙ sym (picked-depths c.args.map.now l.address c.args.ranks.now)
    ∙ ap (λ (z : Address). picked_ranks c.args.map.now z c.args.ranks.now) (sym (all ∙ c.as_slice-address.ensures.value ∙ l.leads.address_is))
