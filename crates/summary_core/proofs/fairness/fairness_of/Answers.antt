use Rattle.summary_core.proofs.Prelude.{ℕ, length, ◌≡◌, arith, List, ap, ◌∙◌, sym, ◌∷◌, ◌+◌, drop, shares, squares, total, Group}
use Rattle.std.proofs.lemmas.List.{at_drop_more}
use Rattle.summary_core.proofs.ShareLemmas.{count-first, sum-first, squares-first}
use Rattle.summary_core.proofs.fairness.fairness_of.Goals as goal

pub loop-leaf-preserved : goal.loop-leaf-preserved
loop-leaf-preserved c =
    let gs = c.args.leaves.now in
    let i = c.loop-leaf.leaf-index in
    let g = c.leaf-item.result in
    let rest : List Group = drop (i + 1) gs in
    let next : shares (drop i gs) ≡ shares (g ∷ rest) = at_drop_more shares gs i g c.loop-leaf-test.true ∙ ap (λ (x : Group). shares (x ∷ rest)) (sym c.leaf-item.is) in
    let more = c.add_leaf.ensures in
    record {
      count = omega (arith, c.loop-leaf.invariant.count, more.count c.if-not-add_leaf.false, ap (λ (xs : List ℕ). length xs) next, count-first g rest);
      sum = omega (arith, c.loop-leaf.invariant.sum, more.sum c.if-not-add_leaf.false, ap (λ (xs : List ℕ). total xs) next, sum-first g rest);
      squares = omega (arith, c.loop-leaf.invariant.squares, more.squares c.if-not-add_leaf.false, ap (λ (xs : List ℕ). squares xs) next, squares-first g rest);
    }
