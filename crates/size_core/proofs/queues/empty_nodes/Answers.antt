use Rattle.size_core.proofs.Prelude.{◌≡◌, ◌∙◌, ℕ, length, sym, ap, List, subst, ◌+◌, IfSome, Some, [], ◌∷◌, length-append, Address, address_in, AreUnused, stores_at, unused, Has}
use Rattle.size_core.specs.declared.node.Node.{Node}
use Rattle.size_core.proofs.Lists.{unused-push}
use Rattle.size_core.proofs.queues.empty_nodes.Goals as goal

pub loop-index-preserved : goal.loop-index-preserved
loop-index-preserved c =
    let known = c.args.known.now.keys in
    let nodes = c.loop-index.nodes.items in
    let arities = c.args.target.now.arities in
    let made : c.in_ok-made.made ≡ stores_at arities c.args.stores c.depth_of.result = c.in_ok-made.ensures.stores in
    record {
      count = ap (λ (z : List Node). length z) c.in_ok-push.ensures.items ∙ length-append nodes (c.new.result ∷ []) ∙ ap (λ (n : ℕ). n + 1) c.loop-index.invariant.count;
      unused = subst (λ (z : List Node). AreUnused arities c.args.stores known z) (sym c.in_ok-push.ensures.items)
          (unused-push arities c.args.stores known nodes c.new.result c.loop-index.invariant.unused
          (λ b e.
          let at : address_in known c.loop-index.index ≡ Some b = ap (address_in known) (sym c.loop-index.invariant.count) ∙ e in
          let depth : c.depth_of.result ≡ length b = subst (λ o. IfSome o (λ (b : Address). c.depth_of.result ≡ length b)) at c.depth_of.ensures in
          subst (λ s. Has c.new.result (unused s)) (made ∙ ap (λ (n : ℕ). stores_at arities c.args.stores n) depth) c.new.ensures));
    }
