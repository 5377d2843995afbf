use Rattle.size_core.proofs.Prelude.{◌≡◌, ◌∙◌, sym, ap, subst, Some, Address, address_in, Keys, addresses, add}
use Rattle.size_core.proofs.PlaceLaws.{insert-adds, insert-grows}
use Rattle.size_core.proofs.places.index_of.Goals as goal

pub returns-clause-added : goal.returns-clause-added
returns-clause-added c =
    ap (λ (z : Keys). addresses z) c.in_ok-index.ensures.keys ∙ insert-adds c.args.known.now.keys c.in_ok-to_vec.field-0
    ∙ ap (λ (z : Address). add (addresses c.args.known.now.keys) z) (c.in_ok-to_vec.ensures.items_if_clones_equal (λ x y same. same))

pub returns-clause-grows : goal.returns-clause-grows
returns-clause-grows c = λ i b e. subst (λ (z : Keys). address_in z i ≡ Some b) (sym c.in_ok-index.ensures.keys) (insert-grows c.args.known.now.keys c.in_ok-to_vec.field-0 i b e)
