-- The line of a node.
use Rattle.embed_plan.proofs.Prelude.{◌∙◌, ◌≡◌, List, ap, sym, ℕ, [], Bor, None, Option, Some, image_map, image_at, Policy, Node, name_at, node_at, Address, Tree}
use Rattle.std.specs.Prelude.{IsSomeAnd, MatchOption, unwrap_or}
use Rattle.std.specs.Option.{option_map_or}

named : (o : Option Node) (name : List ℕ) → IsSomeAnd o (λ n. name ≡ n.name) → name ≡ option_map_or (λ n. n.name) o []
named None name h = absurd h
named (Some n) name h = h

pub name-told : (policy : Policy) (a : Address) (name : List ℕ) → IsSomeAnd (node_at policy.tree a) (λ n. name ≡ n.name) → name ≡ name_at policy a
name-told policy a name h = named (node_at policy.tree a) name h

-- the image if one is found, otherwise the root's
pub image-told : (images : Tree Address) (a : Address) (found : Option (Bor (List ℕ))) (told none : Bor (List ℕ)) → told ≡ unwrap_or found none → none.now ≡ []
    → MatchOption found (image_at images a ≡ None) (λ e. image_at images a ≡ Some e.now) → told.now ≡ image_map images a
image-told images a None told none is empty h = ap (λ (e : Bor (List ℕ)). e.now) is ∙ empty ∙ ap (λ (o : Option Address). unwrap_or o []) (sym h)
image-told images a (Some e) told none is empty h = ap (λ (d : Bor (List ℕ)). d.now) is ∙ ap (λ (o : Option Address). unwrap_or o []) (sym h)
