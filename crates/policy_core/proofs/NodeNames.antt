-- The name at a number is the name at its address.
use Rattle.policy_core.proofs.Prelude.{List, ◌≡◌, ℕ, ap, sym, subst, [], ◌∙◌, Some, None, Option, option_map_or, IsSomeAnd, number_at, Node, node_at, Policy, name_at, Address, IsAddressOf, address_at}
use Rattle.policy_core.proofs.NumberedAddresses.{IsNumber, number-undone}

named : (found : Option Node) (name : List ℕ) → IsSomeAnd found (λ n. name ≡ n.name) → name ≡ option_map_or (λ (n : Node). n.name) found []
named None name h = absurd h
named (Some n) name h = h

pub name-found : (policy : Policy) (a : Address) (node : ℕ) (name : List ℕ) → IsAddressOf policy.tree a → number_at policy.tree a ≡ node
    → IsSomeAnd (node_at policy.tree (address_at policy.tree node)) (λ n. name ≡ n.name) → name ≡ name_at policy a
name-found policy a node name there is h =
    let undone : IsNumber policy.tree a (number_at policy.tree a) = number-undone policy.tree a there.0 there.1 in
    let here : address_at policy.tree node ≡ a = ap (address_at policy.tree) (sym is) ∙ undone.address in
    named (node_at policy.tree a) name (subst (λ (b : Address). IsSomeAnd (node_at policy.tree b) (λ n. name ≡ n.name)) here h)
