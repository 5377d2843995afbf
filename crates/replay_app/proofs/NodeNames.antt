-- The names of a policy's nodes, by their numbers and in preorder.
use Rattle.replay_app.proofs.Prelude.{sym, ℕ, List, ◌≡◌, ap, ◌∙◌, [], ◌∷◌, arith, length, ◌++◌, map, ◌<◌, ◌≤◌, take, get_or, take_all, ◌+◌, get_or-map, length-map, map-append, take_more, count, listed, addresses, Policy, name_at, nodes, most_nodes, names_of}
use Rattle.policy_core.specs.Numbering.{address_at, HasAt}
use Rattle.embed_plan.proofs.PlanLines.{name-told}

module _ (policy : Policy) (n : ℕ) where
  -- the name of the node with number `n`
  listed_name : (name : List ℕ) → n < nodes policy.tree → HasAt policy.tree n (λ d. name ≡ d.name) → name ≡ name_at policy (get_or (addresses policy.tree) n [])
  listed_name name inside is = name-told policy (address_at policy.tree n) name is ∙ ap (name_at policy) (sym (listed policy.tree n inside))

  -- the name is at index `n` of the list
  pub name_in : (name : List ℕ) → n < nodes policy.tree → HasAt policy.tree n (λ d. name ≡ d.name) → name ≡ get_or (names_of policy) n []
  name_in name inside is = listed_name name inside is ∙ sym (get_or-map (name_at policy) (addresses policy.tree) n [] [] (omega (arith, inside, count policy.tree)))

  -- the list with one more name
  pub named_more : (names more : List (List ℕ)) (name : List ℕ) → n < nodes policy.tree → names ≡ map (name_at policy) (take n (addresses policy.tree))
      → HasAt policy.tree n (λ d. name ≡ d.name) → more ≡ names ++ name ∷ [] → more ≡ map (name_at policy) (take (n + 1) (addresses policy.tree))
  named_more names more name inside so_far is pushed =
      pushed
      ∙ (λ i. (so_far i) ++ (listed_name name inside is i) ∷ [])
      ∙ sym (map-append (name_at policy) (take n (addresses policy.tree)) (get_or (addresses policy.tree) n [] ∷ []))
      ∙ ap (map (name_at policy)) (sym (take_more (addresses policy.tree) n [] (omega (arith, inside, count policy.tree))))

  pub named_all : (names : List (List ℕ)) → nodes policy.tree ≤ n → names ≡ map (name_at policy) (take n (addresses policy.tree)) → names ≡ names_of policy
  named_all names over all = all ∙ ap (map (name_at policy)) (take_all n (addresses policy.tree) (omega (arith, over, count policy.tree)))

pub few_names : (policy : Policy) (names : List (List ℕ)) → nodes policy.tree ≤ most_nodes → names ≡ names_of policy → length names ≤ most_nodes
few_names policy names few same = omega (arith, few, ap length same, length-map (addresses policy.tree) (name_at policy), count policy.tree)
