-- The nodes on the path to a leaf, level by level.
use Rattle.sched_core.proofs.Prelude.{arith, ◌≡◌, ap, ◌∙◌, sym, ℕ, List, length, subst, Some, ◌<◌, [], ◌∷◌, ◌+◌, ◌≤◌, get_or, suc, zero, ◌++◌, take, drop, drop_more, take_more, number-undone, IsNumber, number_at, Node, Tree, LeadsToLeaf, subtree, part_at}
use Rattle.sched_core.proofs.TreeParts.{IsNext, next, root-part, part-down, part-known}

-- a part of the tree is at the level, and the rest of the digits leads on to a leaf
record IsPassed (t : Tree Node) (digits : List ℕ) (level : ℕ) : Type 0 where
  part : Tree Node
  there : subtree t (take level digits) ≡ Some part
  leads : LeadsToLeaf part (drop level digits)

passed : (t : Tree Node) (digits : List ℕ) (level : ℕ) → LeadsToLeaf t digits → level ≤ length digits → IsPassed t digits level
passed t digits zero l h = record { part = t; there = root-part t; leads = l }
passed t [] (suc level) l h = absurd (omega arith)
passed t (i ∷ digits) (suc level) l h =
    let n : IsNext t i digits = next t i digits l in
    let r : IsPassed n.child digits level = passed n.child digits level n.leads (omega arith) in
    record { part = r.part; there = part-down t (i ∷ []) (take level digits) n.child n.there ∙ r.there; leads = r.leads }

module _ (tree : Tree Node) (digits : List ℕ) (l : LeadsToLeaf tree digits) where
  module _ (level : ℕ) (h : level ≤ length digits) where
    known : part_at tree (take level digits) ≡ (passed tree digits level l h).part
    known = part-known tree (take level digits) _ (passed tree digits level l h).there

    pub there-at : subtree tree (take level digits) ≡ Some (part_at tree (take level digits))
    there-at = (passed tree digits level l h).there ∙ ap Some (sym known)

    pub leads-at : LeadsToLeaf (part_at tree (take level digits)) (drop level digits)
    leads-at = subst (λ (t : Tree Node). LeadsToLeaf t (drop level digits)) (sym known) (passed tree digits level l h).leads

    pub number-of : IsNumber tree (take level digits) (number_at tree (take level digits))
    number-of = number-undone tree (take level digits) (part_at tree (take level digits)) there-at

  -- ---- from a level above the leaf to the next one
  module _ (level : ℕ) (h : level < length digits) where
    pub ahead-next : drop level digits ≡ get_or digits level 0 ∷ drop (level + 1) digits
    ahead-next = drop_more digits level 0 h

    pub place-next : take (level + 1) digits ≡ take level digits ++ get_or digits level 0 ∷ []
    place-next = take_more digits level 0 h

    leads-on : LeadsToLeaf (part_at tree (take level digits)) (get_or digits level 0 ∷ drop (level + 1) digits)
    leads-on = subst (LeadsToLeaf (part_at tree (take level digits))) ahead-next (leads-at level (omega (arith, h)))

    pub next-at : IsNext (part_at tree (take level digits)) (get_or digits level 0) (drop (level + 1) digits)
    next-at = next (part_at tree (take level digits)) (get_or digits level 0) (drop (level + 1) digits) leads-on

    pub child-at : subtree tree (take level digits ++ get_or digits level 0 ∷ []) ≡ Some next-at.child
    child-at = part-down tree (take level digits) (get_or digits level 0 ∷ []) (part_at tree (take level digits)) (there-at level (omega (arith, h))) ∙ next-at.there

    pub part-next : part_at tree (take (level + 1) digits) ≡ next-at.child
    part-next = part-known tree (take (level + 1) digits) _ (ap (subtree tree) place-next ∙ child-at)
