-- Parts of a tree, and the child to which a path leads next.
use Rattle.sched_core.proofs.Prelude.{arith, ◌≡◌, ap, ◌∙◌, sym, ℕ, List, length, subst, Some, ◌<◌, [], refl, ◌∷◌, Option, suc, zero, ◌++◌, take, drop, ◌-◌, take_all, unwrap_or, IsSomeAnd, Packet, Node, node_at, node_below, BelongsTo, Child, Flow, Visit, env_for, visits_from, visit, visits_below, child_marks, Tree, Address, LeadsToLeaf, inner, leaf, subtree, IsAddressOf, Trees, more, none, root_of, subtree_in, LeadsBelow, count_of, part_at, arity, marks_on}
use Rattle.rank_defs.specs.FlowGroups.{grouped}
use Rattle.policy_defs.specs.Policy.{Class}

pub some-is : {X : Type 0} {x y : X} → Some x ≡ Some y → x ≡ y
some-is e = cc

pub some-and : {X : Type 0} (o : Option X) (x : X) (P : X → Type 0) → o ≡ Some x → IsSomeAnd o P → P x
some-and {X} o x P is p = subst (λ (q : Option X). IsSomeAnd q P) is p

pub root-part : {Q : Type 0} (t : Tree Q) → subtree t [] ≡ Some t
root-part (leaf q) = refl
root-part (inner q ts) = refl

mutual
  pub part-down : {Q : Type 0} (t : Tree Q) (a b : Address) (u : Tree Q) → subtree t a ≡ Some u → subtree t (a ++ b) ≡ subtree u b
  part-down (leaf q) [] b u e = ap (λ t. subtree t b) (some-is e)
  part-down (leaf q) (i ∷ a) b u e = cc
  part-down (inner q ts) [] b u e = ap (λ t. subtree t b) (some-is e)
  part-down (inner q ts) (i ∷ a) b u e = part-down_below ts i a b u e

  part-down_below : {Q : Type 0} (ts : Trees Q) (i : ℕ) (a b : Address) (u : Tree Q) → subtree_in ts i a ≡ Some u → subtree_in ts i (a ++ b) ≡ subtree u b
  part-down_below none i a b u e = cc
  part-down_below (more t ts) zero a b u e = part-down t a b u e
  part-down_below (more t ts) (suc i) a b u e = part-down_below ts i a b u e

mutual
  pub node-of_part : (t : Tree Node) (a : Address) (u : Tree Node) → subtree t a ≡ Some u → node_at t a ≡ Some (root_of u)
  node-of_part (leaf q) [] u e = ap (λ (t : Tree Node). Some (root_of t)) (some-is e)
  node-of_part (leaf q) (i ∷ a) u e = cc
  node-of_part (inner q ts) [] u e = ap (λ (t : Tree Node). Some (root_of t)) (some-is e)
  node-of_part (inner q ts) (i ∷ a) u e = node-of_part_below ts i a u e

  node-of_part_below : (ts : Trees Node) (i : ℕ) (a : Address) (u : Tree Node) → subtree_in ts i a ≡ Some u → node_below ts i a ≡ Some (root_of u)
  node-of_part_below none i a u e = cc
  node-of_part_below (more t ts) zero a u e = node-of_part t a u e
  node-of_part_below (more t ts) (suc i) a u e = node-of_part_below ts i a u e

pub part-known : (tree : Tree Node) (a : Address) (u : Tree Node) → subtree tree a ≡ Some u → part_at tree a ≡ u
part-known tree a u e = ap (λ (o : Option (Tree Node)). unwrap_or o tree) e

pub part-is : (tree : Tree Node) (a : Address) → IsAddressOf tree a → subtree tree a ≡ Some (part_at tree a)
part-is tree a p = p.1 ∙ ap Some (sym (part-known tree a p.0 p.1))

-- the digits after the first, as a slice pattern gives them
abbrev pub later : List ℕ → List ℕ
later digits = take (length digits - 1) (drop 1 digits)

pub later-cons : (i : ℕ) (digits : List ℕ) → later (i ∷ digits) ≡ digits
later-cons i digits = take_all (length (i ∷ digits) - 1) digits (omega arith)

-- the child of a node to which a path leads next
pub record IsNext (t : Tree Node) (i : ℕ) (digits : List ℕ) : Type 0 where
  pub child : Tree Node
  pub there : subtree t (i ∷ []) ≡ Some child
  pub leads : LeadsToLeaf child digits
  pub marks : (c : Class) → marks_on t (i ∷ digits) c ≡ (root_of child).marks
  pub within : BelongsTo (arity t) (Child i)
  pub visits : (a : Address) (c : Class) (p : Packet) (moment : ℕ) → visits_from t a (i ∷ digits) c p moment ≡ visit a (root_of t).program (Child i) (env_for p moment (marks_on t (i ∷ digits) c)) ∷ visits_from child (a ++ i ∷ []) digits c p moment

record IsNextBelow (ts : Trees Node) (i : ℕ) (digits : List ℕ) : Type 0 where
  child : Tree Node
  there : subtree_in ts i [] ≡ Some child
  leads : LeadsToLeaf child digits
  marks : child_marks ts i ≡ (root_of child).marks
  within : i < count_of ts
  visits : (a : Address) (c : Class) (p : Packet) (moment : ℕ) → visits_below ts i a digits c p moment ≡ visits_from child a digits c p moment

next_below : (ts : Trees Node) (i : ℕ) (digits : List ℕ) → LeadsBelow ts i digits → IsNextBelow ts i digits
next_below none i digits l = absurd l
next_below (more t ts) zero digits l = record { child = t; there = root-part t; leads = l; marks = refl; within = omega arith; visits = λ a c p moment. refl }
next_below (more t ts) (suc i) digits l =
    let n : IsNextBelow ts i digits = next_below ts i digits l in
    record { child = n.child; there = n.there; leads = n.leads; marks = n.marks; within = omega (arith, n.within); visits = n.visits }

pub next : (t : Tree Node) (i : ℕ) (digits : List ℕ) → LeadsToLeaf t (i ∷ digits) → IsNext t i digits
next (leaf n) i digits l = absurd l
next (inner n ts) i digits l =
    let b : IsNextBelow ts i digits = next_below ts i digits l in
    record {
      child = b.child;
      there = b.there;
      leads = b.leads;
      marks = λ c. b.marks;
      within = b.within;
      visits = λ a c p moment. ap (λ (vs : List Visit). visit a n.program (Child i) (env_for p moment (child_marks ts i)) ∷ vs) (b.visits (a ++ i ∷ []) c p moment);
    }

-- and at a leaf the path ends
pub ends : (t : Tree Node) (a : Address) (c : Class) (p : Packet) (moment : ℕ) → LeadsToLeaf t [] → visits_from t a [] c p moment ≡ visit a (root_of t).program (Flow (grouped (root_of t).group p.flow)) (env_for p moment (marks_on t [] c)) ∷ []
ends (leaf n) a c p moment l = refl
ends (inner n ts) a c p moment l = absurd l
