-- A graph has one tree below a node.
use Rattle.tree_graph.proofs.Prelude.{arith, ℕ, length, ap, sym, ◌≡◌, ◌∙◌, List, suc, refl, get_or, drop, inner, Tree, Trees, leaf, more, none, root_of, Graph, children, AreTreesOf, IsTreeOf, labels}

mutual
  pub one-tree : (g : Graph) (t u : Tree ℕ) → IsTreeOf g t → IsTreeOf g u → root_of t ≡ root_of u → t ≡ u
  one-tree g (leaf i) (leaf j) h k same = ap leaf same
  one-tree g (leaf i) (inner j none) h k same = absurd k.0
  one-tree g (leaf i) (inner j (more u us)) h k same = (let e : suc (length (labels us)) ≡ 0 = ap length (k.1 ∙ ap (children g) (sym same) ∙ h) in absurd (omega arith))
  one-tree g (inner i none) u h k same = absurd h.0
  one-tree g (inner i (more t ts)) (leaf j) h k same = (let e : suc (length (labels ts)) ≡ 0 = ap length (h.1 ∙ ap (children g) same ∙ k) in absurd (omega arith))
  one-tree g (inner i (more t ts)) (inner j none) h k same = absurd k.0
  one-tree g (inner i (more t ts)) (inner j (more u us)) h k same =
      let below : more t ts ≡ more u us = one-trees g (more t ts) (more u us) h.2 k.2 (h.1 ∙ ap (children g) same ∙ sym k.1) in
      ap (λ (n : ℕ). inner n (more t ts)) same ∙ ap (inner j) below

  one-trees : (g : Graph) (ts us : Trees ℕ) → AreTreesOf g ts → AreTreesOf g us → labels ts ≡ labels us → ts ≡ us
  one-trees g none none h k same = refl
  one-trees g none (more u us) h k same = (let e : 0 ≡ suc (length (labels us)) = ap length same in absurd (omega arith))
  one-trees g (more t ts) none h k same = (let e : suc (length (labels ts)) ≡ 0 = ap length same in absurd (omega arith))
  one-trees g (more t ts) (more u us) h k same =
      let first : t ≡ u = one-tree g t u h.0 k.0 (ap (λ (l : List ℕ). get_or l 0 0) same) in
      let rest : ts ≡ us = one-trees g ts us h.1 k.1 (ap (λ (l : List ℕ). drop 1 l) same) in
      ap (λ (x : Tree ℕ). more x ts) first ∙ ap (more u) rest
