-- Parents, computed from the lists of children.
use Rattle.tree_graph.proofs.Prelude.{arith, ℕ, length, ap, sym, ◌<◌, ◌≡◌, subst, ◌∙◌, List, [], ◌+◌, suc, refl, ◌≤◌, get_or, inl, inr, zero, Contains, ◌≢◌, slice_index, All, ◌⊎◌, replicate, get_or-eq_default, cases_eq, cases_lt, get_or_default, Graph, IsChild, children, AreParents, ArePointed}

-- the parents after the lists of the first nodes
pub record ArePointedTo (g : Graph) (node : ℕ) (parents : List ℕ) : Type 0 where
  pub len : length parents ≡ length g
  pub each : (c q : ℕ) → q < node → IsChild g q c → IsChild g (slice_index parents c) c
  pub in_range : All (λ p. p < length g) parents

pub pointed-start : (g : Graph) (n : ℕ) → n ≡ length g → ArePointedTo g 0 (replicate n zero)
pointed-start g n size = record {
  len = length-zeros n ∙ size;
  each = λ c q short. absurd (omega arith);
  in_range = λ k d short. omega (arith, zeros n k d, short, length-zeros n, size);
}
  where
    length-zeros : (n : ℕ) → length (replicate n zero) ≡ n
    length-zeros zero = refl
    length-zeros (suc n) = ap suc (length-zeros n)

    zeros : (n k d : ℕ) → k < length (replicate n zero) → get_or (replicate n zero) k d ≡ 0
    zeros zero k d l = absurd (omega arith)
    zeros (suc n) zero d l = refl
    zeros (suc n) (suc k) d l = zeros n k d (omega arith)

pub pointed-on : (g : Graph) (node : ℕ) (old new : List ℕ) → node < length g → ArePointedTo g node old → ArePointed node (children g node) old new → ArePointedTo g (node + 1) new
pointed-on g node old new within so_far more = record {
  len = more.len ∙ so_far.len;
  each = λ c q short step. by c q short step (more.others c) (cases_eq q node);
  in_range = λ k d short. below k d short (more.others k);
}
  where
    by : (c q : ℕ) → q < node + 1 → IsChild g q c → (slice_index new c ≡ node) × Contains (children g node) c ⊎ (slice_index new c ≡ slice_index old c) → (q ≡ node) ⊎ (q ≢ node) → IsChild g (slice_index new c) c
    by c q short step (inl now) at = subst (λ (p : ℕ). IsChild g p c) (sym now.0) now.1
    by c q short step (inr was) (inl same) = (let there : Contains (children g node) c = subst (λ (p : ℕ). IsChild g p c) same step in subst (λ (p : ℕ). IsChild g p c) (sym (more.changed c there)) there)
    by c q short step (inr was) (inr other) = subst (λ (p : ℕ). IsChild g p c) (sym was) (so_far.each c q (omega (arith, other, short)) step)

    below : (k d : ℕ) → k < length new → (slice_index new k ≡ node) × Contains (children g node) k ⊎ (slice_index new k ≡ slice_index old k) → get_or new k d < length g
    below k d short (inl now) = omega (arith, now.0, get_or_default new k d 0 short, within)
    below k d short (inr was) = omega (arith, was, get_or_default new k d 0 short, so_far.in_range k 0 (omega (arith, more.len, short)))

pub pointed-all : (g : Graph) (node : ℕ) (parents : List ℕ) → length g ≤ node → ArePointedTo g node parents → AreParents g parents
pointed-all g node parents over so_far = record {
  len = so_far.len;
  each = λ c q step. so_far.each c q (omega (arith, over, inside q c step)) step;
}
  where
    inside : (q c : ℕ) → IsChild g q c → q < length g
    inside q c step = elim (cases_lt q (length g)) [
      | inl short ↦ short
      | inr long ↦ (let none : children g q ≡ [] = get_or-eq_default g [] long in
          let at : step.0 < length (children g q) = step.1 in
          let empty : length (children g q) ≡ 0 = ap length none in
          absurd (omega arith))
    ]
