-- The least line number for which a test holds, searched node by node.
use Rattle.mapcheck_core.proofs.Prelude.{◌≡◌, sym, List, ℕ, subst, ◌∙◌, ap, [], refl, arith, None, inr, ◌+◌, Some, ◌<◌, false, length, true, ◌≤◌, inl, Option, get_or, Bool, below_more, min, both_ways, cases_lt, get_or_default, Topology, IsLeast, breaks_at, lower_of, breaks, Given}
use Rattle.mapcheck_core.specs.declared.check.Demand.{Demand}

pub least_skip : (test : ℕ → Bool) (lines : List ℕ) (n : ℕ) (o : Option ℕ) → IsLeast test lines n o → test n ≡ false → IsLeast test lines (n + 1) o
least_skip test lines n None l f = below_more (λ (k : ℕ). test k ≡ false) n l f
least_skip test lines n (Some m) l f =
    let low : l.0.0 < n + 1 = let h : l.0.0 < n = l.0.1 in omega arith in
    ((l.0.0, low, l.0.2, l.0.3), below_more (λ (k : ℕ). test k ≡ true → m ≤ get_or lines k 0) n l.1 (λ t. absurd (both_ways (test n) f t)))

pub least_take : (test : ℕ → Bool) (lines : List ℕ) (n : ℕ) (o : Option ℕ) → IsLeast test lines n o → test n ≡ true → IsLeast test lines (n + 1) (Some (lower_of o (get_or lines n 0)))
least_take test lines n None l t =
    let low : n < n + 1 = omega arith in
    ((n, low, t, refl), below_more (λ (k : ℕ). test k ≡ true → get_or lines n 0 ≤ get_or lines k 0) n (λ k h e. absurd (both_ways (test k) (l k h) e)) (λ e. omega arith))
least_take test lines n (Some m) l t =
    elim (cases_lt (get_or lines n 0) m) [
      | inl below ↦
          let same : get_or lines n 0 ≡ min m (get_or lines n 0) = omega arith in
          let low : n < n + 1 = omega arith in
          subst (λ (z : ℕ). IsLeast test lines (n + 1) (Some z)) same ((n, low, t, refl), below_more (λ (k : ℕ). test k ≡ true → get_or lines n 0 ≤ get_or lines k 0) n (λ k h e. let q = l.1 k h e in omega arith) (λ e. omega arith))
      | inr above ↦
          let same : m ≡ min m (get_or lines n 0) = omega arith in
          let low : l.0.0 < n + 1 = let h : l.0.0 < n = l.0.1 in omega arith in
          subst (λ (z : ℕ). IsLeast test lines (n + 1) (Some z)) same ((l.0.0, low, l.0.2, l.0.3), below_more (λ (k : ℕ). test k ≡ true → m ≤ get_or lines k 0) n l.1 (λ e. omega arith))
    ]

-- the test at a node number, for the image read there
pub tested : (d : Demand) (s t : Topology) (g : Given) (n : ℕ) (xs : List (List ℕ)) (x e : List ℕ) (b : Bool) → xs ≡ g.images → n < length xs → x ≡ get_or xs n x → e ≡ x → b ≡ breaks d s t n e → breaks_at d s t g n ≡ b
tested d s t g n xs x e b same inside read is told =
    let image : get_or g.images n [] ≡ e = ap (λ (z : List (List ℕ)). get_or z n []) (sym same) ∙ get_or_default xs n [] x inside ∙ sym read ∙ sym is in
    ap (breaks d s t n) image ∙ sym told
