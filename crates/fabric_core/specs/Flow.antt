-- Invariants of a fabric's queues.
use Rattle.std.proofs.Common.{lit<}
use Rattle.std.specs.Prelude.{ℕ, zero, suc, ◌≡◌, refl, ◌≤◌, ◌<◌, ◌^◌, List, [], ◌∷◌, length, map, nat_eq, if◌then◌else◌}
use Rattle.std.specs.List.{AllByRecursion}
use Rattle.tree_defs.specs.Queue.{Queue}
use Rattle.tree_defs.specs.SourceTree.{times}
use Rattle.embed_defs.specs.Family.{Address, Family, below}
use Rattle.fabric_core.specs.Array.{nodes, queues_at}

-- each value is a child's digit
abbrev pub NamesBelow : ℕ → Queue → Type 0
NamesBelow arity q = AllByRecursion (λ e. e.1 < arity) q

-- At each inner node, each value is a child's digit, and each child's digit occurs once for each
-- entry of that child.
abbrev pub IsFlow : List ℕ → Family → Type 0
IsFlow [] F = Unit {0}
IsFlow (d ∷ arities) F = NamesBelow d (F []) × ((x : ℕ) → x < d → (times x (F []) ≡ length (F (x ∷ []))) × IsFlow arities (below F x))

-- spills are counted among one flow for each child at an inner node, and among one flow at a leaf
abbrev pub HasFlows : List ℕ → (Address → ℕ) → Type 0
HasFlows [] flows = flows [] ≡ 1
HasFlows (d ∷ arities) flows = (flows [] ≡ d) × ((x : ℕ) → x < d → HasFlows arities (λ b. flows (x ∷ b)))

-- There is a queue for each node. No queue had more pushes than the fabric. Each entry of a child
-- has an entry at its parent, and each entry of a parent has one at a child.
pub record IsSound (arities : List ℕ) (queues : List Queue) (counts : List ℕ) (pushed : ℕ) : Type 0 where
  pub nodes : nodes arities ≡ length queues
  pub small : length queues < 2 ^ 32
  pub pushes : AllByRecursion (λ n. n ≤ pushed) counts
  pub flow : IsFlow arities (queues_at arities queues 0 1 0)

-- ---- a root with two leaves
-- two packets are queued for leaf 1 and one for leaf 0; packet numbers aren't digits
abbrev pub three_waiting : Family
three_waiting [] = (6, 1) ∷ (3, 0) ∷ (5, 1) ∷ []
three_waiting (zero ∷ b) = (4, 70) ∷ []
three_waiting (suc i ∷ b) = (2, 71) ∷ (9, 72) ∷ []

pub IsFlow-names : NamesBelow 2 (three_waiting []) × IsFlow [] (below three_waiting 1)
IsFlow-names = ((lit< tt, (lit< tt, (lit< tt, tt))), tt)

pub IsFlow-counts : map (λ x. times x (three_waiting [])) (0 ∷ 1 ∷ []) ≡ map (λ x. length (three_waiting (x ∷ []))) (0 ∷ 1 ∷ [])
IsFlow-counts = refl

pub HasFlows-two_leaves : HasFlows (2 ∷ []) (λ b. if nat_eq (length b) 0 then 2 else 1)
HasFlows-two_leaves = (refl, λ x l. refl)
