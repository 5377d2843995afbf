-- The addresses on the path to a leaf.
use Rattle.std.proofs.Common.{arith, rules, ◌≡◌, ap, ◌∙◌, sym, ℕ, List, length, ◌<◌, [], ◌∷◌, refl, ◌+◌, ◌≤◌, get_or, suc, zero, take, map, Bool, true, false, ◌&&◌, nat_lt, ◌≢◌}
use Rattle.std.proofs.lemmas.List.{length-map}
use Rattle.tree_defs.specs.Tree.{Tree, Address, LeadsToLeaf, IsAddressOf}
use Rattle.policy_defs.specs.Policy.{Node}
use Rattle.policy_defs.specs.Numbers.{number_at}
use Rattle.policy_core.proofs.NumberedAddresses.{number-undone}
use Rattle.policy_core.specs.Numbering.{address_at}
use Rattle.sched_core.specs.Kept.{part_at}
use Rattle.sched_core.proofs.Levels.{there-at}
use Rattle.sched_defs.specs.SourceState.{leads_over, way_to}

-- different addresses have different numbers
pub same-number : (tree : Tree Node) (a b : Address) → IsAddressOf tree a → IsAddressOf tree b → number_at tree a ≡ number_at tree b → a ≡ b
same-number tree a b p q e = sym (number-undone tree a p.0 p.1).address ∙ ap (address_at tree) e ∙ (number-undone tree b q.0 q.1).address

pub prefix-there : (tree : Tree Node) (leaf : Address) (level : ℕ) → LeadsToLeaf tree leaf → level ≤ length leaf → IsAddressOf tree (take level leaf)
prefix-there tree leaf level l h = (part_at tree (take level leaf), there-at tree leaf l level h)

-- ---- an address over another is a prefix of it
pub over-prefix : (leaf : Address) (level : ℕ) → leads_over (take level leaf) leaf ≡ true
over-prefix leaf zero = refl
over-prefix [] (suc level) = refl
over-prefix (i ∷ leaf) (suc level) = grind (arith, rules, over-prefix leaf level)

pub prefix-over : (a leaf : Address) → leads_over a leaf ≡ true → a ≡ take (length a) leaf
prefix-over [] leaf h = refl
prefix-over (i ∷ a) [] h = cc
prefix-over (i ∷ a) (j ∷ leaf) h =
    let same : i ≡ j = grind (arith, rules) in
    let over : leads_over a leaf ≡ true = grind (arith, rules) in
    ap (λ k. k ∷ a) same ∙ ap (λ (b : Address). j ∷ b) (prefix-over a leaf over)

pub over-short : (a leaf : Address) → leads_over a leaf ≡ true → length a ≤ length leaf
over-short [] leaf h = omega arith
over-short (i ∷ a) [] h = cc
over-short (i ∷ a) (j ∷ leaf) h =
    let over : leads_over a leaf ≡ true = grind (arith, rules) in
    omega (arith, over-short a leaf over)

pub prefix-length : (leaf : Address) (level : ℕ) → level ≤ length leaf → length (take level leaf) ≡ level
prefix-length leaf zero h = refl
prefix-length [] (suc level) h = omega (arith, h)
prefix-length (i ∷ leaf) (suc level) h = ap suc (prefix-length leaf level (omega (arith, h)))

-- ---- the addresses on the way, from the root's on
pub way-length : (leaf : Address) → length (way_to leaf) ≡ length leaf + 1
way-length [] = refl
way-length (i ∷ leaf) = omega (arith, length-map (way_to leaf) (λ (b : Address). i ∷ b), way-length leaf)

way-get_map : (i : ℕ) (bs : List Address) (level : ℕ) → level < length bs → get_or (map (λ (b : Address). i ∷ b) bs) level [] ≡ i ∷ get_or bs level []
way-get_map i [] level h = absurd (omega (arith, h))
way-get_map i (b ∷ bs) zero h = refl
way-get_map i (b ∷ bs) (suc level) h = way-get_map i bs level (omega (arith, h))

pub way-get : (leaf : Address) (level : ℕ) → level ≤ length leaf → get_or (way_to leaf) level [] ≡ take level leaf
way-get [] zero h = refl
way-get [] (suc level) h = absurd (omega (arith, h))
way-get (i ∷ leaf) zero h = refl
way-get (i ∷ leaf) (suc level) h =
    way-get_map i (way_to leaf) level (omega (arith, h, way-length leaf)) ∙ ap (λ (b : Address). i ∷ b) (way-get leaf level (omega (arith, h)))

-- ---- the levels above one, and the next one
pub test-next : (a leaf : Address) (level : ℕ) → a ≢ take level leaf → (leads_over a leaf && nat_lt (length a) (level + 1)) ≡ (leads_over a leaf && nat_lt (length a) level)
test-next a leaf level n = by_test (leads_over a leaf) refl
  where
    by_test : (b : Bool) → leads_over a leaf ≡ b → (leads_over a leaf && nat_lt (length a) (level + 1)) ≡ (leads_over a leaf && nat_lt (length a) level)
    by_test false e = ap (λ b. b && nat_lt (length a) (level + 1)) e ∙ sym (ap (λ b. b && nat_lt (length a) level) e)
    by_test true e =
        let other : length a ≢ level = λ k. n (prefix-over a leaf e ∙ ap (λ (m : ℕ). take m leaf) k) in
        let same : nat_lt (length a) (level + 1) ≡ nat_lt (length a) level = grind (arith, rules) in
        ap (λ b. leads_over a leaf && b) same

pub test-at : (leaf : Address) (level : ℕ) → level ≤ length leaf → (leads_over (take level leaf) leaf && nat_lt (length (take level leaf)) (level + 1)) ≡ true
test-at leaf level h =
    let n : length (take level leaf) ≡ level = prefix-length leaf level h in
    let o : leads_over (take level leaf) leaf ≡ true = over-prefix leaf level in
    let k : nat_lt (length (take level leaf)) (level + 1) ≡ true = grind (arith, rules) in
    ap (λ b. b && nat_lt (length (take level leaf)) (level + 1)) o ∙ k

pub test-before : (leaf : Address) (level : ℕ) → level ≤ length leaf → (leads_over (take level leaf) leaf && nat_lt (length (take level leaf)) level) ≡ false
test-before leaf level h =
    let n : length (take level leaf) ≡ level = prefix-length leaf level h in
    let o : leads_over (take level leaf) leaf ≡ true = over-prefix leaf level in
    let k : nat_lt (length (take level leaf)) level ≡ false = grind (arith, rules) in
    ap (λ b. b && nat_lt (length (take level leaf)) level) o ∙ k

pub test-none : (a leaf : Address) → (leads_over a leaf && nat_lt (length a) 0) ≡ false
test-none a leaf = grind (arith, rules)

-- all levels
pub test-all : (a leaf : Address) (level : ℕ) → length leaf < level → (leads_over a leaf && nat_lt (length a) level) ≡ leads_over a leaf
test-all a leaf level h = by_test (leads_over a leaf) refl
  where
    by_test : (b : Bool) → leads_over a leaf ≡ b → (leads_over a leaf && nat_lt (length a) level) ≡ leads_over a leaf
    by_test false e = ap (λ b. b && nat_lt (length a) level) e ∙ sym e
    by_test true e =
        let short : length a ≤ length leaf = over-short a leaf e in
        let k : nat_lt (length a) level ≡ true = grind (arith, rules) in
        ap (λ b. b && nat_lt (length a) level) e ∙ k ∙ sym e
