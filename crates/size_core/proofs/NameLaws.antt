-- The names of the policy's nodes that the nodes of a target serve.
use Rattle.size_core.proofs.Prelude.{◌≡◌, ◌∙◌, ℕ, length, sym, ap, List, arith, subst, ◌+◌, ◌<◌, IfSome, Some, [], refl, ◌∷◌, Option, ◌++◌, suc, None, zero, false, true, get_or, inl, inr, ◌≢◌, cases_lt, eq-eqb, true≢false, range_with_len, AllByRecursion, slice_get, Vec, nat_eq, image_map, address_at, HasAt, Policy, Laid, Address, Tree, nodes, IsServed, address_in, Keys, IsOnce, name_in, IsNameAt}
use Rattle.std.specs.declared.alloc.Global.{Global}
use Rattle.std.specs.List.{IsDistinct}
use lib.Pointwise.{pointwise}
use Rattle.policy_defs.specs.Policy.{Node}
use Rattle.policy_defs.specs.Numbers.{number_at}
use Rattle.policy_core.proofs.NumberedAddresses.{IsNumber, IsAddress, number-undone, address-undone}
use Rattle.policy_core.proofs.NodeNames.{name-found}

-- numbers, one more
pub range-more : (a n : ℕ) → range_with_len a (n + 1) ≡ range_with_len a n ++ (a + n) ∷ []
range-more a n = subst (λ (k : ℕ). range_with_len a k ≡ range_with_len a n ++ (a + n) ∷ []) (let e : suc n ≡ n + 1 = omega arith in e) (more a n)
  where
    more : (a n : ℕ) → range_with_len a (suc n) ≡ range_with_len a n ++ (a + n) ∷ []
    more a zero = ap (λ (k : ℕ). k ∷ []) (let e : a ≡ a + 0 = omega arith in e)
    more a (suc n) = ap (λ (z : List ℕ). a ∷ z) (more (a + 1) n ∙ ap (λ (k : ℕ). range_with_len (a + 1) n ++ k ∷ []) (let e : a + 1 + n ≡ a + suc n = omega arith in e))

pub slice_get-in : (xs : List ℕ) (n : ℕ) → n < length xs → slice_get xs n ≡ Some (get_or xs n 0)
slice_get-in [] n l = absurd (omega (arith, l))
slice_get-in (x ∷ xs) zero l = refl
slice_get-in (x ∷ xs) (suc n) l = slice_get-in xs n (omega (arith, l))

pub served-own : (tree : Tree Node) (indices : List ℕ) (n : ℕ) (text : List ℕ) → n < length indices → HasAt tree n (λ node. text ≡ node.name) → IsServed tree indices (n + 1) (get_or indices n 0) (Some text)
served-own tree indices n text l has = (n, record { below = omega arith; image = slice_get-in indices n l }, has)

pub served-other : (tree : Tree Node) (indices : List ℕ) (n i : ℕ) (y : Option (List ℕ)) → n < length indices → i ≢ get_or indices n 0 → IsServed tree indices n i y → IsServed tree indices (n + 1) i y
served-other tree indices n i None l other none = λ m image.
    elim (cases_lt m n) [
      | inl less ↦ none m (record { below = less; image = image.image })
      | inr most ↦
          let same : m ≡ n = omega (arith, most, image.below) in
          let at : slice_get indices n ≡ Some i = ap (slice_get indices) (sym same) ∙ image.image in
          let is : Some (get_or indices n 0) ≡ Some i = sym (slice_get-in indices n l) ∙ at in
          other (let e : i ≡ get_or indices n 0 = cc in e)
    ]
served-other tree indices n i (Some text) l other (m, image, has) = (m, record { below = omega (arith, image.below); image = image.image }, has)

-- ---- indices and addresses
pointwise-same : (b : List ℕ) → pointwise nat_eq b b ≡ true
pointwise-same [] = refl
pointwise-same (x ∷ b) = let one : nat_eq x x ≡ true = eq-eqb x x refl in let more : pointwise nat_eq b b ≡ true = pointwise-same b in rw (one, more) refl

apart : (x : Vec ℕ Global) (ys : Keys) → AllByRecursion (λ (y : Vec ℕ Global). pointwise nat_eq x.items y.items ≡ false) ys → (j : ℕ) → address_in ys j ≡ Some x.items → ⊥
apart x [] all j f = let n : None ≡ Some x.items = f in cc
apart x (y ∷ ys) all zero f =
    let same : y.items ≡ x.items = let q : Some y.items ≡ Some x.items = f in cc in
    let no : pointwise nat_eq x.items x.items ≡ false = subst (λ (z : List ℕ). pointwise nat_eq x.items z ≡ false) same all.0 in
    true≢false (sym (pointwise-same x.items) ∙ no)
apart x (y ∷ ys) all (suc j) f = apart x ys all.1 j f

first_is : (x : Vec ℕ Global) (known : Keys) (j : ℕ) (b : Address) → Some x.items ≡ Some b → address_in known j ≡ Some b → address_in known j ≡ Some x.items
first_is x known j b e f = f ∙ sym e

-- distinct addresses have different indices
pub once : (known : Keys) → IsDistinct (λ (x y : Vec ℕ Global). pointwise nat_eq x.items y.items) known → IsOnce known
unfolding IsDistinct
once [] distinct i j b e f = absurd (let n : None ≡ Some b = e in cc)
once (x ∷ known) distinct zero zero b e f = refl
once (x ∷ known) distinct zero (suc j) b e f = absurd (apart x known distinct.0 j (first_is x known j b e f))
once (x ∷ known) distinct (suc i) zero b e f = absurd (apart x known distinct.0 i (first_is x known i b f e))
once (x ∷ known) distinct (suc i) (suc j) b e f = ap suc (once known distinct.1 i j b e f)

pub name-at : (names : List (Option (List ℕ))) (i : ℕ) (P : Option (List ℕ) → Type 0) → i < length names → IfSome (slice_get names i) P → P (name_in names i)
name-at [] i P l h = absurd (omega (arith, l))
name-at (y ∷ names) zero P l h = h
name-at (y ∷ names) (suc i) P l h = name-at names i P (omega (arith, l)) h

-- the name of the node at an index is that of a node of the policy with this image
pub name-is : (l : Laid) (policy : Policy) (known : Keys) (indices : List ℕ) (i : ℕ) (b : Address) (name : Option (List ℕ)) → IsOnce known → length indices ≡ nodes policy.tree
    → ((n : ℕ) → IfSome (slice_get indices n) (λ i. address_in known i ≡ Some (image_map l.images (address_at policy.tree n))))
    → address_in known i ≡ Some b → IsServed policy.tree indices (length indices) i name → IsNameAt l policy b name
name-is l policy known indices i b None once many each at none = λ a has.
    let undone : IsNumber policy.tree a (number_at policy.tree a) = number-undone policy.tree a has.address.0 has.address.1 in
    let n = number_at policy.tree a in
    let within : n < length indices = omega (arith, undone.within, many) in
    let is : slice_get indices n ≡ Some (get_or indices n 0) = slice_get-in indices n within in
    let image : address_in known (get_or indices n 0) ≡ Some (image_map l.images (address_at policy.tree n)) = subst (λ o. IfSome o (λ i. address_in known i ≡ Some (image_map l.images (address_at policy.tree n)))) is (each n) in
    let same : image_map l.images (address_at policy.tree n) ≡ b = ap (image_map l.images) undone.address ∙ has.image in
    let index : get_or indices n 0 ≡ i = once (get_or indices n 0) i b (image ∙ ap (λ z. Some z) same) at in
    none n (record { below = within; image = is ∙ ap (λ k. Some k) index })
name-is l policy known indices i b (Some text) once many each at (n, image, has) =
    let undone : IsAddress policy.tree n (address_at policy.tree n) = address-undone policy.tree n (omega (arith, image.below, many)) in
    let found : address_in known i ≡ Some (image_map l.images (address_at policy.tree n)) = subst (λ o. IfSome o (λ i. address_in known i ≡ Some (image_map l.images (address_at policy.tree n)))) image.image (each n) in
    let same : image_map l.images (address_at policy.tree n) ≡ b = let e : Some (image_map l.images (address_at policy.tree n)) ≡ Some b = sym found ∙ at in cc in
    (address_at policy.tree n, record { address = undone.there; image = same }, name-found policy (address_at policy.tree n) n text undone.there undone.number has)
