-- Children in the order of their images, and a search among them.
use Rattle.embed_core.proofs.Prelude.{◌≡◌, length, arith, sym, ◌∙◌, ap, List, ◌+◌, subst, ℕ, ◌<◌, [], refl, ◌≤◌, get_or, ◌∷◌, drop, ◌++◌, map, suc, zero, take, eqb, false, true, eq-eqb, inl, inr, Bor, Equal, Greater, Less, Ordering, ltb, drop_all, drop_more, get_or_default, get_or-map, length-map, map-append, All, Contains, IsPrefixOf, after, Address, Tree, root_of, leaf, AreApart, IsOnSide, is_behind, IsImageOrder, child_image}
use Rattle.std.proofs.lemmas.Bool.{true≢false, cases_order, cases_lt, le-ltb, lt-ltb, ne_eqb, eqb-true}
use Rattle.std.proofs.lemmas.Cmp.{nat_list_cmp_total, nat_cmp_total, upto, then_total, on_total}
use Rattle.std.proofs.lemmas.List.Elements.{All-push, Contains-append_left, Contains-push}
use Rattle.std.proofs.lemmas.List.Sorted.{sorted_far, ranks_by, All-permutation, Contains-permutation, IsPermutation-map}
use Rattle.std.specs.List.Sorted.{IsPermutation, IsSortedBy}
use Rattle.std.specs.Cmp.Lexicographic.{slice_cmp}
use Rattle.std.specs.Ordering.{nat_cmp, is_gt, is_lt, ordering_then, ordering_reverse}
use Rattle.std.specs.Cmp.{IsStrictWeakOrder}
use Rattle.embed_defs.proofs.Addresses.{some_of_cond}

behind-head : (a b : ℕ) (c x : Address) → a < b → is_behind (b ∷ c) (a ∷ x) ≡ true
behind-head a b c x l = let n : eqb b a ≡ false = ne_eqb b a (λ e. omega arith) in let m : ltb b a ≡ false = le-ltb b a (omega arith) in rw (m, n) refl

behind-tail : (a : ℕ) (c x : Address) → is_behind (a ∷ c) (a ∷ x) ≡ is_behind c x
behind-tail a c x = let n : eqb a a ≡ true = eq-eqb a a refl in let m : ltb a a ≡ false = le-ltb a a (omega arith) in rw (m, n) refl

behind-front : (a b : ℕ) (c x : Address) → a < b → is_behind (a ∷ c) (b ∷ x) ≡ false
behind-front a b c x l = let m : ltb a b ≡ true = lt-ltb a b l in rw m refl

-- equal first digits don't affect the order
pub behind-drop : (d : ℕ) (a b : Address) → take d a ≡ take d b → is_behind a b ≡ is_behind (drop d a) (drop d b)
behind-drop zero a b e = refl
behind-drop (suc d) [] [] e = refl
behind-drop (suc d) [] (y ∷ b) e = cc
behind-drop (suc d) (x ∷ a) [] e = cc
behind-drop (suc d) (x ∷ a) (y ∷ b) e =
    let p : x ≡ y = cc in
    let q : take d a ≡ take d b = cc in
    subst (λ (z : ℕ). is_behind (x ∷ a) (z ∷ b) ≡ is_behind (drop d a) (drop d b)) p (behind-tail x a b ∙ behind-drop d a b q)

-- one more equal digit doesn't affect the order
pub behind-more : (i : ℕ) (a b : Address) → i < length a → length a ≤ length b → get_or a i 0 ≡ get_or b i 0 → is_behind a b ≡ is_behind (drop i a) (drop i b) → is_behind a b ≡ is_behind (drop (i + 1) a) (drop (i + 1) b)
behind-more i a b l n e h =
    let p : drop i a ≡ get_or a i 0 ∷ drop (i + 1) a = drop_more a i 0 l in
    let q : drop i b ≡ get_or b i 0 ∷ drop (i + 1) b = drop_more b i 0 (omega arith) in
    h ∙ ap (λ (z : Address). is_behind z (drop i b)) p ∙ ap (is_behind (get_or a i 0 ∷ drop (i + 1) a)) q
    ∙ ap (λ (z : ℕ). is_behind (get_or a i 0 ∷ drop (i + 1) a) (z ∷ drop (i + 1) b)) (sym e) ∙ behind-tail (get_or a i 0) (drop (i + 1) a) (drop (i + 1) b)

-- the first digit that differs decides the order
pub behind-other : (i : ℕ) (a b : Address) → i < length a → length a ≤ length b → (get_or a i 0 ≡ get_or b i 0 → ⊥) → is_behind a b ≡ is_behind (drop i a) (drop i b) → ltb (get_or b i 0) (get_or a i 0) ≡ is_behind a b
behind-other i a b l n e h =
    let p : drop i a ≡ get_or a i 0 ∷ drop (i + 1) a = drop_more a i 0 l in
    let q : drop i b ≡ get_or b i 0 ∷ drop (i + 1) b = drop_more b i 0 (omega arith) in
    first (get_or a i 0) (get_or b i 0) (drop (i + 1) a) (drop (i + 1) b) e
    ∙ ap (λ (z : Address). is_behind z (get_or b i 0 ∷ drop (i + 1) b)) (sym p) ∙ ap (is_behind (drop i a)) (sym q) ∙ sym h
  where
    first : (x y : ℕ) (c d : Address) → (x ≡ y → ⊥) → ltb y x ≡ is_behind (x ∷ c) (y ∷ d)
    first x y c d n = elim (cases_order x y) [
      | inl s ↦ absurd (n s)
      | inr s ↦ elim s [
        | inl l ↦ le-ltb y x (omega arith) ∙ sym (behind-front x y c d l)
        | inr l ↦ lt-ltb y x l ∙ sym (behind-head y x c d l)
      ]
    ]

-- if none differs, the first address doesn't come after the second
pub behind-none : (i : ℕ) (a b : Address) → length a ≤ i → is_behind a b ≡ is_behind (drop i a) (drop i b) → is_behind a b ≡ false
behind-none i a b l h = h ∙ ap (λ (z : Address). is_behind z (drop i b)) (drop_all i a l) ∙ nothing (drop i b)
  where
    nothing : (d : Address) → is_behind [] d ≡ false
    nothing [] = refl
    nothing (e ∷ d) = refl

-- an address between a prefix of an address and that address has the same prefix
pub prefix-between : (c x d : Address) → IsPrefixOf c d → is_behind c x ≡ false → is_behind x d ≡ false → IsPrefixOf c x
prefix-between [] x d p u v = (x, refl)
prefix-between (a ∷ c) [] d p u v = absurd (true≢false u)
prefix-between (a ∷ c) (b ∷ x) [] p u v = absurd (true≢false v)
prefix-between (a ∷ c) (b ∷ x) (e ∷ d) p u v =
    let p' : (eqb a e ≡ true) × (after c d ≡ _) = some_of_cond _ _ p.0 p.1 in
    let q : e ≡ a = sym (eqb-true a e p'.0) in
    let w : is_behind (b ∷ x) (a ∷ d) ≡ false = subst (λ (z : ℕ). is_behind (b ∷ x) (z ∷ d) ≡ false) q v in
    elim (cases_order a b) [
      | inl s ↦
          let f : is_behind c x ≡ false = sym (behind-tail a c x) ∙ subst (λ (z : ℕ). is_behind (a ∷ c) (z ∷ x) ≡ false) (sym s) u in
          let g : is_behind x d ≡ false = sym (behind-tail a x d) ∙ subst (λ (z : ℕ). is_behind (z ∷ x) (a ∷ d) ≡ false) (sym s) w in
          let r : IsPrefixOf c x = prefix-between c x d (p.0, p'.1) f g in
          (r.0, rw (eq-eqb a b s) r.1)
      | inr s ↦ elim s [
        | inl l ↦ absurd (true≢false (sym (behind-head a b x d l) ∙ w))
        | inr l ↦ absurd (true≢false (sym (behind-head b a c x l) ∙ u))
      ]
    ]

-- a prefix doesn't come after the address
pub prefix-not_behind : (c d : Address) → IsPrefixOf c d → is_behind c d ≡ false
prefix-not_behind [] [] p = refl
prefix-not_behind [] (e ∷ d) p = refl
prefix-not_behind (a ∷ c) [] p = cc
prefix-not_behind (a ∷ c) (e ∷ d) p =
    let p' : (eqb a e ≡ true) × (after c d ≡ _) = some_of_cond _ _ p.0 p.1 in
    subst (λ (z : ℕ). is_behind (a ∷ c) (z ∷ d) ≡ false) (eqb-true a e p'.0) (behind-tail a c d ∙ prefix-not_behind c d (p.0, p'.1))

-- the child whose image is a prefix of the digits is between two positions of the order
pub record IsBetween (ks : List (Tree Address)) (order : List ℕ) (digits : Address) (low high : ℕ) : Type 0 where
  pub place : ℕ
  pub behind_low : low ≤ place
  pub before_high : place < high
  pub inside : high ≤ length order
  pub begins : IsPrefixOf (child_image ks (get_or order place 0)) digits

module _ (ks : List (Tree Address)) (order : List ℕ) (digits : Address) (w : IsImageOrder ks order) where
  -- at the start, the range is the whole order
  pub between-start : (i : ℕ) × IsOnSide ks digits i → IsBetween ks order digits 0 (length order)
  between-start s =
      let f : Contains order s.0 = w.whole s.0 s.1.below in
      let e : get_or order f.0 0 ≡ s.0 = get_or_default order f.0 0 s.0 f.1 ∙ f.2 in
      record { place = f.0; behind_low = omega arith; before_high = f.1; inside = omega arith; begins = subst (λ (i : ℕ). IsPrefixOf (child_image ks i) digits) (sym e) s.1.begins }

  -- the child in the middle, and its image
  middle-image : (middle : ℕ) (k : Tree Address) → middle < length order → k ≡ get_or ks (get_or order middle 0) k → root_of k ≡ child_image ks (get_or order middle 0)
  middle-image middle k l e = ap root_of (e ∙ get_or_default ks (get_or order middle 0) k (leaf []) (w.within middle l))

  -- the image in the middle comes after the digits
  pub between-before : (low high middle : ℕ) (k : Tree Address) → IsBetween ks order digits low high → middle < high → k ≡ get_or ks (get_or order middle 0) k → true ≡ is_behind (root_of k) digits → IsBetween ks order digits low middle
  between-before low high middle k b l e h =
      let v : is_behind (child_image ks (get_or order middle 0)) digits ≡ true = ap (λ (z : Address). is_behind z digits) (sym (middle-image middle k (omega (arith, l, b.inside)) e)) ∙ sym h in
      elim (cases_lt b.place middle) [
        | inl n ↦ record { place = b.place; behind_low = b.behind_low; before_high = n; inside = omega (arith, l, b.inside); begins = b.begins }
        | inr n ↦
            let f : is_behind (child_image ks (get_or order middle 0)) (child_image ks (get_or order b.place 0)) ≡ false = w.rising middle b.place n (omega (arith, b.before_high, b.inside)) in
            let g : is_behind (child_image ks (get_or order b.place 0)) digits ≡ false = prefix-not_behind (child_image ks (get_or order b.place 0)) digits b.begins in
            absurd (true≢false (sym v ∙ upto nat_list_cmp_total (child_image ks (get_or order middle 0)) (child_image ks (get_or order b.place 0)) digits f g))
      ]

  -- the image in the middle doesn't come after the digits
  pub between-after : (low high middle : ℕ) (k : Tree Address) → AreApart ks → IsBetween ks order digits low high → middle < high → k ≡ get_or ks (get_or order middle 0) k → false ≡ is_behind (root_of k) digits → IsBetween ks order digits middle high
  between-after low high middle k a b l e h =
      let v : is_behind (child_image ks (get_or order middle 0)) digits ≡ false = ap (λ (z : Address). is_behind z digits) (sym (middle-image middle k (omega (arith, l, b.inside)) e)) ∙ sym h in
      elim (cases_lt b.place middle) [
        | inl n ↦
            let f : is_behind (child_image ks (get_or order b.place 0)) (child_image ks (get_or order middle 0)) ≡ false = w.rising b.place middle (omega arith) (omega (arith, l, b.inside)) in
            let p : IsPrefixOf (child_image ks (get_or order b.place 0)) (child_image ks (get_or order middle 0)) = prefix-between (child_image ks (get_or order b.place 0)) (child_image ks (get_or order middle 0)) digits b.begins f v in
            let e : get_or order b.place 0 ≡ get_or order middle 0 = a (get_or order b.place 0) (get_or order middle 0) (w.within b.place (omega (arith, b.before_high, b.inside))) (w.within middle (omega (arith, l, b.inside))) p in
            record { place = middle; behind_low = omega arith; before_high = l; inside = b.inside; begins = subst (λ (i : ℕ). IsPrefixOf (child_image ks i) digits) e b.begins }
        | inr n ↦ record { place = b.place; behind_low = n; before_high = b.before_high; inside = b.inside; begins = b.begins }
      ]

-- an image and an index
abbrev pub Entry : Type 0
Entry = Bor Address × ℕ

-- the index of an entry
abbrev pub index_of : Entry → ℕ
index_of x = x.1

-- the index is a child's, and the image is that child's
abbrev pub IsEntry : List (Tree Address) → Entry → Type 0
IsEntry ks x = (x.1 < length ks) × (x.0.now ≡ child_image ks x.1)

-- entries of children, including all of the first n
pub record AreEntered (ks : List (Tree Address)) (xs : List Entry) (n : ℕ) : Type 0 where
  pub right : All (IsEntry ks) xs
  pub whole : (i : ℕ) → i < n → Contains (map index_of xs) i

-- one more child
pub entered-more : (ks : List (Tree Address)) (xs : List Entry) (n i : ℕ) (k : Tree Address) (x : Bor Address) → n < length ks → k ≡ get_or ks n k → x.now ≡ root_of k → i ≡ n → AreEntered ks xs n → AreEntered ks (xs ++ (x, i) ∷ []) (n + 1)
entered-more ks xs n i k x l e f g h =
    let q : child_image ks i ≡ root_of k = ap (child_image ks) g ∙ ap root_of (get_or_default ks n (leaf []) k l ∙ sym e) in
    record {
      right = All-push (IsEntry ks) xs (x, i) h.right (omega (arith, l, g), f ∙ sym q);
      whole = λ j m. rw (map-append index_of xs ((x, i) ∷ [])) (elim (cases_lt j n) [
        | inl u ↦ Contains-append_left (map index_of xs) (i ∷ []) j (h.whole j u)
        | inr u ↦ subst (Contains (map index_of xs ++ i ∷ [])) (let s : i ≡ j = omega arith in s) (Contains-push (map index_of xs) i)
      ]);
    }

-- the order by image, then by index
abbrev pub entry_cmp : Entry → Entry → Ordering
entry_cmp x y = ordering_then (slice_cmp nat_cmp x.0.now y.0.now) (nat_cmp x.1 y.1)

-- an address that isn't less than another in the sort doesn't come before it
not_behind : (a b : Address) (o : Ordering) → is_lt (ordering_then (slice_cmp nat_cmp b a) o) ≡ false → is_behind a b ≡ false
not_behind a b o p = ap is_gt (nat_list_cmp_total.antisymm a b) ∙ turned (slice_cmp nat_cmp b a) p
  where
    turned : (r : Ordering) → is_lt (ordering_then r o) ≡ false → is_gt (ordering_reverse r) ≡ false
    turned Less p = absurd (true≢false p)
    turned Equal p = refl
    turned Greater p = refl

-- the indices of sorted entries are in the order of the images
pub sorted-order : (ks : List (Tree Address)) (xs ys : List Entry) (n : ℕ) → length ks ≤ n → AreEntered ks xs n → IsPermutation xs ys → IsSortedBy (λ x y. is_lt (entry_cmp x y)) ys → IsImageOrder ks (map index_of ys)
sorted-order ks xs ys n l h p s = record {
  whole = λ i m. Contains-permutation (map index_of xs) (map index_of ys) i (IsPermutation-map index_of xs ys p) (h.whole i (omega arith));
  within = λ q m. subst (λ (z : ℕ). z < length ks) (sym (at q (inside m))) (right q (inside m)).0;
  rising = λ q r m o.
      let c : q < length ys = omega (arith, m, inside o) in
      let d : is_behind (get_or ys q entry).0.now (get_or ys r entry).0.now ≡ false = not_behind (get_or ys q entry).0.now (get_or ys r entry).0.now (nat_cmp (get_or ys r entry).1 (get_or ys q entry).1) (sorted_far (λ x y. is_lt (entry_cmp x y)) entries_rank ys s q r entry m (inside o)) in
      rw (at q c, at r (inside o), ← (right q c).1, ← (right r (inside o)).1) d;
}
  where
    entry : Entry
    entry = (record { ref_ptr = (0, 0); now = [] }, 0)

    inside : {q : ℕ} → q < length (map index_of ys) → q < length ys
    inside m = omega (arith, m, length-map ys index_of)

    right : (q : ℕ) → q < length ys → IsEntry ks (get_or ys q entry)
    right q m = All-permutation (IsEntry ks) xs ys p h.right q entry m

    at : (q : ℕ) → q < length ys → get_or (map index_of ys) q 0 ≡ (get_or ys q entry).1
    at q m = get_or-map index_of ys q entry 0 m

    entries_rank : IsStrictWeakOrder (λ x y. is_lt (entry_cmp x y))
    entries_rank = ranks_by (then_total (on_total (λ (x : Entry). x.0.now) nat_list_cmp_total) (on_total index_of nat_cmp_total)) (λ (x : Entry). x)
