-- The lines of nodes with a push.
use Rattle.size_core.proofs.Prelude.{◌≡◌, ◌∙◌, ℕ, length, sym, ap, List, arith, subst, ◌<◌, ◌≤◌, IfSome, Some, [], refl, ◌∷◌, Option, ◌++◌, suc, None, zero, Bool, inl, inr, nat_lt, ◌⊎◌, append-nil, cases_lt, le-ltb, lt-ltb, slice_get, option_map, unwrap_or, Address, Uses, address_in, Keys, IsOnce, figures_of, lines_of, line_with, line_if, Line, line_address}
use Rattle.size_core.proofs.Lists.{each_push, each_weaker}

-- a line is that of one of the first nodes, which has a push
pub record IsLineOf (known : Keys) (names : List (Option (List ℕ))) (uses : Uses) (count : ℕ) (n : Line) : Type 0 where
  pub index : ℕ
  pub below : index < count
  pub pushed_there : 0 < (uses index).pushes
  pub is : n ≡ line_with known names index (figures_of (uses index))

-- ---- one more item
get-left : {A : Type 0} (xs ys : List A) (i : ℕ) (x : A) → slice_get xs i ≡ Some x → slice_get (xs ++ ys) i ≡ Some x
get-left [] ys i x e = absurd (let n : None ≡ Some x = e in cc)
get-left (y ∷ xs) ys zero x e = e
get-left (y ∷ xs) ys (suc i) x e = get-left xs ys i x e

get-last : {A : Type 0} (xs : List A) (x : A) → slice_get (xs ++ x ∷ []) (length xs) ≡ Some x
get-last [] x = refl
get-last (y ∷ xs) x = get-last xs x

last_or_not : {A B : Type 0} (f : A → B) (xs : List A) (x : A) (i : ℕ) (b : B) → option_map f (slice_get (xs ++ x ∷ []) i) ≡ Some b → (option_map f (slice_get xs i) ≡ Some b) ⊎ ((i ≡ length xs) × (f x ≡ b))
last_or_not f [] x zero b e = inr (refl, let same : Some (f x) ≡ Some b = e in cc)
last_or_not f [] x (suc i) b e = inl e
last_or_not f (y ∷ xs) x zero b e = inl e
last_or_not f (y ∷ xs) x (suc i) b e =
    elim (last_or_not f xs x i b e) [
      | inl before ↦ inl before
      | inr at ↦ inr (ap suc at.0, at.1)
    ]

pub known_at : (known : Keys) (k : ℕ) → k < length known → address_in known k ≡ Some (unwrap_or (address_in known k) [])
known_at [] k l = absurd (omega (arith, l))
known_at (x ∷ known) zero l = refl
known_at (x ∷ known) (suc k) l = known_at known k (omega (arith, l))

module _ (known : Keys) (names : List (Option (List ℕ))) (uses : Uses) where
  line_at : ℕ → Line
  line_at n = line_with known names n (figures_of (uses n))

  more_lines : (n : ℕ) (P : List Line → Type 0) → ((uses n).pushes ≡ 0 → P []) → (0 < (uses n).pushes → P (line_at n ∷ [])) → P (line_if (nat_lt 0 (uses n).pushes) (line_at n))
  more_lines n P none one =
      elim (cases_lt 0 (uses n).pushes) [
        | inl less ↦ subst (λ (b : Bool). P (line_if b (line_at n))) (sym (lt-ltb 0 (uses n).pushes less)) (one less)
        | inr most ↦ subst (λ (b : Bool). P (line_if b (line_at n))) (sym (le-ltb 0 (uses n).pushes most)) (none (omega (arith, most)))
      ]

  weaker : (n : ℕ) → ((k : ℕ) → IfSome (slice_get (lines_of known names uses n) k) (IsLineOf known names uses n)) → (k : ℕ) → IfSome (slice_get (lines_of known names uses n) k) (IsLineOf known names uses (suc n))
  weaker n before = each_weaker (λ k. IsLineOf known names uses n) (λ k. IsLineOf known names uses (suc n)) (lines_of known names uses n) before
      (λ k x h. record { index = h.index; below = omega (arith, h.below); pushed_there = h.pushed_there; is = h.is })

  pub each_line : (n : ℕ) (i : ℕ) → IfSome (slice_get (lines_of known names uses n) i) (IsLineOf known names uses n)
  unfolding line_at
  each_line zero i = tt
  each_line (suc n) i =
      more_lines n (λ extra. IfSome (slice_get (lines_of known names uses n ++ extra) i) (IsLineOf known names uses (suc n)))
      (λ none. subst (λ (z : List Line). IfSome (slice_get z i) (IsLineOf known names uses (suc n))) (sym (append-nil (lines_of known names uses n))) (weaker n (each_line n) i))
      (λ one. each_push (λ k. IsLineOf known names uses (suc n)) (lines_of known names uses n) (line_at n) (weaker n (each_line n)) (record { index = n; below = omega arith; pushed_there = one; is = refl }) i)

  pub line_there : (n k : ℕ) → k < n → 0 < (uses k).pushes → (i : ℕ) × (slice_get (lines_of known names uses n) i ≡ Some (line_with known names k (figures_of (uses k))))
  unfolding line_at
  line_there zero k l some = absurd (omega (arith, l))
  line_there (suc n) k l some =
      elim (cases_lt k n) [
        | inl less ↦ let found = line_there n k less some in (found.0, get-left (lines_of known names uses n) _ found.0 _ found.1)
        | inr most ↦
            let same : n ≡ k = omega (arith, l, most) in
            more_lines n (λ extra. (i : ℕ) × (slice_get (lines_of known names uses n ++ extra) i ≡ Some (line_with known names k (figures_of (uses k)))))
            (λ none. absurd (omega (arith, some, none, ap (λ (j : ℕ). (uses j).pushes) same)))
            (λ one. (length (lines_of known names uses n), get-last (lines_of known names uses n) (line_at n) ∙ ap (λ (j : ℕ). Some (line_with known names j (figures_of (uses j)))) same))
      ]

  -- the node of a line's address
  node_of : (n i : ℕ) (b : Address) → n ≤ length known → line_address (lines_of known names uses n) i ≡ Some b → (k : ℕ) × (k < n) × (address_in known k ≡ Some b)
  node_of n i b few e = by (slice_get (lines_of known names uses n) i) (each_line n i) e
    where
      by : (o : Option Line) → IfSome o (IsLineOf known names uses n) → option_map (λ n. n.address) o ≡ Some b → (k : ℕ) × (k < n) × (address_in known k ≡ Some b)
      by None h e = absurd (let no : None ≡ Some b = e in cc)
      by (Some x) h e =
          let address : Some (unwrap_or (address_in known h.index) []) ≡ Some b = ap (λ (n : Line). Some n.address) (sym h.is) ∙ e in
          (h.index, h.below, known_at known h.index (omega (arith, h.below, few)) ∙ address)

  pub line_once : IsOnce known → (n : ℕ) → n ≤ length known → (i j : ℕ) (b : Address) → line_address (lines_of known names uses n) i ≡ Some b → line_address (lines_of known names uses n) j ≡ Some b → i ≡ j
  unfolding line_at
  line_once once zero few i j b = λ e f. absurd (let no : None ≡ Some b = e in cc)
  line_once once (suc n) few i j b =
      let before = line_once once n (omega (arith, few)) i j b in
      more_lines n (λ extra. line_address (lines_of known names uses n ++ extra) i ≡ Some b → line_address (lines_of known names uses n ++ extra) j ≡ Some b → i ≡ j)
      (λ none. subst (λ (z : List Line). line_address z i ≡ Some b → line_address z j ≡ Some b → i ≡ j) (sym (append-nil (lines_of known names uses n))) before)
      (λ one e f.
      let own = known_at known n (omega (arith, few)) in
      let apart : (k : ℕ) → line_address (lines_of known names uses n) k ≡ Some b → unwrap_or (address_in known n) [] ≡ b → ⊥
      = λ k g same. let found = node_of n k b (omega (arith, few)) g in let equal : found.0 ≡ n = once found.0 n b found.2 (own ∙ ap (λ z. Some z) same) in omega (arith, equal, found.1) in
      elim (last_or_not (λ (n : Line). n.address) (lines_of known names uses n) (line_at n) i b e) [
        | inl g ↦ elim (last_or_not (λ (n : Line). n.address) (lines_of known names uses n) (line_at n) j b f) [
          | inl h ↦ before g h
          | inr at ↦ absurd (apart i g at.1)
        ]
        | inr at ↦ elim (last_or_not (λ (n : Line). n.address) (lines_of known names uses n) (line_at n) j b f) [
          | inl h ↦ absurd (apart j h at.1)
          | inr too ↦ at.0 ∙ sym too.0
        ]
      ])
