-- The addresses in preorder, listed by number.
use Rattle.embed_plan.proofs.Prelude.{◌++◌, ◌∙◌, ◌≡◌, List, ap, sym, ℕ, take, length, refl, [], arith, map, ◌∷◌, get_or, inl, inr, ◌-◌, suc, zero, ◌+◌, ◌<◌, concat, address_at, address_below, sibling_of, Address, Tree, Trees, inner, leaf, more, nodes, nodes_below, none, addresses, addresses_below}
use Rattle.std.proofs.lemmas.List.{append-nil, length-append, length-map, map-append, take_more, get_or_append_left, get_or-append-add, get_or-map}
use Rattle.std.proofs.lemmas.List.Folds.{concat-append}
use Rattle.std.proofs.lemmas.Bool.{cases_lt}
use Rattle.policy_core.proofs.NumberedAddresses.{sibling-first, way-first, sibling-later, way-later}

mutual
  pub count : {Q : Type 0} (t : Tree Q) → length (addresses t) ≡ nodes t
  count (leaf q) = refl
  count (inner q ts) = omega (arith, count_below ts 0)

  count_below : {Q : Type 0} (ts : Trees Q) (i : ℕ) → length (addresses_below ts i) ≡ nodes_below ts
  count_below none i = refl
  count_below (more t ts) i =
      omega (arith, length-append (map (λ (a : Address). i ∷ a) (addresses t)) (addresses_below ts (suc i)), length-map (addresses t) (λ (a : Address). i ∷ a), count t, count_below ts (suc i))

-- an address in the first child, or after it
listed_first : {Q : Type 0} (t : Tree Q) (ts : Trees Q) (i n : ℕ) → n < nodes t → get_or (addresses t) n [] ≡ address_at t n → get_or (addresses_below (more t ts) i) n [] ≡ (i + sibling_of (more t ts) n) ∷ address_below (more t ts) n
listed_first t ts i n h own_is =
    let own = map (λ (a : Address). i ∷ a) (addresses t) in
    let short : n < length (addresses t) = omega (arith, h, count t) in
    let zero' : i + 0 ≡ i = omega arith in
    get_or_append_left own (addresses_below ts (suc i)) [] n (omega (arith, short, length-map (addresses t) (λ (a : Address). i ∷ a)))
    ∙ get_or-map (λ (a : Address). i ∷ a) (addresses t) n [] [] short
    ∙ ap (λ (a : Address). i ∷ a) own_is
    ∙ sym (ap (λ (k : ℕ). (i + k) ∷ address_below (more t ts) n) (sibling-first t ts n h) ∙ ap (λ (k : ℕ). k ∷ address_below (more t ts) n) zero' ∙ ap (λ (a : Address). i ∷ a) (way-first t ts n h))

listed_later : {Q : Type 0} (t : Tree Q) (ts : Trees Q) (i m : ℕ) → get_or (addresses_below ts (suc i)) m [] ≡ (suc i + sibling_of ts m) ∷ address_below ts m → get_or (addresses_below (more t ts) i) (nodes t + m) [] ≡ (i + sibling_of (more t ts) (nodes t + m)) ∷ address_below (more t ts) (nodes t + m)
listed_later t ts i m later_is =
    let own = map (λ (a : Address). i ∷ a) (addresses t) in
    let long : length own ≡ nodes t = length-map (addresses t) (λ (a : Address). i ∷ a) ∙ count t in
    let more' : i + suc (sibling_of ts m) ≡ suc i + sibling_of ts m = omega arith in
    ap (λ (k : ℕ). get_or (own ++ addresses_below ts (suc i)) (k + m) []) (sym long)
    ∙ get_or-append-add own (addresses_below ts (suc i)) m []
    ∙ later_is
    ∙ sym (ap (λ (k : ℕ). (i + k) ∷ address_below (more t ts) (nodes t + m)) (sibling-later t ts m) ∙ ap (λ (k : ℕ). k ∷ address_below (more t ts) (nodes t + m)) more' ∙ ap (λ (a : Address). (suc i + sibling_of ts m) ∷ a) (way-later t ts m))

mutual
  pub listed : {Q : Type 0} (t : Tree Q) (n : ℕ) → n < nodes t → get_or (addresses t) n [] ≡ address_at t n
  listed (leaf q) zero l = refl
  listed (leaf q) (suc n) l = absurd (omega (arith, l))
  listed (inner q ts) zero l = refl
  listed (inner q ts) (suc n) l =
      let e : 0 + sibling_of ts n ≡ sibling_of ts n = omega arith in
      listed_below ts 0 n (omega (arith, l)) ∙ ap (λ (k : ℕ). k ∷ address_below ts n) e

  listed_below : {Q : Type 0} (ts : Trees Q) (i n : ℕ) → n < nodes_below ts → get_or (addresses_below ts i) n [] ≡ (i + sibling_of ts n) ∷ address_below ts n
  listed_below none i n l = absurd (omega (arith, l))
  listed_below (more t ts) i n l =
      elim (cases_lt n (nodes t)) [
        | inl h ↦ listed_first t ts i n h (listed t n h)
        | inr h ↦
            let e : nodes t + (n - nodes t) ≡ n = omega (arith, h) in
            ap (λ (k : ℕ). get_or (addresses_below (more t ts) i) k []) (sym e)
            ∙ listed_later t ts i (n - nodes t) (listed_below ts (suc i) (n - nodes t) (omega (arith, l, h)))
            ∙ ap (λ (k : ℕ). (i + sibling_of (more t ts) k) ∷ address_below (more t ts) k) e
      ]

-- the lines with one more node
pub one_more : {Q : Type 0} (t : Tree Q) (line : Address → List ℕ) (n : ℕ) → n < nodes t
    → concat (map line (take (n + 1) (addresses t))) ≡ concat (map line (take n (addresses t))) ++ line (address_at t n)
one_more t line n l =
    let e : take (n + 1) (addresses t) ≡ take n (addresses t) ++ address_at t n ∷ [] =
    take_more (addresses t) n [] (omega (arith, l, count t)) ∙ ap (λ (a : Address). take n (addresses t) ++ a ∷ []) (listed t n l) in
    ap (λ (all : List Address). concat (map line all)) e
    ∙ ap concat (map-append line (take n (addresses t)) (address_at t n ∷ []))
    ∙ concat-append (map line (take n (addresses t))) (line (address_at t n) ∷ [])
    ∙ ap (λ (s : List ℕ). concat (map line (take n (addresses t))) ++ s) (append-nil (line (address_at t n)))
