-- Ranks in the stores of a node.
use Rattle.size_core.proofs.Prelude.{◌≡◌, ◌∙◌, ℕ, length, sym, ap, List, arith, subst, ◌+◌, ◌<◌, ◌≤◌, [], refl, ◌∷◌, ◌++◌, suc, zero, map, Bool, false, true, ◌-◌, get_or, nat_lt, if◌then◌else◌, set, drop, max, deque_items, replicate, length-append, get_or-map, length-map, map-set, flow_of, store_popped, Stores, head_in, leads, store_pushed, heads_in, last_rank, flow_popped, flow_pushed, with_flow, with_spill, StoreUse}
use Rattle.std.proofs.Common.{Global}
use Rattle.std.specs.declared.collections.VecDeque.{VecDeque}

-- the last rank is the one at the last index
pub last_is : (s : List ℕ) (d : ℕ) → 0 < length s → get_or s (length s - 1) d ≡ last_rank s
last_is [] d l = absurd (omega (arith, l))
last_is (r ∷ []) d l = refl
last_is (r ∷ v ∷ s) d l =
    let n : length (r ∷ v ∷ s) - 1 ≡ suc (length (v ∷ s) - 1) = omega arith in
    ap (λ (z : ℕ). get_or (r ∷ v ∷ s) z d) n ∙ last_is (v ∷ s) d (omega arith)

-- the number of heads after a flow changed
heads-set : (ss : List (List ℕ)) (i : ℕ) (s : List ℕ) → i < length ss → heads_in (set ss i s) + head_in (get_or ss i []) ≡ heads_in ss + head_in s
heads-set [] i s l = absurd (omega (arith, l))
heads-set (t ∷ ss) zero s l = omega arith
heads-set (t ∷ ss) (suc i) s l = omega (arith, heads-set ss i s (omega (arith, l)))

head-most : (s : List ℕ) → head_in s ≤ 1
head-most [] = omega arith
head-most (x ∷ s) = omega arith

heads-few : (ss : List (List ℕ)) → heads_in ss ≤ length ss
heads-few [] = omega arith
heads-few (s ∷ ss) = omega (arith, head-most s, heads-few ss)

pub heads-none : (n : ℕ) → heads_in (replicate n []) ≡ 0
heads-none zero = refl
heads-none (suc n) = omega (arith, heads-none n)

head-pushed : (s : List ℕ) (r : ℕ) → head_in (s ++ r ∷ []) ≡ 1
head-pushed [] r = refl
head-pushed (x ∷ s) r = refl

head-led : (r : ℕ) (s : List ℕ) → leads r s ≡ true → head_in s ≡ 1
head-led r [] e = absurd (let n : false ≡ true = e in cc)
head-led r (x ∷ s) e = refl

-- ---- flows as deques
abbrev Deque : Type 0
Deque = VecDeque ℕ Global

-- two reads of one index
pub same_read : (ss : List Deque) (i : ℕ) (x y : Deque) → i < length ss → x ≡ get_or ss i x → y ≡ get_or ss i y → x ≡ y
same_read [] i x y l p q = absurd (omega (arith, l))
same_read (s ∷ ss) zero x y l p q = p ∙ sym q
same_read (s ∷ ss) (suc i) x y l p q = same_read ss i x y (omega (arith, l)) p q

pub heads-below : (ss : List Deque) → heads_in (map deque_items ss) ≤ length ss
heads-below ss = omega (arith, heads-few (map deque_items ss), length-map ss (λ (s : Deque). deque_items s))

module _ (ss : List Deque) (i : ℕ) (old new : Deque) (within : i < length ss) (is : old ≡ get_or ss i old) where
  flows-set : map deque_items (set ss i new) ≡ set (map deque_items ss) i (deque_items new)
  flows-set = map-set deque_items ss i new

  flow-at : get_or (map deque_items ss) i [] ≡ deque_items old
  flow-at = get_or-map deque_items ss i old [] within ∙ ap (λ (s : Deque). deque_items s) (sym is)

  heads-changed : heads_in (map deque_items (set ss i new)) + head_in (deque_items old) ≡ heads_in (map deque_items ss) + head_in (deque_items new)
  heads-changed =
      let inside : i < length (map deque_items ss) = omega (arith, within, length-map ss (λ (s : Deque). deque_items s)) in
      let changed = heads-set (map deque_items ss) i (deque_items new) inside in
      subst (λ (r : List ℕ). heads_in (map deque_items (set ss i new)) + head_in r ≡ heads_in (map deque_items ss) + head_in (deque_items new)) flow-at
      (ap (λ (z : List (List ℕ)). heads_in z + head_in (get_or (map deque_items ss) i [])) flows-set ∙ changed)

  -- ---- a push
  pub heads-after_push : (heads more rank : ℕ) → heads ≡ heads_in (map deque_items ss) → more ≡ 1 - head_in (deque_items old) → deque_items new ≡ deque_items old ++ rank ∷ []
      → heads + more ≡ heads_in (map deque_items (set ss i new))
  heads-after_push heads more rank h m e =
      let one : head_in (deque_items new) ≡ 1 = ap head_in e ∙ head-pushed (deque_items old) rank in
      omega (arith, h, m, one, heads-changed, head-most (deque_items old))

  pub after_push : (spilled : ℕ) (most : StoreUse) (rank value : ℕ) → i ≡ flow_of (length ss) value → nat_lt rank (last_rank (deque_items old)) ≡ false → deque_items new ≡ deque_items old ++ rank ∷ []
      → (heads stored : ℕ) → heads ≡ heads_in (map deque_items (set ss i new)) → stored ≡ length (deque_items old) + 1
      → record { flows = map deque_items (set ss i new); spilled = spilled; most = record { heads = max most.heads heads; stored = max most.stored stored; spilled = most.spilled; spills = most.spills } }
      ≡ store_pushed rank value (record { flows = map deque_items ss; spilled = spilled; most = most })
  after_push spilled most rank value flow stays e heads stored h n =
      let s : Stores = record { flows = map deque_items ss; spilled = spilled; most = most } in
      let made : List (List ℕ) → ℕ → ℕ → Stores = λ flows heads stored. record { flows = flows; spilled = spilled; most = record { heads = max most.heads heads; stored = max most.stored stored; spilled = most.spilled; spills = most.spills } } in
      let at : i ≡ flow_of (length (map deque_items ss)) value = flow ∙ ap (λ (n : ℕ). flow_of n value) (sym (length-map ss (λ (s : Deque). deque_items s))) in
      let flows : map deque_items (set ss i new) ≡ set (map deque_items ss) i (deque_items old ++ rank ∷ []) = flows-set ∙ ap (λ (r : List ℕ). set (map deque_items ss) i r) e in
      let long : length (deque_items old) + 1 ≡ length (deque_items old ++ rank ∷ []) = sym (length-append (deque_items old) (rank ∷ [])) in
      ap (λ (x : ℕ). made (map deque_items (set ss i new)) x stored) h
      ∙ ap (λ (x : ℕ). made (map deque_items (set ss i new)) (heads_in (map deque_items (set ss i new))) x) (n ∙ long)
      ∙ ap (λ (z : List (List ℕ)). made z (heads_in z) (length (deque_items old ++ rank ∷ []))) flows
      ∙ ap (λ (b : Bool). if b then with_spill s else with_flow i (deque_items old ++ rank ∷ []) s) (sym stays)
      ∙ ap (λ (r : List ℕ). flow_pushed i r rank s) (sym flow-at)
      ∙ ap (λ (k : ℕ). flow_pushed k (get_or (map deque_items ss) k []) rank s) at

  -- ---- a pop
  pub heads-after_pop : (heads fewer rank : ℕ) → heads ≡ heads_in (map deque_items ss) → leads rank (deque_items old) ≡ true → fewer ≡ 1 - head_in (deque_items new)
      → (heads - fewer ≡ heads_in (map deque_items (set ss i new))) × (fewer ≤ heads)
  heads-after_pop heads fewer rank h e f =
      let one : head_in (deque_items old) ≡ 1 = head-led rank (deque_items old) e in
      (omega (arith, h, f, one, heads-changed, head-most (deque_items new)), omega (arith, h, f, one, heads-changed, head-most (deque_items new)))

  pub after_pop : (spilled : ℕ) (most : StoreUse) (rank value : ℕ) → i ≡ flow_of (length ss) value → leads rank (deque_items old) ≡ true → deque_items new ≡ drop 1 (deque_items old)
      → record { flows = map deque_items (set ss i new); spilled = spilled; most = most } ≡ store_popped rank value (record { flows = map deque_items ss; spilled = spilled; most = most })
  after_pop spilled most rank value flow led e =
      let s : Stores = record { flows = map deque_items ss; spilled = spilled; most = most } in
      let at : i ≡ flow_of (length (map deque_items ss)) value = flow ∙ ap (λ (n : ℕ). flow_of n value) (sym (length-map ss (λ (s : Deque). deque_items s))) in
      ap (λ (z : List (List ℕ)). record { flows = z; spilled = spilled; most = most }) (flows-set ∙ ap (λ (r : List ℕ). set (map deque_items ss) i r) e)
      ∙ ap (λ (b : Bool). if b then record { flows = set (map deque_items ss) i (drop 1 (deque_items old)); spilled = spilled; most = most } else record { flows = map deque_items ss; spilled = spilled - 1; most = most }) (sym led)
      ∙ ap (λ (r : List ℕ). flow_popped i r rank s) (sym flow-at)
      ∙ ap (λ (k : ℕ). flow_popped k (get_or (map deque_items ss) k []) rank s) at

  -- ---- spills
  pub after_spill : (spilled : ℕ) (most : StoreUse) (rank value : ℕ) → i ≡ flow_of (length ss) value → nat_lt rank (last_rank (deque_items old)) ≡ true
      → with_spill (record { flows = map deque_items ss; spilled = spilled; most = most }) ≡ store_pushed rank value (record { flows = map deque_items ss; spilled = spilled; most = most })
  after_spill spilled most rank value flow falls =
      let s : Stores = record { flows = map deque_items ss; spilled = spilled; most = most } in
      let at : i ≡ flow_of (length (map deque_items ss)) value = flow ∙ ap (λ (n : ℕ). flow_of n value) (sym (length-map ss (λ (s : Deque). deque_items s))) in
      ap (λ (b : Bool). if b then with_spill s else with_flow i (deque_items old ++ rank ∷ []) s) (sym falls)
      ∙ ap (λ (r : List ℕ). flow_pushed i r rank s) (sym flow-at)
      ∙ ap (λ (k : ℕ). flow_pushed k (get_or (map deque_items ss) k []) rank s) at

  pub after_spill_pop : (spilled : ℕ) (most : StoreUse) (rank value : ℕ) → i ≡ flow_of (length ss) value → leads rank (deque_items old) ≡ false
      → record { flows = map deque_items ss; spilled = spilled - 1; most = most } ≡ store_popped rank value (record { flows = map deque_items ss; spilled = spilled; most = most })
  after_spill_pop spilled most rank value flow led =
      let s : Stores = record { flows = map deque_items ss; spilled = spilled; most = most } in
      let at : i ≡ flow_of (length (map deque_items ss)) value = flow ∙ ap (λ (n : ℕ). flow_of n value) (sym (length-map ss (λ (s : Deque). deque_items s))) in
      ap (λ (b : Bool). if b then record { flows = set (map deque_items ss) i (drop 1 (deque_items old)); spilled = spilled; most = most } else record { flows = map deque_items ss; spilled = spilled - 1; most = most }) (sym led)
      ∙ ap (λ (r : List ℕ). flow_popped i r rank s) (sym flow-at)
      ∙ ap (λ (k : ℕ). flow_popped k (get_or (map deque_items ss) k []) rank s) at
