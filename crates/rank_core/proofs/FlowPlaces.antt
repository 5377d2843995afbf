-- Flows with room, each at its index: lookups after adding a flow, and after changing the values at
-- an index.
use Rattle.rank_core.proofs.Prelude.{◌≡◌, sym, ◌∙◌, List, ap, arith, [], length, ℕ, refl, ◌∷◌, Some, IsSome, ◌<◌, ◌≢◌, Option, Vec, None, suc, zero, ◌++◌, BTreeMap, Updates, lookup, slice_get, option_map, Global, by_same_who, FlowKey, Flow, has_key, key_of, numbers_at, items_of, cmp-value, OrderedKey}
use Rattle.std.proofs.lemmas.Option.{slice_get_within}
use Rattle.rank_core.proofs.FlowMaps.{flow-of, update_there, update_others}

some-of : {X : Type 0} {x y : X} → Some x ≡ Some y → x ≡ y
some-of e = cc

-- ---- lists with one more item
get-last : {X : Type 0} (xs : List X) (x : X) (i : ℕ) → i ≡ length xs → slice_get (xs ++ x ∷ []) i ≡ Some x
get-last [] x zero e = refl
get-last [] x (suc i) e = cc
get-last (y ∷ xs) x zero e = cc
get-last (y ∷ xs) x (suc i) e = get-last xs x i (omega (arith, e))

get-before : {X : Type 0} (xs : List X) (x : X) (i : ℕ) → i < length xs → slice_get (xs ++ x ∷ []) i ≡ slice_get xs i
get-before [] x i h = absurd (omega (arith, h))
get-before (y ∷ xs) x zero h = refl
get-before (y ∷ xs) x (suc i) h = get-before xs x i (omega (arith, h))

-- the item at an index is the last one, or was there before
last-or-before : {X P : Type 0} (xs : List X) (x y : X) (i : ℕ) → slice_get (xs ++ x ∷ []) i ≡ Some y → (slice_get xs i ≡ Some y → P) → (i ≡ length xs → x ≡ y → P) → P
last-or-before [] x y zero e old new = new refl (some-of e)
last-or-before [] x y (suc i) e old new = (let f : None ≡ Some y = e in cc)
last-or-before (z ∷ xs) x y zero e old new = old e
last-or-before (z ∷ xs) x y (suc i) e old new = last-or-before xs x y i e old (λ q. new (ap suc q))

-- ---- the map's index of each flow agrees with the list of flows
abbrev pub IsThere : BTreeMap OrderedKey ℕ → List FlowKey → Type 0
IsThere m flows = (f : FlowKey) (i : ℕ) → lookup (has_key f) m.entries ≡ Some i → slice_get flows i ≡ Some f

abbrev pub IsFound : BTreeMap OrderedKey ℕ → List FlowKey → Type 0
IsFound m flows = (f : FlowKey) (i : ℕ) → slice_get flows i ≡ Some f → lookup (has_key f) m.entries ≡ Some i

-- a flow is added at the last index
module _ (m n : BTreeMap OrderedKey ℕ) (flows : List FlowKey) (f : FlowKey) {k : OrderedKey} (key : k ≡ key_of f) (u : Updates cmp-value.it m n k (Some (length flows))) where
  pub still-there : IsThere m flows → IsThere n (flows ++ f ∷ [])
  still-there there g i at =
      by_same_who (Flow g) (Flow f)
      (λ e.
      let is : g ≡ f = flow-of e in
      let last : i ≡ length flows = some-of (sym at ∙ ap (λ (h : FlowKey). lookup (has_key h) n.entries) is ∙ update_there m n f (Some (length flows)) key u) in
      get-last flows f i last ∙ ap Some (sym is))
      (λ other.
      let old : slice_get flows i ≡ Some g = there g i (sym (update_others m n f g (Some (length flows)) key u (λ e. other (ap Flow e))) ∙ at) in
      get-before flows f i (slice_get_within flows i g old) ∙ old)

  pub still-found : IsFound m flows → lookup (has_key f) m.entries ≡ None → IsFound n (flows ++ f ∷ [])
  still-found found absent g i at =
      last-or-before flows f g i at
      (λ old. update_others m n f g (Some (length flows)) key u (λ e. (let x : None ≡ Some i = sym absent ∙ ap (λ (h : FlowKey). lookup (has_key h) m.entries) (sym e) ∙ found g i old in cc)) ∙ found g i old)
      (λ last same. ap (λ (h : FlowKey). lookup (has_key h) n.entries) (sym same) ∙ update_there m n f (Some (length flows)) key u ∙ ap Some (sym last))

  -- the new flow has its values
  pub numbers-last : (numbers : List (Vec ℕ Global)) (v : Vec ℕ Global) → length numbers ≡ length flows → numbers_at (numbers ++ v ∷ []) (lookup (has_key f) n.entries) ≡ Some v.items
  numbers-last numbers v even = ap (numbers_at (numbers ++ v ∷ [])) (update_there m n f (Some (length flows)) key u) ∙ ap (option_map items_of) (get-last numbers v (length flows) (sym even))

  -- the values of the others are unchanged
  pub numbers-before : (numbers : List (Vec ℕ Global)) (v : Vec ℕ Global) → length numbers ≡ length flows → IsThere m flows → (g : FlowKey) → g ≢ f → numbers_at (numbers ++ v ∷ []) (lookup (has_key g) n.entries) ≡ numbers_at numbers (lookup (has_key g) m.entries)
  numbers-before numbers v even there g other =
      ap (numbers_at (numbers ++ v ∷ [])) (update_others m n f g (Some (length flows)) key u other)
      ∙ before (lookup (has_key g) m.entries) (λ i at. omega (arith, even, slice_get_within flows i g (there g i at)))
    where
      before : (o : Option ℕ) → ((i : ℕ) → o ≡ Some i → i < length numbers) → numbers_at (numbers ++ v ∷ []) o ≡ numbers_at numbers o
      before None within = refl
      before (Some i) within = ap (option_map items_of) (get-before numbers v i (within i refl))

-- ---- the values at one index change
pub numbers-others : (m : BTreeMap OrderedKey ℕ) (flows : List FlowKey) (old new : List (Vec ℕ Global)) (f : FlowKey) (place : ℕ) → IsThere m flows → lookup (has_key f) m.entries ≡ Some place
    → ((i : ℕ) → i ≢ place → slice_get new i ≡ slice_get old i) → (g : FlowKey) → g ≢ f → numbers_at new (lookup (has_key g) m.entries) ≡ numbers_at old (lookup (has_key g) m.entries)
numbers-others m flows old new f place there at stay g other =
    same (lookup (has_key g) m.entries) (λ i is e. other (some-of (sym (there g i is) ∙ ap (slice_get flows) e ∙ there f place at)))
  where
    same : (o : Option ℕ) → ((i : ℕ) → o ≡ Some i → i ≢ place) → numbers_at new o ≡ numbers_at old o
    same None apart = refl
    same (Some i) apart = ap (option_map items_of) (stay i (apart i refl))

-- the index of a flow is within the list
pub place-within : (m : BTreeMap OrderedKey ℕ) (flows : List FlowKey) (f : FlowKey) (place : ℕ) → IsThere m flows → lookup (has_key f) m.entries ≡ Some place → place < length flows
place-within m flows f place there at = slice_get_within flows place f (there f place at)

-- a flow with an index has values
pub has-numbers : (numbers : List (Vec ℕ Global)) (i : ℕ) → i < length numbers → IsSome (numbers_at numbers (Some i))
has-numbers [] i h = absurd (omega (arith, h))
has-numbers (v ∷ numbers) zero h = refl
has-numbers (v ∷ numbers) (suc i) h = has-numbers numbers i (omega (arith, h))

-- a flow without an index has none
pub no-place : (numbers : List (Vec ℕ Global)) (o : Option ℕ) → None ≡ o → IsSome (numbers_at numbers o) → ⊥
no-place numbers None e h = cc
no-place numbers (Some i) e h = cc
