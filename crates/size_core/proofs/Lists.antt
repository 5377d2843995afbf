-- Properties of each item of a list, by index.
use Rattle.size_core.proofs.Prelude.{◌≡◌, ℕ, length, List, arith, subst, ◌<◌, IfSome, Some, [], ◌∷◌, Option, ◌++◌, suc, None, zero, Bool, ◌≢◌, set, ForSome, slice_get, Vec, Address, AreInside, address_in, Keys, Grows, IsHop, IsPath, AreUnused, unused_at, Has, Hop}
use Rattle.std.specs.declared.alloc.Global.{Global}
use Rattle.size_core.specs.declared.node.Node.{Node}

-- one more item
pub each_push : {A : Type 0} (P : ℕ → A → Type 0) (xs : List A) (x : A) → ((i : ℕ) → IfSome (slice_get xs i) (P i)) → P (length xs) x → (i : ℕ) → IfSome (slice_get (xs ++ x ∷ []) i) (P i)
each_push P [] x each own zero = own
each_push P [] x each own (suc i) = tt
each_push P (y ∷ xs) x each own zero = each 0
each_push P (y ∷ xs) x each own (suc i) = each_push (λ n. P (suc n)) xs x (λ n. each (suc n)) own i

-- a weaker property
pub each_weaker : {A : Type 0} (P Q : ℕ → A → Type 0) (xs : List A) → ((i : ℕ) → IfSome (slice_get xs i) (P i)) → ((i : ℕ) (y : A) → P i y → Q i y) → (i : ℕ) → IfSome (slice_get xs i) (Q i)
each_weaker P Q [] each f i = tt
each_weaker P Q (y ∷ xs) each f zero = f 0 y (each 0)
each_weaker P Q (y ∷ xs) each f (suc i) = each_weaker (λ n. P (suc n)) (λ n. Q (suc n)) xs (λ n. each (suc n)) (λ n. f (suc n)) i

-- one item changes
pub each_set : {A : Type 0} (P Q : ℕ → A → Type 0) (xs : List A) (k : ℕ) (x : A) → ((i : ℕ) → IfSome (slice_get xs i) (P i)) → Q k x → ((i : ℕ) (y : A) → i ≢ k → P i y → Q i y)
    → (i : ℕ) → IfSome (slice_get (set xs k x) i) (Q i)
each_set P Q [] k x each own other i = tt
each_set P Q (y ∷ xs) zero x each own other zero = own
each_set P Q (y ∷ xs) zero x each own other (suc i) = each_weaker (λ n. P (suc n)) (λ n. Q (suc n)) xs (λ n. each (suc n)) (λ n z h. other (suc n) z (λ e. omega (arith, e)) h) i
each_set P Q (y ∷ xs) (suc k) x each own other zero = other 0 y (λ e. omega (arith, e)) (each 0)
each_set P Q (y ∷ xs) (suc k) x each own other (suc i) =
    each_set (λ n. P (suc n)) (λ n. Q (suc n)) xs k x (λ n. each (suc n)) own (λ n z ne h. other (suc n) z (λ e. ne (omega (arith, e))) h) i

-- ---- addresses
pub hop-grows : (old new : Keys) (a : Address) (steps : List ℕ) (depth : ℕ) (h : Hop) → Grows old new → IsHop old a steps depth h → IsHop new a steps depth h
hop-grows old new a steps depth h grows is = record { node = grows h.node _ is.node; step = is.step; digit = is.digit }

pub path-grows : (old new : Keys) (a : Address) (steps : List ℕ) (hops : List Hop) → Grows old new → IsPath old a steps hops → IsPath new a steps hops
path-grows old new a steps hops grows is = record { long = is.long; each = each_weaker (λ depth h. IsHop old a steps depth h) (λ depth h. IsHop new a steps depth h) hops is.each (λ depth h. hop-grows old new a steps depth h grows) }

pub grows-more : (keys : Keys) (k : Vec ℕ Global) → Grows keys (keys ++ k ∷ [])
grows-more [] k i b e = absurd (let n : None ≡ Some b = e in cc)
grows-more (x ∷ keys) k zero b e = e
grows-more (x ∷ keys) k (suc i) b e = grows-more keys k i b e

-- an index that has an address is in range
pub in_range : (known : Keys) (i : ℕ) (b : Address) → address_in known i ≡ Some b → i < length known
in_range [] i b e = absurd (let n : None ≡ Some b = e in cc)
in_range (x ∷ known) zero b e = omega arith
in_range (x ∷ known) (suc i) b e = omega (arith, in_range known i b e)

for_some : {A : Type 0} (o : Option A) (P : A → Type 0) → IfSome o P → ForSome o P
for_some None P h x e = absurd (let n : None ≡ Some x = e in cc)
for_some (Some y) P h x e = let same : y ≡ x = cc in subst P same h

pub path-inside : (known : Keys) (count : ℕ) (a : Address) (steps : List ℕ) (hops : List Hop) → count ≡ length known → IsPath known a steps hops → AreInside count hops
path-inside known count a steps hops same is k h e = omega (arith, same, in_range known h.node _ (for_some (slice_get hops k) (IsHop known a steps k) (is.each k) h e).node)

pub some_at : {A : Type 0} (P : ℕ → A → Type 0) (xs : List A) → ((i : ℕ) → IfSome (slice_get xs i) (P i)) → (i : ℕ) → ForSome (slice_get xs i) (P i)
some_at P xs each i = for_some (slice_get xs i) (P i) (each i)

-- ---- unused nodes
under : {A : Type 0} (o : Option A) (E : Type 0) (P : A → Type 0) → (E → IfSome o P) → IfSome o (λ x. E → P x)
under None E P h = tt
under (Some x) E P h = h

given : {A : Type 0} (o : Option A) (E : Type 0) (P : A → Type 0) → IfSome o (λ x. E → P x) → E → IfSome o P
given None E P h e = tt
given (Some x) E P h e = h e

pub unused-push : (arities : List ℕ) (stores : Bool) (known : Keys) (nodes : List Node) (n : Node) → AreUnused arities stores known nodes
    → ((b : Address) → address_in known (length nodes) ≡ Some b → Has n (unused_at arities stores b)) → AreUnused arities stores known (nodes ++ n ∷ [])
unused-push arities stores known nodes n unused own i b e =
    given (slice_get (nodes ++ n ∷ []) i) (address_in known i ≡ Some b) (λ m. Has m (unused_at arities stores b))
    (each_push (λ j m. address_in known j ≡ Some b → Has m (unused_at arities stores b)) nodes n
    (λ j. under (slice_get nodes j) (address_in known j ≡ Some b) (λ m. Has m (unused_at arities stores b)) (unused j b)) (own b) i) e
