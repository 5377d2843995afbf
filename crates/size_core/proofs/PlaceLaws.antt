-- The addresses of nodes in the order of their indices.
use Rattle.size_core.proofs.Prelude.{◌≡◌, ◌∙◌, ℕ, length, ap, List, arith, ◌+◌, [], refl, ◌∷◌, ◌++◌, suc, Bool, false, true, if◌then◌else◌, take, ◌||◌, list_any, Vec, nat_eq, Address, Keys, Grows, addresses, add_paths, add_prefixes, add, add_path}
use Rattle.std.specs.declared.alloc.Global.{Global}
use Rattle.std.specs.Cmp.Lexicographic.{pointwise}
use Rattle.indexmap.specs.IndexSet.{insert_key}
use Rattle.size_core.proofs.Lists.{grows-more}

-- two keys with one address
abbrev pub same_key : Vec ℕ Global → Vec ℕ Global → Bool
same_key x y = pointwise nat_eq x.items y.items

any-key : (known : Keys) (k : Vec ℕ Global) → list_any (same_key k) known ≡ list_any (pointwise nat_eq k.items) (addresses known)
any-key [] k = refl
any-key (x ∷ known) k = ap (λ (b : Bool). same_key k x || b) (any-key known k)

-- the address of a key is added
pub insert-adds : (known : Keys) (k : Vec ℕ Global) → addresses (insert_key same_key known k) ≡ add (addresses known) k.items
insert-adds known k = ap (λ (b : Bool). addresses (if b then known else known ++ k ∷ [])) (any-key known k) ∙ either (list_any (pointwise nat_eq k.items) (addresses known))
  where
    append : (known : Keys) → addresses (known ++ k ∷ []) ≡ addresses known ++ k.items ∷ []
    append [] = refl
    append (x ∷ known) = ap (λ (z : List Address). x.items ∷ z) (append known)

    either : (b : Bool) → addresses (if b then known else known ++ k ∷ []) ≡ (if b then addresses known else addresses known ++ k.items ∷ [])
    either true = refl
    either false = append known

-- and each address keeps its index
pub insert-grows : (known : Keys) (k : Vec ℕ Global) → Grows known (insert_key same_key known k)
insert-grows known k = either (list_any (same_key k) known)
  where
    either : (b : Bool) → Grows known (if b then known else known ++ k ∷ [])
    either true = λ i b e. e
    either false = grows-more known k

-- one prefix more
pub prefixes-more : (known : List Address) (a : Address) (n : ℕ) → add_prefixes known a (n + 1) ≡ add (add_prefixes known a n) (take n a)
prefixes-more known a n = ap (λ (k : ℕ). add_prefixes known a k) (let e : n + 1 ≡ suc n = omega arith in e)

take-whole : (a : List ℕ) → take (length a) a ≡ a
take-whole [] = refl
take-whole (x ∷ a) = ap (λ (z : List ℕ). x ∷ z) (take-whole a)

-- all prefixes above an address, and then the address
pub path-is : (known : List Address) (a : Address) → add_path known a ≡ add (add_prefixes known a (length a)) a
path-is known a = prefixes-more known a (length a) ∙ ap (λ (z : List ℕ). add (add_prefixes known a (length a)) z) (take-whole a)

-- one path more
pub paths-more : (f : ℕ → Address) (n : ℕ) (known : List Address) → add_paths f (n + 1) known ≡ add_path (add_paths f n known) (f n)
paths-more f n known = ap (λ (k : ℕ). add_paths f k known) (let e : n + 1 ≡ suc n = omega arith in e)
