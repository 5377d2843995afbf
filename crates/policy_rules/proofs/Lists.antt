-- Properties of each element of a list, and of parts of the list.
use Rattle.policy_rules.proofs.Prelude.{List, [], ◌∷◌, ◌++◌, AllByRecursion}

module _ {X : Type 0} (P : X → Type 0) where
  pub all-append : (xs ys : List X) → AllByRecursion P xs → AllByRecursion P ys → AllByRecursion P (xs ++ ys)
  all-append [] ys first second = second
  all-append (x ∷ xs) ys first second = (first.0, all-append xs ys first.1 second)

  pub all-first : (xs ys : List X) → AllByRecursion P (xs ++ ys) → AllByRecursion P xs
  all-first [] ys h = tt
  all-first (x ∷ xs) ys h = (h.0, all-first xs ys h.1)

  pub all-second : (xs ys : List X) → AllByRecursion P (xs ++ ys) → AllByRecursion P ys
  all-second [] ys h = h
  all-second (x ∷ xs) ys h = all-second xs ys h.1

pub all-weaker : {X : Type 0} (P Q : X → Type 0) (xs : List X) → ((x : X) → P x → Q x) → AllByRecursion P xs → AllByRecursion Q xs
all-weaker P Q [] weaker h = tt
all-weaker P Q (x ∷ xs) weaker h = (weaker x h.0, all-weaker P Q xs weaker h.1)
