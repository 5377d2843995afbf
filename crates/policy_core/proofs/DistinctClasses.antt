-- If no name is declared again, the classes are distinct.
use Rattle.policy_core.proofs.Prelude.{List, ◌≡◌, ℕ, ap, [], ◌∙◌, arith, length, ◌<◌, ◌∷◌, refl, get_or, suc, true, zero, inl, inr, false, ◌||◌, cond, cases_Bool, eqb-true, sum_by-cons, AllByRecursion, IsDistinct, option_map_or, bytes_eq, declared-distinct, NoLine, IsRepeated, is_declared, is_not_listed_once, AreRising, Name, declared, has, class_name, is_once, Entry, Sense, node, class, filtered, version, each, keep, pop, push, transaction}
use Rattle.policy_text_defs.specs.Sense.{leaf}
use Rattle.policy_rules.specs.Names.{times}
use Rattle.policy_core.proofs.AcceptedStatements.{holds}

-- a class that isn't declared again is new
new-class : (earlier : List Entry) (s : Sense) → is_declared earlier s ≡ false → option_map_or (has (declared class_name earlier)) (class_name s) false ≡ false
new-class earlier (version v) new = refl
new-class earlier (transaction t) new = refl
new-class earlier (keep m s) new = refl
new-class earlier (each m s) new = refl
new-class earlier (push m t) new = refl
new-class earlier (pop m t) new = refl
new-class earlier (class m a cs) new = new
new-class earlier (filtered m a cs) new = new
new-class earlier (leaf m u a q ns) new = refl
new-class earlier (node m u a q ns) new = refl

pub distinct-classes : (es : List Entry) → AreRising es → NoLine (IsRepeated es) es → IsDistinct bytes_eq (declared class_name es)
distinct-classes es rising fine = declared-distinct class_name es rising new-class fine

-- ---- classes that pass the clause are listed
-- 1 for the same name
abbrev is : Name → Name → ℕ
is c y = cond (bytes_eq c y) 1 0

some-counted : (a : Name) (names : List Name) → 0 < times names a → has names a ≡ true
some-counted a [] h = absurd (omega arith)
some-counted a (x ∷ xs) h = elim (cases_Bool (bytes_eq a x)) [
  | inl same ↦ ap (λ b. b || has xs a) same
  | inr other ↦ (
      let none : is a x ≡ 0 = ap (λ b. cond b 1 0) other in
      let r : has xs a ≡ true = some-counted a xs (omega (arith, h, none, sum_by-cons (is a) x xs)) in
      ap (λ b. b || has xs a) other ∙ r)
]

once-there : (a : Name) (names : List Name) → is_once names a ≡ true → has names a ≡ true
once-there a names once = some-counted a names (omega (arith, eqb-true (times names a) 1 once))

pub classes-listed : (all : List Name) (es : List Entry) → AllByRecursion (λ (e : Entry). is_not_listed_once all e.1 ≡ true → ⊥) es → (k : ℕ) (d : Name) → k < length (declared class_name es) → has all (get_or (declared class_name es) k d) ≡ true
classes-listed all [] fine k d l = absurd (omega arith)
classes-listed all ((n, version v) ∷ es) fine k d l = classes-listed all es fine.1 k d l
classes-listed all ((n, transaction t) ∷ es) fine k d l = classes-listed all es fine.1 k d l
classes-listed all ((n, keep m s) ∷ es) fine k d l = classes-listed all es fine.1 k d l
classes-listed all ((n, each m s) ∷ es) fine k d l = classes-listed all es fine.1 k d l
classes-listed all ((n, push m t) ∷ es) fine k d l = classes-listed all es fine.1 k d l
classes-listed all ((n, pop m t) ∷ es) fine k d l = classes-listed all es fine.1 k d l
classes-listed all ((n, class m a cs) ∷ es) fine zero d l = once-there m all (holds (is_once all m) fine.0)
classes-listed all ((n, filtered m a cs) ∷ es) fine zero d l = once-there m all (holds (is_once all m) fine.0)
classes-listed all ((n, class m a cs) ∷ es) fine (suc k) d l = classes-listed all es fine.1 k d (omega arith)
classes-listed all ((n, filtered m a cs) ∷ es) fine (suc k) d l = classes-listed all es fine.1 k d (omega arith)
classes-listed all ((n, leaf m u a q ns) ∷ es) fine k d l = classes-listed all es fine.1 k d l
classes-listed all ((n, node m u a q ns) ∷ es) fine k d l = classes-listed all es fine.1 k d l
