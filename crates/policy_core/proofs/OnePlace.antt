-- A name is at one address of a tree.
use Rattle.policy_core.proofs.Prelude.{List, ◌≡◌, ℕ, ap, sym, subst, [], ◌∙◌, arith, length, ◌<◌, ◌∷◌, refl, get_or, suc, true, Some, zero, ◌++◌, inl, inr, ◌+◌, ◌≤◌, Contains, cond, length-append, eqb-true, cases_order, get_or_default, sum_by-cons, get_or-le-sum_by, bytes_eq-Decides, bytes_eq, Node, node_at, NoLine, root, IsOrphan, IsCyclic, Name, node_name, listed, is_once, IsTreeIn, Entry, Tree, Address, root_of}
use Rattle.std.specs.List.{sum_by}
use Rattle.policy_rules.specs.Names.{times, children}
use Rattle.policy_rules.proofs.ListedOnce.{times-listed, one_lister, child-once}
use Rattle.policy_core.proofs.PlacePrograms.{some-same}
use Rattle.policy_core.proofs.Statements.{at-one_place}
use Rattle.policy_core.proofs.NameWays.{StandsAt, ListsAt, IsAbove, at-top, last-step, node-declared, no-second_root}

-- ---- indices in a list
-- 1 for the same name
abbrev same_as : Name → Name → ℕ
same_as x y = cond (bytes_eq x y) 1 0

times-cons : (x y : Name) (ys : List Name) → times (y ∷ ys) x ≡ same_as x y + times ys x
times-cons x y ys = sum_by-cons (same_as x) y ys

is-one : (x y : Name) → y ≡ x → same_as x y ≡ 1
is-one x y is = ap (λ b. cond b 1 0) ((bytes_eq-Decides x y).1 (sym is))

some-at : (ys : List Name) (i : ℕ) (x : Name) → i < length ys → get_or ys i x ≡ x → 1 ≤ times ys x
some-at [] i x within is = absurd (omega arith)
some-at (y ∷ ys) zero x within is = omega (arith, times-cons x y ys, is-one x y is)
some-at (y ∷ ys) (suc i) x within is = omega (arith, times-cons x y ys, some-at ys i x (omega arith) is)

twice : (ys : List Name) (i j : ℕ) (x : Name) → i < j → j < length ys → get_or ys i x ≡ x → get_or ys j x ≡ x → 2 ≤ times ys x
twice [] i j x below within is_i is_j = absurd (omega arith)
twice (y ∷ ys) zero zero x below within is_i is_j = absurd (omega arith)
twice (y ∷ ys) zero (suc j) x below within is_i is_j = omega (arith, times-cons x y ys, is-one x y is_i, some-at ys j x (omega arith) is_j)
twice (y ∷ ys) (suc i) zero x below within is_i is_j = absurd (omega arith)
twice (y ∷ ys) (suc i) (suc j) x below within is_i is_j = omega (arith, times-cons x y ys, twice ys i j x (omega arith) (omega arith) is_i is_j)

-- a name that occurs at most once has one index
one-place : (ys : List Name) (i j : ℕ) (x : Name) → times ys x ≤ 1 → StandsAt ys i x → StandsAt ys j x → i ≡ j
one-place ys i j x once at_i at_j = elim (cases_order i j) [
  | inl same ↦ same
  | inr (inl below) ↦ absurd (omega (arith, once, twice ys i j x below at_j.within at_i.is at_j.is))
  | inr (inr above) ↦ absurd (omega (arith, once, twice ys j i x above at_i.within at_j.is at_i.is))
]

-- ---- one statement lists a child, at one index
times-once : (es : List Entry) (x : Name) (k : ℕ) (e : Entry) → is_once (listed children es) x ≡ true → k < length es → get_or es k e ≡ e → times (children e.1) x ≤ 1
times-once es x k e once within is =
    let one : times (listed children es) x ≡ 1 = eqb-true (times (listed children es) x) 1 once in
    let least : times (children (get_or es k e).1) x ≤ sum_by (λ (f : Entry). times (children f.1) x) es = get_or-le-sum_by (λ (f : Entry). times (children f.1) x) es k e within in
    subst (λ (f : Entry). times (children f.1) x ≤ 1) is (omega (arith, least, one, times-listed children es x))

record IsSamePlace (a b : Name) (i j : ℕ) : Type 0 where
  name : a ≡ b
  place : i ≡ j

one-lists : (es : List Entry) (x a b : Name) (i j : ℕ) → is_once (listed children es) x ≡ true → ListsAt es a i x → ListsAt es b j x → IsSamePlace a b i j
one-lists es x a b i j once (k, e, within_k, is_e, (name_e, at_e)) (l, f, within_l, is_f, (name_f, at_f)) = record {
  name = some-same (sym name_e ∙ ap (λ (g : Entry). node_name g.1) same ∙ name_f);
  place = one-place (children e.1) i j x (times-once es x k e once within_k is_e) at_e (subst (λ (g : Entry). StandsAt (children g.1) j x) (sym same) at_f);
}
  where
    holds_e : Contains (children (get_or es k e).1) x
    holds_e = subst (λ (g : Entry). Contains (children g.1) x) (sym is_e) (i, at_e.within, at_e.is)

    holds_f : Contains (children (get_or es l e).1) x
    holds_f = subst (λ (g : Entry). Contains (children g.1) x) (sym (sym (get_or_default es l f e within_l) ∙ is_f)) (j, at_f.within, at_f.is)

    same : e ≡ f
    same = at-one_place es k l e f (one_lister children es x once k l e within_k within_l holds_e holds_f) within_k is_e is_f

-- ---- addresses
-- an address by its last digit
record IsEnding (a : Address) : Type 0 where
  front : Address
  last : ℕ
  is : a ≡ front ++ last ∷ []

ending : (i : ℕ) (a : Address) → IsEnding (i ∷ a)
ending i [] = record { front = []; last = i; is = refl }
ending i (j ∷ a) = (let r : IsEnding (j ∷ a) = ending j a in record { front = i ∷ r.front; last = r.last; is = ap (λ (l : Address). i ∷ l) r.is })

module _ (es : List Entry) (acyclic : NoLine (IsCyclic es) es) (parents : NoLine (IsOrphan es) es) (t : Tree Node) (said : IsTreeIn es t) (top : (root_of t).name ≡ root) where
  below-once : (i : ℕ) (a : Address) (n : Node) → node_at t (i ∷ a) ≡ Some n → is_once (listed children es) n.name ≡ true
  below-once i a n at = child-once es n.name parents (node-declared es t (i ∷ a) n said at) (λ same. no-second_root es t i a n acyclic said at (same ∙ sym top))

  -- nodes of one name are at one address: the name is listed at one index of one node, and that
  -- node is again at one address
  by-length : (k : ℕ) (a b : Address) (n m : Node) → length a ≤ k → node_at t a ≡ Some n → node_at t b ≡ Some m → n.name ≡ m.name → a ≡ b
  by-length k [] [] n m short at_a at_b same = refl
  by-length k [] (j ∷ b) n m short at_a at_b same = absurd (no-second_root es t j b m acyclic said at_b (sym same ∙ ap (λ (x : Node). x.name) (sym (at-top t n at_a))))
  by-length k (i ∷ a) [] n m short at_a at_b same = absurd (no-second_root es t i a n acyclic said at_a (same ∙ ap (λ (x : Node). x.name) (sym (at-top t m at_b))))
  by-length zero (i ∷ a) (j ∷ b) n m short at_a at_b same = absurd (omega arith)
  by-length (suc k) (i ∷ a) (j ∷ b) n m short at_a at_b same =
      let c : IsEnding (i ∷ a) = ending i a in
      let d : IsEnding (j ∷ b) = ending j b in
      let above_n : IsAbove es (node_at t c.front) c.last n.name = last-step es t c.front c.last n said (ap (node_at t) (sym c.is) ∙ at_a) in
      let above_m : IsAbove es (node_at t d.front) d.last m.name = last-step es t d.front d.last m said (ap (node_at t) (sym d.is) ∙ at_b) in
      let one : IsSamePlace above_n.upper.name above_m.upper.name c.last d.last =
      one-lists es n.name above_n.upper.name above_m.upper.name c.last d.last (below-once i a n at_a) above_n.lists (subst (λ (x : Name). ListsAt es above_m.upper.name d.last x) (sym same) above_m.lists) in
      let size : suc (length a) ≡ length (c.front ++ c.last ∷ []) = ap length c.is in
      let fronts : c.front ≡ d.front = by-length k c.front d.front above_n.upper above_m.upper (omega (arith, short, size, length-append c.front (c.last ∷ []))) above_n.at above_m.at one.name in
      c.is ∙ ap (λ (l : Address). l ++ c.last ∷ []) fronts ∙ ap (λ i. d.front ++ i ∷ []) one.place ∙ sym d.is

pub one-address : (es : List Entry) → NoLine (IsCyclic es) es → NoLine (IsOrphan es) es → (t : Tree Node) → IsTreeIn es t → (root_of t).name ≡ root
    → (a b : Address) (n m : Node) → node_at t a ≡ Some n → node_at t b ≡ Some m → n.name ≡ m.name → a ≡ b
one-address es acyclic parents t said top a b n m at_a at_b same = by-length es acyclic parents t said top (length a) a b n m (omega arith) at_a at_b same
