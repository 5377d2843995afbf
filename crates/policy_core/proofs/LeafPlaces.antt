-- Setting a leaf at the indices of the classes that it lists.
use Rattle.policy_core.proofs.Prelude.{List, ◌≡◌, ℕ, ap, sym, subst, [], ◌∙◌, arith, length, ◌<◌, get_or, true, Some, None, inl, inr, ◌+◌, take, false, true≢false, ◌||◌, slice_index, ◌≢◌, ◌⊎◌, if◌then◌else◌, position, set, or-true, or-false, cases_Bool, get_or-set_other, get_or-set_same, length-set, list_any_at, list_any_more, bytes_eq-Decides, bytes_eq, place-within, at-place, found, Name, has, place, ArePut}
use Rattle.std.proofs.lemmas.List.Quantifiers.{position-Some}
use Rattle.policy_core.proofs.PlacePrograms.{none-some, some-same}

-- names with the same index are equal
same-place : (names : List Name) (a b : Name) → has names a ≡ true → has names b ≡ true → place names a ≡ place names b → a ≡ b
same-place names a b there there' same = sym (at-place names a [] there) ∙ ap (λ k. get_or names k []) same ∙ at-place names b [] there'

there-from : (names : List Name) (a : Name) (p : ℕ) → position (bytes_eq a) names ≡ Some p → has names a ≡ true
there-from names a p is = (let at : (p < length names) × (bytes_eq a (get_or names p a) ≡ true) × ((k : ℕ) → k < p → bytes_eq a (get_or names k a) ≡ false) = position-Some (bytes_eq a) names p a is in list_any_at (bytes_eq a) names p a at.0 at.1)

pub put-some : (classes listed : List Name) (leaf i p : ℕ) (old now : List ℕ) (n : Name) → length old ≡ length classes → i < length listed → n ≡ get_or listed i n → position (bytes_eq n) classes ≡ Some p
    → ArePut classes (take i listed) leaf old now → ArePut classes (take (i + 1) listed) leaf old (set now p leaf)
put-some classes listed leaf i p old now n size short is at so_far = record {
  len = length-set now p leaf ∙ so_far.len;
  put = λ a there. by a there (cases_Bool (bytes_eq a n));
}
  where
    known : has classes n ≡ true
    known = there-from classes n p at

    own : p ≡ place classes n
    own = some-same (sym at ∙ found classes n known)

    more : (a : Name) → has (take (i + 1) listed) a ≡ (has (take i listed) a || bytes_eq a n)
    more a = list_any_more (bytes_eq a) listed i n short ∙ ap (λ x. has (take i listed) a || bytes_eq a x) (sym is)

    by : (a : Name) → has classes a ≡ true → (bytes_eq a n ≡ true) ⊎ (bytes_eq a n ≡ false) → slice_index (set now p leaf) (place classes a) ≡ (if has (take (i + 1) listed) a then leaf else slice_index old (place classes a))
    by a there (inl same) =
        let at_own : place classes a ≡ p = ap (place classes) ((bytes_eq-Decides a n).0 same) ∙ sym own in
        let within : p < length now = omega (arith, own, place-within classes n known, size, so_far.len) in
        let now_listed : has (take (i + 1) listed) a ≡ true = more a ∙ ap (λ b. has (take i listed) a || b) same ∙ or-true (has (take i listed) a) in
        ap (λ k. slice_index (set now p leaf) k) at_own ∙ get_or-set_same now p leaf 0 within
        ∙ ap (λ b. if b then leaf else slice_index old (place classes a)) (sym now_listed)
    by a there (inr other) =
        let apart : place classes a ≢ p = λ e. true≢false (sym ((bytes_eq-Decides a n).1 (same-place classes a n there known (e ∙ own))) ∙ other) in
        let as_before : has (take i listed) a ≡ has (take (i + 1) listed) a = sym (more a ∙ ap (λ b. has (take i listed) a || b) other ∙ or-false (has (take i listed) a)) in
        get_or-set_other now p (place classes a) leaf 0 apart ∙ so_far.put a there
        ∙ ap (λ b. if b then leaf else slice_index old (place classes a)) as_before

pub put-none : (classes listed : List Name) (leaf i : ℕ) (old now : List ℕ) (n : Name) → i < length listed → n ≡ get_or listed i n → position (bytes_eq n) classes ≡ None
    → ArePut classes (take i listed) leaf old now → ArePut classes (take (i + 1) listed) leaf old now
put-none classes listed leaf i old now n short is none so_far = record {
  len = so_far.len;
  put = λ a there. so_far.put a there ∙ ap (λ b. if b then leaf else slice_index old (place classes a)) (as_before a there (cases_Bool (bytes_eq a n)));
}
  where
    more : (a : Name) → has (take (i + 1) listed) a ≡ (has (take i listed) a || bytes_eq a n)
    more a = list_any_more (bytes_eq a) listed i n short ∙ ap (λ x. has (take i listed) a || bytes_eq a x) (sym is)

    as_before : (a : Name) → has classes a ≡ true → (bytes_eq a n ≡ true) ⊎ (bytes_eq a n ≡ false) → has (take i listed) a ≡ has (take (i + 1) listed) a
    as_before a there (inl same) = absurd (none-some (sym none ∙ found classes n (subst (λ (x : Name). has classes x ≡ true) ((bytes_eq-Decides a n).0 same) there)))
    as_before a there (inr other) = sym (more a ∙ ap (λ b. has (take i listed) a || b) other ∙ or-false (has (take i listed) a))
