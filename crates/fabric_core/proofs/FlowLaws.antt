-- Pushes and pops of a family keep its flow, and a pop finds an item below each entry.
use Rattle.fabric_core.proofs.Prelude.{ℕ, arith, ◌≡◌, List, ◌+◌, [], length, sym, ap, ◌∙◌, subst, ◌<◌, ◌∷◌, refl, drop, inl, inr, suc, Some, eqb, zero, ◌≢◌, cases_Bool, eqb-false, eqb-true, cases_lt, eq-eqb, ne_eqb, option_map, slice_index, fun_ext, Address, IsLeafAddress, Family, below, push_along, pop_along, popped_digit, popped_last, with_branch, option_bind-some, option_map-some, Queue, put, Taking, take_least, take_from, times, Popping, IsFlow, NamesBelow}
use Rattle.tree_defs.proofs.TakeLeast.{take_from-front, take_from-behind, length-put, length-rest}
use Rattle.tree_defs.proofs.WellFormedLaws.{times-put_same, times-put_other, times-taken_same, times-taken_other}
use Rattle.fabric_core.proofs.PushLaws.{push_along-same, push_along-other}

-- ---- queues
names-put : (d : ℕ) (q : Queue) (r x : ℕ) → NamesBelow d q → x < d → NamesBelow d (put q r x)
names-put d [] r x n l = (l, tt)
names-put d (e ∷ q) r x n l = (n.0, names-put d q r x n.1 l)

names-taken_from : (d r v : ℕ) (q : Queue) → v < d → NamesBelow d q → (take_from r v q).value < d
names-taken_from d r v [] h n = h
names-taken_from d r v (e ∷ q) h n =
    let P : Taking → Type 0 = λ t. t.value < d in
    elim (cases_lt (take_from e.0 e.1 q).rank r) [
      | inl k ↦ subst P (sym (take_from-behind r v e q k)) (names-taken_from d e.0 e.1 q n.0 n.1)
      | inr k ↦ subst P (sym (take_from-front r v e q k)) h
    ]

names-rest_from : (d r v : ℕ) (q : Queue) → v < d → NamesBelow d q → NamesBelow d (take_from r v q).rest
names-rest_from d r v [] h n = tt
names-rest_from d r v (e ∷ q) h n =
    let P : Taking → Type 0 = λ t. NamesBelow d t.rest in
    elim (cases_lt (take_from e.0 e.1 q).rank r) [
      | inl k ↦ subst P (sym (take_from-behind r v e q k)) (h, names-rest_from d e.0 e.1 q n.0 n.1)
      | inr k ↦ subst P (sym (take_from-front r v e q k)) n
    ]

-- a pair taken from a queue: the facts below hold for each pair popped
taken_is : (e : ℕ × ℕ) (q : Queue) (t : Taking) → take_least (e ∷ q) ≡ Some t → take_from e.0 e.1 q ≡ t
taken_is e q t p = cc

pub names-taken : (d : ℕ) (q : Queue) (t : Taking) → NamesBelow d q → take_least q ≡ Some t → t.value < d
names-taken d [] t n p = cc
names-taken d (e ∷ q) t n p = subst (λ (z : Taking). z.value < d) (taken_is e q t p) (names-taken_from d e.0 e.1 q n.0 n.1)

names-rest : (d : ℕ) (q : Queue) (t : Taking) → NamesBelow d q → take_least q ≡ Some t → NamesBelow d t.rest
names-rest d [] t n p = cc
names-rest d (e ∷ q) t n p = subst (λ (z : Taking). NamesBelow d z.rest) (taken_is e q t p) (names-rest_from d e.0 e.1 q n.0 n.1)

times-value : (q : Queue) (t : Taking) → take_least q ≡ Some t → times t.value q ≡ times t.value t.rest + 1
times-value [] t p = cc
times-value (e ∷ q) t p = subst (λ (z : Taking). times z.value (e ∷ q) ≡ times z.value z.rest + 1) (taken_is e q t p) (times-taken_same (take_from e.0 e.1 q).value e.0 e.1 q refl)

times-other : (q : Queue) (t : Taking) (i : ℕ) → take_least q ≡ Some t → t.value ≢ i → times i q ≡ times i t.rest
times-other [] t i p n = cc
times-other (e ∷ q) t i p n = subst (λ (z : Taking). z.value ≢ i → times i (e ∷ q) ≡ times i z.rest) (taken_is e q t p) (λ m. times-taken_other i e.0 e.1 q m) n

length-taken : (q : Queue) (t : Taking) → take_least q ≡ Some t → length q ≡ length t.rest + 1
length-taken [] t p = cc
length-taken (e ∷ q) t p = subst (λ (z : Taking). length (e ∷ q) ≡ length z.rest + 1) (taken_is e q t p) (omega (arith, length-rest e.0 e.1 q))

-- ---- pushes
root-push : (a : Address) (ranks : List ℕ) (item : ℕ) (F : Family) → length (push_along a ranks item F []) ≡ length (F []) + 1
root-push [] ranks item F = length-put (F []) (slice_index ranks 0) item
root-push (x ∷ a) ranks item F = length-put (F []) (slice_index ranks 0) x

pub flow-push : (ar : List ℕ) (F : Family) (a : Address) (ranks : List ℕ) (item : ℕ) → IsFlow ar F → IsLeafAddress ar a → IsFlow ar (push_along a ranks item F)
flow-push [] F a ranks item w l = tt
flow-push (d ∷ ar) F [] ranks item w l = absurd l
flow-push (d ∷ ar) F (x ∷ a) ranks item w l =
    let P : ℕ → Type 0 = λ z. (times z (put (F []) (slice_index ranks 0) x) ≡ length (push_along (x ∷ a) ranks item F (z ∷ []))) × IsFlow ar (below (push_along (x ∷ a) ranks item F) z) in (
      names-put d (F []) (slice_index ranks 0) x w.0 l.0,
      λ y m. elim (cases_Bool (eqb x y)) [
        | inl t ↦ subst P (eqb-true x y t) (
          times-put_same x (slice_index ranks 0) (F []) ∙ ap (λ (n : ℕ). n + 1) (w.1 x l.0).0 ∙ sym (root-push a (drop 1 ranks) item (below F x)) ∙ ap (λ (q : Queue). length q) (sym (push_along-same x a ranks item F [])),
          subst (λ (G : Family). IsFlow ar G) (sym (fun_ext (λ b. push_along-same x a ranks item F b))) (flow-push ar (below F x) a (drop 1 ranks) item (w.1 x l.0).1 l.1),
        )
        | inr t ↦ (
          times-put_other y (slice_index ranks 0) x (F []) (eqb-false x y t) ∙ (w.1 y m).0 ∙ ap (λ (q : Queue). length q) (sym (push_along-other x y a ranks item F [] (eqb-false x y t))),
          subst (λ (G : Family). IsFlow ar G) (sym (fun_ext (λ b. push_along-other x y a ranks item F b (eqb-false x y t)))) (w.1 y m).1,
        )
      ],
    )

-- ---- pops
pub branch-same : (F : Family) (q : Queue) (x : ℕ) (G : Family) (b : Address) → with_branch F q x G (x ∷ b) ≡ G b
branch-same F q x G b = rw (eq-eqb x x refl) refl

pub branch-other : (F : Family) (q : Queue) (x y : ℕ) (G : Family) (b : Address) → x ≢ y → with_branch F q x G (y ∷ b) ≡ F (y ∷ b)
branch-other F q x y G b n = rw (ne_eqb x y n) refl

branch-flow : (d : ℕ) (ar : List ℕ) (F : Family) (t : Taking) (y : Popping Family) → IsFlow (d ∷ ar) F → take_least (F []) ≡ Some t → t.value < d
    → length (F (t.value ∷ [])) ≡ length (y.left []) + 1 → IsFlow ar y.left → IsFlow (d ∷ ar) (with_branch F t.rest t.value y.left)
branch-flow d ar F t y w p l k f =
    let P : ℕ → Type 0 = λ z. (times z t.rest ≡ length (with_branch F t.rest t.value y.left (z ∷ []))) × IsFlow ar (below (with_branch F t.rest t.value y.left) z) in (
      names-rest d (F []) t w.0 p,
      λ z m. elim (cases_Bool (eqb t.value z)) [
        | inl c ↦ subst P (eqb-true t.value z c) (
          (let n : times t.value t.rest ≡ length (y.left []) = omega (arith, times-value (F []) t p, (w.1 t.value l).0, k) in n) ∙ ap (λ (q : Queue). length q) (sym (branch-same F t.rest t.value y.left [])),
          subst (λ (G : Family). IsFlow ar G) (sym (fun_ext (λ b. branch-same F t.rest t.value y.left b))) f,
        )
        | inr c ↦ (
          sym (times-other (F []) t z p (eqb-false t.value z c)) ∙ (w.1 z m).0 ∙ ap (λ (q : Queue). length q) (sym (branch-other F t.rest t.value z y.left [] (eqb-false t.value z c))),
          subst (λ (G : Family). IsFlow ar G) (sym (fun_ext (λ b. branch-other F t.rest t.value z y.left b (eqb-false t.value z c)))) (w.1 z m).1,
        )
      ],
    )

root-pop : (h : ℕ) (F : Family) (p : Popping Family) → pop_along h F ≡ Some p → length (F []) ≡ length (p.left []) + 1
root-pop zero F p e =
    let v : (t : Taking) × (take_least (F []) ≡ Some t) × (popped_last F t ≡ p) = option_map-some (popped_last F) (take_least (F [])) p e in
    subst (λ (z : Popping Family). length (F []) ≡ length (z.left []) + 1) v.2 (length-taken (F []) v.0 v.1)
root-pop (suc h) F p e =
    let v : (t : Taking) × (take_least (F []) ≡ Some t) × (option_map (popped_digit F t) (pop_along h (below F t.value)) ≡ Some p)
    = option_bind-some (λ t. option_map (popped_digit F t) (pop_along h (below F t.value))) (take_least (F [])) p e in
    let y : (r : Popping Family) × (pop_along h (below F v.0.value) ≡ Some r) × (popped_digit F v.0 r ≡ p) = option_map-some (popped_digit F v.0) (pop_along h (below F v.0.value)) p v.2 in
    subst (λ (z : Popping Family). length (F []) ≡ length (z.left []) + 1) y.2 (length-taken (F []) v.0 v.1)

pub flow-pop : (ar : List ℕ) (F : Family) (p : Popping Family) → IsFlow ar F → pop_along (length ar) F ≡ Some p → IsFlow ar p.left
flow-pop [] F p w e = tt
flow-pop (d ∷ ar) F p w e =
    let v : (t : Taking) × (take_least (F []) ≡ Some t) × (option_map (popped_digit F t) (pop_along (length ar) (below F t.value)) ≡ Some p)
    = option_bind-some (λ t. option_map (popped_digit F t) (pop_along (length ar) (below F t.value))) (take_least (F [])) p e in
    let y : (r : Popping Family) × (pop_along (length ar) (below F v.0.value) ≡ Some r) × (popped_digit F v.0 r ≡ p) = option_map-some (popped_digit F v.0) (pop_along (length ar) (below F v.0.value)) p v.2 in
    let l : v.0.value < d = names-taken d (F []) v.0 w.0 v.1 in
    subst (λ (z : Popping Family). IsFlow (d ∷ ar) z.left) y.2 (branch-flow d ar F v.0 y.0 w v.1 l (root-pop (length ar) (below F v.0.value) y.0 y.1) (flow-pop ar (below F v.0.value) y.0 (w.1 v.0.value l).1 y.1))

-- the popped child's queue has an entry
pub child-waits : (d : ℕ) (ar : List ℕ) (F : Family) (t : Taking) → IsFlow (d ∷ ar) F → take_least (F []) ≡ Some t → F (t.value ∷ []) ≢ []
child-waits d ar F t w p e =
    omega (arith, (w.1 t.value (names-taken d (F []) t w.0 p)).0, times-value (F []) t p, ap (λ (q : Queue). length q) e)
