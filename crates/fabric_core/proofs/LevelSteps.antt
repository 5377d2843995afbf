-- The loop that makes the queues, level by level.
use Rattle.fabric_core.proofs.Prelude.{ℕ, arith, ◌≡◌, List, ◌+◌, [], length, sym, ap, get_or, ◌∙◌, subst, ◌<◌, ◌∷◌, ◌*◌, ◌≤◌, map, drop, ◌++◌, get_or-append_seam, drop_more, drop_all, length-map, get_or_append_left, map-append, AllByRecursion, fun_ext, Address, flows_at, HasFlows}
use Rattle.fabric_core.proofs.ArrayReads.{read-below, child_place}

-- ---- one queue more
pub all-added : {A : Type 0} (P : A → Type 0) (xs : List A) (x : A) → AllByRecursion P xs → P x → AllByRecursion P (xs ++ x ∷ [])
all-added P [] x a p = (p, tt)
all-added P (y ∷ xs) x a p = (a.0, all-added P xs x a.1 p)

module _ {Q A : Type 0} (f : Q → A) (qs : List Q) (q : Q) where
  pub map-added : map f (qs ++ q ∷ []) ≡ map f qs ++ f q ∷ []
  map-added = map-append f qs (q ∷ [])

  pub all_map-added : (P : A → Type 0) → AllByRecursion P (map f qs) → P (f q) → AllByRecursion P (map f (qs ++ q ∷ []))
  all_map-added P a p = subst (λ (z : List A). AllByRecursion P z) (sym map-added) (all-added P (map f qs) (f q) a p)

  pub kept-added : (j : ℕ) (d : A) → j < length qs → get_or (map f (qs ++ q ∷ [])) j d ≡ get_or (map f qs) j d
  kept-added j d l = ap (λ (z : List A). get_or z j d) map-added ∙ get_or_append_left (map f qs) (f q ∷ []) d j (omega (arith, l, length-map qs f))

  pub last-added : (j : ℕ) (d : A) → j ≡ length qs → get_or (map f (qs ++ q ∷ [])) j d ≡ f q
  last-added j d e =
      ap (λ (z : List A). get_or z j d) map-added ∙ ap (λ (z : ℕ). get_or (map f qs ++ f q ∷ []) z d) (e ∙ sym (length-map qs f)) ∙ get_or-append_seam (map f qs) (f q) [] d

-- ---- the levels
-- appending the queues of the levels below to these gives those of the whole tree
abbrev pub HasFlowsSoFar : List ℕ → ℕ → List ℕ → ℕ → ℕ → Type 0
HasFlowsSoFar arities level flows begin width =
    (now : List ℕ) → ((j : ℕ) → j < begin → get_or now j 0 ≡ get_or flows j 0)
    → ((place : ℕ) → place < width → HasFlows (drop level arities) (flows_at (drop level arities) now begin width place)) → HasFlows arities (flows_at arities now 0 1 0)

pub flows_below : (d : ℕ) (ar now : List ℕ) (begin width place : ℕ) → place < width → get_or now (begin + place) 0 ≡ d
    → ((p : ℕ) → p < width * d → HasFlows ar (flows_at ar now (begin + width) (width * d) p)) → HasFlows (d ∷ ar) (flows_at (d ∷ ar) now begin width place)
flows_below d ar now begin width place l e h = (
  e,
  λ x m.
      subst (λ (f : Address → ℕ). HasFlows ar f) (sym (fun_ext (λ b. read-below ar now 0 d begin width place x b m))) (h (place * d + x) (child_place place d x width l m)),
)

pub flows_next : (arities old new : List ℕ) (level begin width b : ℕ) → level < length arities → HasFlowsSoFar arities level old begin width
    → ((j : ℕ) → j < begin → get_or new j 0 ≡ get_or old j 0) → ((j : ℕ) → begin ≤ j → j < begin + width → get_or new j 0 ≡ get_or arities level 0)
    → b ≡ begin + width → HasFlowsSoFar arities (level + 1) new b (width * get_or arities level 0)
flows_next arities old new level begin width b l s kept here eb now same h =
    s now (λ j k. same j (omega (arith, eb, k)) ∙ kept j k)
    (λ place m. subst (λ (z : List ℕ). HasFlows z (flows_at z now begin width place)) (sym (drop_more arities level 0 l))
    (flows_below (get_or arities level 0) (drop (level + 1) arities) now begin width place m
    (same (begin + place) (omega (arith, eb, m)) ∙ here (begin + place) (omega arith) (omega (arith, m)))
    (λ p k. subst (λ (z : ℕ). HasFlows (drop (level + 1) arities) (flows_at (drop (level + 1) arities) now z (width * get_or arities level 0) p)) eb (h p k))))

pub flows_last : (arities old new : List ℕ) (level begin width : ℕ) → length arities ≤ level → HasFlowsSoFar arities level old begin width
    → ((j : ℕ) → j < begin → get_or new j 0 ≡ get_or old j 0) → ((j : ℕ) → begin ≤ j → j < begin + width → get_or new j 0 ≡ 1) → HasFlows arities (flows_at arities new 0 1 0)
flows_last arities old new level begin width l s kept here =
    s new kept (λ place m. subst (λ (z : List ℕ). HasFlows z (flows_at z new begin width place)) (sym (drop_all level arities l)) (here (begin + place) (omega arith) (omega (arith, m))))
