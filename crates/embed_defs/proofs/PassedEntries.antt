-- Pops of the queue of passing entries.
use Rattle.embed_defs.proofs.Prelude.{[], ℕ, ◌≡◌, refl, ◌∷◌, ap, ◌∙◌, sym, ◌≤◌, Some, None, ◌<◌, subst, inl, inr, Option, cases_lt, lt-leb, cons_option, option_map, Queue, Taking, take_from, take_least, Entry, passing_by}
use Rattle.tree_defs.proofs.TakeLeast.{NoneBelow, NoneBelow-le, take_from-front, take_from-behind, take_from-least, take_from-first, take_from-sooner}

module _ (g : ℕ → Option ℕ) where
  pub passing_by-none : (r v : ℕ) (q : Queue) → g v ≡ None → passing_by g ((r, v) ∷ q) ≡ passing_by g q
  passing_by-none r v q p = rw p refl

  pub passing_by-some : (r v x : ℕ) (q : Queue) → g v ≡ Some x → passing_by g ((r, v) ∷ q) ≡ (r, x) ∷ passing_by g q
  passing_by-some r v x q p = rw p refl

  pub NoneBelow-passing : (m : ℕ) (q : Queue) → NoneBelow m q → NoneBelow m (passing_by g q)
  NoneBelow-passing m [] h = tt
  NoneBelow-passing m (e ∷ q) h = passes m e q h.0 (NoneBelow-passing m q h.1) (g e.1) refl
    where
      passes : (m : ℕ) (e : Entry) (q : Queue) → m ≤ e.0 → NoneBelow m (passing_by g q) → (o : Option ℕ) → g e.1 ≡ o → NoneBelow m (passing_by g (e ∷ q))
      passes m e q l k None p = rw p k
      passes m e q l k (Some x) p = rw p (l, k)

  -- the popped entry doesn't pass: the passing entries are unchanged
  pub passing_by-rest : (r v : ℕ) (q : Queue) → g (take_from r v q).value ≡ None → passing_by g ((r, v) ∷ q) ≡ passing_by g (take_from r v q).rest
  passing_by-rest r v [] p = passing_by-none r v [] p
  passing_by-rest r v (e ∷ q) p =
      let P : Taking → Type 0 = λ t. g t.value ≡ None → passing_by g ((r, v) ∷ e ∷ q) ≡ passing_by g t.rest in
      elim (cases_lt (take_from e.0 e.1 q).rank r) [
        | inl l ↦ subst P (sym (take_from-behind r v e q l)) (λ k. ap (λ (z : Queue). cons_option (option_map (λ (x : ℕ). (r, x)) (g v)) z) (passing_by-rest e.0 e.1 q k)) p
        | inr l ↦ subst P (sym (take_from-front r v e q l)) (λ k. passing_by-none r v (e ∷ q) k) p
      ]

  -- the popped entry passes: it is also popped from the queue of passing entries
  pub take_least-passing : (r v x : ℕ) (q : Queue) → g (take_from r v q).value ≡ Some x
      → take_least (passing_by g ((r, v) ∷ q)) ≡ Some (record { rank = (take_from r v q).rank; value = x; rest = passing_by g (take_from r v q).rest })
  take_least-passing r v x [] p = rw p refl
  take_least-passing r v x (e ∷ q) p =
      let P : Taking → Type 0 = λ t. g t.value ≡ Some x → take_least (passing_by g ((r, v) ∷ e ∷ q)) ≡ Some (record { rank = t.rank; value = x; rest = passing_by g t.rest }) in
      elim (cases_lt (take_from e.0 e.1 q).rank r) [
        | inl l ↦ subst P (sym (take_from-behind r v e q l)) (λ k. behind l (take_least-passing e.0 e.1 x q k) (g v) refl) p
        | inr l ↦ subst P (sym (take_from-front r v e q l)) (λ k.
            rw (passing_by-some r v x (e ∷ q) k)
            (ap Some (take_from-first r x (passing_by g (e ∷ q)) (NoneBelow-passing r (e ∷ q) (NoneBelow-le r (take_from e.0 e.1 q).rank (e ∷ q) l (take_from-least e.0 e.1 q)))))) p
      ]
    where
      behind : (take_from e.0 e.1 q).rank < r
          → take_least (passing_by g (e ∷ q)) ≡ Some (record { rank = (take_from e.0 e.1 q).rank; value = x; rest = passing_by g (take_from e.0 e.1 q).rest })
          → (o : Option ℕ) → g v ≡ o
          → take_least (passing_by g ((r, v) ∷ e ∷ q)) ≡ Some (record { rank = (take_from e.0 e.1 q).rank; value = x; rest = passing_by g ((r, v) ∷ (take_from e.0 e.1 q).rest) })
      behind l ih None k = rw (passing_by-none r v (e ∷ q) k, passing_by-none r v (take_from e.0 e.1 q).rest k) ih
      behind l ih (Some y) k =
          rw (passing_by-some r v y (e ∷ q) k, passing_by-some r v y (take_from e.0 e.1 q).rest k)
          (ap Some (take_from-sooner r y (passing_by g (e ∷ q)) (record { rank = (take_from e.0 e.1 q).rank; value = x; rest = passing_by g (take_from e.0 e.1 q).rest }) ih
          ∙ rw (lt-leb r (take_from e.0 e.1 q).rank l) refl))
