-- A fact about a name as one about its number, and the first line in error.
use Rattle.policy_core.proofs.Prelude.{List, ◌≡◌, ℕ, ap, sym, subst, ◌∙◌, arith, length, ◌<◌, refl, get_or, true, Some, None, Option, inl, inr, ◌≤◌, Contains, is_some, ◌⊎◌, ◌↔◌, cases_order, get_or_default, IsSomeAnd, NoLine, IsLeastLine, AreRising, Name, declared, node_name, has, place, Entry, IsLeast, node_entries, line_at}
use Rattle.std.proofs.lemmas.List.{get_or-map}
use Rattle.std.proofs.lemmas.List.Kept.{AllPairs-filter}
use Rattle.policy_core.proofs.NumberedPlaces.{has-there}
use Rattle.policy_core.proofs.Kinship.{IsNodeAt, node-of, node-at, node-was, name-at, name_of, some-name, length-names}
use Rattle.policy_core.proofs.FamilyNames.{IsNamed, some-entry}
use Rattle.policy_core.proofs.Descents.{own-place}

-- the statement's node or leaf is in error
abbrev pub Fails : (Name → Type 0) → Entry → Type 0
Fails N e = IsSomeAnd (node_name e.1) N

pub own-name : (es : List Entry) (i : ℕ) (e : Entry) (a : Name) → IsNodeAt es i e → node_name e.1 ≡ Some a → has (declared node_name es) a ≡ true
own-name es i e a at name = (let inside : i < length (node_entries es) = at.within in
    has-there (declared node_name es) i a (omega (arith, inside, length-names es)) (name-at es i e a at ∙ (some-name e a name).1))

module _ (es : List Entry) (named : IsNamed es) (N : Name → Type 0) (P : ℕ → Type 0) (same : (a : Name) → has (declared node_name es) a ≡ true → N a ↔ P (place (declared node_name es) a)) where
  fails-at : (i : ℕ) (e : Entry) → IsNodeAt es i e → node_name e.1 ≡ Some (name_of e) → P i → Fails N e
  fails-at i e at name bad = subst (λ (o : Option Name). IsSomeAnd o N) (sym name) ((same (name_of e) (own-name es i e (name_of e) at name)).1 (subst P (sym (own-place es i e (name_of e) named at name)) bad))

  holds-by : (k : ℕ) (e : Entry) (o : Option Name) → node_name e.1 ≡ o → k < length es → get_or es k e ≡ e → IsSomeAnd o N → (i : ℕ) × (IsNodeAt es i e × P i)
  holds-by k e None name within is bad = absurd bad
  holds-by k e (Some a) name within is bad =
      let n : (i : ℕ) × IsNodeAt es i e = node-of es k e a within is name in
      (n.0, (n.1, subst P (own-place es n.0 e a named n.1 name) ((same a (own-name es n.0 e a n.1 name)).0 bad)))

  holds-at : (k : ℕ) (d : Entry) → k < length es → Fails N (get_or es k d) → (i : ℕ) × (IsNodeAt es i (get_or es k d) × P i)
  holds-at k d within bad = holds-by k (get_or es k d) (node_name (get_or es k d).1) refl within (get_or_default es k (get_or es k d) d within) bad

  pub no-line : ((i : ℕ) → i < length (node_entries es) → P i → ⊥) → NoLine (Fails N) es
  no-line none k d within bad = (let h = holds-at k d within bad in none h.0 h.1.0.within h.1.1)

  pub no-number : NoLine (Fails N) es → (i : ℕ) → i < length (node_entries es) → P i → ⊥
  no-number fine i inside bad =
      let e : Entry = get_or (node_entries es) i some-entry in
      let at : IsNodeAt es i e = node-at es i some-entry inside in
      let was = node-was es i e at in
      subst (λ (f : Entry). Fails N f → ⊥) was.0.2 (fine was.0.0 e was.0.1) (fails-at i e at was.1 bad)

  line-is : (i : ℕ) (e : Entry) → i < length (node_entries es) → line_at es i ≡ (get_or (node_entries es) i e).0
  line-is i e inside = get_or-map (λ (f : Entry). f.0) (node_entries es) i e 0 inside

  pub least-line : AreRising es → (n i : ℕ) → n ≡ length (node_entries es) → IsLeast n P i → IsLeastLine (Fails N) es (line_at es i)
  least-line rising n i all least = record {
    there = (was.0.0, e, was.0.1, was.0.2, (fails-at i e at was.1 least.holds, sym (line-is i e inside ∙ ap (λ (f : Entry). f.0) at.at)));
    least = λ k d within bad. (let h = holds-at k d within bad in low (get_or es k d) h.0 h.1.0 h.1.1 (cases_order h.0 i));
  }
    where
      inside : i < length (node_entries es)
      inside = omega (arith, least.within, all)

      e : Entry
      e = get_or (node_entries es) i some-entry

      at : IsNodeAt es i e
      at = node-at es i some-entry inside

      was : Contains es e × (node_name e.1 ≡ Some (name_of e))
      was = node-was es i e at

      low : (m : Entry) (j : ℕ) → IsNodeAt es j m → P j → (j ≡ i) ⊎ ((j < i) ⊎ (i < j)) → line_at es i ≤ m.0
      low m j here bad (inl is) = (let line : line_at es i ≡ m.0 = ap (line_at es) (sym is) ∙ line-is j m here.within ∙ ap (λ (f : Entry). f.0) here.at in omega (arith, line))
      low m j here bad (inr (inl below)) = absurd (least.least j below bad)
      low m j here bad (inr (inr above)) =
          (let far : (get_or (node_entries es) i m).0 < (get_or (node_entries es) j m).0 = AllPairs-filter (λ (a b : Entry). a.0 < b.0) (λ f. is_some (node_name f.1)) es rising i j m above here.within in
          let line : line_at es i ≡ (get_or (node_entries es) i m).0 = line-is i m inside in
          let own : (get_or (node_entries es) j m).0 ≡ m.0 = ap (λ (f : Entry). f.0) here.at in
          omega (arith, far, line, own))
