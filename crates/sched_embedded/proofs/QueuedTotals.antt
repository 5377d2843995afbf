-- How much is queued in a leaf or below a node, by the queued packets.
use Rattle.sched_embedded.proofs.Prelude.{sym, ℕ, ◌∙◌, ap, ◌≡◌, subst, List, arith, [], refl, ◌∷◌, ◌+◌, Option, map, ◌++◌, false, IsSome, inl, inr, nat_eq, ◌↔◌, if◌then◌else◌, option_map_or, AllByRecursion, Contains, Packet, Policy, held_count, values_are_numbers, IsSound, IsAtItsLeaf, SourceState, class_of, leads_over, sum_over, total, size, Address}
use Rattle.std.proofs.lemmas.Bool.{eqb-false}
use Rattle.std.specs.List.{IsDistinct}
use Rattle.tree_defs.specs.Packets.{Placed, OneMore, values, packets}
use Rattle.tree_defs.proofs.PacketLaws.{values-packets}
use Rattle.tree_defs.proofs.OneMoreLaws.{IsDistinct-taken}
use Rattle.policy_defs.specs.Policy.{group_at}
use Rattle.sched_defs.specs.SourceState.{one, bytes_of, one_of}
use Rattle.sched_defs.specs.Laws.{AreNumbersOf}
use Rattle.sched_defs.proofs.Members.{IsIn, in_of, contains_of, all_at, one_more, Contains-with, Contains-without}
use Rattle.sched_core.specs.Totals.{amounts_in}

-- ---- sums over numbers
abbrev sum_by : (ℕ → ℕ) → List ℕ → ℕ
sum_by f [] = 0
sum_by f (n ∷ ns) = f n + sum_by f ns

sum-equal : (f g : ℕ → ℕ) (ns : List ℕ) → ((n : ℕ) → f n ≡ g n) → sum_by f ns ≡ sum_by g ns
sum-equal f g [] e = refl
sum-equal f g (n ∷ ns) e = omega (arith, e n, sum-equal f g ns e)

sum-with : (f : ℕ → ℕ) (x : ℕ) (before behind : List ℕ) → sum_by f (before ++ x ∷ behind) ≡ f x + sum_by f (before ++ behind)
sum-with f x [] behind = refl
sum-with f x (b ∷ before) behind = omega (arith, sum-with f x before behind)

sum-one_more : (f : ℕ → ℕ) (x : ℕ) (xs ys : List ℕ) → OneMore x xs ys → sum_by f ys ≡ f x + sum_by f xs
sum-one_more f x xs ys o = ap (sum_by f) o.with_it ∙ sum-with f x o.before o.behind ∙ ap (λ (l : List ℕ). f x + sum_by f l) (sym o.without)

not_among : (x : ℕ) (xs : List ℕ) → AllByRecursion (λ y. nat_eq x y ≡ false) xs → IsIn x xs → ⊥
not_among x xs h i = eqb-false x x (all_at (λ y. nat_eq x y ≡ false) x xs h i) refl

-- two lists of distinct numbers with the same members have the same sums
same_sum : (f : ℕ → ℕ) (xs ys : List ℕ) → IsDistinct nat_eq xs → IsDistinct nat_eq ys → ((n : ℕ) → IsIn n xs → IsIn n ys) → ((n : ℕ) → IsIn n ys → IsIn n xs) → sum_by f xs ≡ sum_by f ys
unfolding IsDistinct
same_sum f [] [] d e to from = refl
same_sum f [] (y ∷ ys) d e to from = absurd (from y (inl refl))
same_sum f (x ∷ xs) ys d e to from =
    let r = one_more x ys (to x (inl refl)) in
    let t = IsDistinct-taken x r.0 ys r.1 e in
    let others : (n : ℕ) → IsIn n xs → IsIn n r.0 = λ n i. in_of n r.0 (Contains-without n x r.0 ys r.1 (λ s. not_among x xs d.0 (subst (λ (m : ℕ). IsIn m xs) s i)) (contains_of n ys (to n (inr i)))) in
    let back : (n : ℕ) → IsIn n r.0 → IsIn n xs = λ n i. from_tail n x xs r.0 t.0 i (from n (in_of n ys (Contains-with n x r.0 ys r.1 (contains_of n r.0 i)))) in
    ap (λ (m : ℕ). f x + m) (same_sum f xs r.0 d.1 t.1 others back) ∙ sym (sum-one_more f x r.0 ys r.1)
  where
    from_tail : (n x : ℕ) (xs zs : List ℕ) → AllByRecursion (λ y. nat_eq x y ≡ false) zs → IsIn n zs → IsIn n (x ∷ xs) → IsIn n xs
    from_tail n x xs zs other i (inl e) = absurd (not_among x zs other (subst (λ (m : ℕ). IsIn m zs) (sym e) i))
    from_tail n x xs zs other i (inr j) = j

-- ---- sums over the packets in the leaves are sums over their numbers
module _ (policy : Policy) (quantity : Packet → ℕ) (a : Address) where
  -- the quantity of a packet, if its leaf is at the address or below it
  abbrev counted : Option Packet → ℕ
  counted o = option_map_or (λ p. if leads_over a (class_of policy p).leaf then quantity p else 0) o 0

  by-numbers : (s : SourceState) (xs : List Placed) → AllByRecursion (IsAtItsLeaf policy s) xs → sum_over quantity s.held a xs ≡ sum_by (λ n. counted (s.held n)) (map (λ (at : Placed). at.1) xs)
  by-numbers s [] h = refl
  by-numbers s (at ∷ xs) h =
      ap (λ (o : Option Packet). (if leads_over a at.0 then option_map_or quantity o 0 else 0) + sum_over quantity s.held a xs) h.0.held
      ∙ ap (λ (b : Address). (if leads_over a b then quantity h.0.packet else 0) + sum_over quantity s.held a xs) (sym h.0.leaf_is)
      ∙ ap (λ (o : Option Packet). counted o + sum_over quantity s.held a xs) (sym h.0.held)
      ∙ ap (λ (m : ℕ). counted (s.held at.1) + m) (by-numbers s xs h.1)

  total-by_numbers : (s : SourceState) → IsSound policy s → total quantity s a ≡ sum_by (λ n. counted (s.held n)) (values s.tree)
  total-by_numbers s sound = by-numbers s (packets s.tree) sound.placed ∙ ap (sum_by (λ n. counted (s.held n))) (values-packets s.tree)

-- ---- two sound states with the same packets
module _ (policy : Policy) (s t : SourceState) (sound : IsSound policy s) (other : IsSound policy t) (same : (n : ℕ) → s.held n ≡ t.held n) where
  -- the numbers in the leaves of one are those of the packets of the other
  crossed : AreNumbersOf s.held (values t.tree)
  crossed =
      let own : AreNumbersOf t.held (values t.tree) = values_are_numbers policy t other in record {
        distinct = own.distinct;
        each = λ n. subst (λ (o : Option Packet). Contains (values t.tree) n ↔ IsSome o) (sym (same n)) (own.each n);
      }

  pub same_size : size t.tree ≡ size s.tree
  same_size = sym (held_count policy t (values t.tree) other (values_are_numbers policy t other)) ∙ held_count policy s (values t.tree) sound crossed

  pub same_total : (quantity : Packet → ℕ) (a : Address) → total quantity s a ≡ total quantity t a
  same_total quantity a =
      let own : AreNumbersOf s.held (values s.tree) = values_are_numbers policy s sound in
      total-by_numbers policy quantity a s sound
      ∙ same_sum (λ n. counted policy quantity a (s.held n)) (values s.tree) (values t.tree) own.distinct crossed.distinct
      (λ n i. in_of n (values t.tree) ((crossed.each n).1 ((own.each n).0 (contains_of n (values s.tree) i))))
      (λ n i. in_of n (values s.tree) ((own.each n).1 ((crossed.each n).0 (contains_of n (values t.tree) i))))
      ∙ sum-equal (λ n. counted policy quantity a (s.held n)) (λ n. counted policy quantity a (t.held n)) (values t.tree) (λ n. ap (counted policy quantity a) (same n))
      ∙ sym (total-by_numbers policy quantity a t other)

  pub same_amounts : amounts_in policy s ≡ amounts_in policy t
  same_amounts i a = record {
    packets = same_total one a i;
    bytes = same_total bytes_of a i;
    of_flow = λ flow. same_total (one_of (group_at policy a) flow) a i;
  }
