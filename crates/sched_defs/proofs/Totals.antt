-- What the packets in a leaf, or in the leaves below a node, add up to: at the start, and after a
-- push, a drop and a departure. The nodes on the way to a leaf.
use Rattle.sched_defs.proofs.Prelude.{◌≡◌, List, [], arith, ℕ, ◌∷◌, Some, ap, refl, subst, sym, ◌+◌, ◌*◌, length, suc, zero, Option, ◌++◌, ◌∙◌, None, false, ◌≤◌, ◌<◌, Bool, true, if◌then◌else◌, ◌&&◌, ◌||◌, drop, inl, inr, map, ◌≢◌, nat_eq, eq-eqb, ne_eqb, eqb-false, AllByRecursion, Contains, option_map_or, Packet, IsAccepted, Policy, IsOther, values-packets, packets-empty, packets-pop, packets-push, values-pop, IsDistinct-taken, OneMore, values, Placed, packets, queue_at, queue_in, Queue, Entry, Tree, Trees, inner, leaf, more, none, size, pop, SourceTree, push, topology_of, Address, Popping, LeadsToLeaf, LeadsBelow, CanArrive, IsSound, IsAtItsLeaf, SourceState, arrival_ranks, class_of, left_with, pushed, dropped, Held, start, with_packet, without, sum_over, total, one, bytes_of, leads_over, way_to}
use Rattle.std.specs.List.{list_any}
use Rattle.std.proofs.lemmas.Bool.{and_parts, and_from, or_parts, true≢false, eqb-true}
use Rattle.std.proofs.lemmas.List.{length-map}
use Rattle.tree_defs.specs.Packets.{below, packets_below}
use Rattle.rank_defs.specs.Shapes.{max_len}
use Rattle.sched_defs.proofs.Members.{IsIn, contains_of, all_mapped, all_unmapped}
use Rattle.sched_defs.proofs.Counts.{length-values}
use Rattle.sched_defs.proofs.Queued.{same_packet, with_packet-same, with_packet-other, without-other, leads_in, other_number, popped_is_held}

-- ---- sums
module _ (quantity : Packet → ℕ) (a : Address) where
  -- what the number at a leaf adds
  abbrev pub part : Held → Placed → ℕ
  part held at = if leads_over a at.0 then option_map_or quantity (held at.1) 0 else 0

  sum_with : (held : Held) (at : Placed) (before behind : List Placed) → sum_over quantity held a (before ++ at ∷ behind) ≡ sum_over quantity held a (before ++ behind) + part held at
  sum_with held at [] behind = omega arith
  sum_with held at (b ∷ before) behind = omega (arith, sum_with held at before behind)

  pub sum-one_more : (held : Held) (at : Placed) (xs ys : List Placed) → OneMore at xs ys → sum_over quantity held a ys ≡ sum_over quantity held a xs + part held at
  sum-one_more held at xs ys o =
      ap (λ (l : List Placed). sum_over quantity held a l) o.with_it ∙ sum_with held at o.before o.behind
      ∙ ap (λ (l : List Placed). sum_over quantity held a l + part held at) (sym o.without)

  -- only the packets under the numbers in the list count
  pub sum-same : (held other : Held) (xs : List Placed) → AllByRecursion (λ (at : Placed). held at.1 ≡ other at.1) xs → sum_over quantity held a xs ≡ sum_over quantity other a xs
  sum-same held other [] h = refl
  sum-same held other (at ∷ xs) h =
      ap (λ (o : Option Packet). (if leads_over a at.0 then option_map_or quantity o 0 else 0) + sum_over quantity held a xs) h.0
      ∙ ap (λ (n : ℕ). part other at + n) (sum-same held other xs h.1)

-- ---- pushes and departures
-- what a packet adds at the address, if its leaf is there or below
abbrev pub share : (Packet → ℕ) → Address → Address → Packet → ℕ
share quantity a digits p = if leads_over a digits then quantity p else 0

pub total-pushed : (quantity : Packet → ℕ) (a : Address) (policy : Policy) (p : Packet) (s : SourceState) → IsAccepted policy → IsSound policy s → CanArrive policy s p
    → total quantity (pushed policy p s) a ≡ total quantity s a + share quantity a (class_of policy p).leaf p
total-pushed quantity a policy p s accepted sound can =
    let digits : Address = (class_of policy p).leaf in
    let ranks : List ℕ = arrival_ranks policy p s in
    sum-one_more quantity a (with_packet s.held p) (digits, p.number) (packets s.tree) (packets (push s.tree digits ranks p.number))
    (packets-push s.tree digits ranks p.number (leads_in policy accepted s sound p can.known.class))
    ∙ ap (λ (n : ℕ). n + part quantity a (with_packet s.held p) (digits, p.number))
    (sum-same quantity a (with_packet s.held p) s.held (packets s.tree)
    (all_mapped (IsAtItsLeaf policy s) (λ (at : Placed). with_packet s.held p at.1 ≡ s.held at.1)
    (λ at i. with_packet-other s.held p at.1 (other_number s policy p.number can.fresh at i)) (packets s.tree) sound.placed))
    ∙ ap (λ (o : Option Packet). total quantity s a + (if leads_over a digits then option_map_or quantity o 0 else 0)) (with_packet-same s.held p)

-- the popped number is no longer in a leaf
pub left_others : (s : SourceState) (taken : Popping SourceTree) (policy : Policy) → IsSound policy s → pop s.tree ≡ Some taken
    → AllByRecursion (λ (at : Placed). nat_eq taken.value at.1 ≡ false) (packets taken.left)
left_others s taken policy sound e =
    let others = IsDistinct-taken taken.value (values taken.left) (values s.tree) (values-pop s.tree taken e) sound.distinct in
    all_unmapped (λ (at : Placed). at.1) (λ m. nat_eq taken.value m ≡ false) (packets taken.left) (subst (IsOther taken.value) (sym (values-packets taken.left)) others.0)

pub total-left : (quantity : Packet → ℕ) (a : Address) (policy : Policy) (s : SourceState) (taken : Popping SourceTree) (p : Packet) → IsSound policy s → pop s.tree ≡ Some taken → s.held taken.value ≡ Some p
    → total quantity s a ≡ total quantity (left_with policy s taken (Some p)) a + share quantity a taken.digits p
total-left quantity a policy s taken p sound e held =
    sum-one_more quantity a s.held (taken.digits, taken.value) (packets taken.left) (packets s.tree) (packets-pop s.tree taken e)
    ∙ ap (λ (n : ℕ). n + part quantity a s.held (taken.digits, taken.value))
    (sym (sum-same quantity a (without s.held taken.value) s.held (packets taken.left)
    (all_mapped (λ (at : Placed). nat_eq taken.value at.1 ≡ false) (λ (at : Placed). without s.held taken.value at.1 ≡ s.held at.1)
    (λ at o. without-other s.held taken.value at.1 (λ m. eqb-false taken.value at.1 o (sym m))) (packets taken.left) (left_others s taken policy sound e))))
    ∙ ap (λ (o : Option Packet). total quantity (left_with policy s taken (Some p)) a + (if leads_over a taken.digits then option_map_or quantity o 0 else 0)) held

-- the same with the leaf of the packet's class
pub total-left_leaf : (quantity : Packet → ℕ) (a : Address) (policy : Policy) (s : SourceState) (taken : Popping SourceTree) (p : Packet) → IsSound policy s → pop s.tree ≡ Some taken → s.held taken.value ≡ Some p
    → total quantity s a ≡ total quantity (left_with policy s taken (Some p)) a + share quantity a (class_of policy p).leaf p
total-left_leaf quantity a policy s taken p sound e held =
    let at : IsAtItsLeaf policy s (taken.digits, taken.value) = popped_is_held policy s taken sound e in
    let same : at.packet ≡ p = same_packet at.packet p (sym at.held ∙ held) in
    let leaf_is : taken.digits ≡ (class_of policy p).leaf = sym at.leaf_is ∙ ap (λ (z : Packet). (class_of policy z).leaf) same in
    total-left quantity a policy s taken p sound e held ∙ ap (λ (d : Address). total quantity (left_with policy s taken (Some p)) a + share quantity a d p) leaf_is

pub total-dropped : (quantity : Packet → ℕ) (a : Address) (p : Packet) (s : SourceState) → total quantity (dropped p s) a ≡ total quantity s a
total-dropped quantity a p s = refl

pub total-start : (quantity : Packet → ℕ) (a : Address) (policy : Policy) → total quantity (start policy) a ≡ 0
total-start quantity a policy = ap (λ (l : List Placed). sum_over quantity (start policy).held a l) (packets-empty (topology_of policy.tree))

-- ---- bounds
part-least : (quantity more_of : Packet → ℕ) (t : Bool) (o : Option Packet) → ((p : Packet) → o ≡ Some p → quantity p ≤ more_of p)
    → (if t then option_map_or quantity o 0 else 0) ≤ (if t then option_map_or more_of o 0 else 0)
part-least quantity more_of false o h = omega arith
part-least quantity more_of true None h = omega arith
part-least quantity more_of true (Some p) h = h p refl

sum-least : (quantity more_of : Packet → ℕ) (a : Address) (held : Held) → ((n : ℕ) (p : Packet) → held n ≡ Some p → quantity p ≤ more_of p) → (xs : List Placed)
    → sum_over quantity held a xs ≤ sum_over more_of held a xs
sum-least quantity more_of a held h [] = omega arith
sum-least quantity more_of a held h (at ∷ xs) = omega (arith, part-least quantity more_of (leads_over a at.0) (held at.1) (h at.1), sum-least quantity more_of a held h xs)

-- a quantity that is at most another for each queued packet has at most its total
pub total-least : (quantity more_of : Packet → ℕ) (a : Address) (s : SourceState) → ((n : ℕ) (p : Packet) → s.held n ≡ Some p → quantity p ≤ more_of p) → total quantity s a ≤ total more_of s a
total-least quantity more_of a s h = sum-least quantity more_of a s.held h (packets s.tree)

part-most : (quantity : Packet → ℕ) (most : ℕ) (t : Bool) (o : Option Packet) → ((p : Packet) → o ≡ Some p → quantity p ≤ most) → (if t then option_map_or quantity o 0 else 0) ≤ most
part-most quantity most false o h = omega arith
part-most quantity most true None h = omega arith
part-most quantity most true (Some p) h = h p refl

sum-most : (quantity : Packet → ℕ) (most : ℕ) (a : Address) (held : Held) → ((n : ℕ) (p : Packet) → held n ≡ Some p → quantity p ≤ most) → (xs : List Placed)
    → sum_over quantity held a xs ≤ length xs * most
sum-most quantity most a held h [] = omega arith
sum-most quantity most a held h (at ∷ xs) = omega (arith, part-most quantity most (leads_over a at.0) (held at.1) (h at.1), sum-most quantity most a held h xs)

length-packets : (t : SourceTree) → length (packets t) ≡ size t
length-packets t = sym (length-map (packets t) (λ (at : Placed). at.1)) ∙ ap (λ (l : List ℕ). length l) (values-packets t) ∙ length-values t

-- a bound for each queued packet bounds the total
pub total-most : (quantity : Packet → ℕ) (most : ℕ) (a : Address) (s : SourceState) → ((n : ℕ) (p : Packet) → s.held n ≡ Some p → quantity p ≤ most) → total quantity s a ≤ size s.tree * most
total-most quantity most a s h = subst (λ (n : ℕ). total quantity s a ≤ n * most) (length-packets s.tree) (sum-most quantity most a s.held h (packets s.tree))

pub total-packets : (a : Address) (s : SourceState) → total one s a ≤ size s.tree
total-packets a s = let m = total-most one 1 a s (λ n p e. omega arith) in omega (arith, m)

pub total-bytes : (a : Address) (policy : Policy) (s : SourceState) → IsSound policy s → total bytes_of s a ≤ size s.tree * max_len
total-bytes a policy s sound = total-most bytes_of max_len a s (λ n p e. (sound.known n p e).len)

-- ---- the way to a leaf
pub leads_over-same : (a : Address) → leads_over a a ≡ true
leads_over-same [] = refl
leads_over-same (i ∷ a) = and_from (nat_eq i i) (leads_over a a) (eq-eqb i i refl) (leads_over-same a)

pub leads_over-on : (a b c : Address) → leads_over a b ≡ true → leads_over b c ≡ true → leads_over a c ≡ true
leads_over-on [] b c e f = refl
leads_over-on (i ∷ a) [] c e f = cc
leads_over-on (i ∷ a) (j ∷ b) [] e f = cc
leads_over-on (i ∷ a) (j ∷ b) (k ∷ c) e f =
    let e' = and_parts (nat_eq i j) (leads_over a b) e in
    let f' = and_parts (nat_eq j k) (leads_over b c) f in
    and_from (nat_eq i k) (leads_over a c) (eq-eqb i k (eqb-true i j e'.0 ∙ eqb-true j k f'.0)) (leads_over-on a b c e'.1 f'.1)

part-below : (quantity : Packet → ℕ) (o : Option Packet) (t u : Bool) → (u ≡ true → t ≡ true) → (if u then option_map_or quantity o 0 else 0) ≤ (if t then option_map_or quantity o 0 else 0)
part-below quantity o t false h = omega arith
part-below quantity o true true h = omega arith
part-below quantity o false true h = absurd (true≢false (sym (h refl)))

sum-below : (quantity : Packet → ℕ) (held : Held) (a b : Address) → leads_over a b ≡ true → (xs : List Placed) → sum_over quantity held b xs ≤ sum_over quantity held a xs
sum-below quantity held a b e [] = omega arith
sum-below quantity held a b e (at ∷ xs) = omega (arith, part-below quantity (held at.1) (leads_over a at.0) (leads_over b at.0) (leads_over-on a b at.0 e), sum-below quantity held a b e xs)

-- a node's total is at least that of each node below it
pub total-below : (quantity : Packet → ℕ) (s : SourceState) (a b : Address) → leads_over a b ≡ true → total quantity s b ≤ total quantity s a
total-below quantity s a b e = sum-below quantity s.held a b e (packets s.tree)

any-map : (f : Address → Bool) (i : ℕ) (xs : List Address) → list_any f (map (λ b. i ∷ b) xs) ≡ list_any (λ b. f (i ∷ b)) xs
any-map f i [] = refl
any-map f i (x ∷ xs) = ap (λ (t : Bool). f (i ∷ x) || t) (any-map f i xs)

-- if no test on the way is met, each of them isn't
pub way-none : (f : Address → Bool) (digits a : Address) → list_any f (way_to digits) ≡ false → leads_over a digits ≡ true → f a ≡ false
way-none f [] [] h e = (or_parts (f []) false h).0
way-none f [] (j ∷ a) h e = cc
way-none f (i ∷ digits) [] h e = (or_parts (f []) (list_any f (map (λ b. i ∷ b) (way_to digits))) h).0
way-none f (i ∷ digits) (j ∷ a) h e =
    let rest : list_any (λ b. f (i ∷ b)) (way_to digits) ≡ false = sym (any-map f i (way_to digits)) ∙ (or_parts (f []) (list_any f (map (λ b. i ∷ b) (way_to digits))) h).1 in
    let e' = and_parts (nat_eq j i) (leads_over a digits) e in
    ap (λ (k : ℕ). f (k ∷ a)) (eqb-true j i e'.0) ∙ way-none (λ b. f (i ∷ b)) digits a rest e'.1

-- if a test on the way is met, one of them is
pub way-some : (f : Address → Bool) (digits a : Address) → leads_over a digits ≡ true → f a ≡ true → list_any f (way_to digits) ≡ true
way-some f digits a e h = by_test (list_any f (way_to digits)) refl
  where
    by_test : (t : Bool) → list_any f (way_to digits) ≡ t → list_any f (way_to digits) ≡ true
    by_test true m = m
    by_test false m = absurd (true≢false (sym h ∙ way-none f digits a m e))

-- a node on the way that meets the test
pub record Meets (f : Address → Bool) (digits : Address) : Type 0 where
  pub at : Address
  pub leads : leads_over at digits ≡ true
  pub met : f at ≡ true

-- one of the tests on the way is met only by a node on it
pub way-met : (f : Address → Bool) (digits : Address) → list_any f (way_to digits) ≡ true → Meets f digits
way-met f [] h = met_here f (f []) refl h
  where
    met_here : (f : Address → Bool) (t : Bool) → f [] ≡ t → (t || false) ≡ true → Meets f []
    met_here f true e k = record { at = []; leads = refl; met = e }
    met_here f false e k = cc
way-met f (i ∷ digits) h = met_or (f []) refl h (λ k. way-met (λ b. f (i ∷ b)) digits (sym (any-map f i (way_to digits)) ∙ k))
  where
    met_or : (t : Bool) → f [] ≡ t → (t || list_any f (map (λ b. i ∷ b) (way_to digits))) ≡ true
        → (list_any f (map (λ b. i ∷ b) (way_to digits)) ≡ true → Meets (λ b. f (i ∷ b)) digits) → Meets f (i ∷ digits)
    met_or true e k later = record { at = []; leads = refl; met = e }
    met_or false e k later =
        let m : Meets (λ b. f (i ∷ b)) digits = later k in
        record { at = i ∷ m.at; leads = and_from (nat_eq i i) (leads_over m.at digits) (eq-eqb i i refl) m.leads; met = m.met }

-- if each other node on the way doesn't meet the test, the leaf alone decides
pub way-last : (f : Address → Bool) (digits : Address) → ((a : Address) → leads_over a digits ≡ true → a ≢ digits → f a ≡ false) → list_any f (way_to digits) ≡ f digits
way-last f [] h = or_none (f [])
  where
    or_none : (t : Bool) → (t || false) ≡ t
    or_none true = refl
    or_none false = refl
way-last f (i ∷ digits) h =
    ap (λ (t : Bool). t || list_any f (map (λ b. i ∷ b) (way_to digits))) (h [] refl (λ e. cc))
    ∙ any-map f i (way_to digits)
    ∙ way-last (λ b. f (i ∷ b)) digits (λ a e ne. h (i ∷ a) (and_from (nat_eq i i) (leads_over a digits) (eq-eqb i i refl) e) (λ same. ne (ap (drop 1) same)))

in_map : (i : ℕ) (a : Address) (xs : List Address) → IsIn a xs → IsIn (i ∷ a) (map (λ b. i ∷ b) xs)
in_map i a [] h = absurd h
in_map i a (x ∷ xs) (inl e) = inl (ap (λ (b : Address). i ∷ b) e)
in_map i a (x ∷ xs) (inr h) = inr (in_map i a xs h)

in_way : (digits a : Address) → leads_over a digits ≡ true → IsIn a (way_to digits)
in_way [] [] e = inl refl
in_way [] (j ∷ a) e = cc
in_way (i ∷ digits) [] e = inl refl
in_way (i ∷ digits) (j ∷ a) e =
    let e' = and_parts (nat_eq j i) (leads_over a digits) e in
    inr (subst (λ (k : ℕ). IsIn (k ∷ a) (map (λ b. i ∷ b) (way_to digits))) (sym (eqb-true j i e'.0)) (in_map i a (way_to digits) (in_way digits a e'.1)))

-- each node that leads over the leaf is on the way to it
pub way-has : (digits a : Address) → leads_over a digits ≡ true → Contains (way_to digits) a
way-has digits a e = contains_of a (way_to digits) (in_way digits a e)

-- ---- leaves
-- no leaf is on the way to another one
mutual
  pub leads_over-leaf : {Q : Type 0} (t : Tree Q) (a b : Address) → LeadsToLeaf t a → LeadsToLeaf t b → leads_over a b ≡ true → a ≡ b
  leads_over-leaf (leaf q) [] [] l m e = refl
  leads_over-leaf (leaf q) [] (j ∷ b) l m e = absurd m
  leads_over-leaf (leaf q) (i ∷ a) b l m e = absurd l
  leads_over-leaf (inner q ts) [] b l m e = absurd l
  leads_over-leaf (inner q ts) (i ∷ a) [] l m e = absurd m
  leads_over-leaf (inner q ts) (i ∷ a) (j ∷ b) l m e =
      let e' = and_parts (nat_eq i j) (leads_over a b) e in
      let same : i ≡ j = eqb-true i j e'.0 in
      ap (λ (k : ℕ). k ∷ a) same ∙ ap (λ (c : Address). j ∷ c) (leads_below-leaf ts j a b (subst (λ (k : ℕ). LeadsBelow ts k a) same l) m e'.1)

  leads_below-leaf : {Q : Type 0} (ts : Trees Q) (i : ℕ) (a b : Address) → LeadsBelow ts i a → LeadsBelow ts i b → leads_over a b ≡ true → a ≡ b
  leads_below-leaf none i a b l m e = absurd l
  leads_below-leaf (more t ts) zero a b l m e = leads_over-leaf t a b l m e
  leads_below-leaf (more t ts) (suc i) a b l m e = leads_below-leaf ts i a b l m e

-- how many of the numbers are in the leaf, or in a leaf below the node, at an address
abbrev count_over : Address → List Placed → ℕ
count_over a [] = 0
count_over a (at ∷ others) = (if leads_over a at.0 then 1 else 0) + count_over a others

count-append : (a : Address) (xs ys : List Placed) → count_over a (xs ++ ys) ≡ count_over a xs + count_over a ys
count-append a [] ys = omega arith
count-append a (x ∷ xs) ys = omega (arith, count-append a xs ys)

count-root : (q : Queue) → count_over [] (map (λ (e : Entry). ([], e.1)) q) ≡ length q
count-root [] = refl
count-root (e ∷ q) = omega (arith, count-root q)

count-same : (i : ℕ) (a : Address) (xs : List Placed) → count_over (i ∷ a) (map (below i) xs) ≡ count_over a xs
count-same i a [] = refl
count-same i a (x ∷ xs) =
    ap (λ (t : Bool). (if t && leads_over a x.0 then 1 else 0) + count_over (i ∷ a) (map (below i) xs)) (eq-eqb i i refl)
    ∙ ap (λ (n : ℕ). (if leads_over a x.0 then 1 else 0) + n) (count-same i a xs)

count-other : (i j : ℕ) (a : Address) (xs : List Placed) → i ≢ j → count_over (i ∷ a) (map (below j) xs) ≡ 0
count-other i j a [] ne = refl
count-other i j a (x ∷ xs) ne =
    let own : ℕ = if nat_eq i j && leads_over a x.0 then 1 else 0 in
    let none : own ≡ 0 = ap (λ (t : Bool). if t && leads_over a x.0 then 1 else 0) (ne_eqb i j ne) in
    omega (arith, none, count-other i j a xs ne)

count-later : (ts : Trees Queue) (i k : ℕ) (a : Address) → i < k → count_over (i ∷ a) (packets_below ts k) ≡ 0
count-later none i k a l = refl
count-later (more t ts) i k a l =
    let ne : i ≢ k = omega (arith, l) in
    let c = count-append (i ∷ a) (map (below k) (packets t)) (packets_below ts (suc k)) in
    let first = count-other i k a (packets t) ne in
    let rest = count-later ts i (suc k) a (omega (arith, l)) in
    omega (arith, c, first, rest)

mutual
  count-leaf : (t : Tree Queue) (a : Address) → LeadsToLeaf t a → count_over a (packets t) ≡ length (queue_at t a)
  count-leaf (leaf q) [] l = count-root q
  count-leaf (leaf q) (i ∷ a) l = absurd l
  count-leaf (inner q ts) [] l = absurd l
  count-leaf (inner q ts) (i ∷ a) l = count-below ts i 0 i a (omega arith) l

  count-below : (ts : Trees Queue) (i k v : ℕ) (a : Address) → v ≡ i + k → LeadsBelow ts i a → count_over (v ∷ a) (packets_below ts k) ≡ length (queue_in ts i a)
  count-below none i k v a e l = absurd l
  count-below (more t ts) zero k v a e l =
      let same : k ≡ v = omega (arith, e) in
      subst (λ (n : ℕ). count_over (n ∷ a) (packets_below (more t ts) k) ≡ length (queue_at t a)) same
      (let c = count-append (k ∷ a) (map (below k) (packets t)) (packets_below ts (suc k)) in
      let first = count-same k a (packets t) in
      let here = count-leaf t a l in
      let rest = count-later ts k (suc k) a (omega arith) in
      omega (arith, c, first, here, rest))
  count-below (more t ts) (suc i) k v a e l =
      let ne : v ≢ k = omega (arith, e) in
      let c = count-append (v ∷ a) (map (below k) (packets t)) (packets_below ts (suc k)) in
      let first = count-other v k a (packets t) ne in
      let rest = count-below ts i (suc k) v a (omega (arith, e)) l in
      omega (arith, c, first, rest)

sum-counts : (held : Held) (a : Address) (xs : List Placed) → AllByRecursion (λ (at : Placed). (p : Packet) × (held at.1 ≡ Some p)) xs → sum_over one held a xs ≡ count_over a xs
sum-counts held a [] h = refl
sum-counts held a (at ∷ xs) h =
    ap (λ (o : Option Packet). (if leads_over a at.0 then option_map_or one o 0 else 0) + sum_over one held a xs) h.0.1
    ∙ ap (λ (n : ℕ). (if leads_over a at.0 then 1 else 0) + n) (sum-counts held a xs h.1)

-- in a leaf there are as many packets as its queue has entries
pub total-leaf : (policy : Policy) (s : SourceState) (a : Address) → IsSound policy s → LeadsToLeaf s.tree a → total one s a ≡ length (queue_at s.tree a)
total-leaf policy s a sound l =
    sum-counts s.held a (packets s.tree)
    (all_mapped (IsAtItsLeaf policy s) (λ (at : Placed). (p : Packet) × (s.held at.1 ≡ Some p)) (λ at i. (i.packet, i.held)) (packets s.tree) sound.placed)
    ∙ count-leaf s.tree a l
