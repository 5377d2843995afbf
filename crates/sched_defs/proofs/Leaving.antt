-- Arrivals and departures, and how many packets are queued.
use Rattle.sched_defs.proofs.Prelude.{◌≡◌, List, [], arith, ℕ, ◌∷◌, Some, ap, refl, subst, sym, ◌+◌, length, suc, zero, Option, ◌++◌, ◌∙◌, None, max, ◌-◌, ◌↔◌, IsSome, AllByRecursion, option_map, Packet, IsAccepted, Policy, Node, Class, option_bind-some, option_map-some, values-packets, values, Placed, packets, Queue, size, pop, SourceTree, Address, Tree, Trees, inner, leaf, more, none, Popping, LeadsToLeaf, root_of, LeadsBelow, CanArrive, IsSound, IsAtItsLeaf, SourceState, departed, arrival_ranks, class_of, Leaver, leaver, left_from, left_with, pushed, way_in, leaving, visits_below, visits_from, rank_at}
use Rattle.std.proofs.lemmas.List.{length-map}
use Rattle.tree_defs.specs.Laws.{LedToALeaf}
use Rattle.tree_defs.proofs.Shapes.{pop-path}
use Rattle.tree_defs.proofs.WellFormedLaws.{size-push, size-pop, length-root, pop-none}
use Rattle.sched_defs.specs.Laws.{AreNumbersOf, ArrivesAtALeaf, LeavesItsLeaf}
use Rattle.sched_defs.proofs.Members.{IsIn, in_of, contains_of, same_length, all_at, all_mapped, all_over}
use Rattle.sched_defs.proofs.Ranks.{HasLowRanks-pop}
use Rattle.sched_defs.proofs.Counts.{length-values, empty_of_length}
use Rattle.sched_defs.proofs.Soundness.{leads_in, class_is_ready, arrival_ranks-low, popped_is_held, same_packet}

-- ---- how many packets are queued
some_of : {X : Type 0} (o : Option X) → IsSome o → (x : X) × (o ≡ Some x)
some_of None h = cc
some_of (Some x) h = (x, refl)

is_some_of : {X : Type 0} (o : Option X) (x : X) → o ≡ Some x → IsSome o
is_some_of o x e = rw e refl

values_held : (policy : Policy) (s : SourceState) → IsSound policy s → (n : ℕ) → IsIn n (values s.tree) → IsSome (s.held n)
values_held policy s sound n i =
    let all : AllByRecursion (λ m. IsSome (s.held m)) (values s.tree) = subst (AllByRecursion (λ m. IsSome (s.held m))) (values-packets s.tree)
    (all_over (λ (at : Placed). at.1) (λ m. IsSome (s.held m)) (packets s.tree)
    (all_mapped (IsAtItsLeaf policy s) (λ at. IsSome (s.held at.1)) (λ at k. is_some_of (s.held at.1) k.packet k.held) (packets s.tree) sound.placed)) in
    all_at (λ m. IsSome (s.held m)) n (values s.tree) all i

-- the numbers in the leaves are those of the queued packets
pub values_are_numbers : (policy : Policy) (s : SourceState) → IsSound policy s → AreNumbersOf s.held (values s.tree)
values_are_numbers policy s sound = record {
  distinct = sound.distinct;
  each = λ n. (λ c. values_held policy s sound n (in_of n (values s.tree) c), λ h. let p = some_of (s.held n) h in sound.stands n p.0 p.1);
}

pub held_count : (policy : Policy) (s : SourceState) (numbers : List ℕ) → IsSound policy s → AreNumbersOf s.held numbers → length numbers ≡ size s.tree
held_count policy s numbers sound are =
    let own = values_are_numbers policy s sound in
    same_length numbers (values s.tree) are.distinct own.distinct
    (λ n i. in_of n (values s.tree) ((own.each n).1 ((are.each n).0 (contains_of n numbers i))))
    (λ n i. in_of n numbers ((are.each n).1 ((own.each n).0 (contains_of n (values s.tree) i))))
    ∙ length-values s.tree

-- if no packet is in the leaves, none is queued
pub none_held : (policy : Policy) (s : SourceState) → IsSound policy s → size s.tree ≡ 0 → (n : ℕ) → s.held n ≡ None
none_held policy s sound z n = by_held (s.held n) refl
  where
    by_held : (o : Option Packet) → s.held n ≡ o → s.held n ≡ None
    by_held None e = e
    by_held (Some p) e = let at = sound.stands n p e in absurd (omega (arith, at.1, length-values s.tree, z))

pub size_pushed : (policy : Policy) (p : Packet) (s : SourceState) → IsAccepted policy → IsSound policy s → CanArrive policy s p → size (pushed policy p s).tree ≡ size s.tree + 1
size_pushed policy p s accepted sound can = size-push s.tree (class_of policy p).leaf (arrival_ranks policy p s) p.number (leads_in policy accepted s sound p can.known.class)

-- ---- arrivals
abbrev ranks_to : Address → ℕ
ranks_to digits = length digits + 1

module _ (c : Class) (p : Packet) (moment : ℕ) where
  mutual
    length-visits : (t : Tree Node) (a digits : Address) → LeadsToLeaf t digits → length (visits_from t a digits c p moment) ≡ ranks_to digits
    length-visits (leaf n) a [] l = refl
    length-visits (leaf n) a (i ∷ digits) l = absurd l
    length-visits (inner n ts) a [] l = absurd l
    length-visits (inner n ts) a (i ∷ digits) l = omega (arith, length-visits_below ts i (a ++ i ∷ []) digits l)

    length-visits_below : (ts : Trees Node) (i : ℕ) (a digits : Address) → LeadsBelow ts i digits → length (visits_below ts i a digits c p moment) ≡ ranks_to digits
    length-visits_below none i a digits l = absurd l
    length-visits_below (more t ts) zero a digits l = length-visits t a digits l
    length-visits_below (more t ts) (suc i) a digits l = length-visits_below ts i a digits l

pub arrives_at_a_leaf : (policy : Policy) (p : Packet) (s : SourceState) → IsAccepted policy → IsSound policy s → CanArrive policy s p → ArrivesAtALeaf policy p s
arrives_at_a_leaf policy p s accepted sound can =
    let moment : ℕ = max s.now p.moment in
    let digits : Address = (class_of policy p).leaf in
    record {
      leaf_address = leads_in policy accepted s sound p can.known.class;
      ranks = record {
        count = length-map (way_in policy p moment) (rank_at s.nodes) ∙ length-visits (class_of policy p) p moment policy.tree [] digits (class_is_ready policy accepted p can.known.class).leaf_address;
        low = arrival_ranks-low policy accepted p s sound can;
      };
    }

-- ---- departures
pub pop_leaves : (policy : Policy) (s : SourceState) (taken : Popping SourceTree) (p : Packet) → IsSound policy s → pop s.tree ≡ Some taken → s.held taken.value ≡ Some p → LeavesItsLeaf policy s (leaving taken p)
pop_leaves policy s taken p sound e held =
    let at : IsAtItsLeaf policy s (taken.digits, taken.value) = popped_is_held policy s taken sound e in
    let path : LedToALeaf s.tree taken = pop-path s.tree taken e in
    let same : at.packet ≡ p = same_packet at.packet p (sym at.held ∙ held) in
    record {
      held = ap s.held (sound.numbered taken.value p held) ∙ held;
      leaf_is = sym at.leaf_is ∙ ap (λ (z : Packet). (class_of policy z).leaf) same;
      leaf_address = path.leaf_address;
      ranks = record { count = path.ranks; low = (HasLowRanks-pop s.tree taken e sound.ranks).ranks };
    }

pub leaves_its_leaf : (policy : Policy) (s : SourceState) (l : Leaver) → IsSound policy s → leaver s ≡ Some l → LeavesItsLeaf policy s l
leaves_its_leaf policy s l sound h =
    let w : (taken : Popping SourceTree) × (pop s.tree ≡ Some taken) × (option_map (leaving taken) (s.held taken.value) ≡ Some l) = option_bind-some _ (pop s.tree) l h in
    let v : (p : Packet) × (s.held w.0.value ≡ Some p) × (leaving w.0 p ≡ l) = option_map-some (leaving w.0) (s.held w.0.value) l w.2 in
    subst (LeavesItsLeaf policy s) v.2 (pop_leaves policy s w.0 v.0 sound w.1 v.1)

-- a pop returns an entry exactly if a packet is queued
pub pop_size : (policy : Policy) (s : SourceState) → IsSound policy s → (pop s.tree ≡ None) ↔ (size s.tree ≡ 0)
pop_size policy s sound =
    let wf = sound.well_formed in (
      (λ e. sym (length-root s.tree wf) ∙ ap (λ (q : Queue). length q) ((pop-none s.tree wf).0 e)),
      (λ z. (pop-none s.tree wf).1 (empty_of_length (root_of s.tree) (length-root s.tree wf ∙ z))),
    )

some_leaver : (s : SourceState) (taken : Popping SourceTree) (p : Packet) → pop s.tree ≡ Some taken → s.held taken.value ≡ Some p → leaver s ≡ Some (leaving taken p)
some_leaver s taken p e h = rw (e, h) refl

pub leaver-none : (policy : Policy) (s : SourceState) → IsSound policy s → (leaver s ≡ None) ↔ (size s.tree ≡ 0)
leaver-none policy s sound = (
  (λ n. (pop_size policy s sound).0 (no_pop (pop s.tree) refl n)),
  (λ z. no_leaver ((pop_size policy s sound).1 z)),
)
  where
    no_pop : (o : Option (Popping SourceTree)) → pop s.tree ≡ o → leaver s ≡ None → pop s.tree ≡ None
    no_pop None e n = e
    no_pop (Some taken) e n =
        let at : IsAtItsLeaf policy s (taken.digits, taken.value) = popped_is_held policy s taken sound e in
        let some = some_leaver s taken at.packet e at.held in
        cc

    no_leaver : pop s.tree ≡ None → leaver s ≡ None
    no_leaver e = rw e refl

pub size_departed : (policy : Policy) (s : SourceState) → IsSound policy s → size (departed policy s).tree ≡ size s.tree - 1
size_departed policy s sound = by_pop (pop s.tree) refl
  where
    by_pop : (o : Option (Popping SourceTree)) → pop s.tree ≡ o → size (left_from policy s o).tree ≡ size s.tree - 1
    by_pop None e = let z : size s.tree ≡ 0 = (pop_size policy s sound).0 e in omega arith
    by_pop (Some taken) e =
        let at : IsAtItsLeaf policy s (taken.digits, taken.value) = popped_is_held policy s taken sound e in
        let m : size s.tree ≡ size taken.left + 1 = size-pop s.tree taken e in
        subst (λ (o : Option Packet). size (left_with policy s taken o).tree ≡ size s.tree - 1) (sym at.held) (omega arith)
