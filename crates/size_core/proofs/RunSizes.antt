-- The results of a sizing of a run are the sizes of the run's outcomes.
use Rattle.size_core.proofs.Prelude.{◌≡◌, ◌∙◌, ℕ, length, sym, ap, List, subst, ◌+◌, ◌<◌, Some, [], refl, ◌∷◌, Option, None, map, Bool, false, true, inl, inr, if◌then◌else◌, ◌⊎◌, option_map, slice_index, image_map, lift_ranks, Policy, popped_is_held, sound_arrived, sound_departed, outcomes, Arrive, CanMake, Depart, Event, Outcome, departure, start, SourceState, arrival_ranks, arrived, class_of, departed, is_full, leaver, leaving, Laid, leaf_of, Address, option_bind, Popping, Watched, popped_along, pushed_along, ClassHops, watched_all, watched, first_of, address_in, Keys, IsOnce, IsPathTo, crossing_in, Sized, Crossing, crossing_along, entry_at, is_on, pop_sized, push_sized, sized, sized_all, Use, popped, Limits}
use Rattle.tree_defs.specs.SourceTree.{SourceTree, pop}
use Rattle.packet_defs.specs.declared.packet.Packet.{Packet}
use Rattle.policy_defs.specs.Accepted.{IsAccepted}
use Rattle.sched_defs.specs.Sound.{IsSound, IsAtItsLeaf}
use Rattle.sched_defs.specs.Events as run
use Rattle.sched_defs.proofs.Leaving.{arrives_at_a_leaf}
use Rattle.size_core.proofs.UseLaws.{figures-popped}
use Rattle.size_core.proofs.PathWalks.{Push, Leads, leads, uses_pushed, uses_popped, passed_pushed, passed_popped, on_path, off_path}

-- ---- outcomes of a run
-- the class is one of the policy's, and there is a rank for each node on the path
abbrev IsFine : Policy → Outcome → Type 0
IsFine policy (run.Arrived p a ranks) = (p.class < length policy.classes) × (length ranks ≡ length (leaf_of policy p.class) + 1)
IsFine policy (run.Departed p a ranks start) = p.class < length policy.classes
IsFine policy (run.Dropped p a) = Unit {0}
IsFine policy run.Empty = Unit {0}

abbrev pub AreFine : Policy → List Outcome → Type 0
AreFine policy [] = Unit {0}
AreFine policy (o ∷ os) = IsFine policy o × AreFine policy os

fine_arrival : (policy : Policy) (p : Packet) (s : SourceState) (t : Bool) → p.class < length policy.classes → length (arrival_ranks policy p s) ≡ length (class_of policy p).leaf + 1
    → IsFine policy (if t then run.Dropped p (class_of policy p).leaf else run.Arrived p (class_of policy p).leaf (arrival_ranks policy p s))
fine_arrival policy p s true class long = tt
fine_arrival policy p s false class long = (class, long)

fine_departure : (policy : Policy) (start : Option ℕ) (s : SourceState) → IsSound policy s → IsFine policy (departure start (leaver s))
fine_departure policy start s sound = by_pop (pop s.tree) refl
  where
    by_pop : (o : Option (Popping SourceTree)) → pop s.tree ≡ o → IsFine policy (departure start (option_bind o (λ taken. option_map (leaving taken) (s.held taken.value))))
    by_pop None e = tt
    by_pop (Some taken) e =
        let at : IsAtItsLeaf policy s (taken.digits, taken.value) = popped_is_held policy s taken sound e in
        subst (λ (o : Option Packet). IsFine policy (departure start (option_map (leaving taken) o))) (sym at.held) (sound.known taken.value at.packet at.held).class

pub fine_run : (policy : Policy) → IsAccepted policy → (es : List Event) (s : SourceState) → IsSound policy s → CanMake policy es s → AreFine policy (outcomes policy es s)
fine_run policy accepted [] s sound can = tt
fine_run policy accepted (Arrive p ∷ es) s sound can = (
  fine_arrival policy p s (is_full policy p s) can.0.known.class (arrives_at_a_leaf policy p s accepted sound can.0).ranks.count,
  fine_run policy accepted es (arrived policy p s) (sound_arrived policy p s accepted sound can.0) can.1,
)
fine_run policy accepted (Depart start ∷ es) s sound can =
    (fine_departure policy start s sound, fine_run policy accepted es (departed policy s) (sound_departed policy s accepted sound) can)

-- ---- uses by index and by address
-- the uses of known nodes are those of their addresses, and other nodes have no push
pub record Matches (known : Keys) (s : Watched) (t : Sized) : Type 0 where
  pub uses : (i : ℕ) (b : Address) → address_in known i ≡ Some b → s.uses i ≡ t.uses b
  pub others : (b : Address) → ((i : ℕ) × (address_in known i ≡ Some b)) ⊎ ((t.uses b).pushes ≡ 0)
  pub crossing : option_map (crossing_in known) s.passed ≡ t.crossing

module _ (known : Keys) (once : IsOnce known) (l : Laid) (policy : Policy) (limits : Limits) (class_hops : ClassHops) (paths : (n : ℕ) → n < length policy.classes → IsPathTo known l.images (leaf_of policy n) (class_hops n)) where
  path : (n : ℕ) → Address
  path n = image_map l.images (leaf_of policy n)

  matches_push : (event : ℕ) (p : Packet) (ranks : List ℕ) (s : Watched) (t : Sized) → p.class < length policy.classes → length ranks ≡ length (leaf_of policy p.class) + 1 → Matches known s t
      → Matches known (pushed_along limits event p.number ranks (class_hops p.class) s) (push_sized limits event p.number (image_map l.images (leaf_of policy p.class)) (lift_ranks l.images (leaf_of policy p.class) ranks) t)
  matches_push event p ranks s t class long m =
      let a = image_map l.images (leaf_of policy p.class) in
      let rs = lift_ranks l.images (leaf_of policy p.class) ranks in
      let to = paths p.class class in
      let way : Leads known ranks [] a rs (class_hops p.class) = subst (λ (z : List ℕ). Leads known ranks [] a z (class_hops p.class)) (to.lifts ranks long) (leads known ranks a to.steps (class_hops p.class) to.path) in
      record {
        uses = λ i b e. uses_pushed known once limits event p.number ranks b i e [] a rs (class_hops p.class) s way ∙ ap (λ (u : Use). Push (entry_at a rs p.number b) u) (m.uses i b e);
        others = λ b. by_test a rs b (is_on a b) refl (m.others b) (on_path known ranks [] a rs (class_hops p.class) way b);
        crossing = passed_pushed known once limits event p.number ranks t.uses [] a rs (class_hops p.class) s way (λ i c d is e. m.uses i c is)
            ∙ ap (λ (o : Option Crossing). first_of o (crossing_along limits event p.number [] a rs t.uses)) m.crossing;
      }
    where
      by_test : (a : Address) (rs : List ℕ) (b : Address) (on : Bool) → is_on a b ≡ on → ((i : ℕ) × (address_in known i ≡ Some b)) ⊎ ((t.uses b).pushes ≡ 0)
          → (is_on a b ≡ true → (i : ℕ) × (address_in known i ≡ Some b)) → ((i : ℕ) × (address_in known i ≡ Some b)) ⊎ ((Push (entry_at a rs p.number b) (t.uses b)).pushes ≡ 0)
      by_test a rs b true e before found = inl (found e)
      by_test a rs b false e (inl at) found = inl at
      by_test a rs b false e (inr none) found = inr (ap (λ o. (Push o (t.uses b)).pushes) (off_path a rs p.number b e) ∙ none)

  matches_pop : (p : Packet) (s : Watched) (t : Sized) → p.class < length policy.classes → Matches known s t
      → Matches known (popped_along (class_hops p.class) s) (pop_sized (image_map l.images (leaf_of policy p.class)) t)
  matches_pop p s t class m =
      let a = image_map l.images (leaf_of policy p.class) in
      let to = paths p.class class in
      let way : Leads known [] [] a (map (slice_index []) to.steps) (class_hops p.class) = leads known [] a to.steps (class_hops p.class) to.path in
      record {
        uses = λ i b e. uses_popped known once [] b i e [] a (map (slice_index []) to.steps) (class_hops p.class) s way ∙ ap (λ (u : Use). if is_on a b then popped u else u) (m.uses i b e);
        others = λ b. by_test (is_on a b) (t.uses b) b (m.others b);
        crossing = ap (λ o. option_map (crossing_in known) o) (passed_popped (class_hops p.class) s) ∙ m.crossing;
      }
    where
      by_test : (on : Bool) (u : Use) (b : Address) → ((i : ℕ) × (address_in known i ≡ Some b)) ⊎ (u.pushes ≡ 0) → ((i : ℕ) × (address_in known i ≡ Some b)) ⊎ ((if on then popped u else u).pushes ≡ 0)
      by_test on u b (inl at) = inl at
      by_test true u b (inr none) = inr (ap (λ f. f.pushes) (figures-popped u) ∙ none)
      by_test false u b (inr none) = inr none

  matches_one : (event : ℕ) (o : Outcome) (s : Watched) (t : Sized) → IsFine policy o → Matches known s t → Matches known (watched limits class_hops event o s) (sized l policy limits event o t)
  matches_one event (run.Arrived p a ranks) s t fine m = matches_push event p ranks s t fine.0 fine.1 m
  matches_one event (run.Departed p a ranks start) s t fine m = matches_pop p s t fine m
  matches_one event (run.Dropped p a) s t fine m = m
  matches_one event run.Empty s t fine m = m

  pub matches_all : (event : ℕ) (os : List Outcome) (s : Watched) (t : Sized) → AreFine policy os → Matches known s t → Matches known (watched_all limits class_hops event os s) (sized_all l policy limits event os t)
  matches_all event [] s t fine m = m
  matches_all event (o ∷ os) s t fine m = matches_all (event + 1) os (watched limits class_hops event o s) (sized l policy limits event o t) fine.1 (matches_one event o s t fine.0 m)
