-- The loop of a pop.
use Rattle.fabric_core.proofs.Prelude.{ℕ, arith, ◌≡◌, List, ◌+◌, [], length, sym, ap, get_or, ◌∙◌, subst, ◌<◌, ◌∷◌, ◌*◌, map, refl, drop, set, Some, length-set, ◌≢◌, ◌++◌, Option, None, take, map-set_same, drop_more, drop_all, append-nil, append_assoc, take_all, take_more_set, option_map, Family, Queue, Taking, take_least, Popping, option_bind, nodes, queues_at, array_pop, of_digit, of_last, IsFlow, Ghosts}
use Rattle.fabric_core.proofs.ArrayReads.{read-root}
use Rattle.fabric_core.proofs.FlowLaws.{names-taken, child-waits}
use Rattle.fabric_core.proofs.PopLaws.{queues-child, flow-child}
use Rattle.fabric_core.proofs.ChildSteps.{first_level}
use Rattle.fabric_core.proofs.LevelWalks.{IsAt, at_index, at_child}
use Rattle.fabric_core.proofs.ArrayUpdates.{entries-at, entries-set, entries_stay}
use Rattle.fabric_core.specs.Paths.{PopsNothing}
use Rattle.std.proofs.Math.Nat.{eq-or-lt_of_le}
use Rattle.std.proofs.Common.{inl, inr, ◌≤◌}

-- the pop, given that its first digits and ranks were popped before
abbrev pub resumed : List ℕ → List ℕ → Popping (List Queue) → Popping (List Queue)
resumed digits ranks r = record { value = r.value; digits = digits ++ r.digits; ranks = ranks ++ r.ranks; left = r.left }

resumed-digit : (ds rs : List ℕ) (t : Taking) (o : Option (Popping (List Queue))) → option_map (resumed ds rs) (option_map (of_digit t) o) ≡ option_map (resumed (ds ++ t.value ∷ []) (rs ++ t.rank ∷ [])) o
resumed-digit ds rs t None = refl
resumed-digit ds rs t (Some r) =
    ap (λ (z : List ℕ). Some (record { value = r.value; digits = z; ranks = rs ++ t.rank ∷ r.ranks; left = r.left })) (sym (append_assoc ds (t.value ∷ []) r.digits))
    ∙ ap (λ (z : List ℕ). Some (record { value = r.value; digits = (ds ++ t.value ∷ []) ++ r.digits; ranks = z; left = r.left })) (sym (append_assoc rs (t.rank ∷ []) r.ranks))

resumed-none : (o : Option (Popping (List Queue))) → option_map (resumed [] []) o ≡ o
resumed-none None = refl
resumed-none (Some r) = refl

-- the rest of the pop, from the node reached, is the whole pop, and below the root there is something
-- to pop
pub record IsPopping {Q : Type 0} (node : Ghosts Q) (arities : List ℕ) (old now : List Q) (digits ranks : List ℕ) (level begin width place : ℕ) : Type 0 where
  pub here : IsAt arities (length now) level begin width place
  pub count : length now ≡ length old
  pub digits_long : length digits ≡ length arities
  pub ranks_long : length ranks ≡ length arities + 1
  pub flow : IsFlow (drop level arities) (queues_at (drop level arities) (map node.entries now) begin width place)
  pub some : 0 < level → get_or (map node.entries now) (begin + place) [] ≢ []
  pub popping : option_map (resumed (take level digits) (take level ranks)) (array_pop (drop level arities) (map node.entries now) begin width place) ≡ array_pop arities (map node.entries old) 0 1 0
  pub pushes : map node.pushes now ≡ map node.pushes old

-- nothing was popped yet
pub record IsFirst {Q : Type 0} (old now : List Q) (digits digits_now ranks ranks_now : List ℕ) (begin place : ℕ) : Type 0 where
  pub root : begin + place ≡ 0
  pub queues : now ≡ old
  pub digits_are : digits_now ≡ digits
  pub ranks_are : ranks_now ≡ ranks

pub not_first : {Q : Type 0} (old now : List Q) (digits digits_now ranks ranks_now : List ℕ) (level begin place : ℕ) → level + 1 ≡ 0 → IsFirst old now digits digits_now ranks ranks_now begin place
not_first old now digits digits_now ranks ranks_now level begin place none = absurd (omega (arith, none))

module _ {Q : Type 0} (node : Ghosts Q) where
  pub popping_first : (arities : List ℕ) (old : List Q) (digits ranks : List ℕ) → nodes arities ≡ length old → length digits ≡ length arities → length ranks ≡ length arities + 1
      → IsFlow arities (queues_at arities (map node.entries old) 0 1 0) → IsPopping node arities old old digits ranks 0 0 1 0
  popping_first arities old digits ranks count ld lr flow =
      record {
        here = record { within = omega arith; counted = omega (arith, count); children = first_level arities };
        count = refl;
        digits_long = ld;
        ranks_long = lr;
        flow = flow;
        some = λ below. absurd (omega (arith, below));
        popping = resumed-none (array_pop arities (map node.entries old) 0 1 0);
        pushes = refl;
      }

  -- the entry popped at the node reached
  pub taken_here : (arities : List ℕ) (old now : List Q) (digits ranks : List ℕ) (level begin width place : ℕ) (t : Taking) (e : Q) → IsPopping node arities old now digits ranks level begin width place
      → take_least (node.entries (get_or now (begin + place) e)) ≡ Some t → take_least (get_or (map node.entries now) (begin + place) []) ≡ Some t
  taken_here arities old now digits ranks level begin width place t e s p =
      ap (λ (q : Queue). take_least q) (entries-at node now (begin + place) e (at_index arities (length now) level begin width place s.here)) ∙ p

  -- the flow at the node reached, with its arity in front
  flow_here : (arities : List ℕ) (old now : List Q) (digits ranks : List ℕ) (level begin width place : ℕ) → level < length arities → IsPopping node arities old now digits ranks level begin width place
      → IsFlow (get_or arities level 0 ∷ drop (level + 1) arities) (queues_at (get_or arities level 0 ∷ drop (level + 1) arities) (map node.entries now) begin width place)
  flow_here arities old now digits ranks level begin width place l s = subst (λ (z : List ℕ). IsFlow z (queues_at z (map node.entries now) begin width place)) (drop_more arities level 0 l) s.flow

  pub digit_taken : (arities : List ℕ) (old now : List Q) (digits ranks : List ℕ) (level begin width place : ℕ) (t : Taking) (e : Q) → level < length arities → IsPopping node arities old now digits ranks level begin width place
      → take_least (node.entries (get_or now (begin + place) e)) ≡ Some t → t.value < get_or arities level 0
  digit_taken arities old now digits ranks level begin width place t e l s p =
      names-taken (get_or arities level 0) (get_or (map node.entries now) (begin + place) []) t (flow_here arities old now digits ranks level begin width place l s).0 (taken_here arities old now digits ranks level begin width place t e s p)

  popping_below : (arities : List ℕ) (old now : List Q) (digits ranks : List ℕ) (level begin width place : ℕ) (t : Taking) (c e : Q) → level < length arities → IsPopping node arities old now digits ranks level begin width place
      → take_least (get_or (map node.entries now) (begin + place) []) ≡ Some t → node.entries c ≡ t.rest → t.value < get_or arities level 0 → node.pushes c ≡ node.pushes (get_or now (begin + place) e)
      → IsPopping node arities old (set now (begin + place) c) (set digits level t.value) (set ranks level t.rank) (level + 1) (begin + width) (width * get_or arities level 0) (place * get_or arities level 0 + t.value)
  popping_below arities old now digits ranks level begin width place t c e l s p rest m pushes =
      let inside : place < width = s.here.within in
      let flow : IsFlow (get_or arities level 0 ∷ drop (level + 1) arities) (queues_at (get_or arities level 0 ∷ drop (level + 1) arities) (map node.entries now) begin width place)
      = flow_here arities old now digits ranks level begin width place l s in
      let after : set (map node.entries now) (begin + place) t.rest ≡ map node.entries (set now (begin + place) c)
      = ap (λ (q : Queue). set (map node.entries now) (begin + place) q) (sym rest) ∙ sym (entries-set node now (begin + place) c) in
      record {
        here = subst (λ (n : ℕ). IsAt arities n (level + 1) (begin + width) (width * get_or arities level 0) (place * get_or arities level 0 + t.value)) (sym (length-set now (begin + place) c))
            (at_child arities (length now) level begin width place t.value l m s.here);
        count = length-set now (begin + place) c ∙ s.count;
        digits_long = length-set digits level t.value ∙ s.digits_long;
        ranks_long = length-set ranks level t.rank ∙ s.ranks_long;
        flow = subst (λ (z : List Queue). IsFlow (drop (level + 1) arities) (queues_at (drop (level + 1) arities) z (begin + width) (width * get_or arities level 0) (place * get_or arities level 0 + t.value))) after
            (flow-child (get_or arities level 0) (drop (level + 1) arities) (map node.entries now) t.rest begin width place (begin + place) t.value (omega arith) m flow);
        some = λ _ none. child-waits (get_or arities level 0) (drop (level + 1) arities) (queues_at (get_or arities level 0 ∷ drop (level + 1) arities) (map node.entries now) begin width place) t flow p
            (ap (λ (F : Family). F []) (queues-child (get_or arities level 0) (drop (level + 1) arities) (map node.entries now) t.rest begin width place (begin + place) t.value (omega arith) m)
            ∙ read-root (drop (level + 1) arities) (set (map node.entries now) (begin + place) t.rest) [] (begin + width) (width * get_or arities level 0) (place * get_or arities level 0 + t.value)
            ∙ ap (λ (z : List Queue). get_or z ((begin + width) + (place * get_or arities level 0 + t.value)) []) after ∙ none);
        popping =
            ap (λ (z : List ℕ). option_map (resumed z (take (level + 1) (set ranks level t.rank))) (array_pop (drop (level + 1) arities) (map node.entries (set now (begin + place) c)) (begin + width) (width * get_or arities level 0) (place * get_or arities level 0 + t.value))) (take_more_set digits level t.value (omega (arith, s.digits_long)))
            ∙ ap (λ (z : List ℕ). option_map (resumed (take level digits ++ t.value ∷ []) z) (array_pop (drop (level + 1) arities) (map node.entries (set now (begin + place) c)) (begin + width) (width * get_or arities level 0) (place * get_or arities level 0 + t.value))) (take_more_set ranks level t.rank (omega (arith, s.ranks_long)))
            ∙ ap (λ (z : List Queue). option_map (resumed (take level digits ++ t.value ∷ []) (take level ranks ++ t.rank ∷ [])) (array_pop (drop (level + 1) arities) z (begin + width) (width * get_or arities level 0) (place * get_or arities level 0 + t.value))) (sym after)
            ∙ sym (resumed-digit (take level digits) (take level ranks) t (array_pop (drop (level + 1) arities) (set (map node.entries now) (begin + place) t.rest) (begin + width) (width * get_or arities level 0) (place * get_or arities level 0 + t.value)))
            ∙ sym (ap (λ (o : Option Taking). option_map (resumed (take level digits) (take level ranks)) (option_bind o (λ u. option_map (of_digit u) (array_pop (drop (level + 1) arities) (set (map node.entries now) (begin + place) u.rest) (begin + width) (width * get_or arities level 0) (place * get_or arities level 0 + u.value))))) p)
            ∙ subst (λ (z : List ℕ). option_map (resumed (take level digits) (take level ranks)) (array_pop z (map node.entries now) begin width place) ≡ array_pop arities (map node.entries old) 0 1 0) (drop_more arities level 0 l) s.popping;
        pushes = map-set_same node.pushes now (begin + place) c e pushes ∙ s.pushes;
      }

  pub popping_next : (arities : List ℕ) (old now : List Q) (digits ranks : List ℕ) (level begin width place : ℕ) (t : Taking) (c e : Q) → level < length arities → IsPopping node arities old now digits ranks level begin width place
      → take_least (node.entries (get_or now (begin + place) e)) ≡ Some t → node.entries c ≡ t.rest → node.pushes c ≡ node.pushes (get_or now (begin + place) e)
      → IsPopping node arities old (set now (begin + place) c) (set digits level t.value) (set ranks level t.rank) (level + 1) (begin + width) (width * get_or arities level 0) (place * get_or arities level 0 + t.value)
  popping_next arities old now digits ranks level begin width place t c e l s least rest pushes =
      popping_below arities old now digits ranks level begin width place t c e l s (taken_here arities old now digits ranks level begin width place t e s least) rest (digit_taken arities old now digits ranks level begin width place t e l s least) pushes

  -- the last step, at the leaf
  pub popped_last : (arities : List ℕ) (old now : List Q) (digits ranks : List ℕ) (level begin width place end : ℕ) (t : Taking) (c e : Q) → level ≡ end → end ≡ length arities → IsPopping node arities old now digits ranks level begin width place
      → take_least (node.entries (get_or now (begin + place) e)) ≡ Some t → node.entries c ≡ t.rest
      → array_pop arities (map node.entries old) 0 1 0 ≡ Some (record { value = t.value; digits = digits; ranks = set ranks end t.rank; left = map node.entries (set now (begin + place) c) })
  popped_last arities old now digits ranks level begin width place end t c e le l s least rest =
      let p : take_least (get_or (map node.entries now) (begin + place) []) ≡ Some t = taken_here arities old now digits ranks level begin width place t e s least in
      let after : set (map node.entries now) (begin + place) t.rest ≡ map node.entries (set now (begin + place) c)
      = ap (λ (q : Queue). set (map node.entries now) (begin + place) q) (sym rest) ∙ sym (entries-set node now (begin + place) c) in
      let ds : take level digits ++ [] ≡ digits = append-nil (take level digits) ∙ take_all level digits (omega (arith, le, l, s.digits_long)) in
      let rs : take level ranks ++ t.rank ∷ [] ≡ set ranks end t.rank
      = sym (take_more_set ranks level t.rank (omega (arith, l, s.ranks_long))) ∙ take_all (level + 1) (set ranks level t.rank) (omega (arith, l, s.ranks_long, length-set ranks level t.rank)) ∙ ap (λ (z : ℕ). set ranks z t.rank) le in
      sym (subst (λ (z : List ℕ). option_map (resumed (take level digits) (take level ranks)) (array_pop z (map node.entries now) begin width place) ≡ array_pop arities (map node.entries old) 0 1 0) (drop_all level arities (omega (arith, le, l))) s.popping)
      ∙ ap (λ (o : Option Taking). option_map (resumed (take level digits) (take level ranks)) (option_map (of_last (map node.entries now) (begin + place)) o)) p
      ∙ ap (λ (z : List ℕ). Some (record { value = t.value; digits = z; ranks = take level ranks ++ t.rank ∷ []; left = set (map node.entries now) (begin + place) t.rest })) ds
      ∙ ap (λ (z : List ℕ). Some (record { value = t.value; digits = digits; ranks = z; left = set (map node.entries now) (begin + place) t.rest })) rs
      ∙ ap (λ (z : List Queue). Some (record { value = t.value; digits = digits; ranks = set ranks end t.rank; left = z })) after

  -- an empty queue is the root's
  pub popped_none : (arities : List ℕ) (old now : List Q) (digits digits_now ranks ranks_now : List ℕ) (level begin width place : ℕ) (c e : Q) → IsPopping node arities old now digits_now ranks_now level begin width place
      → (level ≡ 0 → IsFirst old now digits digits_now ranks ranks_now begin place)
      → node.entries (get_or now (begin + place) e) ≡ [] → node.entries c ≡ []
      → PopsNothing arities (map node.entries old) (map node.entries (set now (begin + place) c)) digits digits_now ranks ranks_now
  popped_none arities old now digits digits_now ranks ranks_now level begin width place c e s first none rest =
      let within : begin + place < length now = at_index arities (length now) level begin width place s.here in
      let low : 0 ≤ level = omega arith in
      let empty : get_or (map node.entries now) (begin + place) [] ≡ [] = entries-at node now (begin + place) e within ∙ none in
      elim (eq-or-lt_of_le low) [
        | inl zero_is ↦
            let f : IsFirst old now digits digits_now ranks ranks_now begin place = first (sym zero_is) in
            record {
              empty = read-root arities (map node.entries old) [] 0 1 0 ∙ ap (λ (n : ℕ). get_or (map node.entries old) n []) (sym f.root) ∙ ap (λ (z : List Q). get_or (map node.entries z) (begin + place) []) (sym f.queues) ∙ empty;
              entries = entries_stay node old now (begin + place) c e (ap (λ (z : List Q). map node.entries z) f.queues) (rest ∙ sym none);
              digits = f.digits_are;
              ranks = f.ranks_are;
            }
        | inr below ↦ absurd (s.some below empty)
      ]
