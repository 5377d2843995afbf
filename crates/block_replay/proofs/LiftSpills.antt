-- Along the lift a push spills nowhere, if each child has its own digit and no entry of a child is
-- above its floor.
use Rattle.block_replay.proofs.Prelude.{refl, ◌≡◌, [], ℕ, ◌∙◌, arith, sym, ◌∷◌, List, Some, ap, suc, zero, ◌≤◌, true, None, length, ◌++◌, false, Option, ◌+◌, Bool, drop, ◌≢◌, eq-eqb, nat_eq, ◌&&◌, ◌||◌, eqb, nat_lt, replicate, zero-add, eqb-true, le-ltb, AllByRecursion, slice_index, unwrap_or, Maps, Placement, Placements, part, ArePlaced, IsPlaced, digits_below, lift_digits, all_mapped, after-append, Queue, SourceTree, Address, Tree, Trees, inner, leaf, none, more, IsAddressOf, LeadsToLeaf, subtree_in, LeadsBelow, SameShape, HasChild, SameShapes, is_spread}
use mathlib.Core.Path.{fun_ext}
use Rattle.tree_defs.specs.Queue.{Entry}
use Rattle.tree_defs.proofs.WellFormedLaws.{leads_has}
use Rattle.embed_defs.specs.Family.{Family, below}
use Rattle.embed_defs.specs.Spills.{spills_for, spills_at_leaf, counted, spills_along}
use Rattle.embed_defs.proofs.Addresses.{some_of_cond}
use Rattle.embed_defs.specs.Lift.{digit_beyond, lift_ranks}
use Rattle.embed_defs.specs.Lifting.{placement_of, digit_at, passing, lift, lift_child, placed_ranks, placed_ranks_below}
use Rattle.embed_defs.specs.Spilling.{push_spills}
use Rattle.embed_defs.proofs.PassedEntries.{passing_by-none, passing_by-some}
use Rattle.embed_defs.proofs.LiftPush.{lift_at_child, transit_below}
use Rattle.embed_defs.proofs.MapPlacements.{ranks-relative}
use Rattle.embed_defs.proofs.ImageLifts.{shape, is_placed, agrees}
use Rattle.block_replay.proofs.ImageDigits.{AreOwnDigits, HasOwnDigits, HaveOwnDigits, spread-own}
use Rattle.block_replay.proofs.TreeFloors.{Floors, IsUnder, AreUnder, AreRanksOver}

-- ---- one queue
-- if a push along e spills nowhere on e, it spills as it does after e
spills_along-way : (e a : Address) (rank : ℕ) (ranks : List ℕ) (F : Family) → ((c : Address) (x : ℕ) → digit_beyond e c ≡ Some x → spills_for rank x (F c) ≡ false)
    → spills_along (e ++ a) (replicate (length e) rank ++ ranks) F ≡ spills_along a ranks (λ c. F (e ++ c))
spills_along-way [] a rank ranks F h = refl
spills_along-way (x ∷ e) a rank ranks F h =
    ap (λ (t : Bool). counted t + spills_along (e ++ a) (replicate (length e) rank ++ ranks) (below F x)) (h [] x refl)
    ∙ zero-add (spills_along (e ++ a) (replicate (length e) rank ++ ranks) (below F x))
    ∙ spills_along-way e a rank ranks (below F x) (λ c y p. h (x ∷ c) y (rw (eq-eqb x x refl) p))

-- two addresses that continue after c with the same digit begin with the same digit
record BeginAlike (e g : Address) : Type 0 where
  long : e ≢ []
  other_long : g ≢ []
  first : slice_index e 0 ≡ slice_index g 0

begin_alike : (e g c : Address) (x : ℕ) → digit_beyond e c ≡ Some x → digit_beyond g c ≡ Some x → BeginAlike e g
begin_alike [] g c x p q = cc
begin_alike (y ∷ e) [] c x p q = cc
begin_alike (y ∷ e) (z ∷ g) [] x p q = record { long = λ n. cc; other_long = λ n. cc; first = cc }
begin_alike (y ∷ e) (z ∷ g) (w ∷ c) x p q =
    let p' : (eqb y w ≡ true) × (digit_beyond e c ≡ Some x) = some_of_cond _ _ x p in
    let q' : (eqb z w ≡ true) × (digit_beyond g c ≡ Some x) = some_of_cond _ _ x q in
    record { long = λ n. cc; other_long = λ n. cc; first = eqb-true y w p'.0 ∙ sym (eqb-true z w q'.0) }

-- no entry of child i has a greater rank
abbrev IsQuiet : ℕ → ℕ → Queue → Type 0
IsQuiet i r q = AllByRecursion (λ e. e.1 ≡ i → e.0 ≤ r) q

-- nor has any entry that passes c with the digit of child i
quiet_passing : (ps : Placements) (i r x : ℕ) (c : Address) → AreOwnDigits ps → digit_beyond (part ps i) c ≡ Some x → (q : Queue) → IsQuiet i r q → spills_for r x (passing ps q c) ≡ false
quiet_passing ps i r x c own p [] h = refl
quiet_passing ps i r x c own p (e ∷ q) h = by_digit (digit_beyond (part ps e.1) c) refl (quiet_passing ps i r x c own p q h.1)
  where
    by_match : (y : ℕ) → digit_beyond (part ps e.1) c ≡ Some y → spills_for r x (passing ps q c) ≡ false → (t : Bool) → nat_eq y x ≡ t → ((nat_eq y x && nat_lt r e.0) || spills_for r x (passing ps q c)) ≡ false
    by_match y s rest false m = rw m rest
    by_match y s rest true m =
        let yx : y ≡ x = eqb-true y x m in
        let alike : BeginAlike (part ps e.1) (part ps i) = begin_alike (part ps e.1) (part ps i) c x (s ∙ ap Some yx) p in
        let one : e.1 ≡ i = own e.1 i alike.long alike.other_long alike.first in
        rw (m, le-ltb r e.0 (h.0 one)) rest

    by_digit : (o : Option ℕ) → digit_beyond (part ps e.1) c ≡ o → spills_for r x (passing ps q c) ≡ false → spills_for r x (passing ps (e ∷ q) c) ≡ false
    by_digit None s rest = ap (spills_for r x) (passing_by-none (digit_at ps c) e.0 e.1 q s) ∙ rest
    by_digit (Some y) s rest = ap (spills_for r x) (passing_by-some (digit_at ps c) e.0 e.1 y q s) ∙ by_match y s rest (nat_eq y x) refl

-- a push at a leaf doesn't spill if no entry has a greater rank
quiet_leaf : (r : ℕ) (q : Queue) → AllByRecursion (λ e. e.0 ≤ r) q → spills_at_leaf r q ≡ false
quiet_leaf r [] h = refl
quiet_leaf r (e ∷ q) h = rw (le-ltb r e.0 h.0) (quiet_leaf r q h.1)

-- ---- the whole path
module _ (f : Floors) where
  mutual
    pub lift-quiet : (a : Address) (t : Tree Queue) (p : Placement) (digits ranks : List ℕ) → IsPlaced p → HasOwnDigits p → SameShape t p → LeadsToLeaf t digits → IsUnder f a t → AreRanksOver f a digits ranks
        → spills_along (lift_digits p digits) (placed_ranks p digits ranks) (lift t p) ≡ 0
    lift-quiet a (leaf q) (leaf e) [] ranks placed own same leads under over =
        ap counted (quiet_leaf (slice_index ranks 0) q (all_mapped (λ (z : Entry). z.0 ≤ f a 0) (λ z. z.0 ≤ slice_index ranks 0) (λ z l. omega (arith, l, over)) q under))
    lift-quiet a (leaf q) p (i ∷ digits) ranks placed own same leads under over = absurd leads
    lift-quiet a (leaf q) (inner e ps) [] ranks placed own same leads under over = absurd same
    lift-quiet a (inner q ts) (leaf e) digits ranks placed own same leads under over = absurd same
    lift-quiet a (inner q ts) (inner e ps) [] ranks placed own same leads under over = absurd leads
    lift-quiet a (inner q ts) (inner e ps) (i ∷ digits) ranks placed own same leads under over =
        let has : HasChild ts i = leads_has ts i digits leads in
        let F : Family = lift (inner q ts) (inner e ps) in
        let quiet : IsQuiet i (slice_index ranks 0) q = all_mapped (λ (z : Entry). z.0 ≤ f a z.1) (λ z. z.1 ≡ i → z.0 ≤ slice_index ranks 0)
        (λ z l k. (let at : f a z.1 ≡ f a i = ap (f a) k in let floor : f a i ≤ slice_index ranks 0 = over.0 in omega (arith, l, at, floor))) q under.0 in
        let transit : (c : Address) (x : ℕ) → digit_beyond (part ps i) c ≡ Some x → spills_for (slice_index ranks 0) x (F c) ≡ false
        = λ c x s. ap (λ (o : Option Queue). spills_for (slice_index ranks 0) x (unwrap_or o (passing ps q c))) (transit_below ts ts ps i c x placed same has s)
        ∙ quiet_passing ps i (slice_index ranks 0) x c own.0 s q quiet in
        let child : (λ (c : Address). F (part ps i ++ c)) ≡ lift_child ts ps i
        = fun_ext (λ c. ap (λ (o : Option Queue). unwrap_or o (passing ps q (part ps i ++ c))) (lift_at_child ts ps i (part ps i ++ c) c placed same has (after-append (part ps i) c))) in
        spills_along-way (part ps i) (digits_below ps i digits) (slice_index ranks 0) (placed_ranks_below ps i digits (drop 1 ranks)) F transit
        ∙ ap (spills_along (digits_below ps i digits) (placed_ranks_below ps i digits (drop 1 ranks))) child
        ∙ lift_child-quiet (λ j. a ++ j ∷ []) ts ps i digits (drop 1 ranks) placed own.1 same leads under.1 over.1

    pub lift_child-quiet : (at : ℕ → Address) (ts : Trees Queue) (ps : Placements) (i : ℕ) (digits ranks : List ℕ) → ArePlaced ps → HaveOwnDigits ps → SameShapes ts ps → LeadsBelow ts i digits
        → AreUnder f at ts → AreRanksOver f (at i) digits ranks → spills_along (digits_below ps i digits) (placed_ranks_below ps i digits ranks) (lift_child ts ps i) ≡ 0
    lift_child-quiet at none ps i digits ranks placed own same leads under over = absurd leads
    lift_child-quiet at (more t ts) none i digits ranks placed own same leads under over = absurd same
    lift_child-quiet at (more t ts) (more p ps) zero digits ranks placed own same leads under over = lift-quiet (at 0) t p digits ranks placed.2 own.0 same.0 leads under.0 over
    lift_child-quiet at (more t ts) (more p ps) (suc i) digits ranks placed own same leads under over = lift_child-quiet (λ j. at (suc j)) ts ps i digits ranks placed.3 own.1 same.1 leads under.1 over

-- digits that end at a leaf are an address
mutual
  leaf_address : (t : SourceTree) (a : Address) → LeadsToLeaf t a → IsAddressOf t a
  leaf_address (leaf q) [] leads = (leaf q, refl)
  leaf_address (leaf q) (i ∷ a) leads = absurd leads
  leaf_address (inner q ts) [] leads = absurd leads
  leaf_address (inner q ts) (i ∷ a) leads = leaf_address_below ts i a leads

  leaf_address_below : (ts : Trees Queue) (i : ℕ) (a : Address) → LeadsBelow ts i a → (u : SourceTree) × (subtree_in ts i a ≡ Some u)
  leaf_address_below none i a leads = absurd leads
  leaf_address_below (more t ts) zero a leads = leaf_address t a leads
  leaf_address_below (more t ts) (suc i) a leads = leaf_address_below ts i a leads

-- under a good map that is spread
pub push-quiet : (f : Floors) (h : ℕ) (t : SourceTree) (images : Tree Address) (digits ranks : List ℕ) → Maps h t images → is_spread images ≡ true → LeadsToLeaf t digits → IsUnder f [] t → AreRanksOver f [] digits ranks
    → push_spills images t digits ranks ≡ 0
push-quiet f h t images digits ranks m spread leads under over =
    ap (λ (a : Address). spills_along a (lift_ranks images digits ranks) (lift t (placement_of images))) (agrees h t images m digits (leaf_address t digits leads))
    ∙ ap (λ (rs : List ℕ). spills_along (lift_digits (placement_of images) digits) rs (lift t (placement_of images))) (ranks-relative 0 images digits ranks)
    ∙ lift-quiet f [] t (placement_of images) digits ranks (is_placed h t images m) (spread-own 0 images spread) (shape h t images m) leads under over
