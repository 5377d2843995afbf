-- The ranks with which a packet arrives are between the floors before its push and those after it.
use Rattle.block_replay.proofs.Prelude.{refl, ◌≡◌, [], ℕ, ◌∙◌, arith, sym, ◌∷◌, List, Some, ap, subst, suc, zero, ◌≤◌, true, length, ◌++◌, false, Bool, ◌<◌, append-nil, bytes_eq, length-append, append_assoc, bytes_eq-Decides, AllByRecursion, option_map_or, Packet, IsNodeReady, AreMarksInRange, Node, node_at, Marks, no_marks, node_below, Class, fifo, Program, max_rank, max_len, State, push_rank, after_push, Child, Flow, all_joined, AreStatesInRange, IsVisitTo, visits_from-are, IsPart, root_stands, Visit, after_pushes, States, rank_at, with_state, child_marks, env_for, ranks_pushed, visit, visits_below, visits_from, Address, Tree, Trees, inner, leaf, none, more, root_of, LeadsToLeaf, LeadsBelow}
use Rattle.rank_defs.specs.FlowGroups.{grouped}
use Rattle.block_replay.proofs.Steady.{floor, HasMarksOf}
use Rattle.block_replay.proofs.SteadyNodes.{HasSteadyPrograms, HaveSteadyPrograms, steady_at}
use Rattle.block_replay.proofs.TreeFloors.{AreRanksUnder, AreRanksOver}
use Rattle.block_replay.proofs.StateFloors.{told, marks_of, floor_in, floors, IsArrivalAt, visit_over, visit_under, floors-pushes, pushed_in_range}

-- ---- marks of children
child_marks-are : (ts : Trees Node) (i : ℕ) → option_map_or (λ n. n.marks) (node_below ts i []) no_marks ≡ child_marks ts i
child_marks-are none i = refl
child_marks-are (more t ts) zero = rw (root_stands t) refl
child_marks-are (more t ts) (suc i) = child_marks-are ts i

-- the nodes of these subtrees are the nodes of the tree at these addresses
abbrev ArePart : Tree Node → (ℕ → Address) → Trees Node → Type 0
ArePart root at ts = (i : ℕ) (b : Address) → node_at root (at i ++ b) ≡ node_below ts i b

part_below : (root : Tree Node) (a : Address) (n : Node) (ts : Trees Node) → IsPart root a (inner n ts) → ArePart root (λ i. a ++ i ∷ []) ts
part_below root a n ts part i b = ap (node_at root) (append_assoc a (i ∷ []) b) ∙ part (i ∷ b)

part_stands : (root : Tree Node) (a : Address) (t : Tree Node) → IsPart root a t → node_at root a ≡ Some (root_of t)
part_stands root a t part = ap (node_at root) (sym (append-nil a)) ∙ part [] ∙ root_stands t

-- a step on the path gets the child with its marks, and the timestamp of the arrival
record IsTold (root : Tree Node) (moment : ℕ) (v : Visit) : Type 0 where
  now : v.env.now ≡ moment
  marks : (i : ℕ) → v.who ≡ Child i → HasMarksOf v.env (told moment (marks_of root v.address i))

same_child : (i j : ℕ) → Child i ≡ Child j → i ≡ j
same_child i j e = cc

module _ (root : Tree Node) (c : Class) (p : Packet) (moment : ℕ) where
  told_of_child : (a : Address) (n : Node) (ts : Trees Node) (i : ℕ) → IsPart root a (inner n ts) → HasMarksOf (env_for p moment (child_marks ts i)) (told moment (marks_of root a i))
  told_of_child a n ts i part =
      let same : marks_of root a i ≡ child_marks ts i = ap (λ o. option_map_or (λ (z : Node). z.marks) o no_marks) (part (i ∷ [])) ∙ child_marks-are ts i in
      record { prio = ap (λ (m : Marks). m.prio) (sym same); weight = ap (λ (m : Marks). m.weight) (sym same); slack = ap (λ (m : Marks). m.slack) (sym same) }

  mutual
    visits_from-told : (t : Tree Node) (a : Address) (digits : List ℕ) → IsPart root a t → AllByRecursion (IsTold root moment) (visits_from t a digits c p moment)
    visits_from-told (leaf n) a digits part = (record { now = refl; marks = λ i e. cc }, tt)
    visits_from-told (inner n ts) a [] part = tt
    visits_from-told (inner n ts) a (i ∷ digits) part = (
      record {
        now = refl;
        marks = λ j e. subst (λ (k : ℕ). HasMarksOf (env_for p moment (child_marks ts i)) (told moment (marks_of root a k))) (same_child i j e) (told_of_child a n ts i part);
      },
      visits_below-told ts i (λ j. a ++ j ∷ []) digits (part_below root a n ts part),
    )

    visits_below-told : (ts : Trees Node) (i : ℕ) (at : ℕ → Address) (digits : List ℕ) → ArePart root at ts → AllByRecursion (IsTold root moment) (visits_below ts i (at i) digits c p moment)
    visits_below-told none i at digits part = tt
    visits_below-told (more t ts) zero at digits part = visits_from-told t (at 0) digits (part 0)
    visits_below-told (more t ts) (suc i) at digits part = visits_below-told ts i (λ j. at (suc j)) digits (λ j. part (suc j))

  -- no visit on the path is above the first
  mutual
    visits_from-longer : (n : ℕ) (t : Tree Node) (a : Address) (digits : List ℕ) → n ≤ length a → AllByRecursion (λ v. n ≤ length v.address) (visits_from t a digits c p moment)
    visits_from-longer n (leaf m) a digits l = (l, tt)
    visits_from-longer n (inner m ts) a [] l = tt
    visits_from-longer n (inner m ts) a (i ∷ digits) l = (l, visits_below-longer n ts i (a ++ i ∷ []) digits (omega (arith, l, length-append a (i ∷ []))))

    visits_below-longer : (n : ℕ) (ts : Trees Node) (i : ℕ) (a : Address) (digits : List ℕ) → n ≤ length a → AllByRecursion (λ v. n ≤ length v.address) (visits_below ts i a digits c p moment)
    visits_below-longer n none i a digits l = tt
    visits_below-longer n (more t ts) zero a digits l = visits_from-longer n t a digits l
    visits_below-longer n (more t ts) (suc i) a digits l = visits_below-longer n ts i a digits l

-- ---- a state that was replaced
with_state-longer : (nodes : States) (a b : Address) (s : State) → length a < length b → with_state nodes a s b ≡ nodes b
with_state-longer nodes a b s l = by_test (bytes_eq a b) refl
  where
    by_test : (t : Bool) → bytes_eq a b ≡ t → with_state nodes a s b ≡ nodes b
    by_test true q = let e : length a ≡ length b = ap length ((bytes_eq-Decides a b).0 q) in absurd (omega arith)
    by_test false q = rw q refl

-- the state of a node doesn't affect the ranks of nodes below it
ranks_pushed-longer : (visits : List Visit) (nodes : States) (a : Address) (s : State) → AllByRecursion (λ v. suc (length a) ≤ length v.address) visits → ranks_pushed (with_state nodes a s) visits ≡ ranks_pushed nodes visits
ranks_pushed-longer [] nodes a s l = refl
ranks_pushed-longer (v ∷ visits) nodes a s l =
    let k : length a < length v.address = let k = l.0 in omega arith in
    ap (λ (z : State). push_rank v.program v.who v.env z ∷ ranks_pushed (with_state nodes a s) visits) (with_state-longer nodes a v.address s k)
    ∙ ap (λ (ranks : List ℕ). rank_at nodes v ∷ ranks) (ranks_pushed-longer visits nodes a s l.1)

-- ---- ranks on the path
fifo-floor : (root : Tree Node) (nodes : States) (now : ℕ) (a : Address) (n : Node) → node_at root a ≡ Some n → n.program ≡ fifo → floors root nodes now a 0 ≡ 0
fifo-floor root nodes now a n stands f =
    ap (floor_in now (marks_of root a 0) ((nodes a).eaches (Child 0))) stands ∙ ap (λ (q : Program). floor q (told now (marks_of root a 0)) ((nodes a).eaches (Child 0))) f

module _ (root : Tree Node) (steady : HasSteadyPrograms root) (ready : (a : Address) (n : Node) → node_at root a ≡ Some n → IsNodeReady n)
    (c : Class) (marks : AreMarksInRange c.marks) (p : Packet) (known : p.len ≤ max_len) (moment : ℕ) (now : moment ≤ max_rank) where
  pub arrivals_from : (t : Tree Node) (a : Address) (digits : List ℕ) → IsPart root a t → AllByRecursion (IsArrivalAt root moment) (visits_from t a digits c p moment)
  arrivals_from t a digits part =
      all_joined (IsVisitTo root) (IsTold root moment) (IsArrivalAt root moment) (λ v i h. record { visit = i; now = h.now; marks = h.marks }) (visits_from t a digits c p moment)
      (visits_from-are root ready c marks p known moment now t a digits part) (visits_from-told root c p moment t a digits part)

  mutual
    -- no rank is below its floor before the push
    pub ranks_over : (t : Tree Node) (a : Address) (digits : List ℕ) (nodes : States) → IsPart root a t → HasSteadyPrograms t → LeadsToLeaf t digits → AreStatesInRange root nodes
        → AreRanksOver (floors root nodes moment) a digits (ranks_pushed nodes (visits_from t a digits c p moment))
    ranks_over (leaf n) a [] nodes part programs leads h = let e : floors root nodes moment a 0 ≡ 0 = fifo-floor root nodes moment a n (part_stands root a (leaf n) part) programs in omega (arith, e)
    ranks_over (leaf n) a (i ∷ digits) nodes part programs leads h = absurd leads
    ranks_over (inner n ts) a [] nodes part programs leads h = absurd leads
    ranks_over (inner n ts) a (i ∷ digits) nodes part programs leads h = (
      visit_over root (steady_at root steady) nodes moment (visit a n.program (Child i) (env_for p moment (child_marks ts i))) i refl h (arrivals_from (inner n ts) a (i ∷ digits) part).0,
      ranks_below_over ts i (λ j. a ++ j ∷ []) digits nodes (part_below root a n ts part) programs.1 leads h,
    )

    pub ranks_below_over : (ts : Trees Node) (i : ℕ) (at : ℕ → Address) (digits : List ℕ) (nodes : States) → ArePart root at ts → HaveSteadyPrograms ts → LeadsBelow ts i digits → AreStatesInRange root nodes
        → AreRanksOver (floors root nodes moment) (at i) digits (ranks_pushed nodes (visits_below ts i (at i) digits c p moment))
    ranks_below_over none i at digits nodes part programs leads h = absurd leads
    ranks_below_over (more t ts) zero at digits nodes part programs leads h = ranks_over t (at 0) digits nodes (part 0) programs.0 leads h
    ranks_below_over (more t ts) (suc i) at digits nodes part programs leads h = ranks_below_over ts i (λ j. at (suc j)) digits nodes (λ j. part (suc j)) programs.1 leads h

  mutual
    -- no rank is above its floor after the push
    pub ranks_under : (t : Tree Node) (a : Address) (digits : List ℕ) (nodes : States) → IsPart root a t → HasSteadyPrograms t → LeadsToLeaf t digits → AreStatesInRange root nodes
        → AreRanksUnder (floors root (after_pushes (visits_from t a digits c p moment) nodes) moment) a digits (ranks_pushed nodes (visits_from t a digits c p moment))
    ranks_under (leaf n) a [] nodes part programs leads h =
        let e : push_rank n.program (Flow (grouped n.group p.flow)) (env_for p moment c.marks) (nodes a) ≡ 0 = ap (λ (q : Program). push_rank q (Flow (grouped n.group p.flow)) (env_for p moment c.marks) (nodes a)) programs in
        omega (arith, e)
    ranks_under (leaf n) a (i ∷ digits) nodes part programs leads h = absurd leads
    ranks_under (inner n ts) a [] nodes part programs leads h = absurd leads
    ranks_under (inner n ts) a (i ∷ digits) nodes part programs leads h =
        let v : Visit = visit a n.program (Child i) (env_for p moment (child_marks ts i)) in
        let s : State = after_push n.program (Child i) (env_for p moment (child_marks ts i)) (nodes a) in
        let rest : List Visit = visits_below ts i (a ++ i ∷ []) digits c p moment in
        let arrivals : AllByRecursion (IsArrivalAt root moment) (v ∷ rest) = arrivals_from (inner n ts) a (i ∷ digits) part in
        let held : AreStatesInRange root (with_state nodes a s) = pushed_in_range root (steady_at root steady) ready nodes moment v h arrivals.0 in
        let one : rank_at nodes v ≤ floors root (with_state nodes a s) moment a i = visit_under root (steady_at root steady) nodes moment v i refl h arrivals.0 in
        let two : floors root (with_state nodes a s) moment a i ≤ floors root (after_pushes rest (with_state nodes a s)) moment a i = floors-pushes root (steady_at root steady) ready rest (with_state nodes a s) moment arrivals.1 held a i in
        let below : AreRanksUnder (floors root (after_pushes rest (with_state nodes a s)) moment) (a ++ i ∷ []) digits (ranks_pushed (with_state nodes a s) rest)
        = ranks_below_under ts i (λ j. a ++ j ∷ []) digits (with_state nodes a s) (part_below root a n ts part) programs.1 leads held in
        let same : ranks_pushed (with_state nodes a s) rest ≡ ranks_pushed nodes rest
        = ranks_pushed-longer rest nodes a s (visits_below-longer root c p moment (suc (length a)) ts i (a ++ i ∷ []) digits (omega (arith, length-append a (i ∷ [])))) in
        (omega (arith, one, two), subst (AreRanksUnder (floors root (after_pushes rest (with_state nodes a s)) moment) (a ++ i ∷ []) digits) same below)

    pub ranks_below_under : (ts : Trees Node) (i : ℕ) (at : ℕ → Address) (digits : List ℕ) (nodes : States) → ArePart root at ts → HaveSteadyPrograms ts → LeadsBelow ts i digits → AreStatesInRange root nodes
        → AreRanksUnder (floors root (after_pushes (visits_below ts i (at i) digits c p moment) nodes) moment) (at i) digits (ranks_pushed nodes (visits_below ts i (at i) digits c p moment))
    ranks_below_under none i at digits nodes part programs leads h = absurd leads
    ranks_below_under (more t ts) zero at digits nodes part programs leads h = ranks_under t (at 0) digits nodes (part 0) programs.0 leads h
    ranks_below_under (more t ts) (suc i) at digits nodes part programs leads h = ranks_below_under ts i (λ j. at (suc j)) digits nodes (λ j. part (suc j)) programs.1 leads h
