-- The floor of each child in the states of a policy's nodes: no push step lowers one, and no pop
-- step changes one.
use Rattle.block_replay.proofs.Prelude.{refl, ◌≡◌, [], ℕ, ◌∙◌, arith, sym, ◌∷◌, List, Some, ap, subst, ◌≤◌, true, None, ◌++◌, false, Option, Bool, drop, bytes_eq, bytes_eq-Decides, AllByRecursion, option_map_or, slice_index, IsNodeReady, Node, node_at, Marks, no_marks, Program, IsEnvInRange, IsStateInRange, State, push_rank, after_push, pop_step, push_step, after_pop, Env, Who, Child, AreStatesInRange, after_pushes-in_range, IsVisitTo, Visit, after_pushes, States, after_pops, rank_at, with_state, Address, Tree}
use Rattle.rank_defs.proofs.OtherStates.{put_back-same, put_back-other, by_same_who}
use Rattle.block_replay.proofs.Steady.{floor, HasMarksOf, IsSteady}
use Rattle.block_replay.proofs.TreeFloors.{Floors}

-- the inputs of a step for a child with these marks, with a packet of length 0
abbrev pub told : ℕ → Marks → Env
told now m = record { len = 0; now = now; prio = m.prio; weight = m.weight; slack = m.slack }

-- the marks of a child of the node at an address
abbrev pub marks_of : Tree Node → Address → ℕ → Marks
marks_of root a i = option_map_or (λ n. n.marks) (node_at root (a ++ i ∷ [])) no_marks

-- the floor of a child with these marks and variables, if there is such a node
abbrev pub floor_in : ℕ → Marks → List ℕ → Option Node → ℕ
floor_in now m eaches None = 0
floor_in now m eaches (Some n) = floor n.program (told now m) eaches

-- the floor of each child of the node at each address
abbrev pub floors : Tree Node → States → ℕ → Floors
floors root nodes now a i = floor_in now (marks_of root a i) ((nodes a).eaches (Child i)) (node_at root a)

-- an arrival's visit to a node of the tree; the step gets the child with its marks
pub record IsArrivalAt (root : Tree Node) (moment : ℕ) (v : Visit) : Type 0 where
  pub visit : IsVisitTo root v
  pub now : v.env.now ≡ moment
  pub marks : (i : ℕ) → v.who ≡ Child i → HasMarksOf v.env (told moment (marks_of root v.address i))

pub no_less : (n m : ℕ) → n ≡ m → n ≤ m
no_less n m e = omega arith

pub other_way : (old new : Env) → HasMarksOf old new → HasMarksOf new old
other_way old new m = record { prio = sym m.prio; weight = sym m.weight; slack = sym m.slack }

-- ---- one step
module _ (p : Program) (steady : IsSteady p) (who : Who) (env : Env) (s : State) where
  module _ (in_range : IsEnvInRange env) (holds : IsStateInRange p s) (e : Env) (now : env.now ≡ e.now) where
    -- the rank of a push is at most the floor after it
    pub rank_under : HasMarksOf env e → push_rank p who env s ≤ floor p e ((after_push p who env s).eaches who)
    rank_under m =
        let one : push_rank p who env s ≤ floor p env (push_step p who env s).eaches = steady.raised who env s in_range holds in
        let two : floor p env (push_step p who env s).eaches ≤ floor p e (push_step p who env s).eaches = steady.later env e (push_step p who env s).eaches m (no_less env.now e.now now) in
        subst (λ (v : List ℕ). push_rank p who env s ≤ floor p e v) (sym (put_back-same who (push_step p who env s) s)) (omega (arith, one, two))

    -- and at least the floor before it
    pub rank_over : HasMarksOf env e → floor p e (s.eaches who) ≤ push_rank p who env s
    rank_over m =
        let one : floor p e (s.eaches who) ≤ floor p env (s.eaches who) = steady.later e env (s.eaches who) (other_way env e m) (no_less e.now env.now (sym now)) in
        let two : floor p env (s.eaches who) ≤ push_rank p who env s = steady.above who env s in
        omega (arith, one, two)

    -- so a push lowers no floor
    pub floor_pushed : (other : Who) → (who ≡ other → HasMarksOf env e) → floor p e (s.eaches other) ≤ floor p e ((after_push p who env s).eaches other)
    floor_pushed other marks = by_same_who who other
        (λ same. subst (λ (w : Who). floor p e (s.eaches w) ≤ floor p e ((after_push p who env s).eaches w)) same
        (let one = rank_over (marks same) in let two = rank_under (marks same) in omega (arith, one, two)))
        (λ apart. no_less (floor p e (s.eaches other)) (floor p e ((after_push p who env s).eaches other))
        (ap (floor p e) (sym (put_back-other who other (push_step p who env s) s (λ k. apart (sym k))))))

  -- a pop changes no variable of a child
  pub eaches_popped : (taken : ℕ) (other : Who) → (after_pop p who env taken s).eaches other ≡ s.eaches other
  eaches_popped taken other = by_same_who who other
      (λ same. subst (λ (w : Who). (after_pop p who env taken s).eaches w ≡ s.eaches w) same (put_back-same who (pop_step p who env taken s) s ∙ steady.popped who env taken s))
      (λ apart. put_back-other who other (pop_step p who env taken s) s (λ k. apart (sym k)))

-- P holds of the states with one replaced, if it holds of the new state and of each old one
pub state_at : (nodes : States) (b : Address) (s : State) (P : Address → State → Type 0) → P b s → ((a : Address) → P a (nodes a)) → (a : Address) → P a (with_state nodes b s a)
state_at nodes b s P here others a = by_test (bytes_eq b a) refl
  where
    by_test : (t : Bool) → bytes_eq b a ≡ t → P a (with_state nodes b s a)
    by_test true q = rw q (subst (λ (c : Address). P c s) ((bytes_eq-Decides b a).0 q) here)
    by_test false q = rw q (others a)

pub with_state-here : (nodes : States) (a : Address) (s : State) → with_state nodes a s a ≡ s
with_state-here nodes a s = rw ((bytes_eq-Decides a a).1 refl) refl

-- ---- all nodes
module _ (root : Tree Node) (steady : (a : Address) (n : Node) → node_at root a ≡ Some n → IsSteady n.program) where
  steady_visit : (v : Visit) → IsVisitTo root v → IsSteady v.program
  steady_visit v i = subst IsSteady (sym i.program) (steady v.address i.node i.stands)

  -- the floor at a node that is visited
  pub floor_at : (now : ℕ) (m : Marks) (eaches : List ℕ) (v : Visit) → IsVisitTo root v → floor_in now m eaches (node_at root v.address) ≡ floor v.program (told now m) eaches
  floor_at now m eaches v i = ap (floor_in now m eaches) i.stands ∙ ap (λ (p : Program). floor p (told now m) eaches) (sym i.program)

  pub state_in_range : (nodes : States) (v : Visit) → AreStatesInRange root nodes → IsVisitTo root v → IsStateInRange v.program (nodes v.address)
  state_in_range nodes v h i = subst (λ (p : Program). IsStateInRange p (nodes v.address)) (sym i.program) (h v.address i.node i.stands)

  -- time lowers no floor
  pub floors-later : (nodes : States) (old new : ℕ) → old ≤ new → (a : Address) (i : ℕ) → floors root nodes old a i ≤ floors root nodes new a i
  floors-later nodes old new l a i = by_node (node_at root a) refl
    where
      by_node : (o : Option Node) → node_at root a ≡ o → floor_in old (marks_of root a i) ((nodes a).eaches (Child i)) o ≤ floor_in new (marks_of root a i) ((nodes a).eaches (Child i)) o
      by_node None e = omega arith
      by_node (Some n) e =
          (steady a n e).later (told old (marks_of root a i)) (told new (marks_of root a i)) ((nodes a).eaches (Child i)) (record { prio = refl; weight = refl; slack = refl }) l

  -- ---- pushes
  -- the floor of a child after the push at a visited node
  pub floors_pushed : (nodes : States) (now : ℕ) (v : Visit) → AreStatesInRange root nodes → IsArrivalAt root now v → (a : Address) (i : ℕ)
      → floors root nodes now a i ≤ floors root (with_state nodes v.address (after_push v.program v.who v.env (nodes v.address))) now a i
  floors_pushed nodes now v h arrival a i =
      let s : State = nodes v.address in
      let m : Marks = marks_of root v.address i in
      let here : floor v.program (told now m) (s.eaches (Child i)) ≤ floor v.program (told now m) ((after_push v.program v.who v.env s).eaches (Child i))
      = floor_pushed v.program (steady_visit v arrival.visit) v.who v.env s arrival.visit.env (state_in_range nodes v h arrival.visit) (told now m) arrival.now (Child i) (arrival.marks i) in
      let before : floor_in now m (s.eaches (Child i)) (node_at root v.address) ≡ floor v.program (told now m) (s.eaches (Child i)) = floor_at now m (s.eaches (Child i)) v arrival.visit in
      let behind : floor_in now m ((after_push v.program v.who v.env s).eaches (Child i)) (node_at root v.address) ≡ floor v.program (told now m) ((after_push v.program v.who v.env s).eaches (Child i))
      = floor_at now m ((after_push v.program v.who v.env s).eaches (Child i)) v arrival.visit in
      state_at nodes v.address (after_push v.program v.who v.env s)
      (λ b z. floors root nodes now b i ≤ floor_in now (marks_of root b i) (z.eaches (Child i)) (node_at root b))
      (omega (arith, here, before, behind)) (λ b. no_less (floors root nodes now b i) (floors root nodes now b i) refl) a

  -- the rank of a visit is between the floor before it and the floor after it
  pub visit_over : (nodes : States) (now : ℕ) (v : Visit) (i : ℕ) → v.who ≡ Child i → AreStatesInRange root nodes → IsArrivalAt root now v → floors root nodes now v.address i ≤ rank_at nodes v
  visit_over nodes now v i child h arrival =
      let s : State = nodes v.address in
      let m : Marks = marks_of root v.address i in
      let over : floor v.program (told now m) (s.eaches v.who) ≤ rank_at nodes v
      = rank_over v.program (steady_visit v arrival.visit) v.who v.env s arrival.visit.env (state_in_range nodes v h arrival.visit) (told now m) arrival.now (arrival.marks i child) in
      let same : floor v.program (told now m) (s.eaches v.who) ≡ floor v.program (told now m) (s.eaches (Child i)) = ap (λ (w : Who). floor v.program (told now m) (s.eaches w)) child in
      let at : floors root nodes now v.address i ≡ floor v.program (told now m) (s.eaches (Child i)) = floor_at now m (s.eaches (Child i)) v arrival.visit in
      omega (arith, over, same, at)

  pub visit_under : (nodes : States) (now : ℕ) (v : Visit) (i : ℕ) → v.who ≡ Child i → AreStatesInRange root nodes → IsArrivalAt root now v
      → rank_at nodes v ≤ floors root (with_state nodes v.address (after_push v.program v.who v.env (nodes v.address))) now v.address i
  visit_under nodes now v i child h arrival =
      let s : State = after_push v.program v.who v.env (nodes v.address) in
      let m : Marks = marks_of root v.address i in
      let under : rank_at nodes v ≤ floor v.program (told now m) (s.eaches v.who)
      = rank_under v.program (steady_visit v arrival.visit) v.who v.env (nodes v.address) arrival.visit.env (state_in_range nodes v h arrival.visit) (told now m) arrival.now (arrival.marks i child) in
      let same : floor v.program (told now m) (s.eaches v.who) ≡ floor v.program (told now m) (s.eaches (Child i)) = ap (λ (w : Who). floor v.program (told now m) (s.eaches w)) child in
      let at : floor_in now m (s.eaches (Child i)) (node_at root v.address) ≡ floor v.program (told now m) (s.eaches (Child i)) = floor_at now m (s.eaches (Child i)) v arrival.visit in
      let here : floors root (with_state nodes v.address s) now v.address i ≡ floor_in now m (s.eaches (Child i)) (node_at root v.address)
      = ap (λ (z : State). floor_in now m (z.eaches (Child i)) (node_at root v.address)) (with_state-here nodes v.address s) in
      omega (arith, under, same, at, here)

  module _ (ready : (a : Address) (n : Node) → node_at root a ≡ Some n → IsNodeReady n) where
    pub pushed_in_range : (nodes : States) (now : ℕ) (v : Visit) → AreStatesInRange root nodes → IsArrivalAt root now v → AreStatesInRange root (with_state nodes v.address (after_push v.program v.who v.env (nodes v.address)))
    pushed_in_range nodes now v h arrival = after_pushes-in_range root ready (v ∷ []) nodes (arrival.visit, tt) h

    pub floors-pushes : (visits : List Visit) (nodes : States) (now : ℕ) → AllByRecursion (IsArrivalAt root now) visits → AreStatesInRange root nodes → (a : Address) (i : ℕ)
        → floors root nodes now a i ≤ floors root (after_pushes visits nodes) now a i
    floors-pushes [] nodes now arrivals h a i = no_less (floors root nodes now a i) (floors root nodes now a i) refl
    floors-pushes (v ∷ visits) nodes now arrivals h a i =
        let one : floors root nodes now a i ≤ floors root (with_state nodes v.address (after_push v.program v.who v.env (nodes v.address))) now a i = floors_pushed nodes now v h arrivals.0 a i in
        let rest : floors root (with_state nodes v.address (after_push v.program v.who v.env (nodes v.address))) now a i ≤ floors root (after_pushes (v ∷ visits) nodes) now a i
        = floors-pushes visits (with_state nodes v.address (after_push v.program v.who v.env (nodes v.address))) now arrivals.1 (pushed_in_range nodes now v h arrivals.0) a i in
        omega (arith, one, rest)

  -- ---- pops
  eaches-pops : (visits : List Visit) (ranks : List ℕ) (nodes : States) → AllByRecursion (IsVisitTo root) visits → (a : Address) (who : Who) → (after_pops visits ranks nodes a).eaches who ≡ (nodes a).eaches who
  eaches-pops [] ranks nodes visits_are a who = refl
  eaches-pops (v ∷ visits) ranks nodes visits_are a who =
      eaches-pops visits (drop 1 ranks) (with_state nodes v.address (after_pop v.program v.who v.env (slice_index ranks 0) (nodes v.address))) visits_are.1 a who
      ∙ state_at nodes v.address (after_pop v.program v.who v.env (slice_index ranks 0) (nodes v.address)) (λ b z. z.eaches who ≡ (nodes b).eaches who)
      (eaches_popped v.program (steady_visit v visits_are.0) v.who v.env (nodes v.address) (slice_index ranks 0) who) (λ b. refl) a

  pub floors-pops : (visits : List Visit) (ranks : List ℕ) (nodes : States) (now : ℕ) → AllByRecursion (IsVisitTo root) visits → (a : Address) (i : ℕ)
      → floors root (after_pops visits ranks nodes) now a i ≡ floors root nodes now a i
  floors-pops visits ranks nodes now visits_are a i =
      ap (λ (v : List ℕ). floor_in now (marks_of root a i) v (node_at root a)) (eaches-pops visits ranks nodes visits_are a (Child i))
