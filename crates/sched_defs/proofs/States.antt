-- Steps on the path keep each variable in its range, and give ranks in range.
use Rattle.sched_defs.proofs.Prelude.{◌≡◌, List, [], ℕ, ◌∷◌, Some, ap, refl, subst, sym, Option, ◌∙◌, false, ◌≤◌, Bool, true, drop, bytes_eq, AllByRecursion, option_map_or, slice_index, IsNodeReady, Node, node_at, max_rank, Program, Address, Tree, first_states, no_state, Visit, States, after_pops, after_pushes, ranks_pushed, with_state}
use Rattle.std.proofs.lemmas.Slice.Eq.{bytes_eq-Decides}
use Rattle.rank_defs.specs.States.{State, first_state}
use Rattle.rank_defs.specs.Shapes.{IsStateInRange}
use Rattle.rank_defs.specs.Tame.{IsSafePush, IsSafePop}
use Rattle.rank_defs.proofs.SafeSteps.{safe_push, safe_pop, first_state-in_range}
use Rattle.sched_defs.proofs.Visits.{IsVisitTo}
use Rattle.sched_defs.proofs.Ranks.{AreLow, first_low, rest_low}

-- each variable of each node is in its range
abbrev pub AreStatesInRange : Tree Node → States → Type 0
AreStatesInRange root nodes = (a : Address) (n : Node) → node_at root a ≡ Some n → IsStateInRange n.program (nodes a)

some_is : (n m : Node) → Some n ≡ Some m → n ≡ m
some_is n m e = cc

module _ (root : Tree Node) (ready : (a : Address) (n : Node) → node_at root a ≡ Some n → IsNodeReady n) where
  state_at : (nodes : States) (v : Visit) → AreStatesInRange root nodes → IsVisitTo root v → IsStateInRange v.program (nodes v.address)
  state_at nodes v h i = subst (λ (q : Program). IsStateInRange q (nodes v.address)) (sym i.program) (h v.address i.node i.stands)

  with_state-in_range : (nodes : States) (v : Visit) (s : State) → AreStatesInRange root nodes → IsVisitTo root v → IsStateInRange v.program s → AreStatesInRange root (with_state nodes v.address s)
  with_state-in_range nodes v s h i k a n e = by_test (bytes_eq v.address a) refl
    where
      by_test : (t : Bool) → bytes_eq v.address a ≡ t → IsStateInRange n.program (with_state nodes v.address s a)
      by_test true q =
          let same : v.address ≡ a = (bytes_eq-Decides v.address a).0 q in
          let m : i.node ≡ n = some_is i.node n (sym i.stands ∙ ap (node_at root) same ∙ e) in
          let g : IsStateInRange n.program s = subst (λ (q : Program). IsStateInRange q s) (i.program ∙ ap (λ (z : Node). z.program) m) k in
          rw q g
      by_test false q = rw q (h a n e)

  is_safe_push : (nodes : States) (v : Visit) → AreStatesInRange root nodes → IsVisitTo root v → IsSafePush v.program v.who v.env (nodes v.address)
  is_safe_push nodes v h i =
      let r : IsNodeReady i.node = ready v.address i.node i.stands in
      subst (λ (q : Program). IsSafePush q v.who v.env (nodes v.address)) (sym i.program) (safe_push i.node.program r.shaped r.checked (nodes v.address) (h v.address i.node i.stands) v.env i.env v.who)

  is_safe_pop : (nodes : States) (v : Visit) (taken : ℕ) → AreStatesInRange root nodes → IsVisitTo root v → taken ≤ max_rank → IsSafePop v.program v.who v.env taken (nodes v.address)
  is_safe_pop nodes v taken h i l =
      let r : IsNodeReady i.node = ready v.address i.node i.stands in
      subst (λ (q : Program). IsSafePop q v.who v.env taken (nodes v.address)) (sym i.program) (safe_pop i.node.program r.shaped r.checked (nodes v.address) (h v.address i.node i.stands) v.env i.env v.who taken l)

  pub ranks_pushed-low : (visits : List Visit) (nodes : States) → AllByRecursion (IsVisitTo root) visits → AreStatesInRange root nodes → AreLow (ranks_pushed nodes visits)
  ranks_pushed-low [] nodes i h = tt
  ranks_pushed-low (v ∷ visits) nodes i h = ((is_safe_push nodes v h i.0).rank, ranks_pushed-low visits nodes i.1 h)

  pub after_pushes-in_range : (visits : List Visit) (nodes : States) → AllByRecursion (IsVisitTo root) visits → AreStatesInRange root nodes → AreStatesInRange root (after_pushes visits nodes)
  after_pushes-in_range [] nodes i h = h
  after_pushes-in_range (v ∷ visits) nodes i h =
      after_pushes-in_range visits _ i.1 (with_state-in_range nodes v _ h i.0 (is_safe_push nodes v h i.0).after)

  pub after_pops-in_range : (visits : List Visit) (ranks : List ℕ) (nodes : States) → AreLow ranks → AllByRecursion (IsVisitTo root) visits → AreStatesInRange root nodes → AreStatesInRange root (after_pops visits ranks nodes)
  after_pops-in_range [] ranks nodes l i h = h
  after_pops-in_range (v ∷ visits) ranks nodes l i h =
      after_pops-in_range visits (drop 1 ranks) _ (rest_low ranks l) i.1 (with_state-in_range nodes v _ h i.0 (is_safe_pop nodes v (slice_index ranks 0) h i.0 (first_low ranks l)).after)

  pub first_states-in_range : AreStatesInRange root (first_states root)
  first_states-in_range a n e =
      subst (λ (z : Option Node). IsStateInRange n.program (option_map_or (λ m. first_state m.program) z no_state)) (sym e) (first_state-in_range n.program (ready a n e).shaped)
