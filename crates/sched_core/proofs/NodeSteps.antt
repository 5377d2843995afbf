-- A step of one node on the path.
use Rattle.sched_core.proofs.Prelude.{arith, ◌≡◌, ap, ◌∙◌, sym, ℕ, List, length, subst, Some, ◌<◌, [], refl, ◌∷◌, ◌≤◌, ◌++◌, ◌↔◌, append-nil, drop_all, take-append-drop, slice_get-get_or, slice_get, slice_index_or, slice_set, slice_index, address_at, told, AreMarksInRange, IsNodeReady, IsShaped, Node, IsForm, RunAs, HasRoom, state_of, children_of, NodeState, same-trans, after_pop-same, after_push-same, push_step-same, max_rank, Program, IsStateInRange, SameState, State, after_push, after_pop, push_rank, Env, Who, Child, Flow, Visit, States, after_pops, after_pushes, env_for, rank_at, with_state, Tree, Address, LeadsToLeaf, inner, leaf, root_of, Option, option_map_or, subtree, part_at, HaveValues, AreNodeStates, HasRoomAt, IsNodeStateOf, Keeps, marks_on, rank_told, IsPathNode, tree_for, class_for, IsReady, ForValues, KeepsRoom, stop, ahead, part, place, who_on, HasRoomAtLeaf, IsAtLevel, ValuesBecome, PacketPath, PathNode}
use Rattle.rank_defs.specs.declared.environment.FlowKey.{FlowKey}
use Rattle.rank_defs.specs.declared.flow_group.FlowGroup.{FlowGroup}
use Rattle.rank_defs.specs.declared.flow_group.FlowGroup.TheVariants.{FiveTuple}
use Rattle.rank_defs.specs.FlowGroups.{grouped}
use Rattle.rank_core.specs.declared.form.Form.TheVariants.{Empty}
use Rattle.rank_defs.specs.Checks.{IsChecked}
use Rattle.rank_defs.specs.Shapes.{IsEnvInRange}
use Rattle.rank_core.specs.NodeSteps.{CanRunAt, KeepsNode}
use Rattle.policy_defs.specs.Policy.{Class, Marks, group_at}
use Rattle.sched_core.specs.PathNodes.{program_at}
use Rattle.sched_core.proofs.TreeParts.{IsNext, next, node-of_part, part-down}
use Rattle.sched_core.proofs.Levels.{there-at, leads-at, number-of, ahead-next}
use Rattle.sched_core.proofs.RanksTold.{told-low, told-rank, told-after, no_lines-after}
use Rattle.sched_core.proofs.StateUpdates.{node_states-set, values-set, values-same, room-set}

pub marks-of_class : (t : Tree Node) (c : Class) → marks_on t [] c ≡ c.marks
marks-of_class (leaf n) c = refl
marks-of_class (inner n ts) c = refl

-- the key of a flow whose group counts all five fields is the flow itself
pub five-fields : {group : FlowGroup} (flow : FlowKey) → group ≡ FiveTuple → flow ≡ grouped group flow
five-fields flow is = ap (λ (g : FlowGroup). grouped g flow) (sym is)

-- the node at a level: its entry, and that there is a state at its number
pub record IsHere (e : PacketPath) (level : ℕ) (s : PathNode) (states : List NodeState) : Type 0 where
  pub ready : IsReady e
  pub short : level ≤ length (class_for e).leaf
  pub path_node : IsPathNode (tree_for e) (class_for e) level s
  pub kept : AreNodeStates (tree_for e) states
  pub within : s.node < length states

-- a step there: the state at the node's number, and the child or flow and the inputs of the visit
pub record IsStep (e : PacketPath) (level : ℕ) (s : PathNode) (states : List NodeState) (x : NodeState) (w : Who) (n : Env) : Type 0 where
  pub here : IsHere e level s states
  pub held : slice_get states s.node ≡ Some x
  pub who : w ≡ (stop e level).who
  pub env : n ≡ (stop e level).env

-- ---- the digits are those of the class
module _ {e : PacketPath} {digits : List ℕ} {level : ℕ} (ready : IsReady e) (to : digits ≡ (class_for e).leaf) where
  pub here-at : {states : List NodeState} (d : PathNode) → level ≤ length digits → AreNodeStates (tree_for e) states → IsHere e level (slice_index_or e.path_nodes.now level d) states
  here-at {states} d low kept =
      let s : PathNode = slice_index_or e.path_nodes.now level d in
      let short : level ≤ length (class_for e).leaf = omega (arith, low, ap length to) in
      let path_node : IsPathNode (tree_for e) (class_for e) level s = ready.path_nodes.each level _ (slice_get-get_or e.path_nodes.now level d (omega (arith, short, ready.path_nodes.count))) in
      record {
        ready = ready;
        short = short;
        path_node = path_node;
        kept = kept;
        within = omega (arith, path_node.node, (number-of (tree_for e) (class_for e).leaf ready.leads level short).within, kept.count);
      }

  -- above the leaf, the step is made for the child to which the next digit leads
  pub child-at : level < length digits → Child (slice_index_or digits level 0) ≡ (stop e level).who
  child-at low =
      ap (λ (ds : List ℕ). Child (slice_index_or ds level 0)) to
      ∙ ap (λ (ds : List ℕ). who_on (root_of (part e level)).group ds e.packet.now) (sym (ahead-next (tree_for e) (class_for e).leaf ready.leads level (omega (arith, low, ap length to))))

  -- and at the leaf for the packet's flow, grouped as the leaf says
  pub flow-at : {s : PathNode} {key : FlowKey} → IsPathNode (tree_for e) (class_for e) level s → length digits ≤ level → key ≡ grouped s.group e.packet.now.flow → Flow key ≡ (stop e level).who
  flow-at path_node high is =
      ap Flow is
      ∙ ap (λ (g : FlowGroup). Flow (grouped g e.packet.now.flow)) path_node.group
      ∙ ap (λ (ds : List ℕ). who_on (root_of (part e level)).group ds e.packet.now) (sym (drop_all level (class_for e).leaf (omega (arith, high, ap length to))))

-- ---- the node at a level
module _ {e : PacketPath} {level : ℕ} {s : PathNode} {states : List NodeState} (h : IsHere e level s states) where
  abbrev v : Visit
  v = stop e level

  abbrev marks : Marks
  marks = marks_on (part e level) (ahead e level) (class_for e)

  there : subtree (tree_for e) (place e level) ≡ Some (part e level)
  there = there-at (tree_for e) (class_for e).leaf h.ready.leads level h.short

  back : address_at (tree_for e) s.node ≡ place e level
  back = ap (address_at (tree_for e)) h.path_node.node ∙ (number-of (tree_for e) (class_for e).leaf h.ready.leads level h.short).address

  next-on : (i : ℕ) (digits : List ℕ) → ahead e level ≡ i ∷ digits → IsNext (part e level) i digits
  next-on i digits is = next (part e level) i digits (subst (LeadsToLeaf (part e level)) is (leads-at (tree_for e) (class_for e).leaf h.ready.leads level h.short))

  -- ---- the marks there
  range-on : (digits : List ℕ) → ahead e level ≡ digits → AreMarksInRange (marks_on (part e level) digits (class_for e))
  range-on [] is = subst AreMarksInRange (sym (marks-of_class (part e level) (class_for e))) h.ready.marks
  range-on (i ∷ digits) is =
      let n : IsNext (part e level) i digits = next-on i digits is in
      subst AreMarksInRange (sym (n.marks (class_for e)))
      (h.ready.accepted.nodes (place e level ++ i ∷ []) _ (node-of_part (tree_for e) (place e level ++ i ∷ []) n.child (part-down (tree_for e) (place e level) (i ∷ []) (part e level) there ∙ n.there))).marks

  pub range-here : AreMarksInRange (told s.marks)
  range-here = subst AreMarksInRange (sym h.path_node.marks) (range-on (ahead e level) refl)

  pub step-here : (d : NodeState) {w : Who} {n : Env} → w ≡ v.who → n ≡ env_for e.packet.now e.moment (told s.marks) → IsStep e level s states (slice_index_or states s.node d) w n
  step-here d is-who is-env = record {
    here = h;
    held = slice_get-get_or states s.node d h.within;
    who = is-who;
    env = is-env ∙ ap (env_for e.packet.now e.moment) h.path_node.marks;
  }

  -- ---- the transaction there is shaped and checked
  node-here : IsNodeReady (root_of (part e level))
  node-here = h.ready.accepted.nodes (place e level) _ (node-of_part (tree_for e) (place e level) (part e level) there)

  pub shaped-here : IsShaped (program_at s)
  shaped-here = subst IsShaped (sym h.path_node.program) node-here.shaped

  pub checked-here : IsChecked (program_at s)
  checked-here = subst IsChecked (sym h.path_node.program) node-here.checked

  -- ---- if the step changes no variable, all values stay
  unchanged-here : (f : State → State) → ((x : State) → SameState x (f x)) → ValuesBecome e states states (λ values. with_state values (place e level) (f (values (place e level))))
  unchanged-here f same values = values-same (tree_for e) states values (place e level) (f (values (place e level))) (same (values (place e level)))

  -- this is so if the marks determine the rank
  module _ {r : ℕ} (is : s.told ≡ Some r) where
    is-told : rank_told v.program.push marks ≡ Some r
    is-told =
        ap (λ (p : Program). rank_told p.push marks) (sym h.path_node.program)
        ∙ ap (λ (m : Marks). rank_told (program_at s).push m) (sym h.path_node.marks)
        ∙ sym h.path_node.rank
        ∙ is

    pub low-here : r ≤ max_rank
    low-here = told-low v.program e.packet.now e.moment marks (range-on (ahead e level) refl) r is-told

    pub told-here : ForValues e states (λ values. r ≡ rank_at values v)
    told-here values _ = sym (told-rank v.program e.packet.now e.moment marks (range-on (ahead e level) refl) r is-told v.who (values (place e level)))

    pub stays-pushed : ValuesBecome e states states (after_pushes (v ∷ []))
    stays-pushed = unchanged-here (after_push v.program v.who v.env) (told-after v.program e.packet.now e.moment marks (range-on (ahead e level) refl) r is-told v.who)

  -- and if the form of the pop step is empty
  pub stays-popped : (ranks : List ℕ) → s.pop ≡ Empty → ValuesBecome e states states (after_pops (v ∷ []) ranks)
  stays-popped ranks is =
      let none : RunAs (program_at s) (program_at s).pop [] = subst (IsForm (program_at s) (program_at s).pop) is h.path_node.pop_form in
      unchanged-here (after_pop v.program v.who v.env (slice_index ranks 0))
      (no_lines-after v.program v.who v.env (slice_index ranks 0) (subst (λ (q : Program). RunAs q q.pop []) h.path_node.program none))

-- ---- the step made there
module _ {e : PacketPath} {level : ℕ} {s : PathNode} {states : List NodeState} {x : NodeState} {w : Who} {n : Env} (made : IsStep e level s states x w n) where
  abbrev p : Program
  p = program_at s

  keeps-here : Keeps (tree_for e) states (place e level) x
  keeps-here = ap (slice_get states) (sym made.here.path_node.node) ∙ made.held

  node_state : IsNodeStateOf (part e level) x
  node_state = made.here.kept.each (place e level) (part e level) x (there made.here) keeps-here

  values-here : (values : States) → HaveValues (tree_for e) states values → SameState (state_of x) (values (place e level))
  values-here values are = are (place e level) x (part e level, there made.here) keeps-here

  pub in_range-here : IsStateInRange p (state_of x)
  in_range-here = subst (λ (q : Program). IsStateInRange q (state_of x)) (sym made.here.path_node.program) node_state.in_range

  room-on : (digits : List ℕ) → ahead e level ≡ digits → HasRoomAtLeaf e states → HasRoom x (who_on (root_of (part e level)).group digits e.packet.now)
  room-on [] is room =
      let whole : (class_for e).leaf ≡ place e level = sym (take-append-drop level (class_for e).leaf) ∙ ap (λ (ds : List ℕ). place e level ++ ds) is ∙ append-nil (place e level) in
      let group : group_at e.policy.now.policy (class_for e).leaf ≡ (root_of (part e level)).group
      = ap (group_at e.policy.now.policy) whole ∙ ap (λ (o : Option Node). option_map_or (λ n. n.group) o FiveTuple) (node-of_part (tree_for e) (place e level) (part e level) (there made.here)) in
      subst (λ (g : FlowGroup). HasRoom x (Flow (grouped g e.packet.now.flow))) group
      (subst (λ (a : Address). HasRoomAt (tree_for e) states a (Flow (grouped (group_at e.policy.now.policy (class_for e).leaf) e.packet.now.flow))) whole room x keeps-here)
  room-on (i ∷ digits) is room = node_state.room i (next-on made.here i digits is).within

  pub room-here : HasRoomAtLeaf e states → HasRoom x w
  room-here room = subst (λ (u : Who). HasRoom x u) (sym made.who) (room-on (ahead e level) refl room)

  pub rank-here : {r : ℕ} → r ≡ push_rank p w n (state_of x) → ForValues e states (λ values. r ≡ rank_at values (stop e level))
  rank-here is values are =
      let v : Visit = stop e level in
      is ∙ ap (λ m. m.rank) (push_step-same p w n (state_of x) (values (place e level)) (values-here values are))
      ∙ ap (λ q. push_rank q w n (values (place e level))) made.here.path_node.program
      ∙ ap (λ u. push_rank v.program u n (values (place e level))) made.who
      ∙ ap (λ m. push_rank v.program v.who m (values (place e level))) made.env

  pub can-run : HasRoomAtLeaf e states → IsEnvInRange n → CanRunAt s.transaction.now w n x
  can-run room told = record { shaped = shaped-here made.here; checked = checked-here made.here; in_range = in_range-here; room = room-here room; told = told }

  -- ---- the node has another state after it
  module _ (x' : NodeState) where
    pub node_states-here : IsStateInRange p (state_of x') → children_of x' ≡ children_of x → ((who : Who) → HasRoom x' who ↔ HasRoom x who) → AreNodeStates (tree_for e) (slice_set states s.node x')
    node_states-here in_range children room = node_states-set (tree_for e) states s.node x'
        (subst (λ (a : Address). IsNodeStateOf (part_at (tree_for e) a) x') (sym (back made.here)) (record {
          in_range = subst (λ (q : Program). IsStateInRange q (state_of x')) made.here.path_node.program in_range;
          children = children ∙ node_state.children;
          room = λ i belongs. (room (Child i)).1 (node_state.room i belongs);
        })) made.here.kept

    pub still-room : ((who : Who) → HasRoom x' who ↔ HasRoom x who) → KeepsRoom e states (slice_set states s.node x')
    still-room room a who = room-set (tree_for e) states s.node x' x made.held a who (room who).1

    set-here : (f : Program → Who → Env → State → State) → ((a b : State) → SameState a b → SameState (f p w n a) (f p w n b)) → SameState (state_of x') (f p w n (state_of x))
        → ValuesBecome e states (slice_set states s.node x') (λ values. with_state values (place e level) (f (stop e level).program (stop e level).who (stop e level).env (values (place e level))))
    set-here f same after values are =
        let v : Visit = stop e level in
        let old : State = values (place e level) in
        let is : f p w n old ≡ f v.program v.who v.env old = ap (λ q. f q w n old) made.here.path_node.program ∙ ap (λ u. f v.program u n old) made.who ∙ ap (λ m. f v.program v.who m old) made.env in
        let now : SameState (state_of x') (f v.program v.who v.env old) = subst (λ (y : State). SameState (state_of x') y) is (same-trans _ _ _ after (same (state_of x) old (values-here values are))) in
        subst (λ (a : Address). HaveValues (tree_for e) (slice_set states s.node x') (with_state values a (f v.program v.who v.env old))) (back made.here)
        (values-set (tree_for e) states s.node x' values (f v.program v.who v.env old) (omega (arith, made.here.within, made.here.kept.count)) now are)

    pub pushed-here : SameState (state_of x') (after_push p w n (state_of x)) → ValuesBecome e states (slice_set states s.node x') (after_pushes (stop e level ∷ []))
    pushed-here = set-here after_push (after_push-same p w n)

    pub popped-here : (ranks : List ℕ) → SameState (state_of x') (after_pop p w n (slice_index ranks 0) (state_of x)) → ValuesBecome e states (slice_set states s.node x') (after_pops (stop e level ∷ []) ranks)
    popped-here ranks = set-here (λ q u m. after_pop q u m (slice_index ranks 0)) (after_pop-same p w n (slice_index ranks 0))

  -- ---- what the node's push step leaves, and its pop step
  pub push-made : {r : ℕ} (x' : NodeState)
      → record { rank : r ≡ push_rank p w n (state_of x); rank_limit : r ≤ max_rank; after : SameState (state_of x') (after_push p w n (state_of x)); keeps : KeepsNode s.transaction.now x x' }
      → record { rank : ForValues e states (λ values. r ≡ rank_at values (stop e level)); values : ValuesBecome e states (slice_set states s.node x') (after_pushes (stop e level ∷ [])); kept : AreNodeStates (tree_for e) (slice_set states s.node x'); room : KeepsRoom e states (slice_set states s.node x'); limit : r ≤ max_rank }
  push-made x' left = record { rank = rank-here left.rank; values = pushed-here x' left.after; kept = node_states-here x' left.keeps.in_range left.keeps.children left.keeps.room; room = still-room x' left.keeps.room; limit = left.rank_limit }

  pub pop-made : (r : ℕ) (x' : NodeState)
      → record { after : SameState (state_of x') (after_pop p w n r (state_of x)); keeps : KeepsNode s.transaction.now x x' }
      → record { values : ValuesBecome e states (slice_set states s.node x') (after_pops (stop e level ∷ []) (r ∷ [])); kept : AreNodeStates (tree_for e) (slice_set states s.node x'); room : KeepsRoom e states (slice_set states s.node x') }
  pop-made r x' left = record { values = popped-here x' (r ∷ []) left.after; kept = node_states-here x' left.keeps.in_range left.keeps.children left.keeps.room; room = still-room x' left.keeps.room }

-- ---- the node at a level, and the step that the code makes there
module _ {e : PacketPath} {digits : List ℕ} {level : ℕ} {states : List NodeState} (there : IsAtLevel e digits level states) (d : PathNode) where
  abbrev s : PathNode
  s = slice_index_or e.path_nodes.now level d

  pub node-at : IsHere e level s states
  node-at = here-at there.ready there.digits_are d there.low there.kept

  module _ (x : NodeState) {n : Env} (env : n ≡ env_for e.packet.now e.moment (told s.marks)) where
    pub child-step : level < length digits → IsStep e level s states (slice_index_or states s.node x) (Child (slice_index_or digits level 0)) n
    child-step low = step-here node-at x (child-at there.ready there.digits_are low) env

    pub flow-step : {key : FlowKey} → length digits ≤ level → key ≡ grouped s.group e.packet.now.flow → IsStep e level s states (slice_index_or states s.node x) (Flow key) n
    flow-step high is = step-here node-at x (flow-at there.ready there.digits_are node-at.path_node high is) env
