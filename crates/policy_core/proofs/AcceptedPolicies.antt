-- A policy that accepted statements give can be run.
use Rattle.policy_core.proofs.Prelude.{List, ◌≡◌, ℕ, ap, sym, subst, [], arith, length, ◌<◌, ◌∷◌, refl, suc, true, Some, zero, None, Option, ◌≤◌, false, true≢false, Any, not, IsTrue, unwrap_or, ◌&&◌, ◌^◌, leb-true, nat_le, and_parts, recursion_from_All, AllByRecursion, IsAccepted, AreMarksInRange, HasFewChildren, HaveFewChildren, IsClassReady, IsNodeReady, Node, node_at, node_below, AreAccepted, has_catch_all_behind, Name, programs, IsTreeIn, Declared, Resolved, classes_in, AreTreesIn, IsInnerOf, IsLeafOf, IsResolved, names_of, AreClassesOf, IsNodeOf, marks_of, Entry, Sense, node, class, filtered, version, each, keep, pop, push, transaction, IsName, IsValid, AreValidAttributes, IsValidAttribute, Attrs, Builtin, builtins, IsShaped, max_prio, max_slack, max_weight, most_name, Tree, Trees, inner, more, none, Address, nodes, depth, nodes_below, most_levels, count_of, AreValid}
use Rattle.tree_defs.specs.Tree.{leaf as leaf_of}
use Rattle.rank_defs.specs.Checks.{IsChecked}
use Rattle.rank_defs.proofs.Table.{builtins-checked}
use Rattle.policy_text_defs.specs.declared.attribute.Attribute.TheVariants as attribute
use Rattle.policy_text_defs.specs.Words.{is_word, is_reserved}
use Rattle.policy_text_defs.specs.declared.queueing.Queueing.{Queueing}
use Rattle.policy_text_defs.specs.Sense.{leaf}
use Rattle.policy_defs.specs.Policy.{Class}
use Rattle.policy_core.proofs.PlacePrograms.{none-some, some-same, program-holds}
use Rattle.policy_core.proofs.AcceptedStatements.{checked-there, catch_all-there}

-- ---- programs
shaped-parts : (bs : List Builtin) → AllByRecursion (λ (b : Builtin). IsShaped b.program × IsChecked b.program) bs → AllByRecursion (λ (b : Builtin). IsShaped b.program) bs
shaped-parts [] all = tt
shaped-parts (b ∷ bs) all = (all.0.0, shaped-parts bs all.1)

checked-parts : (bs : List Builtin) → AllByRecursion (λ (b : Builtin). IsShaped b.program × IsChecked b.program) bs → AllByRecursion (λ (b : Builtin). IsChecked b.program) bs
checked-parts [] all = tt
checked-parts (b ∷ bs) all = (all.0.1, checked-parts bs all.1)

-- ---- names and marks
name-short : (w : Name) → IsName w → length w ≤ most_name
name-short w named =
    let rest : IsTrue (is_word w) × IsTrue (nat_le (length w) most_name && not (is_reserved w)) = and_parts (is_word w) (nat_le (length w) most_name && not (is_reserved w)) named in
    let short : IsTrue (nat_le (length w) most_name) × IsTrue (not (is_reserved w)) = and_parts (nat_le (length w) most_name) (not (is_reserved w)) rest.1 in
    leb-true (length w) most_name short.0

prio-most : (o : Option ℕ) → IsValidAttribute attribute.Prio o → unwrap_or o 0 ≤ max_prio
prio-most None valid = omega arith
prio-most (Some n) valid = valid.below

weight-least : (o : Option ℕ) → IsValidAttribute attribute.Weight o → 1 ≤ unwrap_or o 1
weight-least None valid = omega arith
weight-least (Some n) valid = valid.above

weight-most : (o : Option ℕ) → IsValidAttribute attribute.Weight o → unwrap_or o 1 ≤ max_weight
weight-most None valid = omega arith
weight-most (Some n) valid = valid.below

slack-most : (o : Option ℕ) → IsValidAttribute attribute.Slack o → unwrap_or o 0 ≤ max_slack
slack-most None valid = omega arith
slack-most (Some n) valid = valid.below

marks-in_range : (a : Attrs) → AreValidAttributes a → AreMarksInRange (marks_of a)
marks-in_range a valid = record {
  prio = prio-most a.prio valid.prio;
  weight_low = weight-least a.weight valid.weight;
  weight_high = weight-most a.weight valid.weight;
  slack = slack-most a.slack valid.slack;
}

-- ---- nodes
node-ready : (es : List Entry) (n : Node) (name used : Name) (a : Attrs) (q : Queueing) → AreAccepted es → AllByRecursion IsShaped (programs es) → IsName name → AreValidAttributes a → IsNodeOf es n name used a q → IsNodeReady n
node-ready es n name used a q accepted shaped named valid said = record {
  shaped = program-holds IsShaped es used n.program (shaped-parts builtins builtins-checked) shaped said.program_is;
  checked = program-holds IsChecked es used n.program (checked-parts builtins builtins-checked) (checked-there es accepted) said.program_is;
  marks = subst AreMarksInRange (sym said.marks_are) (marks-in_range a valid);
  name = subst (λ (w : Name). length w ≤ most_name) (sym said.name_is) (name-short name named);
}

leaf-ready : (es : List Entry) (n : Node) (s : Sense) → AreAccepted es → AllByRecursion IsShaped (programs es) → IsValid s → IsLeafOf es n s → IsNodeReady n
leaf-ready es n (version v) accepted shaped valid said = absurd said
leaf-ready es n (transaction t) accepted shaped valid said = absurd said
leaf-ready es n (keep m s) accepted shaped valid said = absurd said
leaf-ready es n (each m s) accepted shaped valid said = absurd said
leaf-ready es n (push m t) accepted shaped valid said = absurd said
leaf-ready es n (pop m t) accepted shaped valid said = absurd said
leaf-ready es n (class m a cs) accepted shaped valid said = absurd said
leaf-ready es n (filtered m a cs) accepted shaped valid said = absurd said
leaf-ready es n (leaf m u a q ns) accepted shaped valid said = node-ready es n m u a q accepted shaped valid.0 valid.2 said
leaf-ready es n (node m u a q ns) accepted shaped valid said = absurd said

inner-ready : (es : List Entry) (n : Node) (names : List Name) (s : Sense) → AreAccepted es → AllByRecursion IsShaped (programs es) → IsValid s → IsInnerOf es n names s → IsNodeReady n
inner-ready es n names (version v) accepted shaped valid said = absurd said
inner-ready es n names (transaction t) accepted shaped valid said = absurd said
inner-ready es n names (keep m s) accepted shaped valid said = absurd said
inner-ready es n names (each m s) accepted shaped valid said = absurd said
inner-ready es n names (push m t) accepted shaped valid said = absurd said
inner-ready es n names (pop m t) accepted shaped valid said = absurd said
inner-ready es n names (class m a cs) accepted shaped valid said = absurd said
inner-ready es n names (filtered m a cs) accepted shaped valid said = absurd said
inner-ready es n names (leaf m u a q ns) accepted shaped valid said = absurd said
inner-ready es n names (node m u a q ns) accepted shaped valid said = node-ready es n m u a q accepted shaped valid.0 valid.2 said.0

-- a statement of a list is valid
valid-there : (es : List Entry) (P : Sense → Type 0) (R : Type 0) → AreValid es → ((s : Sense) → IsValid s → P s → R) → Any (λ (e : Entry). P e.1) es → R
valid-there es P R valid go at = go at.1.1 (subst (λ (e : Entry). IsValid e.1) at.3 (valid at.0 at.1 at.2)) at.4

mutual
  nodes-ready : (es : List Entry) (tree : Tree Node) (a : Address) (n : Node) → AreAccepted es → AllByRecursion IsShaped (programs es) → AreValid es → IsTreeIn es tree → node_at tree a ≡ Some n → IsNodeReady n
  nodes-ready es (leaf_of m) [] n accepted shaped valid said at =
      subst IsNodeReady (some-same at) (valid-there es (IsLeafOf es m) (IsNodeReady m) valid (λ s v p. leaf-ready es m s accepted shaped v p) said)
  nodes-ready es (leaf_of m) (i ∷ a) n accepted shaped valid said at = absurd (none-some at)
  nodes-ready es (inner m ts) [] n accepted shaped valid said at =
      subst IsNodeReady (some-same at) (valid-there es (IsInnerOf es m (names_of ts)) (IsNodeReady m) valid (λ s v p. inner-ready es m (names_of ts) s accepted shaped v p) said.0)
  nodes-ready es (inner m ts) (i ∷ a) n accepted shaped valid said at = below-ready es ts i a n accepted shaped valid said.1 at

  below-ready : (es : List Entry) (ts : Trees Node) (i : ℕ) (a : Address) (n : Node) → AreAccepted es → AllByRecursion IsShaped (programs es) → AreValid es → AreTreesIn es ts → node_below ts i a ≡ Some n → IsNodeReady n
  below-ready es none i a n accepted shaped valid said at = absurd (none-some at)
  below-ready es (more t ts) zero a n accepted shaped valid said at = nodes-ready es t a n accepted shaped valid said.0 at
  below-ready es (more t ts) (suc i) a n accepted shaped valid said at = below-ready es ts i a n accepted shaped valid said.1 at

-- ---- classes
classes-valid : (es : List Entry) → AllByRecursion (λ (e : Entry). IsValid e.1) es → AllByRecursion (λ (d : Declared). AreMarksInRange d.marks) (classes_in es)
classes-valid [] valid = tt
classes-valid ((n, version v) ∷ es) valid = classes-valid es valid.1
classes-valid ((n, transaction t) ∷ es) valid = classes-valid es valid.1
classes-valid ((n, keep m s) ∷ es) valid = classes-valid es valid.1
classes-valid ((n, each m s) ∷ es) valid = classes-valid es valid.1
classes-valid ((n, push m t) ∷ es) valid = classes-valid es valid.1
classes-valid ((n, pop m t) ∷ es) valid = classes-valid es valid.1
classes-valid ((n, class m a cs) ∷ es) valid = (marks-in_range a valid.0.1, classes-valid es valid.1)
classes-valid ((n, filtered m a cs) ∷ es) valid = (marks-in_range a valid.0.1, classes-valid es valid.1)
classes-valid ((n, leaf m u a q ns) ∷ es) valid = classes-valid es valid.1
classes-valid ((n, node m u a q ns) ∷ es) valid = classes-valid es valid.1

classes-ready : (es : List Entry) (tree : Tree Node) (ds : List Declared) (cs : List Class) → AllByRecursion (λ (d : Declared). AreMarksInRange d.marks) ds → AreClassesOf es tree ds cs → AllByRecursion (IsClassReady tree) cs
classes-ready es tree [] [] valid are = tt
classes-ready es tree [] (c ∷ cs) valid are = absurd are
classes-ready es tree (d ∷ ds) [] valid are = absurd are
classes-ready es tree (d ∷ ds) (c ∷ cs) valid are = (record { marks = subst AreMarksInRange (sym are.0) valid.0; leaf_address = are.1.leaf_address }, classes-ready es tree ds cs valid.1 are.2)

as-many : (es : List Entry) (tree : Tree Node) (ds : List Declared) (cs : List Class) → AreClassesOf es tree ds cs → length cs ≡ length ds
as-many es tree [] [] are = refl
as-many es tree [] (c ∷ cs) are = absurd are
as-many es tree (d ∷ ds) [] are = absurd are
as-many es tree (d ∷ ds) (c ∷ cs) are = ap suc (as-many es tree ds cs are.2)

some-class : (es : List Entry) → has_catch_all_behind false es ≡ true → 0 < length (classes_in es)
some-class [] last = absurd (true≢false (sym last))
some-class ((n, version v) ∷ es) last = some-class es last
some-class ((n, transaction t) ∷ es) last = some-class es last
some-class ((n, keep m s) ∷ es) last = some-class es last
some-class ((n, each m s) ∷ es) last = some-class es last
some-class ((n, push m t) ∷ es) last = some-class es last
some-class ((n, pop m t) ∷ es) last = some-class es last
some-class ((n, class m a cs) ∷ es) last = omega arith
some-class ((n, filtered m a cs) ∷ es) last = omega arith
some-class ((n, leaf m u a q ns) ∷ es) last = some-class es last
some-class ((n, node m u a q ns) ∷ es) last = some-class es last

-- ---- sizes
mutual
  some-nodes : (t : Tree Node) → 1 ≤ nodes t
  some-nodes (leaf_of n) = omega arith
  some-nodes (inner n ts) = omega arith

count-nodes : (ts : Trees Node) → count_of ts ≤ nodes_below ts
count-nodes none = omega arith
count-nodes (more t ts) = omega (arith, some-nodes t, count-nodes ts)

mutual
  few-children : (t : Tree Node) (limit : ℕ) → limit ≡ 2 ^ 32 → nodes t < limit → HasFewChildren t
  few-children (leaf_of n) limit is few = tt
  few-children (inner n ts) limit is few = (omega (arith, count-nodes ts, few, is), few-children_below ts limit is (omega (arith, few)))

  few-children_below : (ts : Trees Node) (limit : ℕ) → limit ≡ 2 ^ 32 → nodes_below ts < limit → HaveFewChildren ts
  few-children_below none limit is few = tt
  few-children_below (more t ts) limit is few = (few-children t limit is (omega (arith, few)), few-children_below ts limit is (omega (arith, few)))

pub acceptable : (es : List Entry) (r : Resolved) → AreAccepted es → AreValid es → AllByRecursion IsShaped (programs es) → IsResolved es r
    → depth r.policy.tree ≤ most_levels → nodes r.policy.tree < 2 ^ 32 → IsAccepted r.policy
acceptable es r accepted valid shaped resolved low few = record {
  nodes = λ a n at. nodes-ready es r.policy.tree a n accepted shaped valid resolved.tree at;
  classes = classes-ready es r.policy.tree (classes_in es) r.policy.classes (classes-valid es (recursion_from_All (λ (e : Entry). IsValid e.1) es valid)) resolved.classes;
  some_class = omega (arith, as-many es r.policy.tree (classes_in es) r.policy.classes resolved.classes, some-class es (catch_all-there es accepted));
  levels = low;
  children = few-children r.policy.tree (2 ^ 32) refl few;
}
