-- Two trees with the same root are equal.
use Rattle.policy_core.proofs.Prelude.{List, ◌≡◌, ap, sym, [], ◌∙◌, arith, length, refl, get_or, suc, Some, Any, drop, Node, Marks, NoLine, IsRepeated, AreRising, Name, node_name, IsTreeIn, AreTreesIn, IsInnerOf, IsLeafOf, names_of, IsNodeOf, Entry, Sense, node, class, filtered, version, each, keep, pop, push, transaction, Attrs, Program, Tree, Trees, inner, more, none, root_of}
use Rattle.tree_defs.specs.Tree.{leaf as leaf_of}
use Rattle.rank_defs.specs.declared.flow_group.FlowGroup.{FlowGroup}
use Rattle.policy_defs.specs.declared.limits.Limits.{Limits}
use Rattle.policy_text_defs.specs.declared.queueing.Queueing.{Queueing}
use Rattle.policy_text_defs.specs.Sense.{leaf}
use Rattle.policy_rules.specs.Names.{children}
use Rattle.policy_core.proofs.PlacePrograms.{some-same}
use Rattle.policy_core.proofs.Statements.{of-one_statement}

-- ---- one statement
-- it declares the node that it is about
pub leaf-name : (es : List Entry) (n : Node) (s : Sense) → IsLeafOf es n s → node_name s ≡ Some n.name
leaf-name es n (version v) h = absurd h
leaf-name es n (transaction t) h = absurd h
leaf-name es n (keep m s) h = absurd h
leaf-name es n (each m s) h = absurd h
leaf-name es n (push m t) h = absurd h
leaf-name es n (pop m t) h = absurd h
leaf-name es n (class m a cs) h = absurd h
leaf-name es n (filtered m a cs) h = absurd h
leaf-name es n (leaf m u a q ns) h = ap Some (sym h.name_is)
leaf-name es n (node m u a q ns) h = absurd h

pub inner-name : (es : List Entry) (n : Node) (names : List Name) (s : Sense) → IsInnerOf es n names s → node_name s ≡ Some n.name
inner-name es n names (version v) h = absurd h
inner-name es n names (transaction t) h = absurd h
inner-name es n names (keep m s) h = absurd h
inner-name es n names (each m s) h = absurd h
inner-name es n names (push m t) h = absurd h
inner-name es n names (pop m t) h = absurd h
inner-name es n names (class m a cs) h = absurd h
inner-name es n names (filtered m a cs) h = absurd h
inner-name es n names (leaf m u a q ns) h = absurd h
inner-name es n names (node m u a q ns) h = ap Some (sym h.0.name_is)

-- it lists the children
pub inner-children : (es : List Entry) (n : Node) (names : List Name) (s : Sense) → IsInnerOf es n names s → names ≡ children s
inner-children es n names (version v) h = absurd h
inner-children es n names (transaction t) h = absurd h
inner-children es n names (keep m s) h = absurd h
inner-children es n names (each m s) h = absurd h
inner-children es n names (push m t) h = absurd h
inner-children es n names (pop m t) h = absurd h
inner-children es n names (class m a cs) h = absurd h
inner-children es n names (filtered m a cs) h = absurd h
inner-children es n names (leaf m u a q ns) h = absurd h
inner-children es n names (node m u a q ns) h = h.1

one-node : (es : List Entry) (n m : Node) (name used : Name) (a : Attrs) (q : Queueing) → IsNodeOf es n name used a q → IsNodeOf es m name used a q → n ≡ m
one-node es n m name used a q h k =
    ap (λ (x : Name). record { name = x; using = n.using; program = n.program; marks = n.marks; limits = n.limits; group = n.group }) (h.name_is ∙ sym k.name_is)
    ∙ ap (λ (x : Name). record { name = m.name; using = x; program = n.program; marks = n.marks; limits = n.limits; group = n.group }) (h.using_is ∙ sym k.using_is)
    ∙ ap (λ (p : Program). record { name = m.name; using = m.using; program = p; marks = n.marks; limits = n.limits; group = n.group }) (some-same (sym h.program_is ∙ k.program_is))
    ∙ ap (λ (x : Marks). record { name = m.name; using = m.using; program = m.program; marks = x; limits = n.limits; group = n.group }) (h.marks_are ∙ sym k.marks_are)
    ∙ ap (λ (l : Limits). record { name = m.name; using = m.using; program = m.program; marks = m.marks; limits = l; group = n.group }) (h.limits_are ∙ sym k.limits_are)
    ∙ ap (λ (g : FlowGroup). record { name = m.name; using = m.using; program = m.program; marks = m.marks; limits = m.limits; group = g }) (h.group_is ∙ sym k.group_is)

one-leaf : (es : List Entry) (n m : Node) (s : Sense) → IsLeafOf es n s → IsLeafOf es m s → n ≡ m
one-leaf es n m (version v) h k = absurd h
one-leaf es n m (transaction t) h k = absurd h
one-leaf es n m (keep w s) h k = absurd h
one-leaf es n m (each w s) h k = absurd h
one-leaf es n m (push w t) h k = absurd h
one-leaf es n m (pop w t) h k = absurd h
one-leaf es n m (class w a cs) h k = absurd h
one-leaf es n m (filtered w a cs) h k = absurd h
one-leaf es n m (leaf w u a q ns) h k = one-node es n m w u a q h k
one-leaf es n m (node w u a q ns) h k = absurd h

one-inner : (es : List Entry) (n m : Node) (names others : List Name) (s : Sense) → IsInnerOf es n names s → IsInnerOf es m others s → n ≡ m
one-inner es n m names others (version v) h k = absurd h
one-inner es n m names others (transaction t) h k = absurd h
one-inner es n m names others (keep w s) h k = absurd h
one-inner es n m names others (each w s) h k = absurd h
one-inner es n m names others (push w t) h k = absurd h
one-inner es n m names others (pop w t) h k = absurd h
one-inner es n m names others (class w a cs) h k = absurd h
one-inner es n m names others (filtered w a cs) h k = absurd h
one-inner es n m names others (leaf w u a q ns) h k = absurd h
one-inner es n m names others (node w u a q ns) h k = one-node es n m w u a q h.0 k.0

leaf-not_inner : (es : List Entry) (n m : Node) (names : List Name) (s : Sense) → IsLeafOf es n s → IsInnerOf es m names s → ⊥
leaf-not_inner es n m names (version v) h k = h
leaf-not_inner es n m names (transaction t) h k = h
leaf-not_inner es n m names (keep w s) h k = h
leaf-not_inner es n m names (each w s) h k = h
leaf-not_inner es n m names (push w t) h k = h
leaf-not_inner es n m names (pop w t) h k = h
leaf-not_inner es n m names (class w a cs) h k = h
leaf-not_inner es n m names (filtered w a cs) h k = h
leaf-not_inner es n m names (leaf w u a q ns) h k = k
leaf-not_inner es n m names (node w u a q ns) h k = h

-- ---- trees whose statements are the same at every level
module _ (es : List Entry) (rising : AreRising es) (new : NoLine (IsRepeated es) es) where
  of-both : (n m : Node) (P Q : Sense → Type 0) → n.name ≡ m.name → ((s : Sense) → P s → node_name s ≡ Some n.name) → ((s : Sense) → Q s → node_name s ≡ Some m.name)
      → Any (λ (e : Entry). P e.1) es → Any (λ (e : Entry). Q e.1) es → (s : Sense) × P s × Q s
  of-both n m P Q same name_p name_q p q = of-one_statement es rising new n.name P Q name_p (λ s h. name_q s h ∙ ap Some (sym same)) p q

mutual
  pub one-tree : (es : List Entry) → AreRising es → NoLine (IsRepeated es) es → (t u : Tree Node) → IsTreeIn es t → IsTreeIn es u → (root_of t).name ≡ (root_of u).name → t ≡ u
  one-tree es rising new (leaf_of n) (leaf_of m) h k same =
      let both : (s : Sense) × IsLeafOf es n s × IsLeafOf es m s = of-both es rising new n m (IsLeafOf es n) (IsLeafOf es m) same (leaf-name es n) (leaf-name es m) h k in
      ap leaf_of (one-leaf es n m both.0 both.1 both.2)
  one-tree es rising new (leaf_of n) (inner m us) h k same =
      let both : (s : Sense) × IsLeafOf es n s × IsInnerOf es m (names_of us) s = of-both es rising new n m (IsLeafOf es n) (IsInnerOf es m (names_of us)) same (leaf-name es n) (inner-name es m (names_of us)) h k.0 in
      absurd (leaf-not_inner es n m (names_of us) both.0 both.1 both.2)
  one-tree es rising new (inner n ts) (leaf_of m) h k same =
      let both : (s : Sense) × IsInnerOf es n (names_of ts) s × IsLeafOf es m s = of-both es rising new n m (IsInnerOf es n (names_of ts)) (IsLeafOf es m) same (inner-name es n (names_of ts)) (leaf-name es m) h.0 k in
      absurd (leaf-not_inner es m n (names_of ts) both.0 both.2 both.1)
  one-tree es rising new (inner n ts) (inner m us) h k same =
      let both : (s : Sense) × IsInnerOf es n (names_of ts) s × IsInnerOf es m (names_of us) s =
      of-both es rising new n m (IsInnerOf es n (names_of ts)) (IsInnerOf es m (names_of us)) same (inner-name es n (names_of ts)) (inner-name es m (names_of us)) h.0 k.0 in
      let names : names_of ts ≡ names_of us = inner-children es n (names_of ts) both.0 both.1 ∙ sym (inner-children es m (names_of us) both.0 both.2) in
      ap (λ (x : Node). inner x ts) (one-inner es n m (names_of ts) (names_of us) both.0 both.1 both.2) ∙ ap (inner m) (one-trees es rising new ts us h.1 k.1 names)

  one-trees : (es : List Entry) → AreRising es → NoLine (IsRepeated es) es → (ts us : Trees Node) → AreTreesIn es ts → AreTreesIn es us → names_of ts ≡ names_of us → ts ≡ us
  one-trees es rising new none none h k same = refl
  one-trees es rising new none (more u us) h k same = (let e : 0 ≡ suc (length (names_of us)) = ap length same in absurd (omega arith))
  one-trees es rising new (more t ts) none h k same = (let e : suc (length (names_of ts)) ≡ 0 = ap length same in absurd (omega arith))
  one-trees es rising new (more t ts) (more u us) h k same =
      let first : t ≡ u = one-tree es rising new t u h.0 k.0 (ap (λ (l : List Name). get_or l 0 []) same) in
      let rest : ts ≡ us = one-trees es rising new ts us h.1 k.1 (ap (λ (l : List Name). drop 1 l) same) in
      ap (λ (x : Tree Node). more x ts) first ∙ ap (more u) rest
