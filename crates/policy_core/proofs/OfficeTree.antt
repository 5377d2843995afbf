-- All policies that the statements of the office give have the same tree of nodes and the same
-- number of classes.
use Rattle.policy_core.proofs.Prelude.{List, ◌≡◌, ap, sym, subst, [], ◌∙◌, arith, length, ◌∷◌, refl, get_or, suc, true, false, Bool, true≢false, ◌||◌, Any, not, IsTrue, drop, ◌&&◌, and_parts, AllPass-from_list_all, bytes_eq-Decides, AllByRecursion, list_all, codes, bytes_eq, Node, root, Name, IsTreeIn, Declared, classes_in, AreTreesIn, IsInnerOf, IsLeafOf, names_of, AreClassesOf, Entry, Sense, node, topology_of, Topology, topologies_of, complete, copies, Tree, Trees, inner, more, none, root_of, office_lines, OfficesAreAlike}
use Rattle.tree_defs.specs.Tree.{leaf as leaf_of}
use Rattle.policy_defs.specs.Policy.{Class}
use Rattle.policy_text_defs.specs.Sense.{leaf}

-- ---- a name determines the shape of the tree below it
abbrev HasShape : List Entry → Topology → Name → Type 0
HasShape es shape a = (t : Tree Node) → IsTreeIn es t → (root_of t).name ≡ a → topology_of t ≡ shape

-- a property of each statement is one of some statement
at-some : (P : Entry → Type 0) (test : Entry → Bool) (es : List Entry) → Any P es → list_all test es ≡ true → (e : Entry) × P e × (test e ≡ true)
at-some P test es (k, e, within, is, p) all = (e, p, subst (λ (f : Entry). test f ≡ true) is (AllPass-from_list_all test es all k e within))

-- a statement that declares no node of this name
abbrev is_no_node : Name → Sense → Bool
is_no_node a (node n u b q ns) = not (bytes_eq n a)
is_no_node a s = true

not-inner : (es : List Entry) (n : Node) (names : List Name) (s : Sense) → IsInnerOf es n names s → is_no_node n.name s ≡ true → ⊥
not-inner es n names (node m u b q ns) is other = (let same : bytes_eq m n.name ≡ true = (bytes_eq-Decides m n.name).1 (sym is.0.name_is) in cc)
not-inner es n names s is other = absurd is

leaf-shape : (es : List Entry) (a : Name) → list_all (λ e. is_no_node a e.1) es ≡ true → HasShape es (leaf_of tt) a
leaf-shape es a all (leaf_of n) said top = refl
leaf-shape es a all (inner n ts) said top =
    let found = at-some (λ e. IsInnerOf es n (names_of ts) e.1) (λ e. is_no_node a e.1) es said.0 all in
    absurd (not-inner es n (names_of ts) found.0.1 found.1 (subst (λ (b : Name). is_no_node b found.0.1 ≡ true) (sym top) found.2))

abbrev same_names : List Name → List Name → Bool
same_names [] [] = true
same_names (a ∷ rest) (b ∷ others) = bytes_eq a b && same_names rest others
same_names names others = false

same-names : (names others : List Name) → same_names names others ≡ true → names ≡ others
same-names [] [] h = refl
same-names [] (b ∷ others) h = absurd (true≢false (sym h))
same-names (a ∷ rest) [] h = absurd (true≢false (sym h))
same-names (a ∷ rest) (b ∷ others) h =
    let parts : IsTrue (bytes_eq a b) × IsTrue (same_names rest others) = and_parts (bytes_eq a b) (same_names rest others) h in
    ap (λ n. n ∷ rest) ((bytes_eq-Decides a b).0 parts.0) ∙ ap (λ l. b ∷ l) (same-names rest others parts.1)

-- a statement that declares no leaf of this name, and no node of this name with other children
abbrev lists_these : Name → List Name → Sense → Bool
lists_these a ns (leaf n u b q cs) = not (bytes_eq n a)
lists_these a ns (node n u b q ms) = not (bytes_eq n a) || same_names ms ns
lists_these a ns s = true

not-leaf : (es : List Entry) (n : Node) (ns : List Name) (s : Sense) → IsLeafOf es n s → lists_these n.name ns s ≡ true → ⊥
not-leaf es n ns (leaf m u b q cs) is other = (let same : bytes_eq m n.name ≡ true = (bytes_eq-Decides m n.name).1 (sym is.name_is) in cc)
not-leaf es n ns s is other = absurd is

children-are : (es : List Entry) (n : Node) (names ns : List Name) (s : Sense) → IsInnerOf es n names s → lists_these n.name ns s ≡ true → names ≡ ns
children-are es n names ns (node m u b q ms) is these =
    let same : bytes_eq m n.name ≡ true = (bytes_eq-Decides m n.name).1 (sym is.0.name_is) in
    let here : same_names ms ns ≡ true = cc in
    is.1 ∙ same-names ms ns here
children-are es n names ns s is these = absurd is

shapes-below : (es : List Entry) (shape : Topology) (ts : Trees Node) (ns : List Name) → AllByRecursion (HasShape es shape) ns → AreTreesIn es ts → names_of ts ≡ ns → topologies_of ts ≡ copies (length ns) shape
shapes-below es shape none [] shapes said is = refl
shapes-below es shape none (n ∷ ns) shapes said is = (let none_left : 0 ≡ suc (length ns) = ap length is in absurd (omega (arith, none_left)))
shapes-below es shape (more t ts) [] shapes said is = (let none_left : suc (length (names_of ts)) ≡ 0 = ap length is in absurd (omega (arith, none_left)))
shapes-below es shape (more t ts) (n ∷ ns) shapes said is =
    ap (λ u. more u (topologies_of ts)) (shapes.0 t said.0 (ap (λ l. get_or l 0 []) is)) ∙ ap (more shape) (shapes-below es shape ts ns shapes.1 said.1 (ap (drop 1) is))

inner-shape : (es : List Entry) (a : Name) (ns : List Name) (shape : Topology) → list_all (λ e. lists_these a ns e.1) es ≡ true → AllByRecursion (HasShape es shape) ns → HasShape es (inner tt (copies (length ns) shape)) a
inner-shape es a ns shape all shapes (leaf_of n) said top =
    let found = at-some (λ e. IsLeafOf es n e.1) (λ e. lists_these a ns e.1) es said all in
    absurd (not-leaf es n ns found.0.1 found.1 (subst (λ (b : Name). lists_these b ns found.0.1 ≡ true) (sym top) found.2))
inner-shape es a ns shape all shapes (inner n ts) said top =
    let found = at-some (λ e. IsInnerOf es n (names_of ts) e.1) (λ e. lists_these a ns e.1) es said.0 all in
    let names : names_of ts ≡ ns = children-are es n (names_of ts) ns found.0.1 found.1 (subst (λ (b : Name). lists_these b ns found.0.1 ≡ true) (sym top) found.2) in
    ap (inner tt) (shapes-below es shape ts ns shapes said.1 names)

-- ---- the tree of the office
a-leaf : (a : Name) → list_all (λ e. is_no_node a e.1) office_lines ≡ true → HasShape office_lines (leaf_of tt) a
a-leaf a all = leaf-shape office_lines a all

abbrev four_leaves : Topology
four_leaves = inner tt (copies 4 (leaf_of tt))

urgent : HasShape office_lines four_leaves (codes "urgent")
urgent =
    inner-shape office_lines (codes "urgent") (codes "voice" ∷ codes "video" ∷ codes "ssh" ∷ codes "dns" ∷ []) (leaf_of tt) refl
    (a-leaf (codes "voice") refl, (a-leaf (codes "video") refl, (a-leaf (codes "ssh") refl, (a-leaf (codes "dns") refl, tt))))

normal : HasShape office_lines four_leaves (codes "normal")
normal =
    inner-shape office_lines (codes "normal") (codes "web" ∷ codes "mail" ∷ codes "backup" ∷ codes "other" ∷ []) (leaf_of tt) refl
    (a-leaf (codes "web") refl, (a-leaf (codes "mail") refl, (a-leaf (codes "backup") refl, (a-leaf (codes "other") refl, tt))))

whole : HasShape office_lines (complete (2 ∷ 4 ∷ [])) root
whole = inner-shape office_lines root (codes "urgent" ∷ codes "normal" ∷ []) four_leaves refl (urgent, (normal, tt))

-- ---- its classes
count-classes : (es : List Entry) (t : Tree Node) (ds : List Declared) (cs : List Class) → AreClassesOf es t ds cs → length cs ≡ length ds
count-classes es t [] [] are = refl
count-classes es t [] (c ∷ cs) are = absurd are
count-classes es t (d ∷ ds) [] are = absurd are
count-classes es t (d ∷ ds) (c ∷ cs) are = ap suc (count-classes es t ds cs are.2)

pub offices-alike : OfficesAreAlike
offices-alike r is = record {
  version = is.version_is;
  classes = count-classes office_lines r.policy.tree (classes_in office_lines) r.policy.classes is.classes;
  topology = whole r.policy.tree is.tree is.root_is;
}
