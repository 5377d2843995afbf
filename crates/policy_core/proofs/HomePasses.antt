-- A pass over statements that finds the leaf of each class that leaves list.
use Rattle.policy_core.proofs.Prelude.{List, ◌≡◌, ℕ, ap, sym, subst, [], ◌∙◌, arith, length, ◌<◌, ◌∷◌, refl, get_or, suc, true, Some, map, None, ◌++◌, Option, inl, inr, ◌+◌, take, false, Contains, true≢false, ◌||◌, length-append, slice_index, append-nil, append_assoc, ◌⊎◌, drop, if◌then◌else◌, or-false, cases_Bool, length-map, map-append, filter_map-append, Any-from_list_any, list_any-append, bytes_eq-Decides, cons_option, bytes_eq, Node, given-more, given-within, entries-more, Line, entries_of, graph_of, nodes_in, family, Name, declared, node_name, has, leaf_classes, listed, place, Entry, Sense, sense_of, entry, Attrs, Statement, ArePut, IsLeafWith, node_numbered}
use Rattle.std.proofs.Math.Seq.{get_or-append_seam, split_at}
use Rattle.policy_text_defs.specs.declared.statement.Statement.TheVariants as statement
use Rattle.policy_text_defs.specs.declared.queueing.Queueing.{Queueing}
use Rattle.policy_text_defs.specs.Sense.{leaf}
use Rattle.policy_rules.proofs.Lines.{entry_of}
use Rattle.policy_core.proofs.NodeStatements.{families, length-families, names-nodes}
use Rattle.policy_core.proofs.ResolvedTrees.{name-at, children-at}

entries-split : (lines : List (ℕ × Statement)) (i : ℕ) (l : ℕ × Statement) → i < length lines → l ≡ get_or lines i l → entries_of lines ≡ entries_of (take i lines) ++ entry l.0 (sense_of l.1) ∷ entries_of (drop (suc i) lines)
entries-split lines i l short is = ap entries_of (split_at lines i l short ∙ ap (λ (k : Line). take i lines ++ k ∷ drop (suc i) lines) (sym is)) ∙ map-append entry_of (take i lines) (l ∷ drop (suc i) lines)

listed-step : (names : Sense → List Name) (es : List Entry) (e : Entry) → listed names (es ++ e ∷ []) ≡ listed names es ++ names e.1
listed-step names [] e = append-nil (names e.1)
listed-step names (f ∷ es) e = ap (λ l. names f.1 ++ l) (listed-step names es e) ∙ sym (append_assoc (names f.1) (listed names es) (names e.1))

-- ---- counts of the declared names
listed-more : (lines : List (ℕ × Statement)) (i : ℕ) (l : ℕ × Statement) → i < length lines → l ≡ get_or lines i l
    → listed leaf_classes (entries_of (take (i + 1) lines)) ≡ listed leaf_classes (entries_of (take i lines)) ++ leaf_classes (sense_of l.1)
listed-more lines i l short is = ap (listed leaf_classes) (entries-more lines i l short is) ∙ listed-step leaf_classes (entries_of (take i lines)) (entry l.0 (sense_of l.1))

one-more : (names : List Name) (o : Option Name) (a : Name) → o ≡ Some a → length (names ++ cons_option o []) ≡ length names + 1
one-more names o a is = ap (λ p. length (names ++ cons_option p [])) is ∙ length-append names (a ∷ [])

no-more : (names : List Name) (o : Option Name) → o ≡ None → length (names ++ cons_option o []) ≡ length names
no-more names o is = ap (λ p. length (names ++ cons_option p [])) is ∙ ap length (append-nil names)

pub counted-more : (space : Sense → Option Name) (lines : List (ℕ × Statement)) (i : ℕ) (l : ℕ × Statement) (a : Name) → i < length lines → l ≡ get_or lines i l → space (sense_of l.1) ≡ Some a
    → length (declared space (entries_of (take (i + 1) lines))) ≡ length (declared space (entries_of (take i lines))) + 1
counted-more space lines i l a short is declares = ap length (given-more space lines i l short is) ∙ one-more (declared space (entries_of (take i lines))) (space (sense_of l.1)) a declares

pub counted-same : (space : Sense → Option Name) (lines : List (ℕ × Statement)) (i : ℕ) (l : ℕ × Statement) → i < length lines → l ≡ get_or lines i l → space (sense_of l.1) ≡ None
    → length (declared space (entries_of (take (i + 1) lines))) ≡ length (declared space (entries_of (take i lines)))
counted-same space lines i l short is declares = ap length (given-more space lines i l short is) ∙ no-more (declared space (entries_of (take i lines))) (space (sense_of l.1)) declares

pub length-graph : (es : List Entry) → length (graph_of es) ≡ length (declared node_name es)
length-graph es = length-map (families es) (λ names. map (place (declared node_name es)) names) ∙ length-families es

-- ---- the leaf that a statement declares
contained : (ns : List Name) (a : Name) → has ns a ≡ true → Contains ns a
contained ns a there =
    let at : (k : ℕ) × (x : Name) × (k < length ns) × (get_or ns k x ≡ x) × (bytes_eq a x ≡ true) = Any-from_list_any (bytes_eq a) ns there in
    subst (λ (x : Name). Contains ns x) (sym ((bytes_eq-Decides a at.1).0 at.4)) (at.0, at.2, at.3)

leaf-with : (es before after : List Entry) (n : ℕ) (m u : Name) (at : Attrs) (q : Queueing) (ns : List Name) (a : Name) → es ≡ before ++ entry n (leaf m u at q ns) ∷ after → has ns a ≡ true
    → IsLeafWith es a (length (declared node_name before))
leaf-with es before after n m u at q ns a split there = record {
  within = omega (arith, ap length names, length-append (declared node_name before) (m ∷ declared node_name after), sym (length-map (nodes_in es) (λ (d : Node). d.name)), ap length (names-nodes es es));
  childless = children-at es i ∙ ap (map (place (declared node_name es))) none;
  lists = (length before, entry n (leaf m u at q ns), omega (arith, ap length split, length-append before (entry n (leaf m u at q ns) ∷ after)), ap (λ l. get_or l (length before) (entry n (leaf m u at q ns))) split ∙ get_or-append_seam before (entry n (leaf m u at q ns)) after _, (own, contained ns a there));
}
  where
    i : ℕ
    i = length (declared node_name before)

    names : declared node_name es ≡ declared node_name before ++ m ∷ declared node_name after
    names = ap (declared node_name) split ∙ filter_map-append (λ (f : Entry). node_name f.1) before (entry n (leaf m u at q ns) ∷ after)

    kin : families es ≡ families before ++ [] ∷ families after
    kin = ap families split ∙ filter_map-append (λ (f : Entry). family f.1) before (entry n (leaf m u at q ns) ∷ after)

    none : get_or (families es) i [] ≡ []
    none = ap (λ l. get_or l i []) kin ∙ ap (λ k. get_or (families before ++ [] ∷ families after) k []) (sym (length-families before)) ∙ get_or-append_seam (families before) [] (families after) []

    own : m ≡ (node_numbered es i).name
    own = sym (name-at es i ∙ ap (λ l. get_or l i []) names ∙ get_or-append_seam (declared node_name before) m (declared node_name after) [])

-- ---- the pass
-- a leaf that lists the class has this preorder number
pub record IsLeafPlace (es : List Entry) (places : List ℕ) (a : Name) (k : ℕ) : Type 0 where
  pub number : ℕ
  pub leaf : IsLeafWith es a number
  pub at : k ≡ slice_index places number

-- after the first lines: the number of nodes so far, and the leaf of each class listed so far
pub record IsPassing (lines : List (ℕ × Statement)) (classes : List Name) (places : List ℕ) (i node : ℕ) (leaves : List ℕ) : Type 0 where
  pub node_is : node ≡ length (declared node_name (entries_of (take i lines)))
  pub len : length leaves ≡ length classes
  pub placed : (a : Name) → has (listed leaf_classes (entries_of (take i lines))) a ≡ true → has classes a ≡ true → IsLeafPlace (entries_of lines) places a (slice_index leaves (place classes a))

pub pass-start : (lines : List (ℕ × Statement)) (classes : List Name) (places leaves : List ℕ) → length leaves ≡ length classes → IsPassing lines classes places 0 0 leaves
pass-start lines classes places leaves size = record {
  node_is = refl;
  len = size;
  placed = λ a there known. absurd (true≢false (sym there));
}

-- the next node has an index
pub node-within : (lines : List (ℕ × Statement)) (classes : List Name) (places leaves : List ℕ) (i node : ℕ) (l : ℕ × Statement) (a : Name) → i < length lines → l ≡ get_or lines i l
    → node_name (sense_of l.1) ≡ Some a → length places ≡ length (graph_of (entries_of lines)) → IsPassing lines classes places i node leaves → node < length places
node-within lines classes places leaves i node l a short is declares size so_far = omega (arith, given-within node_name lines i l a short is declares, length-graph (entries_of lines), size, so_far.node_is)

pub pass-leaf : (lines : List (ℕ × Statement)) (classes : List Name) (places leaves leaves' : List ℕ) (i node leaf : ℕ) (l : ℕ × Statement) (m u : Name) (at : Attrs) (q : Queueing) (ns : List Name) → i < length lines → l ≡ get_or lines i l
    → l.1 ≡ statement.Leaf m u at q ns → leaf ≡ slice_index places node → ArePut classes ns leaf leaves leaves' → IsPassing lines classes places i node leaves → IsPassing lines classes places (i + 1) (node + 1) leaves'
pass-leaf lines classes places leaves leaves' i node home l m u at q ns short is own there put so_far = record {
  node_is = omega (arith, so_far.node_is, counted-more node_name lines i l m short is (ap (λ s. node_name (sense_of s)) own));
  len = put.len ∙ so_far.len;
  placed = λ a listed_now known. by a listed_now known (cases_Bool (has ns a));
}
  where
    split : entries_of lines ≡ entries_of (take i lines) ++ entry l.0 (sense_of (statement.Leaf m u at q ns)) ∷ entries_of (drop (suc i) lines)
    split = entries-split lines i l short is ∙ ap (λ s. entries_of (take i lines) ++ entry l.0 (sense_of s) ∷ entries_of (drop (suc i) lines)) own

    more : (a : Name) → has (listed leaf_classes (entries_of (take (i + 1) lines))) a ≡ (has (listed leaf_classes (entries_of (take i lines))) a || has ns a)
    more a =
        ap (λ l. has l a) (listed-more lines i l short is ∙ ap (λ s. listed leaf_classes (entries_of (take i lines)) ++ leaf_classes (sense_of s)) own)
        ∙ list_any-append (bytes_eq a) (listed leaf_classes (entries_of (take i lines))) ns

    by : (a : Name) → has (listed leaf_classes (entries_of (take (i + 1) lines))) a ≡ true → has classes a ≡ true → (has ns a ≡ true) ⊎ (has ns a ≡ false) → IsLeafPlace (entries_of lines) places a (slice_index leaves' (place classes a))
    by a listed_now known (inl here) = record {
      number = length (declared node_name (entries_of (take i lines)));
      leaf = leaf-with (entries_of lines) (entries_of (take i lines)) (entries_of (drop (suc i) lines)) l.0 m u at q ns a split here;
      at = put.put a known ∙ ap (λ b. if b then home else slice_index leaves (place classes a)) here ∙ there ∙ ap (slice_index places) so_far.node_is;
    }
    by a listed_now known (inr other) =
        let earlier : has (listed leaf_classes (entries_of (take i lines))) a ≡ true = sym (ap (λ b. has (listed leaf_classes (entries_of (take i lines))) a || b) other ∙ or-false (has (listed leaf_classes (entries_of (take i lines))) a)) ∙ sym (more a) ∙ listed_now in
        subst (λ (k : ℕ). IsLeafPlace (entries_of lines) places a k) (sym (put.put a known ∙ ap (λ b. if b then home else slice_index leaves (place classes a)) other)) (so_far.placed a earlier known)

-- a statement that lists no classes
pass-unlisted : (lines : List (ℕ × Statement)) (classes : List Name) (places leaves : List ℕ) (i : ℕ) (l : ℕ × Statement) → i < length lines → l ≡ get_or lines i l → leaf_classes (sense_of l.1) ≡ []
    → listed leaf_classes (entries_of (take (i + 1) lines)) ≡ listed leaf_classes (entries_of (take i lines))
pass-unlisted lines classes places leaves i l short is none = listed-more lines i l short is ∙ ap (λ m. listed leaf_classes (entries_of (take i lines)) ++ m) none ∙ append-nil (listed leaf_classes (entries_of (take i lines)))

pub pass-node : (lines : List (ℕ × Statement)) (classes : List Name) (places leaves : List ℕ) (i node : ℕ) (l : ℕ × Statement) (m u : Name) (at : Attrs) (q : Queueing) (ns : List Name) → i < length lines → l ≡ get_or lines i l → l.1 ≡ statement.Node m u at q ns
    → IsPassing lines classes places i node leaves → IsPassing lines classes places (i + 1) (node + 1) leaves
pass-node lines classes places leaves i node l m u at q ns short is own so_far = record {
  node_is = omega (arith, so_far.node_is, counted-more node_name lines i l m short is (ap (λ s. node_name (sense_of s)) own));
  len = so_far.len;
  placed = λ a there known. so_far.placed a (ap (λ l. has l a) (sym (pass-unlisted lines classes places leaves i l short is (ap (λ s. leaf_classes (sense_of s)) own))) ∙ there) known;
}

-- a statement that is neither a leaf nor a node
pub record IsNeither (s : Statement) : Type 0 where
  pub unnamed : node_name (sense_of s) ≡ None
  pub unlisted : leaf_classes (sense_of s) ≡ []

pub neither : (s : Statement) → ((n u : Name) (a : Attrs) (q : Queueing) (ns : List Name) → s ≡ statement.Leaf n u a q ns → ⊥) → ((n u : Name) (a : Attrs) (q : Queueing) (ns : List Name) → s ≡ statement.Node n u a q ns → ⊥) → IsNeither s
neither (statement.Version v) no_leaf no_node = record { unnamed = refl; unlisted = refl }
neither (statement.Transaction n) no_leaf no_node = record { unnamed = refl; unlisted = refl }
neither (statement.Keep n s) no_leaf no_node = record { unnamed = refl; unlisted = refl }
neither (statement.Each n s) no_leaf no_node = record { unnamed = refl; unlisted = refl }
neither (statement.Push n t) no_leaf no_node = record { unnamed = refl; unlisted = refl }
neither (statement.Pop n t) no_leaf no_node = record { unnamed = refl; unlisted = refl }
neither (statement.Class n a cs) no_leaf no_node = record { unnamed = refl; unlisted = refl }
neither (statement.Filter n a ts) no_leaf no_node = record { unnamed = refl; unlisted = refl }
neither (statement.Leaf n u a q ns) no_leaf no_node = absurd (no_leaf n u a q ns refl)
neither (statement.Node n u a q ns) no_leaf no_node = absurd (no_node n u a q ns refl)

pub pass-other : (lines : List (ℕ × Statement)) (classes : List Name) (places leaves : List ℕ) (i node : ℕ) (l : ℕ × Statement) → i < length lines → l ≡ get_or lines i l → IsNeither l.1
    → IsPassing lines classes places i node leaves → IsPassing lines classes places (i + 1) node leaves
pass-other lines classes places leaves i node l short is other so_far = record {
  node_is = omega (arith, so_far.node_is, counted-same node_name lines i l short is other.unnamed);
  len = so_far.len;
  placed = λ a there known. so_far.placed a (ap (λ l. has l a) (sym (pass-unlisted lines classes places leaves i l short is other.unlisted)) ∙ there) known;
}
