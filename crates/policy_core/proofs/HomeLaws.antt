-- The leaf of each class, after all statements.
use Rattle.policy_core.proofs.Prelude.{List, ◌≡◌, ℕ, ap, sym, subst, [], ◌∙◌, arith, length, ◌<◌, ◌∷◌, get_or, suc, true, ◌≤◌, take, slice_index, length-map, take_all, recursion_from_All, IsDistinct, AllZip, bytes_eq, Node, has-at, place-at, NoLine, IsRepeated, IsNotListedOnce, is_not_listed_once, entries_of, AreRising, graph_of, nodes_in, Name, declared, has, class_name, leaf_classes, listed, place, Entry, Statement, Row, AreHomes, IsHome, IsLeafWith, ArePlaces}
use Rattle.policy_core.proofs.NodeStatements.{names-nodes}
use Rattle.policy_core.proofs.DistinctClasses.{distinct-classes, classes-listed}
use Rattle.policy_core.proofs.HomePasses.{IsLeafPlace, IsPassing, length-graph}

zip-by : {X Y : Type 0} (R : X → Y → Type 0) (xs : List X) (ys : List Y) (d : X) (e : Y) → length xs ≡ length ys → ((k : ℕ) → k < length xs → R (get_or xs k d) (get_or ys k e)) → AllZip R xs ys
zip-by R [] [] d e size each = tt
zip-by R [] (y ∷ ys) d e size each = absurd (omega arith)
zip-by R (x ∷ xs) [] d e size each = absurd (omega arith)
zip-by R (x ∷ xs) (y ∷ ys) d e size each = (each 0 (omega arith), zip-by R xs ys d e (omega arith) (λ k l. each (suc k) (omega arith)))

pub length-nodes : (es : List Entry) → length (nodes_in es) ≡ length (graph_of es)
length-nodes es = sym (length-map (nodes_in es) (λ (n : Node). n.name)) ∙ ap length (names-nodes es es) ∙ sym (length-graph es)

home-of : (es : List Entry) (rows : List Row) (places : List ℕ) (a : Name) (k : ℕ) → length rows ≡ length (graph_of es) → ArePlaces rows places → IsLeafPlace es places a k → IsHome es rows a k
home-of es rows places a k size are leaf_place =
    let within : leaf_place.number < length rows = omega (arith, leaf_place.leaf.within, length-nodes es, size) in
    subst (λ (n : ℕ). IsHome es rows a n) (sym leaf_place.at) (record {
      within = are.within leaf_place.number within;
      leaf = subst (λ (n : ℕ). IsLeafWith es a n) (sym (are.node leaf_place.number within)) leaf_place.leaf;
    })

pub homes-all : (lines : List (ℕ × Statement)) (rows : List Row) (classes : List Name) (places leaves : List ℕ) (i node : ℕ) → AreRising (entries_of lines) → NoLine (IsRepeated (entries_of lines)) (entries_of lines) → NoLine (IsNotListedOnce (entries_of lines)) (entries_of lines) → classes ≡ declared class_name (entries_of lines)
    → length rows ≡ length (graph_of (entries_of lines)) → ArePlaces rows places → length lines ≤ i → IsPassing lines classes places i node leaves → AreHomes (entries_of lines) rows leaves
homes-all lines rows classes places leaves i node rising fresh listed_once are size all over passed =
    subst (λ (names : List Name). AllZip (IsHome (entries_of lines) rows) names leaves) are
    (zip-by (IsHome (entries_of lines) rows) classes leaves [] 0 (sym passed.len) each)
  where
    listed-all : (k : ℕ) → k < length classes → has (listed leaf_classes (entries_of (take i lines))) (get_or classes k []) ≡ true
    listed-all k l =
        subst (λ (ls : List (ℕ × Statement)). has (listed leaf_classes (entries_of ls)) (get_or classes k []) ≡ true) (sym (take_all i lines over))
        (subst (λ (names : List Name). has (listed leaf_classes (entries_of lines)) (get_or names k []) ≡ true) (sym are)
        (classes-listed (listed leaf_classes (entries_of lines)) (entries_of lines) (recursion_from_All (λ (e : Entry). is_not_listed_once (listed leaf_classes (entries_of lines)) e.1 ≡ true → ⊥) (entries_of lines) listed_once) k [] (omega (arith, ap length are, l))))

    each : (k : ℕ) → k < length classes → IsHome (entries_of lines) rows (get_or classes k []) (get_or leaves k 0)
    each k l =
        let at : place classes (get_or classes k []) ≡ k = place-at classes k [] (subst (IsDistinct bytes_eq) (sym are) (distinct-classes (entries_of lines) rising fresh)) l in
        home-of (entries_of lines) rows places (get_or classes k []) (get_or leaves k 0) size all
        (subst (λ (j : ℕ). IsLeafPlace (entries_of lines) places (get_or classes k []) (slice_index leaves j)) at (passed.placed (get_or classes k []) (listed-all k l) (has-at classes k [] l)))
