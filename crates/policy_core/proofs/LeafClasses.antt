-- Each class at a leaf that lists it.
use Rattle.policy_core.proofs.Prelude.{List, ◌≡◌, ℕ, ap, sym, subst, [], ◌∷◌, refl, map, AllZip, graph_of, Name, declared, class_name, Declared, classes_in, AreClassesOf, IsLeafFor, Entry, node, class, filtered, version, each, keep, pop, push, transaction, Tree, IsTreeOf, rows, row_at, AreHomes, IsHome, classes_at, node_numbered, nodes_at}
use Rattle.policy_text_defs.specs.Sense.{leaf}
use Rattle.policy_core.proofs.PlaceRows.{IsNodeAt, node-of_row}

-- the declared classes have the declared names
pub names-classes : (es : List Entry) → map (λ (d : Declared). d.name) (classes_in es) ≡ declared class_name es
names-classes [] = refl
names-classes ((n, version v) ∷ es) = names-classes es
names-classes ((n, transaction t) ∷ es) = names-classes es
names-classes ((n, keep m s) ∷ es) = names-classes es
names-classes ((n, each m s) ∷ es) = names-classes es
names-classes ((n, push m t) ∷ es) = names-classes es
names-classes ((n, pop m t) ∷ es) = names-classes es
names-classes ((n, class m a cs) ∷ es) = ap (λ l. m ∷ l) (names-classes es)
names-classes ((n, filtered m a cs) ∷ es) = ap (λ l. m ∷ l) (names-classes es)
names-classes ((n, leaf m u a q ns) ∷ es) = names-classes es
names-classes ((n, node m u a q ns) ∷ es) = names-classes es

pub leaf-for : (es : List Entry) (t : Tree ℕ) (name : Name) (k : ℕ) → IsTreeOf (graph_of es) t → IsHome es (rows 0 [] t) name k → IsLeafFor es (nodes_at es t) name (row_at (rows 0 [] t) k).address
leaf-for es t name k tree home =
    let here : IsNodeAt (graph_of es) (node_numbered es) t (row_at (rows 0 [] t) k) = node-of_row (graph_of es) (node_numbered es) t k tree home.within in
    record {
      leaf_address = here.childless home.leaf.childless;
      node_is = node_numbered es (row_at (rows 0 [] t) k).node;
      at = here.node;
      lists = home.leaf.lists;
    }

classes-all : (es : List Entry) (t : Tree ℕ) (ds : List Declared) (ks : List ℕ) → IsTreeOf (graph_of es) t
    → AllZip (IsHome es (rows 0 [] t)) (map (λ (d : Declared). d.name) ds) ks → AreClassesOf es (nodes_at es t) ds (classes_at (rows 0 [] t) ds ks)
classes-all es t [] ks tree homes = tt
classes-all es t (d ∷ ds) [] tree homes = homes
classes-all es t (d ∷ ds) (k ∷ ks) tree homes = (refl, leaf-for es t d.name k tree homes.0, classes-all es t ds ks tree homes.1)

pub classes-of : (es : List Entry) (t : Tree ℕ) (numbers : List ℕ) → IsTreeOf (graph_of es) t → AreHomes es (rows 0 [] t) numbers → AreClassesOf es (nodes_at es t) (classes_in es) (classes_at (rows 0 [] t) (classes_in es) numbers)
classes-of es t numbers tree homes = classes-all es t (classes_in es) numbers tree (subst (λ (names : List Name). AllZip (IsHome es (rows 0 [] t)) names numbers) (sym (names-classes es)) homes)
