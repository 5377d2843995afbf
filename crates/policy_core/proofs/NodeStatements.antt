-- The statements of nodes and leaves, by number.
use Rattle.policy_core.proofs.Prelude.{List, ◌≡◌, ℕ, ap, sym, [], ◌∙◌, arith, length, ◌<◌, ◌∷◌, refl, get_or, suc, Some, map, zero, None, filter_map, cons_option, Node, family, node_in, Name, declared, node_name, Entry, Sense, node, class, filtered, version, each, keep, pop, push, transaction}
use Rattle.policy_text_defs.specs.Sense.{leaf}

abbrev pub families : List Entry → List (List Name)
families es = filter_map (λ e. family e.1) es

abbrev pub nodes_over : List Entry → List Entry → List Node
nodes_over all es = filter_map (λ e. node_in all e.1) es

-- a statement declares the node or leaf with number i: its name, its children and its properties
pub record IsStated (all es : List Entry) (i : ℕ) : Type 0 where
  pub entry : Entry
  pub place : ℕ
  pub within : place < length es
  pub at : (d : Entry) → get_or es place d ≡ entry
  pub name : (d : Name) → node_name entry.1 ≡ Some (get_or (declared node_name es) i d)
  pub family : (d : List Name) → family entry.1 ≡ Some (get_or (families es) i d)
  pub node : (d : Node) → node_in all entry.1 ≡ Some (get_or (nodes_over all es) i d)

-- a statement that declares neither
record IsOther (all : List Entry) (s : Sense) : Type 0 where
  name : node_name s ≡ None
  family : family s ≡ None
  node : node_in all s ≡ None

-- a statement that declares a node or leaf
record IsOne (all : List Entry) (s : Sense) : Type 0 where
  own : Name
  listed : List Name
  said : Node
  name : node_name s ≡ Some own
  family : family s ≡ Some listed
  node : node_in all s ≡ Some said

later : (all : List Entry) (e : Entry) (es : List Entry) (i : ℕ) → IsOther all e.1 → IsStated all es i → IsStated all (e ∷ es) i
later all e es i other s = record {
  entry = s.entry;
  place = suc s.place;
  within = omega (arith, s.within);
  at = s.at;
  name = λ d. s.name d ∙ ap (λ o. Some (get_or (cons_option o (declared node_name es)) i d)) (sym other.name);
  family = λ d. s.family d ∙ ap (λ o. Some (get_or (cons_option o (families es)) i d)) (sym other.family);
  node = λ d. s.node d ∙ ap (λ o. Some (get_or (cons_option o (nodes_over all es)) i d)) (sym other.node);
}

first : (all : List Entry) (e : Entry) (es : List Entry) → IsOne all e.1 → IsStated all (e ∷ es) 0
first all e es one = record {
  entry = e;
  place = 0;
  within = omega arith;
  at = λ d. refl;
  name = λ d. one.name ∙ ap (λ o. Some (get_or (cons_option o (declared node_name es)) 0 d)) (sym one.name);
  family = λ d. one.family ∙ ap (λ o. Some (get_or (cons_option o (families es)) 0 d)) (sym one.family);
  node = λ d. one.node ∙ ap (λ o. Some (get_or (cons_option o (nodes_over all es)) 0 d)) (sym one.node);
}

next : (all : List Entry) (e : Entry) (es : List Entry) (i : ℕ) → IsOne all e.1 → IsStated all es i → IsStated all (e ∷ es) (suc i)
next all e es i one s = record {
  entry = s.entry;
  place = suc s.place;
  within = omega (arith, s.within);
  at = s.at;
  name = λ d. s.name d ∙ ap (λ o. Some (get_or (cons_option o (declared node_name es)) (suc i) d)) (sym one.name);
  family = λ d. s.family d ∙ ap (λ o. Some (get_or (cons_option o (families es)) (suc i) d)) (sym one.family);
  node = λ d. s.node d ∙ ap (λ o. Some (get_or (cons_option o (nodes_over all es)) (suc i) d)) (sym one.node);
}

counted : (all : List Entry) (e : Entry) (es : List Entry) (i : ℕ) → IsOne all e.1 → ((j : ℕ) → j < length (declared node_name es) → IsStated all es j) → i < suc (length (declared node_name es)) → IsStated all (e ∷ es) i
counted all e es zero one rest l = first all e es one
counted all e es (suc i) one rest l = next all e es i one (rest i (omega arith))

-- the statements by number, in order
pub stated : (all es : List Entry) (i : ℕ) → i < length (declared node_name es) → IsStated all es i
stated all [] i l = absurd (omega arith)
stated all ((n, version v) ∷ es) i l = later all (n, version v) es i (record { name = refl; family = refl; node = refl }) (stated all es i l)
stated all ((n, transaction t) ∷ es) i l = later all (n, transaction t) es i (record { name = refl; family = refl; node = refl }) (stated all es i l)
stated all ((n, keep m s) ∷ es) i l = later all (n, keep m s) es i (record { name = refl; family = refl; node = refl }) (stated all es i l)
stated all ((n, each m s) ∷ es) i l = later all (n, each m s) es i (record { name = refl; family = refl; node = refl }) (stated all es i l)
stated all ((n, push m t) ∷ es) i l = later all (n, push m t) es i (record { name = refl; family = refl; node = refl }) (stated all es i l)
stated all ((n, pop m t) ∷ es) i l = later all (n, pop m t) es i (record { name = refl; family = refl; node = refl }) (stated all es i l)
stated all ((n, class m a cs) ∷ es) i l = later all (n, class m a cs) es i (record { name = refl; family = refl; node = refl }) (stated all es i l)
stated all ((n, filtered m a cs) ∷ es) i l = later all (n, filtered m a cs) es i (record { name = refl; family = refl; node = refl }) (stated all es i l)
stated all ((n, leaf m u a q ns) ∷ es) i k = counted all (n, leaf m u a q ns) es i (record { own = m; listed = []; said = _; name = refl; family = refl; node = refl }) (λ j m. stated all es j m) k
stated all ((n, node m u a q ns) ∷ es) i l = counted all (n, node m u a q ns) es i (record { own = m; listed = ns; said = _; name = refl; family = refl; node = refl }) (λ j m. stated all es j m) l

-- there are as many families as declared names
pub length-families : (es : List Entry) → length (families es) ≡ length (declared node_name es)
length-families [] = refl
length-families ((n, version v) ∷ es) = length-families es
length-families ((n, transaction t) ∷ es) = length-families es
length-families ((n, keep m s) ∷ es) = length-families es
length-families ((n, each m s) ∷ es) = length-families es
length-families ((n, push m t) ∷ es) = length-families es
length-families ((n, pop m t) ∷ es) = length-families es
length-families ((n, class m a cs) ∷ es) = length-families es
length-families ((n, filtered m a cs) ∷ es) = length-families es
length-families ((n, leaf m u a q ns) ∷ es) = ap suc (length-families es)
length-families ((n, node m u a q ns) ∷ es) = ap suc (length-families es)

-- the names of the nodes
pub names-nodes : (all es : List Entry) → map (λ (n : Node). n.name) (nodes_over all es) ≡ declared node_name es
names-nodes all [] = refl
names-nodes all ((n, version v) ∷ es) = names-nodes all es
names-nodes all ((n, transaction t) ∷ es) = names-nodes all es
names-nodes all ((n, keep m s) ∷ es) = names-nodes all es
names-nodes all ((n, each m s) ∷ es) = names-nodes all es
names-nodes all ((n, push m t) ∷ es) = names-nodes all es
names-nodes all ((n, pop m t) ∷ es) = names-nodes all es
names-nodes all ((n, class m a cs) ∷ es) = names-nodes all es
names-nodes all ((n, filtered m a cs) ∷ es) = names-nodes all es
names-nodes all ((n, leaf m u a q ns) ∷ es) = ap (λ l. m ∷ l) (names-nodes all es)
names-nodes all ((n, node m u a q ns) ∷ es) = ap (λ l. m ∷ l) (names-nodes all es)
