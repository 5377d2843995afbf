-- Children by name and by number.
use Rattle.policy_core.proofs.Prelude.{List, ◌≡◌, ℕ, ap, sym, subst, [], ◌∙◌, arith, length, ◌<◌, ◌∷◌, refl, get_or, suc, true, Some, map, zero, None, ◌++◌, Option, ◌+◌, ◌≤◌, take, false, Bool, Contains, cond, is_some, unwrap_or, Vec, filter_map, filter, get_or_default, length-map, map-append, take_all, Contains-append_right, filter_map-append, filter_passes, cons_option, option_to_list, entries-more, entries_of, graph_of, family, Name, declared, node_name, place, Entry, Sense, node, class, filtered, version, each, keep, pop, push, transaction, sense_of, entry, Statement, length-lists, Graph, lists, node_entries}
use Rattle.std.proofs.lemmas.List.{get_or-map}
use Rattle.std.proofs.lemmas.Simd.{map-map}
use Rattle.policy_text_defs.specs.Sense.{leaf}
use Rattle.policy_rules.specs.Names.{children}
use Rattle.std.specs.declared.alloc.Global.{Global}
use Rattle.tree_graph.specs.Descent.{children as kids}

-- ---- the loop that builds the graph

abbrev pub by_numbers : List Name → List Entry → Graph
by_numbers names entries = map (λ ns. map (place names) ns) (filter_map (λ e. family e.1) entries)

one : (o : Option (List Name)) → cons_option o [] ≡ option_to_list o
one None = refl
one (Some p) = refl

pub graph-more : (names : List Name) (lines : List (ℕ × Statement)) (i : ℕ) (l : ℕ × Statement) (old new : Graph) → i < length lines → l ≡ get_or lines i l → old ≡ by_numbers names (entries_of (take i lines))
    → new ≡ old ++ map (map (place names)) (option_to_list (family (sense_of l.1))) → new ≡ by_numbers names (entries_of (take (i + 1) lines))
graph-more names lines i l old new within is so_far step =
    let front : List Entry = entries_of (take i lines) in
    let numbered : List Name → List ℕ = map (place names) in
    step ∙ ap (λ g. g ++ map numbered (option_to_list (family (sense_of l.1)))) so_far
    ∙ sym (map-append numbered (filter_map (λ e. family e.1) front) (option_to_list (family (sense_of l.1))))
    ∙ ap (λ ps. map numbered (filter_map (λ e. family e.1) front ++ ps)) (sym (one (family (sense_of l.1))))
    ∙ ap (map numbered) (sym (filter_map-append (λ e. family e.1) front (entry l.0 (sense_of l.1) ∷ [])))
    ∙ ap (by_numbers names) (sym (entries-more lines i l within is))

-- ---- the statements of nodes and leaves

abbrev is_node : Entry → Bool
is_node e = is_some (node_name e.1)

abbrev pub name_of : Entry → Name
name_of e = unwrap_or (node_name e.1) []

by-step : {Y : Type 0} (f : Entry → Y) (e : Entry) (b : Bool) (ys : List Y) (ns : List Entry) → ys ≡ map f ns → cons_option (cond b (Some (f e)) None) ys ≡ map f (cond b (e ∷ ns) ns)
by-step f e true ys ns same = ap (λ l. f e ∷ l) same
by-step f e false ys ns same = same

by-nodes : {Y : Type 0} (f : Entry → Y) (h : Entry → Option Y) → ((e : Entry) → h e ≡ cond (is_node e) (Some (f e)) None) → (es : List Entry) → filter_map h es ≡ map f (node_entries es)
by-nodes f h is [] = refl
by-nodes f h is (e ∷ es) = ap (λ o. cons_option o (filter_map h es)) (is e) ∙ by-step f e (is_node e) (filter_map h es) (node_entries es) (by-nodes f h is es)

pub named-some : {X : Type 0} (o : Option X) (d : X) → o ≡ cond (is_some o) (Some (unwrap_or o d)) None
named-some None d = refl
named-some (Some a) d = refl

pub names-of-nodes : (es : List Entry) → declared node_name es ≡ map name_of (node_entries es)
names-of-nodes es = by-nodes name_of (λ e. node_name e.1) (λ e. named-some (node_name e.1) []) es

family-is : (s : Sense) → family s ≡ cond (is_some (node_name s)) (Some (children s)) None
family-is (version v) = refl
family-is (transaction n) = refl
family-is (keep n s) = refl
family-is (each n s) = refl
family-is (push n t) = refl
family-is (pop n t) = refl
family-is (class n a cs) = refl
family-is (filtered n a cs) = refl
family-is (leaf n u a q ns) = refl
family-is (node n u a q ns) = refl

pub families-of-nodes : (es : List Entry) → filter_map (λ e. family e.1) es ≡ map (λ e. children e.1) (node_entries es)
families-of-nodes es = by-nodes (λ e. children e.1) (λ e. family e.1) (λ e. family-is e.1) es

pub graph-of-nodes : (es : List Entry) → graph_of es ≡ map (λ e. map (place (declared node_name es)) (children e.1)) (node_entries es)
graph-of-nodes es =
    ap (map (map (place (declared node_name es)))) (families-of-nodes es)
    ∙ map-map (map (place (declared node_name es))) (λ (e : Entry). children e.1) (node_entries es)

-- a node's name
pub name-is : (e : Entry) → is_node e ≡ true → node_name e.1 ≡ Some (name_of e)
name-is e h = named-some (node_name e.1) [] ∙ ap (λ b. cond b (Some (name_of e)) None) h

pub some-name : (e : Entry) (a : Name) → node_name e.1 ≡ Some a → (is_node e ≡ true) × (name_of e ≡ a)
some-name e a is = (ap is_some is, ap (λ o. unwrap_or o []) is)

-- ---- the elements that a filter keeps

module _ {X : Type 0} (p : X → Bool) where
  kept-cons : (b : Bool) (y x : X) (xs : List X) → Contains xs x → Contains (cond b (y ∷ xs) xs) x
  kept-cons true y x xs h = Contains-append_right (y ∷ []) xs x h
  kept-cons false y x xs h = h

  kept-at : (xs : List X) (k : ℕ) (x : X) → k < length xs → get_or xs k x ≡ x → p x ≡ true → Contains (filter p xs) x
  kept-at [] k x l is passes = absurd (omega arith)
  kept-at (y ∷ ys) zero x l is passes = subst (λ (b : Bool). Contains (cond b (y ∷ filter p ys) (filter p ys)) x) (sym (ap p is ∙ passes)) (0, omega arith, is)
  kept-at (y ∷ ys) (suc k) x l is passes = kept-cons (p y) y x (filter p ys) (kept-at ys k x (omega arith) is passes)

  pub kept : (xs : List X) (x : X) → Contains xs x → p x ≡ true → Contains (filter p xs) x
  kept xs x h passes = kept-at xs h.0 x h.1 h.2 passes

  later : (y x : X) (ys : List X) → Contains ys x → Contains (y ∷ ys) x
  later y x ys h = Contains-append_right (y ∷ []) ys x h

  was-step : (b : Bool) (y x : X) (ys : List X) (k : ℕ) → k < length (cond b (y ∷ filter p ys) (filter p ys)) → get_or (cond b (y ∷ filter p ys) (filter p ys)) k x ≡ x
      → ((j : ℕ) → j < length (filter p ys) → get_or (filter p ys) j x ≡ x → Contains ys x) → Contains (y ∷ ys) x
  was-step true y x ys zero l is rest = (0, omega arith, is)
  was-step true y x ys (suc k) l is rest = later y x ys (rest k (omega arith) is)
  was-step false y x ys k l is rest = later y x ys (rest k l is)

  pub was-there : (xs : List X) (k : ℕ) (x : X) → k < length (filter p xs) → get_or (filter p xs) k x ≡ x → Contains xs x
  was-there [] k x l is = absurd (omega arith)
  was-there (y ∷ ys) k x l is = was-step (p y) y x ys k l is (λ j short same. was-there ys j x short same)

-- an index among the nodes, and its statement
pub record IsNodeAt (es : List Entry) (i : ℕ) (e : Entry) : Type 0 where
  pub within : i < length (node_entries es)
  pub at : get_or (node_entries es) i e ≡ e

pub node-of : (es : List Entry) (k : ℕ) (e : Entry) (a : Name) → k < length es → get_or es k e ≡ e → node_name e.1 ≡ Some a → (i : ℕ) × IsNodeAt es i e
node-of es k e a within is name = (let h : Contains (node_entries es) e = kept is_node es e (k, within, is) (some-name e a name).0 in (h.0, record { within = h.1; at = h.2 }))

pub node-was : (es : List Entry) (i : ℕ) (e : Entry) → IsNodeAt es i e → Contains es e × (node_name e.1 ≡ Some (name_of e))
node-was es i e n = (was-there is_node es i e n.within n.at, name-is e (subst (λ (f : Entry). is_node f ≡ true) n.at (filter_passes is_node es i e n.within)))

pub length-names : (es : List Entry) → length (declared node_name es) ≡ length (node_entries es)
length-names es = ap length (names-of-nodes es) ∙ length-map (node_entries es) name_of

pub length-graph : (es : List Entry) → length (graph_of es) ≡ length (node_entries es)
length-graph es = ap length (graph-of-nodes es) ∙ length-map (node_entries es) (λ (e : Entry). map (place (declared node_name es)) (children e.1))

pub name-at : (es : List Entry) (i : ℕ) (e : Entry) (d : Name) → IsNodeAt es i e → get_or (declared node_name es) i d ≡ name_of e
name-at es i e d n = ap (λ ns. get_or ns i d) (names-of-nodes es) ∙ get_or-map name_of (node_entries es) i e d n.within ∙ ap name_of n.at

pub kids-at : (es : List Entry) (i : ℕ) (e : Entry) → IsNodeAt es i e → kids (graph_of es) i ≡ map (place (declared node_name es)) (children e.1)
kids-at es i e n =
    ap (λ g. get_or g i []) (graph-of-nodes es) ∙ get_or-map (λ (f : Entry). map (place (declared node_name es)) (children f.1)) (node_entries es) i e [] n.within
    ∙ ap (λ (f : Entry). map (place (declared node_name es)) (children f.1)) n.at

pub node-at : (es : List Entry) (i : ℕ) (d : Entry) → i < length (node_entries es) → IsNodeAt es i (get_or (node_entries es) i d)
node-at es i d within = record { within = within; at = get_or_default (node_entries es) i (get_or (node_entries es) i d) d within }

pub graph-size : (lines : List (ℕ × Statement)) (names : List Name) (g : List (Vec ℕ Global)) (i : ℕ) → names ≡ declared node_name (entries_of lines) → length lines ≤ i
    → lists g ≡ by_numbers names (entries_of (take i lines)) → length g ≡ length names
graph-size lines names g i is past so_far =
    let whole : lists g ≡ graph_of (entries_of lines) = so_far ∙ ap (λ ls. by_numbers names (entries_of ls)) (take_all i lines past) ∙ ap (λ ns. by_numbers ns (entries_of lines)) is in
    sym (length-lists g) ∙ ap length whole ∙ length-graph (entries_of lines) ∙ sym (length-names (entries_of lines)) ∙ ap length (sym is)
