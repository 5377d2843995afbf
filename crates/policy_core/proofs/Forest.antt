-- If each node except the root is listed once, the graph is a forest.
use Rattle.policy_core.proofs.Prelude.{List, ◌≡◌, ℕ, ap, sym, subst, [], ◌∙◌, arith, length, ◌<◌, ◌∷◌, refl, get_or, suc, true, Some, map, zero, ◌++◌, inl, inr, ◌≤◌, false, Bool, Contains, true≢false, cond, not, is_some, ◌≢◌, ◌⊎◌, ◌&&◌, count_by, get_or-eq_default, cases_Bool, cases_lt, and_parts, eqb-true, cases_eq, eq-eqb, ne_eqb, get_or_default, Contains-append_right, All-filter, All-head, All-map, All-tail, flat_map-map, sum_by-cons, sum_by-append, bytes_eq-Decides, list_all, IsDistinct, flat_map, option_map_or, bytes_eq, place-within, at-place, NoLine, root, IsOrphan, has_root, is_orphan, graph_of, Name, declared, node_name, has, listed, is_once, place, Entry, Sense, node, class, filtered, version, each, keep, pop, push, transaction, Graph, IsBelow, IsForest, IsChild, HasOneParent, node_entries}
use Rattle.std.proofs.Common.{All, sum_by}
use Rattle.std.specs.Bool.{nat_eq}
use Rattle.policy_text_defs.specs.Sense.{leaf}
use Rattle.policy_rules.specs.Names.{children}
use Rattle.tree_graph.specs.Descent.{times, children as kids}
use Rattle.tree_graph.proofs.NodesOnce.{is}
use Rattle.policy_core.proofs.NumberedPlaces.{only-place}
use Rattle.policy_core.proofs.Kinship.{IsNodeAt, node-at, node-was, name-at, name_of, length-names, length-graph, families-of-nodes}
use Rattle.policy_core.proofs.FamilyNames.{IsNamed, some-entry}
use Rattle.policy_core.proofs.Descents.{graph-in-range, own-place}

-- ---- a sum that is one

module _ {X : Type 0} (f : X → ℕ) where
  pub record IsOnlyOne (xs : List X) : Type 0 where
    pub at : ℕ
    pub within : at < length xs
    pub here : (d : X) → f (get_or xs at d) ≡ 1
    pub elsewhere : (q : ℕ) (d : X) → q < length xs → q ≢ at → f (get_or xs q d) ≡ 0

  all-zero : (xs : List X) → sum_by f xs ≡ 0 → (q : ℕ) (d : X) → q < length xs → f (get_or xs q d) ≡ 0
  all-zero [] e q d l = absurd (omega arith)
  all-zero (x ∷ xs) e zero d l = omega (arith, e, sum_by-cons f x xs)
  all-zero (x ∷ xs) e (suc q) d l = all-zero xs (omega (arith, e, sum_by-cons f x xs)) q d (omega arith)

  pub only_one : (xs : List X) → sum_by f xs ≡ 1 → IsOnlyOne xs
  only_one [] e = absurd (omega (arith, e))
  only_one (x ∷ xs) e = elim (cases_eq (f x) 0) [
    | inl none ↦ later (only_one xs (omega (arith, e, none, sum_by-cons f x xs))) none
    | inr some ↦ record {
      at = 0;
      within = omega arith;
      here = λ d. omega (arith, e, some, sum_by-cons f x xs);
      elsewhere = λ q d l ne. first q d l ne (omega (arith, e, some, sum_by-cons f x xs));
    }
  ]
    where
      later : IsOnlyOne xs → f x ≡ 0 → IsOnlyOne (x ∷ xs)
      later one none = record {
        at = suc one.at;
        within = omega (arith, one.within);
        here = λ d. one.here d;
        elsewhere = λ q d l ne. by q d l ne;
      }
        where
          by : (q : ℕ) (d : X) → q < length (x ∷ xs) → q ≢ suc one.at → f (get_or (x ∷ xs) q d) ≡ 0
          by zero d l ne = none
          by (suc q) d l ne = one.elsewhere q d (omega arith) (λ same. ne (ap suc same))

      first : (q : ℕ) (d : X) → q < length (x ∷ xs) → q ≢ 0 → sum_by f xs ≡ 0 → f (get_or (x ∷ xs) q d) ≡ 0
      first zero d l ne rest = absurd (ne refl)
      first (suc q) d l ne rest = all-zero xs rest q d (omega arith)

-- ---- counts by name and by number

-- the children of each node
abbrev kids_of : List Entry → List (List Name)
kids_of es = map (λ e. children e.1) (node_entries es)

children-are : (s : Sense) → children s ≡ cond (is_some (node_name s)) (children s) []
children-are (version v) = refl
children-are (transaction n) = refl
children-are (keep n s) = refl
children-are (each n s) = refl
children-are (push n t) = refl
children-are (pop n t) = refl
children-are (class n a cs) = refl
children-are (filtered n a cs) = refl
children-are (leaf n u a q ns) = refl
children-are (node n u a q ns) = refl

listed-step : (e : Entry) (b : Bool) (es ns : List Entry) → children e.1 ≡ cond b (children e.1) [] → listed children es ≡ listed children ns → listed children (e ∷ es) ≡ listed children (cond b (e ∷ ns) ns)
listed-step e true es ns own rest = ap (λ l. children e.1 ++ l) rest
listed-step e false es ns own rest = ap (λ l. l ++ listed children es) own ∙ rest

listed-nodes : (es : List Entry) → listed children es ≡ listed children (node_entries es)
listed-nodes [] = refl
listed-nodes (e ∷ es) = listed-step e (is_some (node_name e.1)) es (node_entries es) (children-are e.1) (listed-nodes es)

count-flat : (a : Name) (K : List (List Name)) → count_by (bytes_eq a) (flat_map (λ ns. ns) K) ≡ sum_by (count_by (bytes_eq a)) K
count-flat a [] = refl
count-flat a (ns ∷ K) =
    let rest : count_by (bytes_eq a) (flat_map (λ ns. ns) K) ≡ sum_by (count_by (bytes_eq a)) K = count-flat a K in
    omega (arith, rest, sum_by-append (λ x. cond (bytes_eq a x) 1 0) ns (flat_map (λ ns. ns) K), sum_by-cons (count_by (bytes_eq a)) ns K)

-- 1 for the same name
abbrev is_name : Name → Name → ℕ
is_name a x = cond (bytes_eq a x) 1 0

module _ (names : List Name) (c : ℕ) (distinct : IsDistinct bytes_eq names) (within : c < length names) where
  same_test : (b : Name) → has names b ≡ true → nat_eq c (place names b) ≡ bytes_eq (get_or names c []) b
  same_test b known = elim (cases_Bool (bytes_eq (get_or names c []) b)) [
    | inl same ↦ (let is_b : get_or names c [] ≡ b = (bytes_eq-Decides (get_or names c []) b).0 same in
        let at : get_or names c b ≡ b = own b is_b in
        eq-eqb c (place names b) (sym (only-place names c b distinct within at)) ∙ sym same)
    | inr other ↦ ne_eqb c (place names b) (λ e. true≢false (sym ((bytes_eq-Decides (get_or names c []) b).1 (ap (λ k. get_or names k []) e ∙ at-place names b [] known)) ∙ other)) ∙ sym other
  ]
    where
      own : (b : Name) → get_or names c [] ≡ b → get_or names c b ≡ b
      own b is_b = get_or_default names c b [] within ∙ is_b

  times-place : (cs : List Name) → list_all (has names) cs ≡ true → times c (map (place names) cs) ≡ count_by (bytes_eq (get_or names c [])) cs
  times-place [] known = refl
  times-place (b ∷ cs) known =
      let parts = and_parts (has names b) (list_all (has names) cs) known in
      let rest : times c (map (place names) cs) ≡ count_by (bytes_eq (get_or names c [])) cs = times-place cs parts.1 in
      let here : is c (place names b) ≡ is_name (get_or names c []) b = ap (λ t. cond t 1 0) (same_test b parts.0) in
      omega (arith, rest, here, sum_by-cons (λ x. cond (nat_eq c x) 1 0) (place names b) (map (place names) cs), sum_by-cons (λ x. cond (bytes_eq (get_or names c []) x) 1 0) b cs)

  sum-places : (K : List (List Name)) → All (λ ns. list_all (has names) ns ≡ true) K → sum_by (times c) (map (map (place names)) K) ≡ sum_by (count_by (bytes_eq (get_or names c []))) K
  sum-places [] known = refl
  sum-places (ns ∷ K) known =
      let rest : sum_by (times c) (map (map (place names)) K) ≡ sum_by (count_by (bytes_eq (get_or names c []))) K = sum-places K (All-tail (λ ns. list_all (has names) ns ≡ true) ns K known) in
      let here : times c (map (place names) ns) ≡ count_by (bytes_eq (get_or names c [])) ns = times-place ns (All-head (λ ns. list_all (has names) ns ≡ true) ns K known) in
      omega (arith, rest, here, sum_by-cons (times c) (map (place names) ns) (map (map (place names)) K), sum_by-cons (count_by (bytes_eq (get_or names c []))) ns K)

-- ---- one parent

there-from_times : (c : ℕ) (xs : List ℕ) → times c xs ≢ 0 → Contains xs c
there-from_times c [] h = absurd (h refl)
there-from_times c (x ∷ xs) h = elim (cases_Bool (nat_eq c x)) [
  | inl same ↦ (0, omega arith, sym (eqb-true c x same))
  | inr other ↦ Contains-append_right (x ∷ []) xs c (there-from_times c xs (λ none. h (let z : is c x ≡ 0 = ap (λ b. cond b 1 0) other in omega (arith, none, z, sum_by-cons (λ y. cond (nat_eq c y) 1 0) x xs))))
]

times-from_there : (c : ℕ) (xs : List ℕ) (k : ℕ) → k < length xs → get_or xs k c ≡ c → times c xs ≢ 0
times-from_there c [] k l same none = absurd (omega arith)
times-from_there c (x ∷ xs) zero l same none = (let z : is c x ≡ 1 = ap (λ b. cond b 1 0) (eq-eqb c x (sym same)) in omega (arith, none, z, sum_by-cons (λ y. cond (nat_eq c y) 1 0) x xs))
times-from_there c (x ∷ xs) (suc k) l same none = times-from_there c xs k (omega arith) same (omega (arith, none, sum_by-cons (λ y. cond (nat_eq c y) 1 0) x xs))

one-parent : (g : Graph) (c : ℕ) → sum_by (times c) g ≡ 1 → HasOneParent g c
one-parent g c e =
    let one : IsOnlyOne (times c) g = only_one (times c) g e in
    let here : times c (kids g one.at) ≡ 1 = one.here [] in
    record {
      parent = one.at;
      lists_it = there-from_times c (kids g one.at) (λ none. absurd (omega (arith, here, none)));
      once = here;
      only = λ q step. only one q step (cases_eq q one.at) (cases_lt q (length g));
    }
  where
    only : (one : IsOnlyOne (times c) g) (q : ℕ) → IsChild g q c → (q ≡ one.at) ⊎ (q ≢ one.at) → (q < length g) ⊎ (length g ≤ q) → q ≡ one.at
    only one q step (inl same) where_ = same
    only one q step (inr ne) (inl short) = absurd (times-from_there c (kids g q) step.0 step.1 step.2 (one.elsewhere q [] short ne))
    only one q step (inr ne) (inr long) = absurd (times-from_there c (kids g q) step.0 step.1 step.2 (ap (times c) (get_or-eq_default g [] long)))

-- ---- the forest

-- a node or leaf other than the root is listed once
orphan-free : (all : List Name) (s : Sense) (a : Name) → node_name s ≡ Some a → (is_orphan all s ≡ true → ⊥) → (a ≡ root → ⊥) → count_by (bytes_eq a) all ≡ 1
orphan-free all s a name fine other =
    let tests : (not (bytes_eq a root) && not (is_once all a)) ≡ true → ⊥ = λ bad. fine (ap (λ o. option_map_or (λ b. not (bytes_eq b root) && not (is_once all b)) o false) name ∙ bad) in
    eqb-true (count_by (bytes_eq a) all) 1 (once (bytes_eq a root) (is_once all a) refl tests)
  where
    once : (r o : Bool) → bytes_eq a root ≡ r → ((not r && not o) ≡ true → ⊥) → o ≡ true
    once true o e h = absurd (other ((bytes_eq-Decides a root).0 e))
    once false true e h = refl
    once false false e h = absurd (h refl)

pub forest : (es : List Entry) → IsNamed es → NoLine (IsOrphan es) es → has_root es ≡ true → ((a : ℕ) → IsBelow (graph_of es) a a → ⊥) → IsForest (graph_of es) (place (declared node_name es) root)
forest es named parents rooted acyclic = record {
  in_range = graph-in-range es named;
  root_is = (let w : place (declared node_name es) root < length (declared node_name es) = place-within (declared node_name es) root rooted in omega (arith, w, length-names es, length-graph es));
  one = λ c within ne. one-parent (graph_of es) c (listed-once c (omega (arith, within, length-graph es)) ne);
  acyclic = acyclic;
}
  where
    listed-once : (c : ℕ) → c < length (node_entries es) → c ≢ place (declared node_name es) root → sum_by (times c) (graph_of es) ≡ 1
    listed-once c inside ne =
        let names : List Name = declared node_name es in
        let within : c < length names = omega (arith, inside, length-names es) in
        let e : Entry = get_or (node_entries es) c some-entry in
        let at : IsNodeAt es c e = node-at es c some-entry inside in
        let was = node-was es c e at in
        let fine : is_orphan (listed children es) e.1 ≡ true → ⊥ = subst (λ (f : Entry). is_orphan (listed children es) f.1 ≡ true → ⊥) was.0.2 (parents was.0.0 e was.0.1) in
        let other : name_of e ≡ root → ⊥ = λ same. ne (sym (own-place es c e root named at (was.1 ∙ ap Some same))) in
        let counted : count_by (bytes_eq (name_of e)) (listed children es) ≡ 1 = orphan-free (listed children es) e.1 (name_of e) was.1 fine other in
        let known : All (λ ns. list_all (has names) ns ≡ true) (kids_of es) =
        All-map (λ ns. list_all (has names) ns ≡ true) (λ (f : Entry). children f.1) (node_entries es) (All-filter (λ f. is_some (node_name f.1)) (λ f. list_all (has names) (children f.1) ≡ true) es named.known) in
        ap (λ K. sum_by (times c) (map (map (place names)) K)) (families-of-nodes es)
        ∙ sum-places names c named.distinct within (kids_of es) known
        ∙ ap (λ (a : Name). sum_by (count_by (bytes_eq a)) (kids_of es)) (name-at es c e [] at)
        ∙ sym (count-flat (name_of e) (kids_of es))
        ∙ ap (count_by (bytes_eq (name_of e))) (flat_map-map (λ ns. ns) (λ (f : Entry). children f.1) (node_entries es) ∙ sym (listed-nodes es))
        ∙ counted
