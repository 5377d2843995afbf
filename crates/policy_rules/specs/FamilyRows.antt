-- Nodes that are among their own descendants, and nodes that are too deep.
use Rattle.std.specs.Prelude.{◌≡◌, refl, ℕ, zero, suc, ◌<◌, ◌≤◌, nat_le, Bool, true, false, not, ◌||◌, Option, None, if◌then◌else◌, Some, List, [], ◌∷◌, ◌++◌, length, slice_index_or, flat_map, codes, IsSomeAnd}
use Rattle.std.specs.List.{list_all}
use Rattle.std.specs.Option.{option_map_or}
use Rattle.std.specs.Str.{bytes_eq}
use Rattle.std.proofs.Common.{arith, sym, ap, subst, ◌∙◌}
use Rattle.std.proofs.Math.Bool.{or-true}
use Rattle.std.proofs.lemmas.Bool.Decides.{nat_tests}
use Rattle.std.proofs.lemmas.List.Folds.{list_any-append}
use Rattle.std.proofs.lemmas.List.Sums.{AllPass-from_list_all}
use Rattle.std.proofs.lemmas.Slice.Eq.{bytes_eq-Decides}
use Rattle.policy_text_defs.specs.Sense.{Sense, Entry, entry, numbered, version}
use Rattle.policy_rules.specs.Names.{Name, has, node_name, children, leaf_classes, listed}
use Rattle.policy_rules.specs.Clauses.{root}
use Rattle.policy_rules.specs.Families.{ListsChild, NamesLead, IsCyclic, IsTooDeep}
use Rattle.policy_rules.specs.Clauses.{IsLeastLine, NoLine, is_not_listed_once, IsNotListedOnce}
use Rattle.policy_rules.specs.Accepted.{AreFew, IsFault}
use Rattle.policy_rules.specs.declared.fault.PolicyFault.TheVariants.{Deep}
use Rattle.policy_rules.specs.TwoFaults.{leaf_of, node_of, some_packets, none_passes, are_few, or_less, in_some, orphan, none}

-- ---- the children of a name, and the names that they lead to

abbrev is_named : Name → Sense → Bool
is_named a s = option_map_or (λ n. bytes_eq a n) (node_name s) false

abbrev children_of : List Entry → Name → List Name
children_of [] a = []
children_of (e ∷ es) a = (if is_named a e.1 then children e.1 else []) ++ children_of es a

-- the names that N steps lead to
abbrev led_to : List Entry → ℕ → List Name → List Name
led_to es zero names = names
led_to es (suc k) names = led_to es k (flat_map (children_of es) names)

same : (a : Name) → bytes_eq a a ≡ true
same a = (bytes_eq-Decides a a).1 refl

has-contains : (names : List Name) (b : Name) (k : ℕ) → k < length names → slice_index_or names k b ≡ b → has names b ≡ true
has-contains [] b k short is = absurd (omega arith)
has-contains (n ∷ names) b zero short is = ap (λ t. t || has names b) (subst (λ m. bytes_eq b m ≡ true) (sym is) (same b))
has-contains (n ∷ names) b (suc k) short is = ap (λ t. bytes_eq b n || t) (has-contains names b k (omega arith) is) ∙ or-true (bytes_eq b n)

in_first : (xs ys : List Name) (b : Name) → has xs b ≡ true → has (xs ++ ys) b ≡ true
in_first xs ys b there = list_any-append (bytes_eq b) xs ys ∙ ap (λ t. t || has ys b) there

in_second : (xs ys : List Name) (b : Name) → has ys b ≡ true → has (xs ++ ys) b ≡ true
in_second xs ys b there = list_any-append (bytes_eq b) xs ys ∙ ap (λ t. has xs b || t) there ∙ or-true (has xs b)

child-there : (es : List Entry) (a b : Name) (k : ℕ) (e : Entry) → k < length es → slice_index_or es k e ≡ e → node_name e.1 ≡ Some a → has (children e.1) b ≡ true → has (children_of es a) b ≡ true
child-there [] a b k e short is named there = absurd (omega arith)
child-there (d ∷ es) a b zero e short is named there =
    in_first (if is_named a d.1 then children d.1 else []) (children_of es a) b
    (subst (λ (f : Entry). has (if is_named a f.1 then children f.1 else []) b ≡ true) (sym is)
    (ap (λ t. has (if t then children e.1 else []) b) (ap (λ o. option_map_or (λ n. bytes_eq a n) o false) named ∙ same a) ∙ there))
child-there (d ∷ es) a b (suc k) e short is named there =
    in_second (if is_named a d.1 then children d.1 else []) (children_of es a) b (child-there es a b k e (omega arith) is named there)

child-listed : (es : List Entry) (b : Name) (k : ℕ) (e : Entry) → k < length es → slice_index_or es k e ≡ e → has (children e.1) b ≡ true → has (listed children es) b ≡ true
child-listed [] b k e short is there = absurd (omega arith)
child-listed (d ∷ es) b zero e short is there = in_first (children d.1) (listed children es) b (subst (λ (f : Entry). has (children f.1) b ≡ true) (sym is) there)
child-listed (d ∷ es) b (suc k) e short is there = in_second (children d.1) (listed children es) b (child-listed es b k e (omega arith) is there)

children-there : (es : List Entry) (a b : Name) → ListsChild es a b → has (children_of es a) b ≡ true
children-there es a b l = child-there es a b l.0 l.1 l.2 l.3 l.4.0 (has-contains (children l.1.1) b l.4.1.0 l.4.1.1 l.4.1.2)

children-listed : (es : List Entry) (a b : Name) → ListsChild es a b → has (listed children es) b ≡ true
children-listed es a b l = child-listed es b l.0 l.1 l.2 l.3 (has-contains (children l.1.1) b l.4.1.0 l.4.1.1 l.4.1.2)

-- a step from one of the names
stepped : (es : List Entry) (names : List Name) (a b : Name) → has names a ≡ true → ListsChild es a b → has (flat_map (children_of es) names) b ≡ true
stepped es [] a b here lists = cc
stepped es (n ∷ names) a b here lists = at (bytes_eq a n) refl (λ there. stepped es names a b there lists)
  where
    at : (t : Bool) → bytes_eq a n ≡ t → (has names a ≡ true → has (flat_map (children_of es) names) b ≡ true) → has (flat_map (children_of es) (n ∷ names)) b ≡ true
    at true is rest = in_first (children_of es n) (flat_map (children_of es) names) b (subst (λ m. has (children_of es m) b ≡ true) ((bytes_eq-Decides a n).0 is) (children-there es a b lists))
    at false is rest = in_second (children_of es n) (flat_map (children_of es) names) b (rest (subst (λ t. (t || has names a) ≡ true) is here))

-- if m steps lead nowhere, no greater number of steps leads anywhere
ends : (es : List Entry) (m : ℕ) (names : List Name) → led_to es m names ≡ [] → (k : ℕ) (a b : Name) → m ≤ k → NamesLead es k a b → has names a ≡ true → ⊥
ends es zero names none k a b le lead here = let gone : has [] a ≡ true = subst (λ l. has l a ≡ true) none here in cc
ends es (suc m) names none zero a b le lead here = omega arith
ends es (suc m) names none (suc k) a b le lead here = ends es m (flat_map (children_of es) names) none k lead.0 b (omega arith) lead.2 (stepped es names a lead.0 here lead.1)

-- a name that steps lead to is listed as a child
led-listed : (es : List Entry) (k : ℕ) (a b : Name) → NamesLead es (suc k) a b → has (listed children es) b ≡ true
led-listed es zero a b lead = subst (λ m. has (listed children es) m ≡ true) lead.2 (children-listed es a lead.0 lead.1)
led-listed es (suc k) a b lead = led-listed es k lead.0 b lead.2

-- ---- 10: a node above a cycle isn't on it
abbrev above_a_cycle : List Entry
above_a_cycle = numbered 1 (version 1 ∷ node_of root (codes "a" ∷ []) ∷ node_of (codes "a") (codes "b" ∷ []) ∷ node_of (codes "b") (codes "a" ∷ []) ∷ [])

pub IsCyclic-on_the_cycle : IsCyclic above_a_cycle (entry 3 (node_of (codes "a") (codes "b" ∷ [])))
IsCyclic-on_the_cycle = (
  1,
  (
    codes "b",
    (2, entry 3 (node_of (codes "a") (codes "b" ∷ [])), omega arith, refl, (refl, (0, omega arith, refl))),
    (codes "a", (3, entry 4 (node_of (codes "b") (codes "a" ∷ [])), omega arith, refl, (refl, (0, omega arith, refl))), refl),
  ),
)

pub IsCyclic-above_the_cycle : ¬ IsCyclic above_a_cycle (entry 2 (node_of root (codes "a" ∷ [])))
IsCyclic-above_the_cycle below = let listed_root : has (listed children above_a_cycle) root ≡ true = led-listed above_a_cycle below.0 root root below.1 in cc

-- ---- 11: a leaf 64 levels below the root isn't too deep
abbrev level : ℕ → Name
level zero = root
level (suc n) = suc n ∷ []

abbrev chain : ℕ → ℕ → List Sense
chain zero n = leaf_of (level n) [] ∷ []
chain (suc left) n = node_of (level n) (level (suc n) ∷ []) ∷ chain left (suc n)

pub IsTooDeep-64_levels : ¬ IsTooDeep (numbered 1 (chain 64 0)) (entry 65 (leaf_of (64 ∷ []) []))
IsTooDeep-64_levels deep = ends (numbered 1 (chain 64 0)) 65 (root ∷ []) refl deep.0 root (64 ∷ []) (omega (arith, deep.1)) deep.2 refl

-- 64 steps lead to this leaf, and 63 to the node above it
pub chain-last : led_to (numbered 1 (chain 64 0)) 64 (root ∷ []) ≡ (64 ∷ []) ∷ []
chain-last = refl

-- ---- 11 before 12: a leaf 65 levels below the root, and a class that no leaf lists

-- k steps more
abbrev steps_more : ℕ → ℕ → ℕ
steps_more zero n = n
steps_more (suc k) n = suc (steps_more k n)

no_fewer : (k n : ℕ) → n ≤ steps_more k n
no_fewer zero n = omega arith
no_fewer (suc k) n = omega (arith, no_fewer k n)

-- two walks in a row
walk_both : (es : List Entry) (k n : ℕ) (a b c : Name) → NamesLead es k a b → NamesLead es n b c → NamesLead es (steps_more k n) a c
walk_both es zero n a b c first next = subst (λ m. NamesLead es n m c) (sym first) next
walk_both es (suc k) n a b c first next = (first.0, first.1, walk_both es k n first.0 b c first.2 next)

-- the steps of a walk back to its start, after n rounds
abbrev rounds : ℕ → ℕ → ℕ
rounds zero k = 0
rounds (suc n) k = suc (steps_more k (rounds n k))

rounds-many : (n k : ℕ) → n ≤ rounds n k
rounds-many zero k = omega arith
rounds-many (suc n) k = omega (arith, rounds-many n k, no_fewer k (rounds n k))

walk_rounds : (es : List Entry) (n k : ℕ) (a : Name) → NamesLead es (suc k) a a → NamesLead es (rounds n k) a a
walk_rounds es zero k a lead = refl
walk_rounds es (suc n) k a lead = walk_both es (suc k) (rounds n k) a a a lead (walk_rounds es n k a lead)

-- if m steps from the listed names lead to none, no name is below itself
none_below_itself : (es : List Entry) (m : ℕ) → led_to es m (listed children es) ≡ [] → NoLine (IsCyclic es) es
none_below_itself es m none k d short cyclic = in_some (node_name (slice_index_or es k d).1) cyclic (λ a below.
    ends es m (listed children es) none (rounds m below.0) a a (rounds-many m below.0) (walk_rounds es m below.0 a below.1) (led-listed es below.0 a a below.1))

led-there : (es : List Entry) (k : ℕ) (names : List Name) (a b : Name) → NamesLead es k a b → has names a ≡ true → has (led_to es k names) b ≡ true
led-there es zero names a b lead here = subst (λ m. has names m ≡ true) lead here
led-there es (suc k) names a b lead here = led-there es k (flat_map (children_of es) names) lead.0 b lead.2 (stepped es names a lead.0 here lead.1)

-- one statement more, before the others
later : (e : Entry) (es : List Entry) (k : ℕ) (a b : Name) → NamesLead es k a b → NamesLead (e ∷ es) k a b
later e es zero a b lead = lead
later e es (suc k) a b lead =
    (lead.0, (suc lead.1.0, lead.1.1, omega (arith, lead.1.2), lead.1.3, lead.1.4), later e es k lead.0 b lead.2)

abbrev last_level : ℕ → ℕ → Name
last_level zero n = level n
last_level (suc left) n = last_level left (suc n)

chain-leads : (left n line : ℕ) → NamesLead (numbered line (chain left n)) left (level n) (last_level left n)
chain-leads zero n line = refl
chain-leads (suc left) n line = (
  level (suc n),
  (0, entry line (node_of (level n) (level (suc n) ∷ [])), omega arith, refl, (refl, (0, omega arith, refl))),
  later (entry line (node_of (level n) (level (suc n) ∷ []))) (numbered (suc line) (chain left (suc n))) left (level (suc n)) (last_level left (suc n)) (chain-leads left (suc n) (suc line)),
)

abbrev deep_and_stray : List Entry
deep_and_stray = numbered 1 (version 1 ∷ some_packets ∷ chain 65 0)

65_steps : NamesLead deep_and_stray 65 root (65 ∷ [])
65_steps =
    later (entry 1 (version 1)) (numbered 2 (some_packets ∷ chain 65 0)) 65 root (65 ∷ [])
    (later (entry 2 some_packets) (numbered 3 (chain 65 0)) 65 root (65 ∷ []) (chain-leads 65 0 3))

some_name : {P : Name → Type 0} (o : Option Name) → IsSomeAnd o P → (a : Name) × (o ≡ Some a) × P a
some_name (Some a) is = (a, refl, is)
some_name None is = absurd is

only_one : (b : Bool) → (b || false) ≡ true → b ≡ true
only_one true h = refl
only_one false h = h

named-last : (e : Entry) (a : Name) → node_name e.1 ≡ Some a → has ((65 ∷ []) ∷ []) a ≡ true → is_named (65 ∷ []) e.1 ≡ true
named-last e a named there =
    let same_name : a ≡ 65 ∷ [] = (bytes_eq-Decides a (65 ∷ [])).0 (only_one (bytes_eq a (65 ∷ [])) there) in
    ap (λ o. option_map_or (λ n. bytes_eq (65 ∷ []) n) o false) named ∙ ap (λ n. bytes_eq (65 ∷ []) n) same_name

deepest : (k : ℕ) (d : Entry) → k < length deep_and_stray → IsTooDeep deep_and_stray (slice_index_or deep_and_stray k d) → 68 ≤ (slice_index_or deep_and_stray k d).0
deepest k d short deep = at (some_name (node_name (slice_index_or deep_and_stray k d).1) deep)
  where
    at : ((a : Name) × (node_name (slice_index_or deep_and_stray k d).1 ≡ Some a) × ((n : ℕ) × (64 < n) × NamesLead deep_and_stray n root a)) → 68 ≤ (slice_index_or deep_and_stray k d).0
    at (a, named, (n, above, lead)) = more (nat_le 66 n) refl
      where
        more : (t : Bool) → nat_le 66 n ≡ t → 68 ≤ (slice_index_or deep_and_stray k d).0
        more true far = absurd (ends deep_and_stray 66 (root ∷ []) refl n root a (grind (arith, nat_tests, far)) lead refl)
        more false near =
            let steps : n ≡ 65 = grind (arith, nat_tests, near, above) in
            or_less (is_named (65 ∷ []) (slice_index_or deep_and_stray k d).1) 68 (slice_index_or deep_and_stray k d).0
            (AllPass-from_list_all (λ e. not (is_named (65 ∷ []) e.1) || nat_le 68 e.0) deep_and_stray refl k d short)
            (named-last (slice_index_or deep_and_stray k d) a named (led-there deep_and_stray 65 (root ∷ []) root a (subst (λ m. NamesLead deep_and_stray m root a) steps lead) refl))

pub deep_before_stray : IsFault deep_and_stray (Deep 68) × IsNotListedOnce deep_and_stray (entry 2 some_packets)
deep_before_stray = (
  (
    ((((are_few deep_and_stray refl refl refl refl, tt), none_passes (orphan deep_and_stray) deep_and_stray refl), refl), none_below_itself deep_and_stray 65 refl),
    record { there = (67, entry 68 (leaf_of (65 ∷ []) []), omega arith, refl, ((65, omega arith, 65_steps), refl)); least = deepest },
  ),
  refl,
)
