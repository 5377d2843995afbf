-- Statements with two errors: the earlier clause is reported, whatever its line.
use Rattle.std.specs.Prelude.{◌≡◌, refl, ℕ, zero, suc, ◌<◌, ◌≤◌, nat_le, nat_eq, Bool, true, false, not, ◌||◌, IsTrue, Option, Some, None, IsSomeAnd, List, [], ◌∷◌, length, slice_index_or, codes}
use Rattle.std.specs.List.{list_all}
use Rattle.std.proofs.Common.{arith, subst, inl, inr}
use Rattle.std.proofs.lemmas.Bool.Decides.{nat_tests}
use Rattle.std.proofs.lemmas.List.Sums.{AllPass-from_list_all}
use Rattle.std.specs.Int.Signed.{le_z_yes, lt_z_yes, clash_ℤ}
use Rattle.rank_defs.specs.declared.expression.Op.TheVariants.{Mul, Div, Less}
use Rattle.rank_defs.specs.declared.expression.Var.TheVariants as var
use Rattle.rank_defs.specs.Formulas as formula
use Rattle.rank_defs.specs.Builtins.{fifo}
use Rattle.rank_defs.specs.Ranges.{declared, ArePartsNarrow}
use Rattle.rank_defs.specs.Checks.{Clashes, IsWide, MayDivideByZero, SomeAt, AreChecked, entries as assignments_of}
use Rattle.policy_text_defs.specs.declared.condition.Condition.TheVariants.{Field}
use Rattle.policy_text_defs.specs.declared.condition.FieldName.TheVariants.{Dscp}
use Rattle.policy_text_defs.specs.Phrase.{Phrase, number, word, two}
use Rattle.policy_text_defs.specs.Settings.{no_queueing, only_packets}
use Rattle.policy_text_defs.specs.Sense.{Sense, Entry, entry, numbered, version, transaction, keep, push, class, leaf, node}
use Rattle.policy_rules.specs.Names.{Name, node_name, before, listed, children, leaf_classes}
use Rattle.policy_rules.specs.Clauses.{IsLeastLine, NoLine, is_placed, is_declared, is_known, is_one_too_many, is_orphan, is_not_listed_once, has_root, has_catch_all, root, IsRepeated, IsUnknown, IsOneTooMany, IsOrphan, NeedsVersion2}
use Rattle.policy_rules.specs.Families.{ListsChild, NamesLead, IsCyclic, IsTooDeep}
use Rattle.policy_rules.specs.Accepted.{AreFew, AreShallow, IsFault}
use Rattle.policy_rules.specs.Programs.{programs}
use Rattle.policy_rules.specs.Rows.{nothing_set}
use Rattle.policy_rules.specs.declared.fault.PolicyFault.TheVariants.{Misplaced, Twice, Unknown, TooMany, TypeClash, Wide, DivZero, Parents, NoRoot, Cycle, ClassLeaf, NoCatchAll}

-- ---- clauses that are tests

both_ways : (b : Bool) → not b ≡ true → b ≡ true → ⊥
both_ways true e h = cc
both_ways false e h = cc

-- no line passes the test
pub none_passes : (test : Entry → Bool) (es : List Entry) → list_all (λ e. not (test e)) es ≡ true → NoLine (λ e. IsTrue (test e)) es
none_passes test es all k d short passes = both_ways (test (slice_index_or es k d)) (AllPass-from_list_all (λ e. not (test e)) es all k d short) passes

pub or_less : (b : Bool) (m n : ℕ) → (not b || nat_le m n) ≡ true → b ≡ true → m ≤ n
or_less true m n le h = grind (arith, nat_tests)
or_less false m n le h = cc

-- the statement at this index passes, and no other that passes is on a lower line
least_passes : (test : Entry → Bool) (es : List Entry) (k : ℕ) (e : Entry) → k < length es → slice_index_or es k e ≡ e → test e ≡ true → list_all (λ x. not (test x) || nat_le e.0 x.0) es ≡ true → IsLeastLine (λ x. IsTrue (test x)) es e.0
least_passes test es k e short is passes least = record {
  there = (k, e, short, is, (passes, refl));
  least = λ j d s bad. or_less (test (slice_index_or es j d)) e.0 (slice_index_or es j d).0 (AllPass-from_list_all (λ x. not (test x) || nat_le e.0 x.0) es least j d s) bad;
}

abbrev pub misplaced : List Entry → Entry → Bool
misplaced es e = not (is_placed (before e.0 es) e.1)

abbrev pub again : List Entry → Entry → Bool
again es e = is_declared (before e.0 es) e.1

abbrev pub unknown : List Entry → Entry → Bool
unknown es e = not (is_known es (before e.0 es) e.1)

abbrev pub beyond : List Entry → Entry → Bool
beyond es e = is_one_too_many (before e.0 es) e.1

abbrev pub orphan : List Entry → Entry → Bool
orphan es e = is_orphan (listed children es) e.1

abbrev pub stray : List Entry → Entry → Bool
stray es e = is_not_listed_once (listed leaf_classes es) e.1

abbrev pub none : (List Entry → Entry → Bool) → List Entry → Bool
none test es = list_all (λ e. not (test es e)) es

pub are_few : (es : List Entry) → none misplaced es ≡ true → none again es ≡ true → none unknown es ≡ true → none beyond es ≡ true → AreFew es
are_few es a b c d = (((none_passes (misplaced es) es a, none_passes (again es) es b), none_passes (unknown es) es c), none_passes (beyond es) es d)

-- ---- statements

abbrev all_packets : Sense
all_packets = class (codes "all") nothing_set []

abbrev pub some_packets : Sense
some_packets = class (codes "all") nothing_set (Field Dscp 46 46 ∷ [])

abbrev pub leaf_of : Name → List Name → Sense
leaf_of n classes = leaf n (codes "fifo") nothing_set no_queueing classes

abbrev pub node_of : Name → List Name → Sense
node_of n names = node n (codes "fifo") nothing_set no_queueing names

-- N variables with different names
abbrev variables : ℕ → ℕ → List Sense → List Sense
variables zero first rest = rest
variables (suc n) first rest = keep (first ∷ []) (record { low = 0; high = 9; first = 0 }) ∷ variables n (suc first) rest

-- ---- 1 before 2: a name is declared again on line 3, and `policy` is on line 4
abbrev misplaced_and_again : List Entry
misplaced_and_again = numbered 1 (version 1 ∷ all_packets ∷ all_packets ∷ version 1 ∷ [])

pub misplaced_before_again : IsFault misplaced_and_again (Misplaced 4) × IsRepeated misplaced_and_again (entry 3 all_packets)
misplaced_before_again = (least_passes (misplaced misplaced_and_again) misplaced_and_again 3 (entry 4 (version 1)) (omega arith) refl refl refl, refl)

-- ---- 2 before 3: a class that isn't declared is on line 2, and a name is declared again on line 4
abbrev again_and_unknown : List Entry
again_and_unknown = numbered 1 (version 1 ∷ leaf_of root (codes "b" ∷ []) ∷ all_packets ∷ all_packets ∷ [])

pub again_before_unknown : IsFault again_and_unknown (Twice 4) × IsUnknown again_and_unknown (entry 2 (leaf_of root (codes "b" ∷ [])))
again_before_unknown = ((none_passes (misplaced again_and_unknown) again_and_unknown refl, least_passes (again again_and_unknown) again_and_unknown 3 (entry 4 all_packets) (omega arith) refl refl refl), refl)

-- ---- 3 before 4: the 17th variable is on line 19, and a variable that isn't declared on line 20
abbrev unknown_and_beyond : List Entry
unknown_and_beyond = numbered 1 (version 1 ∷ transaction (codes "t") ∷ variables 17 97 (push (codes "rank") (word (codes "zz")) ∷ []))

pub unknown_before_beyond : IsFault unknown_and_beyond (Unknown 20) × IsOneTooMany unknown_and_beyond (entry 19 (keep (113 ∷ []) (record { low = 0; high = 9; first = 0 })))
unknown_before_beyond = (((none_passes (misplaced unknown_and_beyond) unknown_and_beyond refl, none_passes (again unknown_and_beyond) unknown_and_beyond refl), least_passes (unknown unknown_and_beyond) unknown_and_beyond 19 (entry 20 (push (codes "rank") (word (codes "zz")))) (omega arith) refl refl refl), refl)

-- ---- 4 before 8: a node that no other lists is on line 2, and the seventeenth variable on line 20
abbrev beyond_and_orphan : List Entry
beyond_and_orphan = numbered 1 (version 1 ∷ leaf_of (codes "x") [] ∷ transaction (codes "t") ∷ variables 17 97 [])

pub beyond_before_orphan : IsFault beyond_and_orphan (TooMany 20) × IsOrphan beyond_and_orphan (entry 2 (leaf_of (codes "x") []))
beyond_before_orphan = ((((none_passes (misplaced beyond_and_orphan) beyond_and_orphan refl, none_passes (again beyond_and_orphan) beyond_and_orphan refl), none_passes (unknown beyond_and_orphan) beyond_and_orphan refl), least_passes (beyond beyond_and_orphan) beyond_and_orphan 19 (entry 20 (keep (113 ∷ []) (record { low = 0; high = 9; first = 0 }))) (omega arith) refl refl refl), refl)

-- ---- 5, 6 and 7: one transaction of two push lines, on lines 3 and 4
abbrev two_pushes : Phrase → Phrase → List Entry
two_pushes a b = numbered 1 (version 1 ∷ transaction (codes "t") ∷ push (codes "rank") a ∷ push (codes "rank") b ∷ [])

abbrev truth_value : Phrase
truth_value = two Less (number 1) (number 2)

abbrev too_wide : Phrase
too_wide = two Mul (word (codes "now")) (word (codes "now"))

abbrev may_be_by_zero : Phrase
may_be_by_zero = two Div (number 1) (word (codes "prio"))

-- the parts of the expression that may divide by zero are narrow
parts_by_zero : ArePartsNarrow (declared fifo) (formula.two Div (formula.number 1) (formula.variable (var.Prio)))
parts_by_zero = (record { low = le_z_yes tt; high = le_z_yes tt }, record { low = le_z_yes tt; high = le_z_yes tt }, record { low = le_z_yes tt; high = le_z_yes tt })

-- 4 before 5: a truth value on line 3, and the 17th variable of another transaction on line 21
abbrev beyond_and_clash : List Entry
beyond_and_clash = numbered 1 (version 1 ∷ transaction (codes "t") ∷ push (codes "rank") truth_value ∷ transaction (codes "u") ∷ variables 17 97 [])

pub beyond_before_clash : IsFault beyond_and_clash (TooMany 21) × SomeAt Clashes (assignments_of (programs beyond_and_clash)) 3
beyond_before_clash = ((((none_passes (misplaced beyond_and_clash) beyond_and_clash refl, none_passes (again beyond_and_clash) beyond_and_clash refl), none_passes (unknown beyond_and_clash) beyond_and_clash refl), least_passes (beyond beyond_and_clash) beyond_and_clash 20 (entry 21 (keep (113 ∷ []) (record { low = 0; high = 9; first = 0 }))) (omega arith) refl refl refl), inl (refl, λ e. cc))

-- 5 before 6: too wide on line 3, and a truth value on line 4
pub clash_before_wide : IsFault (two_pushes too_wide truth_value) (TypeClash 4) × SomeAt IsWide (assignments_of (programs (two_pushes too_wide truth_value))) 3
clash_before_wide = ((are_few (two_pushes too_wide truth_value) refl refl refl refl, record { here = inr (inl (refl, λ e. cc)); least = least }), inl (refl, λ parts. clash_ℤ (lt_z_yes tt) parts.2.high))
  where
    least : (other : ℕ) → SomeAt Clashes (assignments_of (programs (two_pushes too_wide truth_value))) other → 4 ≤ other
    least other (inl h) = absurd (h.1 refl)
    least other (inr (inl h)) = let on : 4 ≡ other = h.0 in omega arith
    least other (inr (inr none)) = absurd none

-- 6 before 7: a possible division by zero is on line 3, and an expression too wide on line 4
pub wide_before_zero : IsFault (two_pushes may_be_by_zero too_wide) (Wide 4) × SomeAt MayDivideByZero (assignments_of (programs (two_pushes may_be_by_zero too_wide))) 3
wide_before_zero = ((are_few (two_pushes may_be_by_zero too_wide) refl refl refl refl, record { typed = typed; wide = record { here = inr (inl (refl, λ parts. clash_ℤ (lt_z_yes tt) parts.2.high)); least = least } }), inl (refl, refl))
  where
    typed : (line : ℕ) → SomeAt Clashes (assignments_of (programs (two_pushes may_be_by_zero too_wide))) line → ⊥
    typed line (inl h) = h.1 refl
    typed line (inr (inl h)) = h.1 refl
    typed line (inr (inr none)) = none

    least : (other : ℕ) → SomeAt IsWide (assignments_of (programs (two_pushes may_be_by_zero too_wide))) other → 4 ≤ other
    least other (inl h) = absurd (h.1 parts_by_zero)
    least other (inr (inl h)) = let on : 4 ≡ other = h.0 in omega arith
    least other (inr (inr none)) = absurd none

-- ---- 7 before 8: an unlisted node is on line 2, and a possible division by zero on line 4
abbrev zero_and_orphan : List Entry
zero_and_orphan = numbered 1 (version 1 ∷ leaf_of (codes "x") [] ∷ transaction (codes "t") ∷ push (codes "rank") may_be_by_zero ∷ [])

pub zero_before_orphan : IsFault zero_and_orphan (DivZero 4) × IsOrphan zero_and_orphan (entry 2 (leaf_of (codes "x") []))
zero_before_orphan = ((are_few zero_and_orphan refl refl refl refl, record { typed = typed; narrow = narrow; zero = record { here = inl (refl, refl); least = least } }), refl)
  where
    typed : (line : ℕ) → SomeAt Clashes (assignments_of (programs zero_and_orphan)) line → ⊥
    typed line (inl h) = h.1 refl
    typed line (inr none) = none

    narrow : (line : ℕ) → SomeAt IsWide (assignments_of (programs zero_and_orphan)) line → ⊥
    narrow line (inl h) = h.1 parts_by_zero
    narrow line (inr none) = none

    least : (other : ℕ) → SomeAt MayDivideByZero (assignments_of (programs zero_and_orphan)) other → 4 ≤ other
    least other (inl h) = let on : 4 ≡ other = h.0 in omega arith
    least other (inr none) = absurd none

-- ---- 8 before 9: one leaf that no node lists, and no root
abbrev orphan_and_no_root : List Entry
orphan_and_no_root = numbered 1 (version 1 ∷ all_packets ∷ leaf_of (codes "x") (codes "all" ∷ []) ∷ [])

pub orphan_before_no_root : IsFault orphan_and_no_root (Parents 3) × (has_root orphan_and_no_root ≡ false)
orphan_before_no_root = (((are_few orphan_and_no_root refl refl refl refl, tt), least_passes (orphan orphan_and_no_root) orphan_and_no_root 2 (entry 3 (leaf_of (codes "x") (codes "all" ∷ []))) (omega arith) refl refl refl), refl)

-- ---- 9 before 10: two nodes that list each other, and no root
abbrev no_root_and_cycle : List Entry
no_root_and_cycle = numbered 1 (version 1 ∷ node_of (codes "a") (codes "b" ∷ []) ∷ node_of (codes "b") (codes "a" ∷ []) ∷ [])

a_lists_b : ListsChild no_root_and_cycle (codes "a") (codes "b")
a_lists_b = (1, entry 2 (node_of (codes "a") (codes "b" ∷ [])), omega arith, refl, (refl, (0, omega arith, refl)))

b_lists_a : ListsChild no_root_and_cycle (codes "b") (codes "a")
b_lists_a = (2, entry 3 (node_of (codes "b") (codes "a" ∷ [])), omega arith, refl, (refl, (0, omega arith, refl)))

pub no_root_before_cycle : IsFault no_root_and_cycle NoRoot × IsCyclic no_root_and_cycle (entry 3 (node_of (codes "b") (codes "a" ∷ [])))
no_root_before_cycle = ((((are_few no_root_and_cycle refl refl refl refl, tt), none_passes (orphan no_root_and_cycle) no_root_and_cycle refl), refl), (1, (codes "a", b_lists_a, (codes "b", a_lists_b, refl))))

-- ---- 10 before 11: a root that lists itself: its own descendant, and 65 levels below itself
abbrev cycle_and_deep : List Entry
cycle_and_deep = numbered 1 (version 1 ∷ node_of root (root ∷ []) ∷ [])

root_lists_root : ListsChild cycle_and_deep root root
root_lists_root = (1, entry 2 (node_of root (root ∷ [])), omega arith, refl, (refl, (0, omega arith, refl)))

around : (k : ℕ) → NamesLead cycle_and_deep k root root
around zero = refl
around (suc k) = (root, root_lists_root, around k)

cycle_least : (k : ℕ) (d : Entry) → k < 2 → IsCyclic cycle_and_deep (slice_index_or cycle_and_deep k d) → 2 ≤ (slice_index_or cycle_and_deep k d).0
cycle_least zero d short bad = absurd bad
cycle_least (suc zero) d short bad = omega arith
cycle_least (suc (suc k)) d short bad = omega arith

pub cycle_before_deep : IsFault cycle_and_deep (Cycle 2) × IsTooDeep cycle_and_deep (entry 2 (node_of root (root ∷ [])))
cycle_before_deep = (((((are_few cycle_and_deep refl refl refl refl, tt), none_passes (orphan cycle_and_deep) cycle_and_deep refl), refl), record { there = (1, entry 2 (node_of root (root ∷ [])), omega arith, refl, ((0, (root, root_lists_root, refl)), refl)); least = cycle_least }), (65, omega arith, around 65))

-- ---- statements in which no node lists another have no cycle, and no node below the root

none_lists : (es : List Entry) → list_all (λ e. nat_eq (length (children e.1)) 0) es ≡ true → (a b : Name) → ListsChild es a b → ⊥
none_lists es all a b lists =
    let empty : nat_eq (length (children lists.1.1)) 0 ≡ true = subst (λ (e : Entry). nat_eq (length (children e.1)) 0 ≡ true) lists.3 (AllPass-from_list_all (λ e. nat_eq (length (children e.1)) 0) es all lists.0 lists.1 lists.2)
    in let some : lists.4.1.0 < length (children lists.1.1) = lists.4.1.1
    in grind (arith, nat_tests)

pub in_some : {P : Name → Type 0} (o : Option Name) → IsSomeAnd o P → ((a : Name) → P a → ⊥) → ⊥
in_some (Some a) is none = none a is
in_some None is none = is

none_is_cyclic : (es : List Entry) → list_all (λ e. nat_eq (length (children e.1)) 0) es ≡ true → NoLine (IsCyclic es) es
none_is_cyclic es all k d short cyclic = in_some (node_name (slice_index_or es k d).1) cyclic (λ a below. none_lists es all a below.1.0 below.1.1)

none_is_deep : (es : List Entry) → list_all (λ e. nat_eq (length (children e.1)) 0) es ≡ true → NoLine (IsTooDeep es) es
none_is_deep es all k d short deep = in_some (node_name (slice_index_or es k d).1) deep (λ a below. at below.0 a below.1 below.2)
  where
    at : (n : ℕ) (a : Name) → 64 < n → NamesLead es n root a → ⊥
    at zero a above lead = omega arith
    at (suc n) a above lead = none_lists es all root lead.0 lead.1

abbrev lists_none : List Entry → Bool
lists_none es = list_all (λ e. nat_eq (length (children e.1)) 0) es

are_shallow : (es : List Entry) → AreFew es → AreChecked (programs es) → none orphan es ≡ true → has_root es ≡ true → lists_none es ≡ true → AreShallow es
are_shallow es few checked listed rooted flat =
    (((((few, checked), none_passes (orphan es) es listed), rooted), none_is_cyclic es flat), none_is_deep es flat)

-- ---- 12 before 13: a class that no leaf lists, and no class for all packets
abbrev stray_and_no_catch_all : List Entry
stray_and_no_catch_all = numbered 1 (version 1 ∷ some_packets ∷ leaf_of root [] ∷ [])

pub stray_before_no_catch_all : IsFault stray_and_no_catch_all (ClassLeaf 2) × (has_catch_all stray_and_no_catch_all ≡ false)
stray_before_no_catch_all = ((are_shallow stray_and_no_catch_all (are_few stray_and_no_catch_all refl refl refl refl) tt refl refl refl, least_passes (stray stray_and_no_catch_all) stray_and_no_catch_all 1 (entry 2 some_packets) (omega arith) refl refl refl), refl)

-- ---- 13 before 14: no class for all packets, and a limit in version 1
abbrev no_catch_all_and_ahead : List Entry
no_catch_all_and_ahead = numbered 1 (version 1 ∷ some_packets ∷ leaf root (codes "fifo") nothing_set (only_packets (Some 10)) (codes "all" ∷ []) ∷ [])

pub no_catch_all_before_ahead : IsFault no_catch_all_and_ahead NoCatchAll × NeedsVersion2 no_catch_all_and_ahead (entry 3 (leaf root (codes "fifo") nothing_set (only_packets (Some 10)) (codes "all" ∷ [])))
no_catch_all_before_ahead = (((are_shallow no_catch_all_and_ahead (are_few no_catch_all_and_ahead refl refl refl refl) tt refl refl refl, none_passes (stray no_catch_all_and_ahead) no_catch_all_and_ahead refl), refl), refl)
