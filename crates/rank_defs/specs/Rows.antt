-- Worked examples, each computed from the definitions.
use Rattle.std.specs.Prelude.{◌≡◌, ℕ, zero, suc, ◌-◌, ◌^◌, refl, List, [], ◌∷◌, map, replicate, true, false, Some, None, codes, pos, negsuc}
use Rattle.std.specs.Int.Signed.{le_z_yes, lt_z_yes, clash_ℤ}
use Rattle.std.specs.List.{AllByRecursion}
use Rattle.std.proofs.Common.{arith}
use Rattle.rank_defs.specs.declared.environment.Env.{Env}
use Rattle.rank_defs.specs.declared.environment.FlowKey.{FlowKey}
use Rattle.rank_defs.specs.declared.environment.Who.{Who}
use Rattle.rank_defs.specs.declared.environment.Who.TheVariants.{Child, Flow}
use Rattle.rank_defs.specs.declared.expression.Op.{Op}
use Rattle.rank_defs.specs.declared.expression.Op.TheVariants.{Add, Sub, Mul, Div, Less, LessEq, Equal, NotEqual, MoreEq, More, Min, Max, And, Or}
use Rattle.rank_defs.specs.declared.expression.Var.TheVariants.{Len, Now, Prio, Weight, Slack, Rank, Keep, Each}
use Rattle.rank_defs.specs.declared.range.Range.{Range}
use Rattle.rank_defs.specs.declared.transaction.Aim.TheVariants.{Rank as AimRank, Keep as AimKeep, Each as AimEach}
use Rattle.rank_defs.specs.declared.environment.TheConstants.{MAX_PRIO, MAX_WEIGHT, MAX_SLACK}
use Rattle.rank_defs.specs.declared.expression.TheConstants.{MAX_DEPTH}
use Rattle.rank_defs.specs.declared.transaction.TheConstants.{MAX_RANK}
use Rattle.rank_defs.specs.Shapes.{IsSpan, AreDeclared, IsAim, IsShaped, IsShapedAssignment, AreWithin, IsEnvInRange, max_depth, max_len, max_prio, max_weight, max_slack}
use Rattle.rank_defs.specs.Formulas.{Formula, number, variable, two, negation, choice, depth_of, computes, compares, joins, group}
use Rattle.rank_defs.specs.Programs.{Assignment, Program, span, max_rank, target, assignments}
use Rattle.rank_defs.specs.Values.{num, truth, nothing, quotient, apply, negated, chosen, value_of}
use Rattle.rank_defs.specs.States.{State, Memory, first_state, same_flow, same_who, variable_in}
use Rattle.rank_defs.specs.Steps.{clamped, write, push_rank, after_push, after_pop}
use Rattle.rank_defs.specs.Ranges.{counts, tells, clash, sort_of, range, hull_of, holds_zero, reach, quotient_range, joined_range, range_of_two, range_of, declared, parts_divide, widest, IsNarrow, ArePartsNarrow}
use Rattle.rank_defs.specs.Checks.{entries, lesser_line}
use Rattle.rank_defs.specs.Builtins.{set, ranked_by, fifo, strict, shortest, lstf, rr, stfq, builtins, builtin}

-- an environment with a length and a weight
abbrev env_of : ℕ → ℕ → Env
env_of l w = record { len = l; now = 0; prio = 0; weight = w; slack = 0 }

abbrev flow_of : ℕ → Who
flow_of s = Flow (record { version = 4; source = s; target = 0; proto = 17; sport = 0; dport = 0 })

-- the ranks of a sequence of push steps
abbrev ranks_of : Program → Env → State → List Who → List ℕ
ranks_of p env s [] = []
ranks_of p env s (who ∷ rest) =
    push_rank p who env s ∷ ranks_of p env (after_push p who env s) rest

-- an environment of five different numbers
abbrev env_of_five : Env
env_of_five = record { len = 1; now = 2; prio = 3; weight = 4; slack = 5 }

abbrev memory_of_five : Memory
memory_of_five = record { rank = 6; keeps = 7 ∷ 8 ∷ []; eaches = 9 ∷ 10 ∷ [] }

-- two variables of the node, two of each child or flow, and one line for each kind of target
abbrev four_variables : Program
four_variables =
    record { keeps = span 0 9 3 ∷ span 1 8 4 ∷ []; eaches = span 2 7 5 ∷ span 3 6 6 ∷ []; push = record { line = 11; aim = AimRank; formula = number 1 } ∷ record { line = 12; aim = AimEach 1; formula = number 2 } ∷ []; pop = record { line = 13; aim = AimKeep 1; formula = number 3 } ∷ [] }

-- len < 3
abbrev test : Formula
test = two Less (variable Len) (number 3)

-- an expression of depth 3
abbrev deep : Formula
deep = two Add (variable Len) (two Mul (variable Len) (number 2))

abbrev operations : List Op
operations = Add ∷ Sub ∷ Mul ∷ Div ∷ Min ∷ Max ∷ []

abbrev comparisons : List Op
comparisons = Less ∷ LessEq ∷ Equal ∷ NotEqual ∷ MoreEq ∷ More ∷ []

pub variables_in : map (variable_in env_of_five memory_of_five) (Len ∷ Now ∷ Prio ∷ Weight ∷ Slack ∷ Rank ∷ Keep 0 ∷ Keep 1 ∷ Each 0 ∷ Each 1 ∷ []) ≡ 1 ∷ 2 ∷ 3 ∷ 4 ∷ 5 ∷ 6 ∷ 7 ∷ 8 ∷ 9 ∷ 10 ∷ []
variables_in = refl

pub written_memories : map (λ aim. write aim 20 memory_of_five) (AimRank ∷ AimKeep 1 ∷ AimEach 0 ∷ []) ≡ record memory_of_five { rank = 20 } ∷ record memory_of_five { keeps = 7 ∷ 20 ∷ [] } ∷ record memory_of_five { eaches = 20 ∷ 10 ∷ [] } ∷ []
written_memories = refl

-- the rank has its own span, and each variable has its declared one
pub targets : map (target four_variables) (AimRank ∷ AimKeep 0 ∷ AimKeep 1 ∷ AimEach 0 ∷ AimEach 1 ∷ AimEach 2 ∷ []) ≡ span 0 4611686018427387903 0 ∷ span 0 9 3 ∷ span 1 8 4 ∷ span 2 7 5 ∷ span 3 6 6 ∷ span 0 0 0 ∷ []
targets = refl

pub first_keeps : (first_state four_variables).keeps ≡ 3 ∷ 4 ∷ []
first_keeps = refl

pub first_eaches : map (first_state four_variables).eaches (Child 0 ∷ Child 1 ∷ flow_of 1 ∷ []) ≡ (5 ∷ 6 ∷ []) ∷ (5 ∷ 6 ∷ []) ∷ (5 ∷ 6 ∷ []) ∷ []
first_eaches = refl

-- a child never equals a flow
pub same_children_and_flows : map (same_who (Child 1)) (Child 1 ∷ Child 2 ∷ flow_of 1 ∷ []) ≡ true ∷ false ∷ false ∷ []
same_children_and_flows = refl

-- a flow with six different fields
abbrev one_flow : FlowKey
one_flow = record { version = 4; source = 1; target = 2; proto = 17; sport = 5; dport = 6 }

-- flows that differ from it in one field each
abbrev flows_of_another_field : List FlowKey
flows_of_another_field =
    record one_flow { version = 6 } ∷ record one_flow { source = 2 } ∷ record one_flow { target = 1 } ∷ record one_flow { proto = 6 } ∷ record one_flow { sport = 6 } ∷ record one_flow { dport = 5 } ∷ []

pub same_flow-itself : same_flow one_flow one_flow ≡ true
same_flow-itself = refl

pub same_flow-another_field : map (same_flow one_flow) flows_of_another_field ≡ replicate 6 false
same_flow-another_field = refl

-- the reverse direction is a different flow
pub same_flow-the_way_back : same_flow one_flow (record one_flow { source = 2; target = 1; sport = 6; dport = 5 }) ≡ false
same_flow-the_way_back = refl

-- so it has its own variables
pub flows_apart : map (λ f. same_who (Flow one_flow) (Flow f)) (one_flow ∷ flows_of_another_field) ≡ true ∷ replicate 6 false
flows_apart = refl

-- the sum, difference, product, quotient, minimum and maximum of -7 and 2
pub operations_of_two_numbers : map (λ op. apply op (num (negsuc 6)) (num (pos 2))) operations ≡ map num (negsuc 4 ∷ negsuc 8 ∷ negsuc 13 ∷ negsuc 2 ∷ negsuc 6 ∷ pos 2 ∷ [])
operations_of_two_numbers = refl

-- -5 compared with -7, -5 and 3
pub comparisons_of_two_numbers : map (λ op. map (λ y. apply op (num (negsuc 4)) (num y)) (negsuc 6 ∷ negsuc 4 ∷ pos 3 ∷ [])) comparisons ≡ map (map truth) ((false ∷ false ∷ true ∷ []) ∷ (false ∷ true ∷ true ∷ []) ∷ (false ∷ true ∷ false ∷ []) ∷ (true ∷ false ∷ true ∷ []) ∷ (true ∷ true ∷ false ∷ []) ∷ (true ∷ false ∷ false ∷ []) ∷ [])
comparisons_of_two_numbers = refl

-- `and` and `or` of true with true and false, and of false with both
pub joined_truths : map (λ op. map (apply op (truth true)) (truth true ∷ truth false ∷ [])) (And ∷ Or ∷ []) ≡ map (map truth) ((true ∷ false ∷ []) ∷ (true ∷ true ∷ []) ∷ [])
joined_truths = refl

pub joined_with_false : map (λ op. map (apply op (truth false)) (truth true ∷ truth false ∷ [])) (And ∷ Or ∷ []) ≡ map (map truth) ((false ∷ false ∷ []) ∷ (true ∷ false ∷ []) ∷ [])
joined_with_false = refl

-- a number and a truth value can't be added, compared or joined
pub values_of_other_kinds : apply Add (truth true) (num (pos 1)) ∷ apply Less (num (pos 1)) (truth true) ∷ apply And (num (pos 1)) (truth true) ∷ negated (num (pos 1)) ∷ chosen (num (pos 1)) (num (pos 2)) (num (pos 3)) ∷ chosen (truth true) (truth true) (num (pos 3)) ∷ [] ≡ replicate 6 nothing
values_of_other_kinds = refl

pub values_of_formulas : map (value_of (variable_in env_of_five memory_of_five)) (number 12 ∷ variable Slack ∷ two Sub (variable Len) (variable Now) ∷ negation test ∷ choice test (variable Prio) (variable Weight) ∷ choice (negation test) (variable Prio) (variable Weight) ∷ []) ≡ num (pos 12) ∷ num (pos 5) ∷ num (negsuc 0) ∷ truth false ∷ num (pos 3) ∷ num (pos 4) ∷ []
values_of_formulas = refl

-- division truncates toward zero
pub minus_seven_halves : quotient (negsuc 6) (pos 2) ≡ num (negsuc 2)
minus_seven_halves = refl

pub seven_by_minus_two : quotient (pos 7) (negsuc 1) ≡ num (negsuc 2)
seven_by_minus_two = refl

pub minus_seven_by_minus_two : quotient (negsuc 6) (negsuc 1) ≡ num (pos 3)
minus_seven_by_minus_two = refl

pub no_quotient_by_zero : quotient (pos 7) (pos 0) ≡ nothing
no_quotient_by_zero = refl

-- 10 + (0 - 7) / 2
pub truncates : push_rank (ranked_by (two Add (number 10) (two Div (two Sub (number 0) (number 7)) (number 2)))) (Child 0) (env_of 100 1) (first_state fifo) ≡ 7
truncates = refl

-- (len - 1500) + 1500: no part is clamped
pub parts_may_be_negative : push_rank (ranked_by (two Add (two Sub (variable Len) (number 1500)) (number 1500))) (Child 0) (env_of 100 1) (first_state fifo) ≡ 100
parts_may_be_negative = refl

-- len - 1500: a rank is clamped
pub ranks_are_not_negative : push_rank (ranked_by (two Sub (variable Len) (number 1500))) (Child 0) (env_of 100 1) (first_state fifo) ≡ 0
ranks_are_not_negative = refl

pub clamped_from_above : clamped (span 2 5 3) (num (pos 9)) ≡ 5
clamped_from_above = refl

pub clamped_from_below : clamped (span 2 5 3) (num (negsuc 9)) ≡ 2
clamped_from_below = refl

pub not_clamped : map (clamped (span 2 5 3)) (num (pos 2) ∷ num (pos 4) ∷ num (pos 5) ∷ nothing ∷ []) ≡ 2 ∷ 4 ∷ 5 ∷ 2 ∷ []
not_clamped = refl

-- a push begins with rank 0
pub first_rank : push_rank (ranked_by (two Add (variable Rank) (number 1))) (Child 0) (env_of 100 1) (first_state fifo) ≡ 1
first_rank = refl

-- keep n 0..2 = 0, push n = n + 1, push rank = n
abbrev up_to_two : Program
up_to_two =
    record { keeps = span 0 2 0 ∷ []; eaches = []; push = set (AimKeep 0) (two Add (variable (Keep 0)) (number 1)) ∷ set AimRank (variable (Keep 0)) ∷ []; pop = [] }

pub counts_up_to_two : ranks_of up_to_two (env_of 100 1) (first_state up_to_two) (Child 0 ∷ Child 0 ∷ Child 0 ∷ []) ≡ 1 ∷ 2 ∷ 2 ∷ []
counts_up_to_two = refl

pub stfq_by_flow : ranks_of stfq (env_of 100 1) (first_state stfq) (flow_of 1 ∷ flow_of 1 ∷ flow_of 2 ∷ []) ≡ 0 ∷ 100000 ∷ 0 ∷ []
stfq_by_flow = refl

-- len * 1000 / weight, with integer division
pub stfq_by_weight : ranks_of stfq (env_of 100 3) (first_state stfq) (flow_of 1 ∷ flow_of 1 ∷ flow_of 1 ∷ []) ≡ 0 ∷ 33333 ∷ 66666 ∷ []
stfq_by_weight = refl

-- after a pop of rank 5 no flow is ranked below 5
pub stfq_after_a_pop : ranks_of stfq (env_of 100 1) (after_pop stfq (flow_of 1) (env_of 100 1) 5 (first_state stfq)) (flow_of 2 ∷ flow_of 2 ∷ []) ≡ 5 ∷ 100005 ∷ []
stfq_after_a_pop = refl

pub rr_by_child : ranks_of rr (env_of 100 1) (first_state rr) (Child 0 ∷ Child 0 ∷ Child 1 ∷ Child 0 ∷ Child 1 ∷ []) ≡ 0 ∷ 1 ∷ 0 ∷ 2 ∷ 1 ∷ []
rr_by_child = refl

-- after a pop of rank 5 no child is ranked below 5
pub rr_after_a_pop : push_rank rr (Child 1) (env_of 100 1) (after_pop rr (Child 0) (env_of 100 1) 5 (first_state rr)) ≡ 5
rr_after_a_pop = refl

pub known_names : map builtin (codes "fifo" ∷ codes "strict" ∷ codes "shortest" ∷ codes "lstf" ∷ codes "rr" ∷ codes "stfq" ∷ []) ≡ map Some (fifo ∷ strict ∷ shortest ∷ lstf ∷ rr ∷ stfq ∷ [])
known_names = refl

pub unknown_names : map builtin (codes "wfq" ∷ codes "r" ∷ codes "rrr" ∷ codes "" ∷ []) ≡ None ∷ None ∷ None ∷ None ∷ []
unknown_names = refl

-- the first rank of each of the six built-ins: length 100, timestamp 20, priority 3, weight 4 and
-- slack 5
pub first_ranks : map (λ b. push_rank b.program (Child 0) (record { len = 100; now = 20; prio = 3; weight = 4; slack = 5 }) (first_state b.program)) builtins ≡ 0 ∷ 3 ∷ 100 ∷ 25 ∷ 0 ∷ 0 ∷ []
first_ranks = refl

-- a divisor that may be 0 counts in every part; other operations have no divisor
pub divisors_in_each_part : map (λ (place : Formula → Formula). parts_divide (declared fifo) (place (two Div (variable Len) (variable Prio)))) ((λ f. two Add f (number 1)) ∷ (λ f. two Add (number 1) f) ∷ (λ f. negation (two Less f (number 1))) ∷ (λ f. choice (two Less f (number 1)) (number 1) (number 1)) ∷ (λ f. choice test f (number 1)) ∷ (λ f. choice test (number 1) f) ∷ []) ≡ replicate 6 false
divisors_in_each_part = refl

pub no_divisors : map (λ op. parts_divide (declared fifo) (two op (variable Len) (variable Prio))) (Add ∷ Sub ∷ Mul ∷ Min ∷ Max ∷ Less ∷ []) ≡ replicate 6 true
no_divisors = refl

pub may_be_zero : parts_divide (declared fifo) (two Div (variable Len) (variable Prio)) ≡ false
may_be_zero = refl

pub is_never_zero : parts_divide (declared fifo) (two Div (variable Len) (two Add (variable Prio) (number 1))) ≡ true
is_never_zero = refl

-- a weight is at least 1; a weight minus 1 may be 0
pub weights_are_positive : parts_divide (declared fifo) (two Div (variable Len) (variable Weight)) ≡ true
weights_are_positive = refl

pub less_than_weights_may_be_zero : parts_divide (declared fifo) (two Div (variable Len) (two Sub (variable Weight) (number 1))) ≡ false
less_than_weights_may_be_zero = refl

-- the ranges of all variables that an expression can read
pub declared_ranges : map (declared four_variables) (Len ∷ Now ∷ Prio ∷ Weight ∷ Slack ∷ Rank ∷ Keep 1 ∷ Each 0 ∷ []) ≡ range (pos 0) (pos 4294967295) ∷ range (pos 0) (pos 4611686018427387903) ∷ range (pos 0) (pos 65535) ∷ range (pos 1) (pos 65535) ∷ range (pos 0) (pos 1000000000000) ∷ range (pos 0) (pos 4611686018427387903) ∷ range (pos 1) (pos 8) ∷ range (pos 2) (pos 7) ∷ []
declared_ranges = refl

-- operations on -3..5 and 2..7
pub ranges_of_operations : map (λ op. range_of_two op (range (negsuc 2) (pos 5)) (range (pos 2) (pos 7))) operations ≡ range (negsuc 0) (pos 12) ∷ range (negsuc 9) (pos 3) ∷ range (negsuc 20) (pos 35) ∷ range (negsuc 0) (pos 2) ∷ range (negsuc 2) (pos 5) ∷ range (pos 2) (pos 7) ∷ []
ranges_of_operations = refl

-- the operands swapped, so the divisor may be 0
pub ranges_the_other_way_round : map (λ op. range_of_two op (range (pos 2) (pos 7)) (range (negsuc 2) (pos 5))) operations ≡ range (negsuc 0) (pos 12) ∷ range (negsuc 2) (pos 10) ∷ range (negsuc 20) (pos 35) ∷ range (negsuc 6) (pos 7) ∷ range (negsuc 2) (pos 5) ∷ range (pos 2) (pos 7) ∷ []
ranges_the_other_way_round = refl

-- the least and the greatest product of 2..3 and 4..5, of -3..-2 and 4..5, and of -3..-2 and -5..-4
pub ranges_of_products : map (λ (p : Range × Range). range_of_two Mul p.0 p.1) ((range (pos 2) (pos 3), range (pos 4) (pos 5)) ∷ (range (negsuc 2) (negsuc 1), range (pos 4) (pos 5)) ∷ (range (negsuc 2) (negsuc 1), range (negsuc 4) (negsuc 3)) ∷ []) ≡ range (pos 8) (pos 15) ∷ range (negsuc 14) (negsuc 7) ∷ range (pos 8) (pos 15) ∷ []
ranges_of_products = refl

pub ranges_of_no_numbers : map (λ f. range_of (declared fifo) f) (test ∷ negation test ∷ two And test test ∷ []) ≡ replicate 3 (range (pos 0) (pos 0))
ranges_of_no_numbers = refl

pub least_and_greatest_of_four : hull_of (pos 1) (pos 2) (pos 3) (pos 4) ∷ hull_of (pos 2) (pos 3) (pos 4) (pos 1) ∷ hull_of (pos 3) (pos 4) (pos 1) (pos 2) ∷ hull_of (pos 4) (pos 1) (pos 2) (pos 3) ∷ [] ≡ replicate 4 (range (pos 1) (pos 4))
least_and_greatest_of_four = refl

-- 0 lies in 0..5, -5..0 and -1..1, but not in 1..2 or -2..-1
pub ranges_with_zero : map holds_zero (range (pos 0) (pos 5) ∷ range (negsuc 4) (pos 0) ∷ range (negsuc 0) (pos 1) ∷ range (pos 1) (pos 2) ∷ range (negsuc 1) (negsuc 0) ∷ []) ≡ true ∷ true ∷ true ∷ false ∷ false ∷ []
ranges_with_zero = refl

-- the greatest absolute values of -7..5, -5..7 and -7..-5
pub greatest_absolute_values : map reach (range (negsuc 6) (pos 5) ∷ range (negsuc 4) (pos 7) ∷ range (negsuc 6) (negsuc 4) ∷ []) ≡ pos 7 ∷ pos 7 ∷ pos 7 ∷ []
greatest_absolute_values = refl

-- -7..5 divided by 0..3 and by 2..3
pub quotients_by_two_ranges : map (quotient_range (range (negsuc 6) (pos 5))) (range (pos 0) (pos 3) ∷ range (pos 2) (pos 3) ∷ []) ≡ range (negsuc 6) (pos 7) ∷ range (negsuc 2) (pos 2) ∷ []
quotients_by_two_ranges = refl

-- one interval inside another, and two disjoint intervals
pub joined_ranges : joined_range (range (pos 1) (pos 9)) (range (pos 3) (pos 4)) ∷ joined_range (range (pos 3) (pos 4)) (range (pos 1) (pos 9)) ∷ joined_range (range (pos 8) (pos 9)) (range (pos 1) (pos 2)) ∷ [] ≡ replicate 3 (range (pos 1) (pos 9))
joined_ranges = refl

pub square_of_now : range_of (declared fifo) (two Mul (variable Now) (variable Now)) ≡ range (pos 0) (pos 21267647932558653957237540927630737409)
square_of_now = refl

pub quotient_between : range_of (declared fifo) (two Div (two Sub (variable Len) (number 1500)) (variable Weight)) ≡ range (negsuc 1499) (pos 4294965795)
quotient_between = refl

-- a dividend from 0 to 4294967295 and a divisor that may be 0
pub quotient_by_what_may_be_zero : range_of (declared fifo) (two Div (variable Len) (variable Prio)) ≡ range (negsuc 4294967294) (pos 4294967295)
quotient_by_what_may_be_zero = refl

-- a product of -1500..4294965795 and -10..10
pub product_between : range_of (declared fifo) (two Mul (two Sub (variable Len) (number 1500)) (two Sub (two Min (variable Prio) (number 20)) (number 10))) ≡ range (negsuc 42949657949) (pos 42949657950)
product_between = refl

pub choice_between : range_of (declared fifo) (choice (two Less (variable Len) (number 3)) (number 7) (two Sub (number 0) (variable Prio))) ≡ range (negsuc 65534) (pos 7)
choice_between = refl

pub choice_of_the_first : push_rank (ranked_by (choice (two Less (variable Len) (number 101)) (number 7) (number 8))) (Child 0) (env_of 100 1) (first_state fifo) ≡ 7
choice_of_the_first = refl

-- -2^100 to 2^100 is narrow, ends included; one more on either side isn't
pub widest_is_narrow : IsNarrow widest
widest_is_narrow = record { low = le_z_yes tt; high = le_z_yes tt }

pub wider_is_not_narrow : IsNarrow (range (pos 0) (pos (suc (2 ^ 100)))) → ⊥
wider_is_not_narrow n = clash_ℤ (lt_z_yes tt) n.high

pub less_is_not_narrow : IsNarrow (range (negsuc (2 ^ 100)) (pos 0)) → ⊥
less_is_not_narrow n = clash_ℤ (lt_z_yes tt) n.low

-- now * now reaches 2^124: each part has to be narrow, even if the whole is
abbrev wide : Formula
wide = two Mul (variable Now) (variable Now)

pub square_is_wide : ArePartsNarrow (declared fifo) wide → ⊥
square_is_wide parts = clash_ℤ (lt_z_yes tt) parts.2.high

pub wide_in_the_first_part : ArePartsNarrow (declared fifo) (two Min wide (number 1)) → ⊥
wide_in_the_first_part parts = square_is_wide parts.0

pub wide_in_the_second_part : ArePartsNarrow (declared fifo) (two Min (number 1) wide) → ⊥
wide_in_the_second_part parts = square_is_wide parts.1

pub wide_in_a_comparison : ArePartsNarrow (declared fifo) (two Less wide (number 1)) → ⊥
wide_in_a_comparison parts = square_is_wide parts.0

pub wide_in_a_negation : ArePartsNarrow (declared fifo) (negation (two Less (number 1) wide)) → ⊥
wide_in_a_negation parts = square_is_wide parts.1

pub wide_in_a_test : ArePartsNarrow (declared fifo) (choice (two Less wide (number 1)) (number 1) (number 2)) → ⊥
wide_in_a_test parts = square_is_wide parts.0.0

pub wide_in_the_first_choice : ArePartsNarrow (declared fifo) (choice test (two Min wide (number 1)) (number 1)) → ⊥
wide_in_the_first_choice parts = square_is_wide parts.1.0

pub wide_in_the_second_choice : ArePartsNarrow (declared fifo) (choice test (number 1) (two Min wide (number 1))) → ⊥
wide_in_the_second_choice parts = square_is_wide parts.2.0

-- the whole has to be narrow too: len * now is narrow, its double isn't
pub parts_are_narrow : ArePartsNarrow (declared fifo) (two Mul (variable Len) (variable Now))
parts_are_narrow = (record { low = le_z_yes tt; high = le_z_yes tt }, record { low = le_z_yes tt; high = le_z_yes tt }, record { low = le_z_yes tt; high = le_z_yes tt })

pub the_whole_is_wide : ArePartsNarrow (declared fifo) (two Mul (number 128) (two Mul (variable Len) (variable Now))) → ⊥
the_whole_is_wide parts = clash_ℤ (lt_z_yes tt) parts.2.high

-- a first value may be at either end, and the greatest rank is the greatest value
pub spans_in_order : AllByRecursion IsSpan (span 0 0 0 ∷ span 2 5 2 ∷ span 2 5 5 ∷ span 0 max_rank 1 ∷ [])
spans_in_order =
    (record { low = omega arith; high = omega arith; most = omega arith }, (record { low = omega arith; high = omega arith; most = omega arith }, (record { low = omega arith; high = omega arith; most = omega arith }, (record { low = omega arith; high = omega arith; most = omega arith }, tt))))

pub first_value_below : IsSpan (span 2 5 1) → ⊥
first_value_below s = let low = s.low in omega arith

pub first_value_above : IsSpan (span 2 5 6) → ⊥
first_value_above s = let high = s.high in omega arith

pub greatest_value_above_all_ranks : IsSpan (span 0 (suc max_rank) 0) → ⊥
greatest_value_above_all_ranks s = let most = s.most in omega arith

-- three variables of the node, and one of each child or flow
abbrev three_and_one : Program
three_and_one =
    record { keeps = span 0 9 3 ∷ span 0 9 3 ∷ span 0 9 3 ∷ []; eaches = span 0 9 3 ∷ []; push = []; pop = [] }

pub last_variables_are_declared : AreDeclared three_and_one (two Add (variable (Keep 2)) (variable (Each 0)))
last_variables_are_declared = (omega arith, omega arith)

pub keep_past_the_last : AreDeclared three_and_one (variable (Keep 3)) → ⊥
keep_past_the_last below = omega arith

pub each_past_the_last : AreDeclared three_and_one (variable (Each 1)) → ⊥
each_past_the_last below = omega arith

pub undeclared_in_a_negation : AreDeclared three_and_one (negation (two Less (number 1) (variable (Each 1)))) → ⊥
undeclared_in_a_negation are = each_past_the_last are.1

pub undeclared_in_a_choice : AreDeclared three_and_one (choice test (number 1) (variable (Each 1))) → ⊥
undeclared_in_a_choice are = each_past_the_last are.2

pub aims_past_the_last : (IsAim three_and_one (AimKeep 3) → ⊥) × (IsAim three_and_one (AimEach 1) → ⊥)
aims_past_the_last = (λ below. omega arith, λ below. omega arith)

-- not (not (.. (1 < 2))) with n negations has depth n + 2
abbrev negations : ℕ → Formula
negations zero = two Less (number 1) (number 2)
negations (suc n) = negation (negations n)

abbrev sets_rank : ℕ → Assignment
sets_rank n = set AimRank (choice (negations n) (number 1) (number 2))

pub depth_of_64 : IsShapedAssignment fifo (sets_rank 61)
depth_of_64 = record { aim = tt; variables = ((tt, tt), tt, tt); depth = omega arith }

pub depth_of_65 : IsShapedAssignment fifo (sets_rank 62) → ⊥
depth_of_65 shaped = let depth = shaped.depth in omega arith

-- a pop may read the rank but may not set it
abbrev pops : Assignment → Program
pops a = record { keeps = span 0 9 3 ∷ []; eaches = []; push = []; pop = a ∷ [] }

pub pops_may_read_the_rank : IsShaped (pops (set (AimKeep 0) (variable Rank)))
pops_may_read_the_rank =
    record { keeps = (record { low = omega arith; high = omega arith; most = omega arith }, tt); eaches = tt; push = tt; pop = (record { aim = omega arith; variables = tt; depth = omega arith }, tt); leaves_rank = ((λ e. cc), tt) }

pub pops_set_no_rank : IsShaped (pops (set AimRank (number 1))) → ⊥
pops_set_no_rank shaped = shaped.leaves_rank.0 refl

-- each value lies in the span at its index, ends included, and there are as many values as spans
pub values_within : AreWithin (span 2 5 3 ∷ span 0 1 0 ∷ []) (5 ∷ 0 ∷ [])
values_within = (omega arith, omega arith, (omega arith, omega arith, tt))

pub values_at_each_others_place : AreWithin (span 2 5 3 ∷ span 0 1 0 ∷ []) (0 ∷ 5 ∷ []) → ⊥
values_at_each_others_place within = let low = within.0 in omega arith

pub values_too_few : AreWithin (span 2 5 3 ∷ span 0 1 0 ∷ []) (2 ∷ []) → ⊥
values_too_few within = within.2

-- a weight of 0 is out of range; every other number may be 0
pub least_env : IsEnvInRange (env_of 0 1)
least_env = record { len = omega arith; now = omega arith; prio = omega arith; weight_low = omega arith; weight_high = omega arith; slack = omega arith }

pub env_without_weight : IsEnvInRange (env_of 0 0) → ⊥
env_without_weight env = let low = env.weight_low in omega arith

-- the deepest part determines the depth, wherever it is
pub depths : map depth_of (number 7 ∷ variable Len ∷ negation (number 7) ∷ deep ∷ two Add deep (number 1) ∷ two Add (number 1) deep ∷ choice deep (number 1) (number 1) ∷ choice (number 1) deep (number 1) ∷ choice (number 1) (number 1) deep ∷ []) ≡ 1 ∷ 1 ∷ 2 ∷ 3 ∷ 4 ∷ 4 ∷ 4 ∷ 4 ∷ 4 ∷ []
depths = refl

pub groups : map (map group) (operations ∷ comparisons ∷ (And ∷ Or ∷ []) ∷ []) ≡ replicate 6 computes ∷ replicate 6 compares ∷ replicate 2 joins ∷ []
groups = refl

pub sorts : map sort_of (number 7 ∷ variable Len ∷ deep ∷ choice test (number 1) (number 2) ∷ test ∷ negation test ∷ two And test test ∷ []) ≡ counts ∷ counts ∷ counts ∷ counts ∷ tells ∷ tells ∷ tells ∷ []
sorts = refl

-- a number can't replace a truth value, nor a truth value a number
pub clashes : map sort_of (two Add test (number 1) ∷ two Add (number 1) test ∷ two Less test test ∷ two And (number 1) test ∷ two And test (number 1) ∷ two And (number 1) (number 1) ∷ negation (number 1) ∷ choice (number 1) (number 1) (number 2) ∷ choice test test (number 1) ∷ choice test (number 1) test ∷ choice test test test ∷ []) ≡ replicate 11 clash
clashes = refl

-- the line numbers of one transaction's assignments, and of two transactions'
pub lines_of_assignments : map (λ a. a.line) (assignments four_variables) ≡ 11 ∷ 12 ∷ 13 ∷ []
lines_of_assignments = refl

pub lines_of_entries : map (λ e. e.assignment.line) (entries (strict ∷ four_variables ∷ [])) ≡ 0 ∷ 11 ∷ 12 ∷ 13 ∷ []
lines_of_entries = refl

pub lesser_lines : lesser_line None None ∷ lesser_line (Some 3) None ∷ lesser_line None (Some 3) ∷ lesser_line (Some 3) (Some 5) ∷ lesser_line (Some 5) (Some 3) ∷ [] ≡ None ∷ replicate 4 (Some 3)
lesser_lines = refl

-- the limits as powers, and under their names in the program
pub limits : max_rank ∷ max_len ∷ max_prio ∷ max_weight ∷ max_slack ∷ max_depth ∷ [] ≡ (2 ^ 62 - 1) ∷ (2 ^ 32 - 1) ∷ (2 ^ 16 - 1) ∷ (2 ^ 16 - 1) ∷ 10 ^ 12 ∷ 2 ^ 6 ∷ []
limits = refl

pub rank_limit : MAX_RANK ≡ max_rank
rank_limit = refl

pub depth_limit : MAX_DEPTH ≡ max_depth
depth_limit = refl

pub prio_limit : MAX_PRIO ≡ max_prio
prio_limit = refl

pub weight_limit : MAX_WEIGHT ≡ max_weight
weight_limit = refl

pub slack_limit : MAX_SLACK ≡ max_slack
slack_limit = refl
