-- Values at and just outside the bounds of transactions, states and environments.
use Rattle.rank_defs.proofs.Prelude.{refl, ℕ, arith, true, [], ◌∷◌, suc, zero, lit≤, clash_ℤ, le_z_yes, lt_z_yes, pos, negsuc, fifo, rr, set, Formula, two, choice, number, variable, negation, span, ArePartsNarrow, declared, range, IsShaped, AreWithin, IsEnvInRange, IsSpan, AreDeclared, IsAim, IsShapedAssignment, IsInside, nothing, truth, FitsWide, Env, Add, Mul, Less, Len, Now}
use Rattle.rank_defs.specs.declared.expression.Var.TheVariants.{Keep, Each}
use Rattle.rank_defs.specs.declared.transaction.Aim.TheVariants.{Rank as AimRank, Keep as AimKeep, Each as AimEach}

-- all three numbers of a span may be equal, up to the greatest rank
span_of_one : IsSpan (span 4611686018427387903 4611686018427387903 4611686018427387903)
span_of_one = record { low = lit≤ tt; high = lit≤ tt; most = lit≤ tt }

first_below : IsSpan (span 4 5 3) → ⊥
first_below s = let h = s.low in omega (arith, h)

first_above : IsSpan (span 2 3 4) → ⊥
first_above s = let h = s.high in omega (arith, h)

span_above_ranks : IsSpan (span 0 4611686018427387904 0) → ⊥
span_above_ranks s = let h = s.most in omega (arith, h)

-- a value at each end of its span is in range, and one outside isn't
values_at_ends : AreWithin (span 2 5 3 ∷ span 2 5 3 ∷ []) (2 ∷ 5 ∷ [])
values_at_ends = (lit≤ tt, lit≤ tt, (lit≤ tt, lit≤ tt, tt))

value_below : AreWithin (span 2 5 3 ∷ []) (1 ∷ []) → ⊥
value_below h = let low = h.0 in omega (arith, low)

value_above : AreWithin (span 2 5 3 ∷ []) (6 ∷ []) → ⊥
value_above h = let high = h.1 in omega (arith, high)

-- each variable has one value
values_missing : AreWithin (span 2 5 3 ∷ []) [] → ⊥
values_missing h = h

values_left : AreWithin [] (3 ∷ []) → ⊥
values_left h = h

abbrev env : ℕ → ℕ → ℕ → ℕ → ℕ → Env
env l n p w s = record { len = l; now = n; prio = p; weight = w; slack = s }

least_environment : IsEnvInRange (env 0 0 0 1 0)
least_environment = record { len = lit≤ tt; now = lit≤ tt; prio = lit≤ tt; weight_low = lit≤ tt; weight_high = lit≤ tt; slack = lit≤ tt }

greatest_environment : IsEnvInRange (env 4294967295 4611686018427387903 65535 65535 1000000000000)
greatest_environment = record { len = lit≤ tt; now = lit≤ tt; prio = lit≤ tt; weight_low = lit≤ tt; weight_high = lit≤ tt; slack = lit≤ tt }

length_above : IsEnvInRange (env 4294967296 0 0 1 0) → ⊥
length_above e = let h = e.len in omega (arith, h)

moment_above : IsEnvInRange (env 0 4611686018427387904 0 1 0) → ⊥
moment_above e = let h = e.now in omega (arith, h)

priority_above : IsEnvInRange (env 0 0 65536 1 0) → ⊥
priority_above e = let h = e.prio in omega (arith, h)

weight_zero : IsEnvInRange (env 0 0 0 0 0) → ⊥
weight_zero e = let h = e.weight_low in omega (arith, h)

weight_above : IsEnvInRange (env 0 0 0 65536 0) → ⊥
weight_above e = let h = e.weight_high in omega (arith, h)

slack_above : IsEnvInRange (env 0 0 0 1 1000000000001) → ⊥
slack_above e = let h = e.slack in omega (arith, h)

-- both ends belong to an interval
ends_inside : IsInside (range (negsuc 2) (pos 5)) (negsuc 2) × IsInside (range (negsuc 2) (pos 5)) (pos 5)
ends_inside = ((le_z_yes tt, le_z_yes tt), (le_z_yes tt, le_z_yes tt))

below_inside : IsInside (range (negsuc 2) (pos 5)) (negsuc 3) → ⊥
below_inside h = clash_ℤ (lt_z_yes tt) h.0

above_inside : IsInside (range (negsuc 2) (pos 5)) (pos 6) → ⊥
above_inside h = clash_ℤ (lt_z_yes tt) h.1

-- with one variable of each kind, a second of either kind can't be read or written
first_variables : AreDeclared rr (choice (two Less (variable (Keep 0)) (variable Len)) (negation (variable (Each 0))) (number 1))
first_variables = ((omega arith, tt), omega arith, tt)

second_keep : AreDeclared rr (choice (number 1) (variable (Keep 1)) (number 1)) → ⊥
second_keep h = let i = h.1 in omega (arith, i)

second_each : AreDeclared rr (two Add (number 1) (negation (variable (Each 1)))) → ⊥
second_each h = let i = h.1 in omega (arith, i)

second_aims : (IsAim rr (AimKeep 1) → ⊥) × (IsAim rr (AimEach 1) → ⊥)
second_aims = (λ h. omega (arith, h), λ h. omega (arith, h))

-- a number under n negations
abbrev nested : ℕ → Formula
nested zero = number 1
nested (suc n) = negation (nested n)

-- the greatest depth is 64
depth_64 : IsShapedAssignment fifo (set AimRank (nested 63))
depth_64 = record { aim = tt; variables = tt; depth = lit≤ tt }

depth_65 : IsShapedAssignment fifo (set AimRank (nested 64)) → ⊥
depth_65 a = let h = a.depth in omega (arith, h)

-- no pop writes the rank
rank_at_a_pop : IsShaped (record fifo { pop = set AimRank (number 1) ∷ [] }) → ⊥
rank_at_a_pop s = s.leaves_rank.0 refl

-- a part that is too wide counts in a condition too
wide_under_a_test : ArePartsNarrow (declared fifo) (choice (two Less (two Mul (variable Now) (variable Now)) (number 1)) (number 1) (number 1)) → ⊥
wide_under_a_test n = clash_ℤ (lt_z_yes tt) n.0.0.2.high

wide_under_a_negation : ArePartsNarrow (declared fifo) (negation (two Less (number 1) (two Mul (variable Now) (variable Now)))) → ⊥
wide_under_a_negation n = clash_ℤ (lt_z_yes tt) n.1.2.high

-- only numbers fit
truth_fits : FitsWide (truth true) → ⊥
truth_fits h = h

nothing_fits : FitsWide nothing → ⊥
nothing_fits h = h
