-- Worked examples of rejected transactions, with their line numbers.
use Rattle.rank_defs.proofs.Prelude.{refl, ℕ, arith, [], ◌∷◌, List, None, Some, clash_ℤ, le_z_yes, lt_z_yes, entry, AreChecked, Clashes, IsWide, MayDivideByZero, ClashesFirstAt, DividesByZeroFirstAt, IsWideFirstAt, Formula, two, number, variable, Program, Assignment, Add, Mul, Div, Less, Len, Now, Prio}
use Rattle.rank_defs.specs.declared.transaction.Aim.TheVariants.{Rank}
use Rattle.rank_defs.proofs.LeastFaults.{least-clear, least-fault, least-append}
use Rattle.rank_defs.proofs.Table.{narrow_to}

abbrev ranked_on : ℕ → Formula → Assignment
ranked_on line f = record { line = line; aim = Rank; formula = f }

abbrev of_lines : List Assignment → Program
of_lines push = record { keeps = []; eaches = []; push = push; pop = [] }

-- rank = len < 3
pub comparison_clashes : ClashesFirstAt (of_lines (ranked_on 4 (two Less (variable Len) (number 3)) ∷ []) ∷ []) 4
comparison_clashes = least-fault Clashes _ (λ e. cc)

abbrev square : Assignment
square = ranked_on 4 (two Mul (variable Now) (variable Now))

-- rank = now * now
pub square_is_wide : IsWideFirstAt (of_lines (square ∷ []) ∷ []) 4
square_is_wide =
    let e = entry (of_lines (square ∷ [])) square
    in record { typed = least-clear Clashes e (λ n. n refl); wide = least-fault IsWide e (λ n. clash_ℤ (lt_z_yes tt) n.2.high) }

abbrev by_prio : Assignment
by_prio = ranked_on 4 (two Div (variable Len) (variable Prio))

-- rank = len / prio
pub divisor_may_be_zero : DividesByZeroFirstAt (of_lines (by_prio ∷ []) ∷ []) 4
divisor_may_be_zero =
    let e = entry (of_lines (by_prio ∷ [])) by_prio
    in record { typed = least-clear Clashes e (λ n. n refl); narrow = least-clear IsWide e (λ n. n (narrow_to 0 4294967295 (omega arith), narrow_to 0 65535 (omega arith), record { low = le_z_yes tt; high = le_z_yes tt })); zero = least-fault MayDivideByZero e refl }

-- rank = len / (prio + 1)
pub divisor_is_never_zero : AreChecked (of_lines (ranked_on 4 (two Div (variable Len) (two Add (variable Prio) (number 1))) ∷ []) ∷ [])
divisor_is_never_zero =
    (record { push = (record { typed = refl; narrow = (narrow_to 0 4294967295 (omega arith), (narrow_to 0 65535 (omega arith), narrow_to 1 1 (omega arith), narrow_to 1 65536 (omega arith)), narrow_to 0 4294967295 (omega arith)); divides = refl }, tt); pop = tt }, tt)

abbrev comparison : ℕ → Assignment
comparison line = ranked_on line (two Less (variable Len) (number 3))

abbrev three_lines : Program
three_lines = of_lines (comparison 7 ∷ ranked_on 5 (number 1) ∷ comparison 6 ∷ [])

-- the error names the least line, not the first
pub least_line_is_named : ClashesFirstAt (three_lines ∷ []) 6
least_line_is_named =
    let seven = entry three_lines (comparison 7)
    in let five = entry three_lines (ranked_on 5 (number 1))
    in let six = entry three_lines (comparison 6)
    in least-append Clashes (seven ∷ []) (five ∷ six ∷ []) (Some 7) (Some 6) (least-fault Clashes seven (λ e. cc)) (least-append Clashes (five ∷ []) (six ∷ []) None (Some 6) (least-clear Clashes five (λ n. n refl)) (least-fault Clashes six (λ e. cc)))
