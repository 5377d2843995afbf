-- How a program is stored as a ghost value.
use Rattle.std.specs.Prelude.{◌≡◌, ℕ, List}
use Rattle.std.specs.Coded.{Coded, code_by, coded×, coded_ℕ, coded_list}
use Rattle.std.proofs.Common.{ap, refl}
use base.Stored.{Gv, gnum, gcons}
use Rattle.rank_defs.specs.declared.expression.Op.{Op}
use Rattle.rank_defs.specs.declared.expression.Var.{Var as Name}
use Rattle.rank_defs.specs.declared.transaction.Aim.{Aim}
use Rattle.rank_defs.specs.declared.transaction.Span.{Span}
use Rattle.rank_defs.specs.contracts.expression.Op as op_row
use Rattle.rank_defs.specs.contracts.expression.Var as name_row
use Rattle.rank_defs.specs.contracts.transaction.Aim as aim_row
use Rattle.rank_defs.specs.contracts.transaction.Span as span_row
use Rattle.rank_defs.specs.Formulas.{Formula, number, variable, two, negation, choice}
use Rattle.rank_defs.specs.Programs.{Assignment, Program}

abbrev op_code : Coded Op
op_code = op_row.the_row.coded

abbrev name_code : Coded Name
name_code = name_row.the_row.coded

abbrev aim_code : Coded Aim
aim_code = aim_row.the_row.coded

abbrev span_code : Coded Span
span_code = span_row.the_row.coded

abbrev code_of : Formula → Gv
code_of (number n) = gcons (gnum 0) (gnum n)
code_of (variable v) = gcons (gnum 1) (name_code.code v)
code_of (two op a b) = gcons (gnum 2) (gcons (op_code.code op) (gcons (code_of a) (code_of b)))
code_of (negation a) = gcons (gnum 3) (code_of a)
code_of (choice c a b) = gcons (gnum 4) (gcons (code_of c) (gcons (code_of a) (code_of b)))

pub same_formula : (f g : Formula) → code_of f ≡ code_of g → f ≡ g
same_formula (number n) (number m) p = cc
same_formula (number n) (variable w) p = cc
same_formula (number n) (two oq d e) p = cc
same_formula (number n) (negation d) p = cc
same_formula (number n) (choice f d e) p = cc
same_formula (variable v) (number m) p = cc
same_formula (variable v) (variable w) p = let e : name_code.code v ≡ name_code.code w = cc in ap variable (name_code.inj v w e)
same_formula (variable v) (two oq d e) p = cc
same_formula (variable v) (negation d) p = cc
same_formula (variable v) (choice f d e) p = cc
same_formula (two op a b) (number m) p = cc
same_formula (two op a b) (variable w) p = cc
same_formula (two op a b) (two oq d e) p =
    let x : op_code.code op ≡ op_code.code oq = cc
    in let y : code_of a ≡ code_of d = cc
    in let z : code_of b ≡ code_of e = cc
    in let x' : op ≡ oq = op_code.inj op oq x
    in let y' : a ≡ d = same_formula a d y
    in let z' : b ≡ e = same_formula b e z
    in cc
same_formula (two op a b) (negation d) p = cc
same_formula (two op a b) (choice f d e) p = cc
same_formula (negation a) (number m) p = cc
same_formula (negation a) (variable w) p = cc
same_formula (negation a) (two oq d e) p = cc
same_formula (negation a) (negation d) p = let e : code_of a ≡ code_of d = cc in ap negation (same_formula a d e)
same_formula (negation a) (choice f d e) p = cc
same_formula (choice c a b) (number m) p = cc
same_formula (choice c a b) (variable w) p = cc
same_formula (choice c a b) (two oq d e) p = cc
same_formula (choice c a b) (negation d) p = cc
same_formula (choice c a b) (choice f d e) p =
    let x : code_of c ≡ code_of f = cc
    in let y : code_of a ≡ code_of d = cc
    in let z : code_of b ≡ code_of e = cc
    in let x' : c ≡ f = same_formula c f x
    in let y' : a ≡ d = same_formula a d y
    in let z' : b ≡ e = same_formula b e z
    in cc

abbrev pub formula_code : Coded Formula
formula_code = record { code = code_of; inj = same_formula }

abbrev pub assignment_code : Coded Assignment
assignment_code =
    code_by (ℕ × (Aim × Formula)) (coded× coded_ℕ (coded× aim_code formula_code)) (λ a. (a.line, (a.aim, a.formula))) (λ t. record { line = t.0; aim = t.1.0; formula = t.1.1 }) (λ _. refl)

abbrev pub program_code : Coded Program
program_code =
    code_by ((List Span × List Span) × (List Assignment × List Assignment)) (coded× (coded× (coded_list span_code) (coded_list span_code)) (coded× (coded_list assignment_code) (coded_list assignment_code))) (λ p. ((p.keeps, p.eaches), (p.push, p.pop))) (λ t. record { keeps = t.0.0; eaches = t.0.1; push = t.1.0; pop = t.1.1 }) (λ _. refl)
