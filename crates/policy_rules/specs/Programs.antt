-- The program of a transaction's body, once its names are variables.
use Rattle.std.specs.Prelude.{ℕ, if◌then◌else◌, Option, Some, None, List, map, find, filter_map, option_map, position, unwrap_or, codes}
use Rattle.std.specs.Str.{bytes_eq}
use Rattle.rank_defs.specs.declared.expression.Var.{Var}
use Rattle.rank_defs.specs.declared.expression.Var.TheVariants as var
use Rattle.rank_defs.specs.declared.transaction.Aim.{Aim}
use Rattle.rank_defs.specs.declared.transaction.Aim.TheVariants as aim
use Rattle.rank_defs.specs.declared.transaction.Span.{Span}
use Rattle.rank_defs.specs.Formulas as formula
use Rattle.rank_defs.specs.Formulas.{Formula}
use Rattle.rank_defs.specs.Programs.{Assignment, Program}
use Rattle.rank_defs.specs.Builtins.{builtin}
use Rattle.policy_text_defs.specs.Phrase.{Phrase, number, word, two, negation, choice}
use Rattle.policy_text_defs.specs.Sense.{Sense, Entry, keep, each, push, pop}
use Rattle.policy_rules.specs.Names.{Name, has, declared, keep_name, each_name}
use Rattle.policy_rules.specs.Bodies.{Body, bodies}

-- the index of a name among the names
abbrev pub place : List Name → Name → ℕ
place names a = unwrap_or (position (bytes_eq a) names) 0

-- the variable that a word denotes, given the node's variables and each child's or flow's
abbrev pub variable_of : List Name → List Name → Name → Var
variable_of keeps eaches w =
    if bytes_eq w (codes "len") then var.Len else
    if bytes_eq w (codes "now") then var.Now else
    if bytes_eq w (codes "prio") then var.Prio else
    if bytes_eq w (codes "weight") then var.Weight else
    if bytes_eq w (codes "slack") then var.Slack else
    if bytes_eq w (codes "rank") then var.Rank else
    if has keeps w then var.Keep (place keeps w) else var.Each (place eaches w)

abbrev pub formula_in : List Name → List Name → Phrase → Formula
formula_in keeps eaches (number n) = formula.number n
formula_in keeps eaches (word w) = formula.variable (variable_of keeps eaches w)
formula_in keeps eaches (two op a b) = formula.two op (formula_in keeps eaches a) (formula_in keeps eaches b)
formula_in keeps eaches (negation a) = formula.negation (formula_in keeps eaches a)
formula_in keeps eaches (choice c a b) = formula.choice (formula_in keeps eaches c) (formula_in keeps eaches a) (formula_in keeps eaches b)

-- the variable that a line sets
abbrev pub aim_of : List Name → List Name → Name → Aim
aim_of keeps eaches n =
    if bytes_eq n (codes "rank") then aim.Rank else
    if has keeps n then aim.Keep (place keeps n) else aim.Each (place eaches n)

abbrev pub assignment_in : List Name → List Name → ℕ → Name → Phrase → Assignment
assignment_in keeps eaches line n t = record { line = line; aim = aim_of keeps eaches n; formula = formula_in keeps eaches t }

-- the ranges of variables, and the assignments
abbrev pub keep_span : Sense → Option Span
keep_span (keep n s) = Some s
keep_span s = None

abbrev pub each_span : Sense → Option Span
each_span (each n s) = Some s
each_span s = None

abbrev pub push_in : List Name → List Name → Entry → Option Assignment
push_in keeps eaches (line, push n t) = Some (assignment_in keeps eaches line n t)
push_in keeps eaches e = None

abbrev pub pop_in : List Name → List Name → Entry → Option Assignment
pop_in keeps eaches (line, pop n t) = Some (assignment_in keeps eaches line n t)
pop_in keeps eaches e = None

-- the program of the lines of one body
abbrev pub program_in : List Entry → Program
program_in lines = record {
  keeps = filter_map (λ e. keep_span e.1) lines;
  eaches = filter_map (λ e. each_span e.1) lines;
  push = filter_map (push_in (declared keep_name lines) (declared each_name lines)) lines;
  pop = filter_map (pop_in (declared keep_name lines) (declared each_name lines)) lines;
}

-- the programs of all transactions that are written, in the order of their lines
abbrev pub programs : List Entry → List Program
programs entries = map (λ b. program_in b.lines) (bodies entries)

-- the transaction that is written with this name
abbrev pub body_named : List Entry → Name → Option Body
body_named entries n = find (λ b. bytes_eq n b.name) (bodies entries)

abbrev pub or_written : Option Program → Option Body → Option Program
or_written (Some p) written = Some p
or_written None written = option_map (λ b. program_in b.lines) written

-- the program of a name: that of the built-in transaction, or else of the written one
abbrev pub program_named : List Entry → Name → Option Program
program_named entries n = or_written (builtin n) (body_named entries n)
