-- The lines of a body, and the program that they give.
use Rattle.std.specs.Prelude.{◌≡◌, true, false, Option, Some, None, List, [], ◌∷◌, ◌++◌, map, filter_map}
use Rattle.rank_defs.specs.declared.transaction.Transaction.{Transaction}
use Rattle.rank_defs.specs.Programs.{Program, program_of}
use Rattle.policy_text_defs.specs.Sense.{Sense, Entry}
use Rattle.policy_text_defs.specs.Valid.{IsValid}
use Rattle.policy_rules.specs.Names.{Name}
use Rattle.policy_rules.specs.Bodies.{is_body, opened}
use Rattle.policy_rules.specs.Clauses.{is_declared, is_known, is_one_too_many}
use Rattle.policy_rules.specs.Programs.{keep_span, each_span, push_in, pop_in, program_in}
use Rattle.policy_rules.specs.KnownNames.{with_name}

-- the names, with one more if there is one
abbrev pub with_names : List Name → Option Name → List Name
with_names names None = names
with_names names (Some a) = with_name names a

-- a line of a body after earlier lines: its name is new, the names it uses are declared, and it
-- isn't beyond a limit
pub record IsSoundLine (earlier : List Entry) (e : Entry) : Type 0 where
  pub body : is_body e.1 ≡ true
  pub new : is_declared earlier e.1 ≡ false
  pub known : is_known [] earlier e.1 ≡ true
  pub few : is_one_too_many earlier e.1 ≡ false
  pub valid : IsValid e.1

abbrev pub AreSoundBehind : List Entry → List Entry → Type 0
AreSoundBehind earlier [] = Unit {0}
AreSoundBehind earlier (e ∷ es) = IsSoundLine earlier e × AreSoundBehind (earlier ++ e ∷ []) es

-- all lines of a body
abbrev pub IsSoundBody : List Entry → Type 0
IsSoundBody lines = AreSoundBehind [] lines

-- the program of the lines, given the names of the node's variables and of each child's or flow's
abbrev pub program_over : List Name → List Name → List Entry → Program
program_over keeps eaches lines = record {
  keeps = filter_map (λ e. keep_span e.1) lines;
  eaches = filter_map (λ e. each_span e.1) lines;
  push = filter_map (push_in keeps eaches) lines;
  pop = filter_map (pop_in keeps eaches) lines;
}

-- the program that a statement begins, if it begins one, given the lines after it
abbrev pub programs_begun : Sense → List Entry → List Program
programs_begun s behind = map (λ b. program_in b.lines) (opened s behind)

-- the programs are appended to the transactions
abbrev pub AreMore : List Program → List Transaction → List Transaction → Type 0
AreMore programs old new = map program_of new ≡ map program_of old ++ programs

-- the lines of one program followed by those of another
abbrev pub joined : Program → Program → Program
joined p q = record { keeps = p.keeps ++ q.keeps; eaches = p.eaches ++ q.eaches; push = p.push ++ q.push; pop = p.pop ++ q.pop }
