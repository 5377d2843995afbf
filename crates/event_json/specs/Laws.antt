-- The law that a JSON line says what the line of the report says.
use Rattle.std.specs.Prelude.{◌≡◌, ◌<◌, ◌^◌, ◌+◌, ℕ, true, Option, None, Some, List, []}
use Rattle.std.specs.List.{list_all, AllByRecursion}
use Rattle.text_core.specs.Tokens.{is_word_byte}
use Rattle.packet_defs.specs.declared.packet.Packet.{Packet}
use Rattle.policy_defs.specs.Policy.{Policy, name_at}
use Rattle.sched_defs.specs.declared.rate.LinkRate.{LinkRate}
use Rattle.sched_defs.specs.Events.{Outcome, Arrived, Departed, Dropped, Empty}
use Rattle.sched_defs.specs.Report.{outcome_line}
use Rattle.tree_defs.specs.Tree.{Address}
use Rattle.event_json.specs.Json.{json_line}
use Rattle.event_json.specs.ReadBack.{report_line_of}

abbrev pub Is64 : ℕ → Type 0
Is64 n = n < 2 ^ 64

-- the numbers of the packet fit 64 bits, and the name of its leaf has only letters, digits and `_`
pub record IsPlain (policy : Policy) (p : Packet) (a : Address) (shown : List ℕ) : Type 0 where
  pub number : Is64 p.number
  pub class : Is64 (p.class + 1)
  pub len : Is64 p.len
  pub moment : Is64 p.moment
  pub ranks : AllByRecursion Is64 shown
  pub name : list_all is_word_byte (name_at policy a) ≡ true

-- the start is shown if there is one
abbrev pub ShowsStart : Option LinkRate → Option ℕ → Type 0
ShowsStart None None = Unit {0}
ShowsStart None (Some start) = ⊥
ShowsStart (Some rate) None = Unit {0}
ShowsStart (Some rate) (Some start) = start < 2 ^ 128

abbrev pub IsReadable : Option LinkRate → Policy → ℕ → Outcome → Type 0
IsReadable rate policy event (Arrived p a ranks) = Is64 event × IsPlain policy p a ranks
IsReadable rate policy event (Departed p a ranks start) = Is64 event × IsPlain policy p a ranks × ShowsStart rate start
IsReadable rate policy event (Dropped p a) = Is64 event × IsPlain policy p a []
IsReadable rate policy event Empty = Is64 event

abbrev pub JsonSaysTheReport : Type 0
JsonSaysTheReport = (rate : Option LinkRate) (policy : Policy) (event : ℕ) (o : Outcome) → IsReadable rate policy event o
    → report_line_of (json_line rate policy event o) ≡ outcome_line policy event o
