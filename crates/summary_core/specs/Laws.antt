-- The laws that follow from the definitions of sums.
use Rattle.std.specs.Prelude.{◌≡◌, ◌<◌, ◌≤◌, ℕ, IsTrue, List, length}
use Rattle.std.specs.List.{AllByRecursion}
use Rattle.std.specs.List.Sorted.{IsPermutation}
use Rattle.policy_defs.specs.Policy.{Policy}
use Rattle.policy_defs.specs.Accepted.{IsAccepted}
use Rattle.sched_defs.specs.SourceState.{start}
use Rattle.sched_defs.specs.Events.{Event, Outcome, outcomes, CanMake}
use Rattle.sched_defs.specs.declared.rate.LinkRate.{LinkRate}
use Rattle.summary_core.specs.declared.group.Label.{Label}
use Rattle.summary_core.specs.declared.group.Groups.{Groups}
use Rattle.summary_core.specs.declared.summary.Summary.{Summary}
use Rattle.summary_core.specs.Summary.{Sums, SumsNothing}
use Rattle.summary_core.specs.declared.part.Part.{Part}
use Rattle.summary_core.specs.Parts.{is_in}
use Rattle.summary_core.specs.Figures.{HasGroups}
use Rattle.summary_core.specs.OfRun.{delays_of, part_delays, AreSumsOf, AreSame}
use Rattle.summary_core.specs.Summing.{ClassEvent, no_timestamps, events_by, class_events}

-- for the outcomes of a run, the events by the stored timestamps are the events by each packet's
-- own
abbrev pub TimestampsAreKept : Type 0
TimestampsAreKept = (policy : Policy) (rate : LinkRate) (events : List Event) → IsAccepted policy → CanMake policy events (start policy)
    → events_by rate no_timestamps (outcomes policy events (start policy)) ≡ class_events rate (outcomes policy events (start policy))

-- The groups of a summary of a whole run are those of its outcomes, if there are no more labels
-- than leaves and classes.
abbrev pub GroupsAreOfTheRun : Type 0
GroupsAreOfTheRun = (policy : Policy) (events : List Event) (rate : LinkRate) (table : List ℕ) (leaves : ℕ) (before after : Summary)
    (leaf_names class_names : List Label) (gs : Groups)
    → IsAccepted policy → CanMake policy events (start policy)
    → SumsNothing rate table leaves before → Sums before after (outcomes policy events (start policy)) → IsTrue after.whole
    → length leaf_names ≤ leaves → length class_names ≤ length table
    → HasGroups after leaf_names class_names gs
    → AreSumsOf table rate (outcomes policy events (start policy)) leaf_names class_names gs

-- Taken class by class, the delays of a part are those of its departures in another order, if the
-- table has each event's class. So they have the same percentiles.
abbrev pub DelaysAreOfTheDepartures : Type 0
DelaysAreOfTheDepartures = (table : List ℕ) (p : Part) (es : List ClassEvent) → AllByRecursion (λ e. e.class < length table) es
    → IsPermutation (delays_of table p es) (part_delays (is_in table p) es)

-- outcomes have one text of their sums, in each form
abbrev pub GroupsAreDetermined : Type 0
GroupsAreDetermined = (table : List ℕ) (rate : LinkRate) (os : List Outcome) (leaf_names class_names : List Label) (gs hs : Groups)
    → AreSumsOf table rate os leaf_names class_names gs → AreSumsOf table rate os leaf_names class_names hs → AreSame gs hs
