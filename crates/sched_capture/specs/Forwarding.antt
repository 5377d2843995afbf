-- A recorder of capture records: the captured bytes it keeps, and the records it writes.
use Rattle.std.specs.Prelude.{◌≡◌, ℕ, nat_eq, Bool, Option, option_map, IsTrue, List, []}
use Rattle.indexmap.specs.IndexMap.{get}
use Rattle.outside_core.specs.Written.{Appended}
use Rattle.outside_core.specs.Text.{IsCut}
use Rattle.report_core.specs.Gathered.{text_of}
use Rattle.policy_defs.specs.Policy.{Policy}
use Rattle.sched_defs.specs.Packets.{Captured}
use Rattle.sched_defs.specs.Events.{Outcome}
use Rattle.forward_defs.specs.Keeping.{Keeping, keeps_nothing, kept_behind, records_of}
use Rattle.sched_capture.specs.declared.forwarding.Forwarding.{Forwarding}

abbrev pub bytes_kept : Forwarding → ℕ → Option (List ℕ)
bytes_kept f n = option_map (λ v. v.items) (get nat_eq f.held n)

abbrev pub keeping_of : Forwarding → Keeping
keeping_of f = record { kept = bytes_kept f; late = f.late }

abbrev pub is_late_now : Forwarding → Bool
is_late_now f = f.late

-- no call has failed so far: there was memory for the captured bytes of each packet, and the sink
-- accepted each write
pub record IsLive (f : Forwarding) : Type 0 where
  pub whole : IsTrue f.whole
  pub taken : IsTrue f.gathered.live

pub record HoldsTheSame (k l : Keeping) : Type 0 where
  pub kept : (n : ℕ) → k.kept n ≡ l.kept n
  pub late : k.late ≡ l.late

abbrev pub HoldsNothing : Forwarding → Type 0
HoldsNothing f = HoldsTheSame (keeping_of f) keeps_nothing

-- nothing was recorded yet
pub record IsUnused (f : Forwarding) : Type 0 where
  pub nothing : HoldsNothing f
  pub none_gathered : f.gathered.unwritten ≡ []

-- the bytes written and buffered grew by the records of the departures among the outcomes
pub record TellsRecords (captured : Captured) (f : Forwarding) (a : Option (List ℕ)) (policy : Policy) (event : ℕ) (os : List Outcome) (g : Forwarding) (b : Option (List ℕ)) : Type 0 where
  pub keeps : HoldsTheSame (keeping_of g) (kept_behind captured (keeping_of f) os)
  pub told : Appended (text_of a f.gathered) (text_of b g.gathered) (records_of captured (keeping_of f) os)

-- a prefix of the earlier bytes and these records is written
abbrev pub CutsRecords : Captured → Forwarding → Option (List ℕ) → Policy → ℕ → List Outcome → Option (List ℕ) → Type 0
CutsRecords captured f a policy event os b = IsCut (text_of a f.gathered) (records_of captured (keeping_of f) os) b
