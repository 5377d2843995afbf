-- The line that reports the spills of a run, after its text.
use Rattle.std.specs.Prelude.{◌≡◌, refl, ℕ, zero, Option, None, Some, List, [], ◌∷◌, ◌++◌, decimal, codes}
use Rattle.std.specs.Fmt.{digits}
use Rattle.rank_defs.specs.Builtins.{Builtin, named, shortest, fifo}
use Rattle.outside_core.specs.Report.{line_of}
use Rattle.sched_defs.specs.SourceState.{start}
use Rattle.sched_defs.specs.Events.{Arrive}
use Rattle.sched_defs.specs.Rows.{packet}
use Rattle.sched_core.specs.Spills.{spills_in}
use Rattle.sched_embedded.specs.Fabrics.{FabricRun}
use Rattle.block_replay.specs.CalmRows.{pair_by, side_by_side}
use Rattle.replay_app.specs.Answer.{Answer}

-- the line with a number of spills
abbrev pub spills_line : ℕ → List ℕ
spills_line n = line_of (codes "spills" ∷ decimal n ∷ [])

-- the spills of a run: for each push, the number of nodes at which it spills; the nodes have the
-- images of the run's placement
abbrev pub run_spills : FabricRun → ℕ
run_spills run = spills_in (Some run.laid.images) run.policy run.events (start run.policy)

-- the text that reports the spills of a run that ended whole; empty for any other run, and if
-- nothing ran
abbrev pub spills_text : ℕ → Option FabricRun → List ℕ
spills_text zero (Some run) = spills_line (run_spills run)
spills_text status run = []

-- an output, with the spills of its run after its text
abbrev pub counted : Answer → Answer
counted a = record a { text = a.text ++ spills_text a.status a.run }

-- an output of a program, with the spills of its run after its text
pub record IsCounted (output : Answer → Type 0) (a : Answer) : Type 0 where
  pub first : Answer
  pub is : output first
  pub counted_is : a ≡ counted first

spills_line-four : spills_line 4 ≡ codes "spills 4\n"
unfolding digits
spills_line-four = refl

-- two leaves below a root with this transaction; a long packet is queued when a short one of its
-- class arrives
abbrev pub long_then_short : Builtin → FabricRun
long_then_short b = record {
  policy = pair_by b;
  laid = record { images = side_by_side; arities = 2 ∷ [] };
  events = Arrive (packet 1 1500 0) ∷ Arrive (packet 2 40 0) ∷ [];
}

abbrev pub ended : ℕ → Option FabricRun → Answer
ended status run = record { status = status; text = codes "end\n"; run = run; shown = None }

counted-shortest : (counted (ended 0 (Some (long_then_short (named (codes "shortest") shortest))))).text ≡ codes "end\nspills 1\n"
unfolding digits
counted-shortest = refl

counted-fifo : (counted (ended 0 (Some (long_then_short (named (codes "fifo") fifo))))).text ≡ codes "end\nspills 0\n"
unfolding digits
counted-fifo = refl

counted-at_a_fault : (counted (ended 7 (Some (long_then_short (named (codes "shortest") shortest))))).text ≡ codes "end\n"
counted-at_a_fault = refl

counted-no_run : (counted (ended 0 None)).text ≡ codes "end\n"
counted-no_run = refl
