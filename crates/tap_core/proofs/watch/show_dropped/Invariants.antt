use Rattle.tap_core.proofs.Prelude.{◌≡◌, ◌++◌, take, drop, entries, left_after_one, dropped}
use Rattle.tap_core.proofs.watch.show_dropped.Given as goal

-- the taps after the whole pass are the taps already passed, then the rest after the pass
abbrev pub invariant-loop-tap : goal.invariant-loop-tap
invariant-loop-tap g l =
    let entries_of = entries g.T.Tap.kind_of g.T.Tap.state_of
    in left_after_one (dropped l.packet) (entries_of l.fn.taps)
    ≡ take l.tap-index (entries_of l.taps) ++ left_after_one (dropped l.packet) (drop l.tap-index (entries_of l.taps))
