use Rattle.sched_run.proofs.Prelude.{ℕ, arith, ◌∙◌, refl, ap, if◌then◌else◌, max, ◌==◌, err_from_is_err_and, any_bytes, IsCapturedAs, recording_one}
use Rattle.sched_run.proofs.LinkLaws.{turn_stops_amid, turn_first, turn_stands, turn_pushes, turn_goes, turn_stops}
use Rattle.sched_run.proofs.MadeEvents.{held_more}
use Rattle.sched_run.proofs.RecordingLaws.{recording-joined, recording_gives, sends_so, sends_amid_so, sends_first_so}
use Rattle.sched_run.proofs.run.Run.arrive_paced.Goals as goal

pub returns-in_err-over-clause-err : goal.returns-in_err-over-clause-err
returns-in_err-over-clause-err g c =
    let p = err_from_is_err_and c.from_residual.result c.from_residual.ensures.1 in
    let S = g.C.Scheduler in
    rw (p.1) (λ given number. turn_stops_amid S (recording_one g.W.Recorder c.args.packet.now c.args.captured.now) (recording-joined g.W.Recorder g.met.W.Recorder.joined (IsCapturedAs c.args.packet.now c.args.captured.now)) (S.policy c.args.self.now.scheduler) c.requires.set.accepted c.args.rate c.args.link.now c.args.packet.now c.max-moment.result _
    (λ s sound stood below. c.max-moment.ensures ∙ ap (λ (n : ℕ). max n c.args.packet.now.moment) (c.now.ensures c.args.under.now s sound stood)) g.W.Recorder.over _ _ _
    (sends_amid_so S (recording_gives g.W.Recorder any_bytes (IsCapturedAs c.args.packet.now c.args.captured.now) (λ bytes are. tt)) (S.policy c.args.self.now.scheduler) g.W.Recorder.over _ _ _ _ _ (c.in_err-over.ensures.err given)))

pub returns-then-over-clause-ok : goal.returns-then-over-clause-ok
returns-then-over-clause-ok g c =
    let S = g.C.Scheduler in
    let sends = rw c.if-over.true at c.in_ok-over.ensures.ok in
    λ given number. turn_first S (recording_one g.W.Recorder c.args.packet.now c.args.captured.now) (recording-joined g.W.Recorder g.met.W.Recorder.joined (IsCapturedAs c.args.packet.now c.args.captured.now)) (S.policy c.args.self.now.scheduler) c.requires.set.accepted c.args.rate c.args.link.now c.args.packet.now c.max-moment.result _
    (λ s sound stood below. c.max-moment.ensures ∙ ap (λ (n : ℕ). max n c.args.packet.now.moment) (c.now.ensures c.args.under.now s sound stood)) g.W.Recorder.over _
    (sends_first_so S (recording_gives g.W.Recorder any_bytes (IsCapturedAs c.args.packet.now c.args.captured.now) (λ bytes are. tt)) (S.policy c.args.self.now.scheduler) g.W.Recorder.over _ _ _ (sends given))

pub make_arrival-requires-clause-stands : goal.make_arrival-requires-clause-stands
make_arrival-requires-clause-stands g c =
    let S = g.C.Scheduler in
    let one = c.requires.stands in
    let e = c.in_ok-over.ensures in
    let sends = rw c.if-over.false at e.ok in
    rw e.keeps.kept.policy (turn_stands S (recording_one g.W.Recorder c.args.packet.now c.args.captured.now) (recording-joined g.W.Recorder g.met.W.Recorder.joined (IsCapturedAs c.args.packet.now c.args.captured.now)) (S.policy c.args.self.now.scheduler) c.requires.set.accepted c.args.rate c.args.link.now c.args.packet.now c.max-moment.result _
    (λ s sound stood below. c.max-moment.ensures ∙ ap (λ (n : ℕ). max n c.args.packet.now.moment) (c.now.ensures c.args.under.now s sound stood)) _ _ refl e.counts.came (sends_so S (recording_gives g.W.Recorder any_bytes (IsCapturedAs c.args.packet.now c.args.captured.now) (λ bytes are. tt)) (S.policy c.args.self.now.scheduler) _ _ _ _ (sends one.has.1.number))
    (record { state = one.state; sound = one.sound; stood = one.stood; has = (one.has.0, held_more _ _ one.has.1.below) }) c.requires.comes.sendable)

pub make_arrival-requires-clause-room : goal.make_arrival-requires-clause-room
make_arrival-requires-clause-room g c =
    let S = g.C.Scheduler in
    let one = c.requires.stands in
    let e = c.in_ok-over.ensures in
    let sends = rw c.if-over.false at e.ok in
    let pushes = turn_pushes S (recording_one g.W.Recorder c.args.packet.now c.args.captured.now) (recording-joined g.W.Recorder g.met.W.Recorder.joined (IsCapturedAs c.args.packet.now c.args.captured.now)) (S.policy c.args.self.now.scheduler) c.requires.set.accepted c.args.rate c.args.link.now c.args.packet.now c.max-moment.result _
    (λ s sound stood below. c.max-moment.ensures ∙ ap (λ (n : ℕ). max n c.args.packet.now.moment) (c.now.ensures c.args.under.now s sound stood)) _ _ refl e.counts.came (sends_so S (recording_gives g.W.Recorder any_bytes (IsCapturedAs c.args.packet.now c.args.captured.now) (λ bytes are. tt)) (S.policy c.args.self.now.scheduler) _ _ _ _ (sends one.has.1.number))
    (record { state = one.state; sound = one.sound; stood = one.stood; has = held_more _ _ one.has.1.below }) in
    record { pushes = omega (arith, pushes, c.requires.paced.room.pushes); events = omega (arith, e.counts.came, e.counts.asked, c.requires.paced.paced.counts.few_came); dropped = omega (arith, e.counts.came, e.counts.dropped, c.requires.paced.room.dropped) }

pub returns-clause-ok : goal.returns-clause-ok
returns-clause-ok g c =
    let S = g.C.Scheduler in
    let e = c.in_ok-over.ensures in
    let sends = rw c.if-over.false at e.ok in
    let held = rw e.keeps.kept.policy at (c.held.ensures c.send_until.new.under) in
    let arrives = rw e.keeps.kept.policy at c.in_ok-make_arrival.ensures.ok in
    λ given number. turn_goes S (recording_one g.W.Recorder c.args.packet.now c.args.captured.now) (recording-joined g.W.Recorder g.met.W.Recorder.joined (IsCapturedAs c.args.packet.now c.args.captured.now)) (S.policy c.args.self.now.scheduler) c.requires.set.accepted c.args.rate c.args.link.now c.args.packet.now c.max-moment.result _
    (λ s sound stood below. c.max-moment.ensures ∙ ap (λ (n : ℕ). max n c.args.packet.now.moment) (c.now.ensures c.args.under.now s sound stood)) _ _ refl e.counts.came (sends_so S (recording_gives g.W.Recorder any_bytes (IsCapturedAs c.args.packet.now c.args.captured.now) (λ bytes are. tt)) (S.policy c.args.self.now.scheduler) _ _ _ _ (sends given)) _ _
    (λ s sound stood below. c.idle_at.ensures ∙ ap (λ (n : ℕ). if n == 0 then max c.send_until.new.link c.max-moment.result else c.send_until.new.link) (held s sound stood))
    (arrives given (record { numbered = (number, tt); sendable = (c.requires.comes.sendable, tt) }))

pub returns-in_err-make_arrival-clause-err : goal.returns-in_err-make_arrival-clause-err
returns-in_err-make_arrival-clause-err g c =
    let p = err_from_is_err_and c.from_residual-in_err-make_arrival.result c.from_residual-in_err-make_arrival.ensures.1 in
    let S = g.C.Scheduler in
    let e = c.in_ok-over.ensures in
    let sends = rw c.if-over.false at e.ok in
    let stop = rw e.keeps.kept.policy at c.in_err-make_arrival.ensures.err in
    rw (p.1) (λ given number. turn_stops S (recording_one g.W.Recorder c.args.packet.now c.args.captured.now) (recording-joined g.W.Recorder g.met.W.Recorder.joined (IsCapturedAs c.args.packet.now c.args.captured.now)) (S.policy c.args.self.now.scheduler) c.requires.set.accepted c.args.rate c.args.link.now c.args.packet.now c.max-moment.result _
    (λ s sound stood below. c.max-moment.ensures ∙ ap (λ (n : ℕ). max n c.args.packet.now.moment) (c.now.ensures c.args.under.now s sound stood)) _ _ refl e.counts.came (sends_so S (recording_gives g.W.Recorder any_bytes (IsCapturedAs c.args.packet.now c.args.captured.now) (λ bytes are. tt)) (S.policy c.args.self.now.scheduler) _ _ _ _ (sends given)) g.W.Recorder.over _ _ _ (e.paces.over ∙ c.if-over.false)
    (stop given (record { numbered = (number, tt); sendable = (c.requires.comes.sendable, tt) })))
