use Rattle.sched_capture.proofs.Prelude.{arith, sym, ap, ◌∙◌, on_ok_weaker, option_map}
use Rattle.sched_capture.proofs.SentRecords.{told_one}
use Rattle.sched_capture.proofs.forwarding.ForwardingRecorder.departed.Goals as goal

pub returns-in-Some-bytes-clause-ok : goal.returns-in-Some-bytes-clause-ok
returns-in-Some-bytes-clause-ok g c =
    on_ok_weaker c.put_sent.result (λ tells bytes policy p a left named.
    rw c.in-Some.is (told_one bytes c.args.self.now _ (g.K.Sink.written c.args.sink.now) _ policy c.args._event p a c.args._ranks.now c.in-Some.start c.in-Some-bytes.bytes.items c.args.departed.now.packet c.args.departed.now.len
    (ap (λ d. d.packet) left) (ap (λ d. d.len) left) (omega (arith, c.if-start-ge-LATE.false)) (ap (option_map (λ v. v.items)) (sym c.in-Some-bytes.is) ∙ c.release-bytes.ensures.value)
    c.release-bytes.ensures.rest c.release-bytes.ensures.late tells))
    (rw (c.deref.ensures.value, c.release-bytes.ensures.gathered) at c.put_sent.ensures.ok)
