use Rattle.pcap_core.proofs.Prelude.{◌≡◌, ◌<◌, ◌+◌, arith, subst, sym, refl, true, false, [], Option, Some, None, Ok, IfSome, option_map, option_map_or, most_records, Head, IsRecordFault, TakesRecord, contents_in, head_of, head_read, held, is_big, records_given, rest_of, rest_left}
use Rattle.std.specs.Prelude.{is_some, IfNone}
use Rattle.std.proofs.Common.{true≢false}
use Rattle.pcap_core.specs.Captures.{Skips}
use Rattle.pcap_core.specs.Faults.{fault_in}
use Rattle.pcap_core.specs.declared.frame.Frame.{Frame}
use Rattle.pcap_core.specs.declared.window.Window.{Window}
use Rattle.pcap_core.proofs.CapturesLeft.{one-less, skips, halts}
use Rattle.pcap_core.proofs.reader.ReaderCaptureReader.pass.Goals as goal

-- what is said of a value that is there, and what is said if there is none
of-some : (o : Option Frame) (P : Frame → Type 0) → true ≡ is_some o → IfSome o P → (f : Frame) × P f
of-some None P is h = absurd (true≢false is)
of-some (Some f) P is h = (f, h)

of-none : (o : Option Frame) (P : Type 0) → false ≡ is_some o → IfNone o P → P
of-none None P is h = h
of-none (Some f) P is h = absurd (true≢false (sym is))

pub overflow_add-self : goal.overflow_add-self
overflow_add-self g c =
    let (f, taken) = of-some c.take_record.result _ c.if-is_some.ensures c.take_record.ensures.some in
    let next = (taken [] None).next in
    omega (arith, next.number, next.few)

pub returns-then-is_some-clause-few : goal.returns-then-is_some-clause-few
returns-then-is_some-clause-few g c some =
    let (f, taken) = of-some c.take_record.result _ c.if-is_some.ensures c.take_record.ensures.some in
    let next = (taken [] None).next in
    omega (arith, next.number, next.few)

-- a record that the window had
pub returns-then-is_some-clause-skips : goal.returns-then-is_some-clause-skips
returns-then-is_some-clause-skips g c =
    let reader = c.args.self.now in
    let n = records_given reader in
    let after = c.take_record.new.self in
    let left = g.S.Shelf.left c.args.shelf.now in
    let (f, all) = of-some c.take_record.result _ c.if-is_some.ensures c.take_record.ensures.some in
    let taken = all [] left in
    let few : n < most_records = omega (arith, taken.next.number, taken.next.few) in
    one-less (head_of reader) (head_of reader) n (n + 1) (rest_left reader left) (rest_of (held after) left) taken.found.0 refl refl few
    (subst (λ (h : Option Head). TakesRecord (option_map_or (λ (head : Head). head.big) h false) taken.found.0 (rest_left reader left) (rest_of (held after) left)) (sym c.in-Some.is) taken.found.2)

-- otherwise the window was still the same
pub returns-in-Ok-clause-skips : goal.returns-in-Ok-clause-skips
returns-in-Ok-clause-skips g c =
    let reader = c.args.self.now in
    let after = c.pass_next.new.self in
    let n = records_given reader in
    let left = g.S.Shelf.left c.args.shelf.now in
    let now = rest_left after (g.S.Shelf.left c.pass_next.new.shelf) in
    let same = of-none c.take_record.result _ c.if-is_some.ensures c.take_record.ensures.none in
    let e = c.in-Ok.ensures in
    subst (λ (w : Window). Skips (Ok c.in-Ok.some) (option_map (contents_in (head_read (head_of reader)) n) (rest_of (held w) left))
    (option_map (contents_in (head_read (head_of after)) (records_given after)) now)) same
    (skips c.in-Ok.some (head_of reader) (head_of after) n (records_given after) (rest_of (held c.take_record.new.self) left) now e.counts.head e.counts.given e.few e.found e.stops.ended)

pub returns-in-Err-clause-skips : goal.returns-in-Err-clause-skips
returns-in-Err-clause-skips g c =
    let reader = c.args.self.now in
    let n = records_given reader in
    let left = g.S.Shelf.left c.args.shelf.now in
    let same = of-none c.take_record.result _ c.if-is_some.ensures c.take_record.ensures.none in
    rw (c.read_error.ensures) (halts (head_of reader) n c.in-Err.fault (rest_left reader left)
    (subst (λ (w : Window). IfSome (fault_in c.in-Err.fault) (λ f. IfSome (rest_of (held w) left) (λ bytes. IsRecordFault (is_big reader) n bytes f))) same c.in-Err.ensures.stops.fault))
