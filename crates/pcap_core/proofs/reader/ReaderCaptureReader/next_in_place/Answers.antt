use Rattle.pcap_core.proofs.Prelude.{◌≡◌, ◌∙◌, arith, ap, subst, sym, refl, ◌<◌, ◌+◌, false, Option, IfSome, option_map_or, most_records, Head, IsFrameOf, IsRecordFault, TakesRecord, head_read, head_of, held, bytes_taken, is_big, records_given, rest_of, rest_left, captured_of, LinkedFrame}
use Rattle.pcap_core.specs.Faults.{fault_in}
use Rattle.pcap_core.specs.Rest.{HasEnded}
use Rattle.pcap_core.specs.declared.window.Window.{Window}
use Rattle.pcap_core.proofs.CapturesLeft.{comes-at, ends, leaves, halts}
use Rattle.pcap_core.proofs.reader.ReaderCaptureReader.next_in_place.Goals as goal

pub overflow_add-self : goal.overflow_add-self
overflow_add-self g c =
    let next = (c.in-Some-take_record.ensures.some c.args.into.now.items (g.S.Shelf.left c.args.shelf.now)).next in
    omega (arith, next.number, next.few)

-- a record that the window had
pub returns-in-Some-take_record-clause-reads : goal.returns-in-Some-take_record-clause-reads
returns-in-Some-take_record-clause-reads g c =
    let reader = c.args.self.now in
    let n = records_given reader in
    let after = c.take_record.new.self in
    let left = g.S.Shelf.left c.args.shelf.now in
    let bytes = bytes_taken after c.args.into.now.items in
    let taken = c.in-Some-take_record.ensures.some c.args.into.now.items left in
    let few : n < most_records = omega (arith, taken.next.number, taken.next.few) in
    let linked : c.in-Some.head.link ≡ (head_read (head_of reader)).link = ap (λ h. (head_read h).link) (sym c.in-Some.is) in
    let frame : LinkedFrame = record { frame = c.in-Some-take_record.frame; link = c.in-Some.head.link } in (
      comes-at (head_of reader) (head_of reader) n (n + 1) (rest_left reader left) (rest_of (held after) left) taken.found.0 frame bytes refl refl few
          (subst (λ (h : Option Head). IsFrameOf (option_map_or (λ (head : Head). head.nano) h false) taken.found.0 frame.frame bytes) (sym c.in-Some.is) taken.found.1) linked
          (subst (λ (h : Option Head). TakesRecord (option_map_or (λ (head : Head). head.big) h false) taken.found.0 (rest_left reader left) (rest_of (held after) left)) (sym c.in-Some.is) taken.found.2),
      taken.next,
    )

-- otherwise the window was still the same
pub returns-in-Ok-Some-clause-reads : goal.returns-in-Ok-Some-clause-reads
returns-in-Ok-Some-clause-reads g c =
    let reader = c.args.self.now in
    let after = c.read_next.new.self in
    let left = g.S.Shelf.left c.args.shelf.now in
    let now = rest_left after (g.S.Shelf.left c.read_next.new.shelf) in
    let e = c.in-Ok-Some.ensures in
    let n = records_given reader in
    let taken = rw c.in-Ok-Some.field-0-is at e.next in
    let few : n < most_records = omega (arith, taken.next.number, taken.next.few) in
    let linked : c.in-Some.head.link ≡ (head_read (head_of after)).link = ap (λ h. (head_read h).link) (sym (e.counts.head ∙ c.in-Some.is)) in
    let frame : LinkedFrame = record { frame = c.in-Ok-Some.frame; link = c.in-Some.head.link } in (
      comes-at (head_of reader) (head_of after) n (records_given after) (rest_left reader left) now
          taken.found.0 frame (captured_of after c.read_next.new.into.items) e.counts.head (rw c.in-Ok-Some.field-0-is at e.counts.given) few taken.found.1 linked
          (subst (λ (w : Window). TakesRecord (is_big reader) taken.found.0 (rest_of (held w) left) now) c.in_default-take_record.ensures.none taken.found.2),
      taken.next,
    )

pub returns-in-Ok-None-clause-reads : goal.returns-in-Ok-None-clause-reads
returns-in-Ok-None-clause-reads g c =
    let reader = c.args.self.now in
    let after = c.read_next.new.self in
    let left = g.S.Shelf.left c.args.shelf.now in
    let now = rest_left after (g.S.Shelf.left c.read_next.new.shelf) in
    let ended = rw c.in-Ok-None.field-0-is at c.in-Ok-None.ensures.stops.ended in
    let none = subst (λ (w : Window). HasEnded (rest_of (held w) left) now) c.in_default-take_record.ensures.none (ended refl) in (
      ends (head_read (head_of reader)) (records_given reader) (rest_left reader left) none.ended,
      leaves (head_read (head_of reader)) (records_given reader) (records_given after) (head_of after) (rest_left reader left) now none.over,
    )

pub returns-in-Err-clause-reads : goal.returns-in-Err-clause-reads
returns-in-Err-clause-reads g c =
    let reader = c.args.self.now in
    let n = records_given reader in
    let left = g.S.Shelf.left c.args.shelf.now in
    rw (c.read_error.ensures) (halts (head_of reader) n c.in-Err.fault (rest_left reader left)
    (subst (λ (w : Window). IfSome (fault_in c.in-Err.fault) (λ f. IfSome (rest_of (held w) left) (λ bytes. IsRecordFault (is_big reader) n bytes f)))
    c.in_default-take_record.ensures.none c.in-Err.ensures.stops.fault))
