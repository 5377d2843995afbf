-- Forwarded captures are read back.
use Rattle.forward_defs.proofs.Prelude.{List, [], refl, ℕ, ◌∷◌, ◌≡◌, ap, ◌++◌, sym, None, subst, ◌∙◌, arith, ◌+◌, length, ◌≤◌, map, ◌%◌, ◌/◌, ◌<◌, ◌^◌, ◌*◌, AllByRecursion, holds, CapturedPacket, packet_with, Policy, outcomes-append, CanMake-front, none_lost, pushed_in-append, sound_start, Event, outcomes, CanMake, after, popped_in, pushed_in, link_course, Captured, IsKnown, start, size, sent_record, forward_bytes, sent_packet, up_to_late, Sending, late, sendings}
use Rattle.std.specs.Prelude.{All}
use Rattle.std.proofs.lemmas.List.Elements.{All-nil, All-cons}
use Rattle.tree_defs.specs.Topology.{topology_of}
use Rattle.tree_defs.proofs.WellFormedLaws.{size-empty}
use Rattle.pcap_defs.specs.Record.{most_captured}
use Rattle.pcap_defs.specs.Reading.{Capture, packets, capture_of}
use Rattle.pcapng_defs.specs.NgContents.{in_either, in_ng_capture}
use Rattle.pcap_core.specs.Bytes.{head_with}
use Rattle.pcap_core.specs.Laws.{IsWritable}
use Rattle.pcap_core.proofs.BytesLaws.{are_read_back}
use Rattle.sched_defs.proofs.Links.{link_can, link_leaves}
use Rattle.forward_defs.specs.Laws.{FitsRecord, ForwardedAreReadBack, ForwardedRunsAreReadBack}
use Rattle.forward_defs.proofs.LateEvents.{up_to_late-first}
use Rattle.forward_defs.proofs.SentPackets.{sendings-on_time, sendings-few, sendings-known}

-- a timestamp in nanoseconds, as seconds and the rest
moment-kept : (m : ℕ) → m / 10 ^ 9 * 10 ^ 9 + m % 10 ^ 9 ≡ m
moment-kept m = omega arith

module _ (captured : Captured) where
  -- the record of a departure on time can be written
  writable : (s : Sending) → FitsRecord captured s → s.start < late → IsWritable (sent_record captured s)
  writable s fits early = record { seconds = omega (arith, early); fraction = omega arith; original = fits.len; captured = fits.short }

  all_writable : (ss : List Sending) → AllByRecursion (FitsRecord captured) ss → AllByRecursion (λ (s : Sending). s.start < late) ss
      → All IsWritable (map (sent_record captured) ss)
  all_writable [] fit early = All-nil IsWritable
  all_writable (s ∷ ss) fit early =
      All-cons IsWritable (sent_record captured s) (map (sent_record captured) ss) (writable s fit.0 early.0) (all_writable ss fit.1 early.1)

  -- the records are those of the departing packets
  packets-sent : (link : ℕ) (ss : List Sending) → map (packet_with (head_with link)) (map (sent_record captured) ss) ≡ map (sent_packet link captured) ss
  packets-sent link [] = refl
  packets-sent link (s ∷ ss) =
      ap (λ (m : ℕ). record { link = link; moment = m; original = s.packet.len; captured = captured s.packet.number } ∷ map (packet_with (head_with link)) (map (sent_record captured) ss)) (moment-kept s.start)
      ∙ ap (λ (l : List CapturedPacket). sent_packet link captured s ∷ l) (packets-sent link ss)

  length-sent : (ss : List Sending) → length (map (sent_record captured) ss) ≡ length ss
  length-sent [] = refl
  length-sent (s ∷ ss) = omega (arith, length-sent ss)

-- the bytes forwarded from outcomes are read back
pub forwarded-read_back : ForwardedAreReadBack
forwarded-read_back link captured os fits fit few =
    let ss = sendings os in
    let rs = map (sent_record captured) ss in
    let file = forward_bytes link captured os in
    let read : capture_of file ≡ packets (head_with link) rs None =
    are_read_back link rs fits (all_writable captured ss fit (sendings-on_time os)) (omega (arith, few, length-sent captured ss)) in
    ap (λ (c : Capture). in_either c (in_ng_capture file)) read
    ∙ ap (λ (ps : List CapturedPacket). holds (record { packets = ps; fault = None })) (packets-sent captured link ss)

-- known packets with no more captured bytes than a record may have
known_fits : (policy : Policy) (captured : Captured) → ((n : ℕ) → length (captured n) ≤ most_captured) → (ss : List Sending)
    → AllByRecursion (λ (s : Sending). IsKnown policy s.packet) ss → AllByRecursion (FitsRecord captured) ss
known_fits policy captured short [] known = tt
known_fits policy captured short (s ∷ ss) known =
    (record { len = omega (arith, known.0.len); short = short s.packet.number }, known_fits policy captured short ss known.1)

-- the bytes forwarded from a link's run are read back
pub forwarded_runs-read_back : ForwardedRunsAreReadBack
forwarded_runs-read_back policy rate link ps fault captured accepted fits can_be_sent few short =
    let all = (link_course policy rate ps fault (start policy) 0).events in
    let es = up_to_late all in
    let rest = up_to_late-first all in
    let sound = sound_start policy accepted in
    let can_all : CanMake policy all (start policy) = link_can policy rate ps fault 1 (start policy) 0 can_be_sent in
    let can : CanMake policy es (start policy) =
    CanMake-front policy es rest.0 (start policy) (subst (λ (l : List Event). CanMake policy l (start policy)) (sym rest.1) can_all) in
    let run = link_leaves policy rate accepted ps fault 1 (start policy) 0 sound can_be_sent in
    let joined : outcomes policy all (start policy) ≡ outcomes policy es (start policy) ++ outcomes policy rest.0 (after policy es (start policy)) =
    ap (λ (l : List Event). outcomes policy l (start policy)) (sym rest.1) ∙ outcomes-append policy es rest.0 (start policy) in
    let pushed : pushed_in (outcomes policy all (start policy)) ≡ pushed_in (outcomes policy es (start policy)) + pushed_in (outcomes policy rest.0 (after policy es (start policy))) =
    ap pushed_in joined ∙ pushed_in-append (outcomes policy es (start policy)) (outcomes policy rest.0 (after policy es (start policy))) in
    let lost = none_lost policy es (start policy) accepted sound can in
    let empty : size (start policy).tree ≡ 0 = size-empty (topology_of policy.tree) in
    let os = outcomes policy es (start policy) in
    let sent : length (sendings os) ≤ popped_in os = sendings-few os in
    forwarded-read_back link captured os fits
    (known_fits policy captured short (sendings os) (sendings-known policy accepted es (start policy) sound can))
    (omega (arith, few, run.arrivals, pushed, lost, empty, sent))
