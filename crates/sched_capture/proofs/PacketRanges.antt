-- The packets of a file of bytes have their numbers in range.
use Rattle.sched_capture.proofs.Prelude.{◌≡◌, List, Some, ℕ, None, Option, arith, sym, subst, [], refl, ◌+◌, Result, ◌∷◌, Err, Ok, Bool, false, length, true, ◌≤◌, ◌++◌, ◌<◌, map, ◌^◌, suc, ◌%◌, drop, eqb, leb, slice_get, zero, ◌&&◌, ◌*◌, length-map, get_or-drop, AllByRecursion, IfSome, ⊤, FileContents, holds, no_capture, pcap_ng, bad_magic, data_cut, header_cut, record_cut, record_long, too_many, version, CapturedPacket, packet_with, capture_of, Capture, packets, refused, most_captured, AreSpellings, IsSpelling, Record, moment, most_records, in_file, in_ng_capture, behind_front, in_either}
use Rattle.std.proofs.lemmas.Bool.{cond_both}
use Rattle.byteorder.specs.Numbers.{big_from-lt, little_from-lt}
use Rattle.rank_defs.specs.Programs.{max_rank}
use Rattle.pcap_defs.specs.declared.head.Head.{Head}
use Rattle.pcap_defs.specs.Fault.{Fault}
use Rattle.pcap_defs.specs.Number.{long_at, short_at}
use Rattle.pcap_defs.specs.Capture.{IsCapture}
use Rattle.pcap_defs.proofs.ReadingLaws.{reads_captures, moments_are_small}
use Rattle.pcapng_defs.specs.declared.interface.Interface.{Interface}
use Rattle.pcapng_defs.specs.Fault.{BlockFault}
use Rattle.pcapng_defs.specs.Interface.{interface_at}
use Rattle.pcapng_defs.specs.Moment.{moment_in}
use Rattle.pcapng_defs.specs.Block.{Carried, at_start, BlockKind, section, interface, enhanced, simple, other, ng_major, most_interfaces, packet_at, enhanced_at, simple_at, simple_len, block_gives}
use Rattle.pcapng_defs.specs.NgCapture.{BlockFront, nothing, broken, found, front_of, at_front, packets_in, read_from, ng_capture_of}
use Rattle.pcapng_defs.specs.Laws.{IsBounded}
use Rattle.pcapng_defs.proofs.WholeBlocks.{reads_blocks}
use Rattle.pcapng_defs.proofs.Readings.{packets_are_bounded, packets_are_few}
use Rattle.sched_capture.specs.Laws.{AreBytes}

-- a packet that can be written as a record, and can be sent
pub record IsInRange (p : CapturedPacket) : Type 0 where
  pub link : p.link < 2 ^ 16
  pub moment : p.moment ≤ max_rank
  pub original : p.original < 2 ^ 32
  pub short : length p.captured ≤ most_captured

-- each of these packets is in range, and there are at most as many as a capture has records
pub record AreInRange (ps : List CapturedPacket) : Type 0 where
  pub each : AllByRecursion IsInRange ps
  pub few : length ps ≤ most_records

abbrev pub IsFileInRange : FileContents → Type 0
IsFileInRange (no_capture fault) = ⊤
IsFileInRange (holds contents) = AreInRange contents.packets

all_append : {X : Type 0} (P : X → Type 0) (xs ys : List X) → AllByRecursion P xs → AllByRecursion P ys → AllByRecursion P (xs ++ ys)
all_append P [] ys first others = others
all_append P (x ∷ xs) ys first others = (first.0, all_append P xs ys first.1 others)

-- ---- numbers in bytes
bytes_drop : (n : ℕ) (xs : List ℕ) → AreBytes xs → AreBytes (drop n xs)
bytes_drop n xs bytes k = subst (λ (b : ℕ). b < 256) (sym (get_or-drop n xs k 0)) (bytes (n + k))

bytes_front : (xs ys : List ℕ) → AreBytes (xs ++ ys) → AreBytes xs
bytes_front [] ys bytes k = omega arith
bytes_front (x ∷ xs) ys bytes zero = bytes zero
bytes_front (x ∷ xs) ys bytes (suc k) = bytes_front xs ys (λ j. bytes (suc j)) k

bytes_rest : (xs ys : List ℕ) → AreBytes (xs ++ ys) → AreBytes ys
bytes_rest [] ys bytes = bytes
bytes_rest (x ∷ xs) ys bytes = bytes_rest xs ys (λ j. bytes (suc j))

long_at-lt : (big : Bool) (at : ℕ) (xs : List ℕ) → AreBytes xs → long_at big at xs < 2 ^ 32
long_at-lt true at xs bytes = omega (arith, big_from-lt 0 4 (drop at xs) (bytes_drop at xs bytes))
long_at-lt false at xs bytes = omega (arith, little_from-lt 0 4 (drop at xs) (bytes_drop at xs bytes))

short_at-lt : (big : Bool) (at : ℕ) (xs : List ℕ) → AreBytes xs → short_at big at xs < 2 ^ 16
short_at-lt true at xs bytes = omega (arith, big_from-lt 0 2 (drop at xs) (bytes_drop at xs bytes))
short_at-lt false at xs bytes = omega (arith, little_from-lt 0 2 (drop at xs) (bytes_drop at xs bytes))

-- ---- a classic capture
record_in_range : (head : Head) (r : Record) (bytes : List ℕ) → head.link < 2 ^ 16 → AreBytes bytes → IsSpelling head.big r bytes → IsInRange (packet_with head r)
record_in_range head r bytes low are spelled =
    let seconds : r.seconds < 2 ^ 32 = omega (arith, spelled.seconds, long_at-lt head.big 0 bytes are) in
    let fraction : r.fraction < 2 ^ 32 = omega (arith, spelled.fraction, long_at-lt head.big 4 bytes are) in
    record {
      link = low;
      moment = omega (arith, moments_are_small head.nano r seconds fraction);
      original = omega (arith, spelled.original, long_at-lt head.big 12 bytes are);
      short = spelled.short;
    }

records_in_range : (head : Head) (records : List Record) (bytes : List ℕ) → head.link < 2 ^ 16 → AreBytes bytes → AreSpellings head.big records bytes
    → AllByRecursion IsInRange (map (packet_with head) records)
records_in_range head [] bytes low are spelled = tt
records_in_range head (r ∷ records) bytes low are spelled =
    let all : AreBytes (spelled.0 ++ spelled.1) = subst AreBytes spelled.2 are in (
      record_in_range head r spelled.0 low (bytes_front spelled.0 spelled.1 all) spelled.3,
      records_in_range head records spelled.1 low (bytes_rest spelled.0 spelled.1 all) spelled.4,
    )

below : (n m : ℕ) → n % 2 ^ 16 ≡ m → m < 2 ^ 16
below n m is = omega (arith, is)

capture_in_range : (head : Head) (records : List Record) (fault : Option Fault) (file : List ℕ) → AreBytes file → IsCapture head records fault file
    → AreInRange (map (packet_with head) records)
capture_in_range head records fault file are c =
    let behind : AreBytes c.after = bytes_rest c.header c.after (subst AreBytes c.file_is are) in
    let body : AreBytes c.records_are.body = bytes_front c.records_are.body c.records_are.rest (subst AreBytes c.records_are.bytes_are behind) in
    record {
      each = records_in_range head records c.records_are.body (below (long_at head.big 20 c.header) head.link c.header_is.link) body c.records_are.body_is;
      few = omega (arith, c.records_are.few, length-map records (packet_with head));
    }

-- ---- a pcapng capture
-- its link type and its original length
record IsLinked (p : CapturedPacket) : Type 0 where
  link : p.link < 2 ^ 16
  original : p.original < 2 ^ 32

abbrev AreLinked : List Interface → Type 0
AreLinked described = AllByRecursion (λ (i : Interface). i.link < 2 ^ 16) described

abbrev GivesLinked : Result (Option CapturedPacket × Carried) BlockFault → Type 0
GivesLinked (Err fault) = ⊤
GivesLinked (Ok given) = AllByRecursion IsLinked (packets_in given.0) × AreLinked given.1.described

slice_get-linked : (described : List Interface) (k : ℕ) → AreLinked described → IfSome (slice_get described k) (λ (i : Interface). i.link < 2 ^ 16)
slice_get-linked [] k linked = tt
slice_get-linked (i ∷ described) zero linked = linked.0
slice_get-linked (i ∷ described) (suc k) linked = slice_get-linked described k linked.1

packet_at-linked : (c : Carried) (i : Interface) (moment original count at : ℕ) (block : List ℕ) → i.link < 2 ^ 16 → original < 2 ^ 32 → AreLinked c.described
    → GivesLinked (packet_at c i moment original count at block)
packet_at-linked c i moment original count at block low length_low linked =
    cond_both (leb count most_captured && leb (at + count + 4) (length block)) _ _ GivesLinked
    (λ e. ((record { link = low; original = length_low }, tt), linked))
    (λ e. tt)

enhanced_at-linked : (c : Carried) (big : Bool) (block : List ℕ) (o : Option Interface) → AreBytes block → AreLinked c.described → IfSome o (λ (i : Interface). i.link < 2 ^ 16)
    → GivesLinked (enhanced_at c big block o)
enhanced_at-linked c big block None are linked low = tt
enhanced_at-linked c big block (Some i) are linked low =
    packet_at-linked c i (moment_in i.unit (long_at big 12 block * 2 ^ 32 + long_at big 16 block)) (long_at big 24 block) (long_at big 20 block) 28 block
    low (long_at-lt big 24 block are) linked

simple_at-linked : (c : Carried) (big : Bool) (block : List ℕ) (o : Option Interface) → AreBytes block → AreLinked c.described → IfSome o (λ (i : Interface). i.link < 2 ^ 16)
    → GivesLinked (simple_at c big block o)
simple_at-linked c big block None are linked low = tt
simple_at-linked c big block (Some i) are linked low =
    packet_at-linked c i c.moment (long_at big 8 block) (simple_len i (long_at big 8 block)) 12 block low (long_at-lt big 8 block are) linked

block_gives-linked : (c : Carried) (big : Bool) (block : List ℕ) (kind : BlockKind) → AreBytes block → AreLinked c.described → GivesLinked (block_gives c big block kind)
block_gives-linked c big block section are linked =
    cond_both (eqb (short_at big 12 block) ng_major) _ _ GivesLinked (λ e. (tt, tt)) (λ e. tt)
block_gives-linked c big block interface are linked =
    cond_both (eqb (length c.described) most_interfaces) _ _ GivesLinked (λ e. tt)
    (λ e. (tt, all_append (λ (i : Interface). i.link < 2 ^ 16) c.described (interface_at big (length block) block ∷ []) linked (short_at-lt big 8 block are, tt)))
block_gives-linked c big block enhanced are linked =
    enhanced_at-linked c big block (slice_get c.described (long_at big 8 block)) are linked (slice_get-linked c.described (long_at big 8 block) linked)
block_gives-linked c big block simple are linked =
    simple_at-linked c big block (slice_get c.described 0) are linked (slice_get-linked c.described 0 linked)
block_gives-linked c big block other are linked = (tt, linked)

at_front-linked : (n : ℕ) (c : Carried) (rest : List ℕ) (front : BlockFront) → front_of c rest ≡ front → AreBytes rest → AreLinked c.described
    → ((after : Carried) (others : List ℕ) → AreBytes others → AreLinked after.described → AllByRecursion IsLinked (read_from n after others).packets)
    → AllByRecursion IsLinked (at_front (λ after others. read_from n after others) c front).packets
at_front-linked n c rest nothing is are linked next = tt
at_front-linked n c rest (broken fault) is are linked next = tt
at_front-linked n c rest (found packet after others) is are linked next =
    let b = (reads_blocks c after packet rest others).1 is in
    let all : AreBytes (b.0 ++ others) = subst AreBytes b.1 are in
    let given : GivesLinked (Ok (packet, after)) =
    subst GivesLinked b.2.gives (block_gives-linked c b.2.big b.0 b.2.kind (bytes_front b.0 others all) linked) in
    all_append IsLinked (packets_in packet) (read_from n after others).packets given.0 (next after others (bytes_rest b.0 others all) given.1)

read_from-linked : (n : ℕ) (c : Carried) (rest : List ℕ) → AreBytes rest → AreLinked c.described → AllByRecursion IsLinked (read_from n c rest).packets
unfolding read_from
read_from-linked zero c rest are linked = tt
read_from-linked (suc n) c rest are linked =
    at_front-linked n c rest (front_of c rest) refl are linked (λ after others left low. read_from-linked n after others left low)

in_range_of : (ps : List CapturedPacket) → AllByRecursion IsLinked ps → AllByRecursion IsBounded ps → AllByRecursion IsInRange ps
in_range_of [] linked bounded = tt
in_range_of (p ∷ ps) linked bounded =
    (record { link = linked.0.link; moment = bounded.0.early; original = linked.0.original; short = bounded.0.short }, in_range_of ps linked.1 bounded.1)

blocks_in_range : (file : List ℕ) → AreBytes file → AreInRange (ng_capture_of file).packets
blocks_in_range file are =
    let few = packets_are_few file in
    record {
      each = in_range_of (ng_capture_of file).packets (read_from-linked (suc (length file)) at_start file are tt) (packets_are_bounded file);
      few = omega (arith, few.0, few.1);
    }

-- ---- a file
front_in_range : (file : List ℕ) (front : BlockFront) → AreBytes file → IsFileInRange (behind_front front (ng_capture_of file))
front_in_range file nothing are = blocks_in_range file are
front_in_range file (broken fault) are = tt
front_in_range file (found packet after others) are = blocks_in_range file are

either_in_range : (file : List ℕ) (c : Capture) → capture_of file ≡ c → AreBytes file → IsFileInRange (in_either c (in_ng_capture file))
either_in_range file (refused header_cut) is are = tt
either_in_range file (refused bad_magic) is are = tt
either_in_range file (refused pcap_ng) is are = front_in_range file (front_of at_start file) are
either_in_range file (refused version) is are = tt
either_in_range file (refused (record_cut k)) is are = tt
either_in_range file (refused (data_cut k)) is are = tt
either_in_range file (refused (record_long k)) is are = tt
either_in_range file (refused too_many) is are = tt
either_in_range file (packets head records fault) is are = capture_in_range head records fault file are ((reads_captures head records fault file).1 is)

pub file_in_range : (file : List ℕ) → AreBytes file → IsFileInRange (in_file file)
file_in_range file are = either_in_range file (capture_of file) refl are
