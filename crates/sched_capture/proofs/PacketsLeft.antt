-- The contents left of a capture, as packets to read.
use Rattle.sched_capture.proofs.Prelude.{◌≡◌, List, Some, ℕ, None, Option, is_some, sym, subst, ap, ◌∙◌, [], ◌+◌, Result, ◌∷◌, Err, Ok, Bool, false, true, if◌then◌else◌, true≢false, IfSome, option_map, IfOk, ReadError, Packet, Opens, Comes, StopsAt, nothing_left, IsOneLess, fault_told, rest_of, FileContents, holds, no_capture, Contents, CapturedPacket, Resolved, Captured, StaysKnown, Came, IsNextPacket, IsReadError, OneCame, Refuses, AreCaptured, AreCapturedIn, left_in, IsNext, packet_told, packet_of, packets_from}
use Rattle.outside_core.specs.declared.read_error.ReadError.TheVariants.{Fault, Source, Memory}
use Rattle.std.specs.Prelude.{IfNone}
use Rattle.sched_capture.specs.Arrivals.{Begins}
use Rattle.sched_capture.specs.NextPacket.{IsEnd}
use Rattle.sched_capture.proofs.CapturedBytes.{bytes_of_next, bytes_of_others}

-- ---- after the beginning
-- all packets are left
pub begins : (policy : Resolved) (file : FileContents) (left : Option Contents) (given : ℕ) → given ≡ 0 → Opens file left → Begins policy file (option_map (left_in policy given) left)
begins policy (no_capture fault) left given none opened = absurd opened
begins policy (holds contents) left given none opened = ap (option_map (left_in policy given)) opened ∙ ap (λ n. Some (left_in policy n contents)) none

-- with their captured bytes
captured_behind : (contents : Contents) (left : Option Contents) (given : ℕ) → given ≡ 0 → left ≡ Some contents → (bytes : Captured) → AreCaptured (Some contents) 0 bytes → AreCaptured left given bytes
captured_behind contents left given none opened bytes are = rw (none, opened) are

pub captured_at_start : (file : FileContents) (left : Option Contents) (given : ℕ) → given ≡ 0 → Opens file left → StaysKnown (AreCapturedIn file) (AreCaptured left given)
captured_at_start (no_capture fault) left given none opened bytes are = absurd opened
captured_at_start (holds contents) left given none opened bytes are = captured_behind contents left given none opened bytes are

pub refuses : (error : ReadError) (contents : List ℕ → FileContents) (file : Option (List ℕ)) → IfSome (fault_told error) (λ f. IfSome file (λ bytes. contents bytes ≡ no_capture f))
    → IfSome file (λ bytes. Refuses error (contents bytes))
refuses (Fault c p) contents file h = h
refuses Source contents None h = tt
refuses Source contents (Some bytes) h = tt
refuses Memory contents None h = tt
refuses Memory contents (Some bytes) h = tt

-- the same if the reader's bytes are those of a window
pub refuses_over : (error : ReadError) (contents : List ℕ → FileContents) (ahead held : List ℕ) (left : Option (List ℕ)) → ahead ≡ held
    → IfSome (fault_told error) (λ f. IfSome (rest_of ahead left) (λ bytes. contents bytes ≡ no_capture f)) → IfSome (rest_of held left) (λ bytes. Refuses error (contents bytes))
refuses_over error contents ahead held left same h =
    subst (λ xs. IfSome (rest_of xs left) (λ bytes. Refuses error (contents bytes))) same (refuses error contents (rest_of ahead left) h)

-- ---- a read error
pub is_read_error : (policy : Resolved) (n : ℕ) (old : Option Contents) (h : ReadError) → StopsAt old h → IsReadError (option_map (left_in policy n) old) h
is_read_error policy n None (Fault c p) at = tt
is_read_error policy n (Some old) (Fault c p) at = (ap (packets_from policy (n + 1)) at.0, at.1)
is_read_error policy n old Source at = tt
is_read_error policy n old Memory at = tt

-- ---- the next packet
module _ (policy : Resolved) (n : ℕ) where
  comes : (old new : Option Contents) (p : CapturedPacket) → Comes old new p
      → Came (option_map (left_in policy n) old) (option_map (left_in policy (n + 1)) new) (packet_of policy (n + 1) p ∷ [])
  comes None new p came = tt
  comes (Some old) None p came = absurd came
  comes (Some old) (Some new) p came = (ap (packets_from policy (n + 1)) came.0, came.1)

  number : (old new : Option Contents) (link : ℕ) (p : Packet) (captured : List ℕ) → IsNext policy n old new link p captured → p.number ≡ n + 1
  number old new link p captured is = ap (λ (q : Packet). q.number) is.packet

  came_next : (next : ℕ) (old new : Option Contents) (link : ℕ) (p : Packet) (captured : List ℕ) → next ≡ n + 1 → IsNext policy n old new link p captured
      → Came (option_map (left_in policy n) old) (option_map (left_in policy next) new) (p ∷ [])
  came_next next old new link p captured one is =
      let P : Packet → Type 0 = λ q. Came (option_map (left_in policy n) old) (option_map (left_in policy next) new) (q ∷ []) in
      subst P (sym is.packet) (rw (one) (comes old new (packet_told link p captured) is.comes))

  -- a skipped packet counts as read
  pub one_came : (next : ℕ) (old new : Option Contents) (passed : Result Bool ReadError) → IfOk passed (λ some. next ≡ n + (if some then 1 else 0)) → IfOk passed (λ some. some ≡ true → IsOneLess old new)
      → IfOk passed (λ some. some ≡ true → OneCame (option_map (left_in policy n) old) (option_map (left_in policy next) new))
  one_came next old new (Ok true) given less = λ is. (packet_of policy (n + 1) (less is).0, rw (given) (comes old new (less is).0 (less is).1))
  one_came next old new (Ok false) given less = λ is. absurd (true≢false (sym is))
  one_came next old new (Err error) given less = tt

  -- the next packet is the first of those left, and these are its captured bytes
  pub record Gives (next : ℕ) (old new : Option Contents) (p : Packet) (captured : List ℕ) : Type 0 where
    pub packet : IsNextPacket policy.policy n (option_map (left_in policy n) old) (option_map (left_in policy next) new) (AreCaptured old n) p captured
    pub known : StaysKnown (AreCaptured old n) (AreCaptured new next)

  pub gives : (next : ℕ) (old new : Option Contents) (link : ℕ) (p : Packet) (captured : List ℕ) → next ≡ n + 1 → IsNext policy n old new link p captured → Gives next old new p captured
  gives next old new link p captured one is = record {
    packet = record {
      number = number old new link p captured is;
      sendable = is.sendable;
      came = came_next next old new link p captured one is;
      bytes = λ all are. rw (number old new link p captured is) (bytes_of_next n old new (packet_told link p captured) is.comes all are);
      short = is.short;
    };
    known = λ all are. bytes_of_others n next old new (packet_told link p captured) one is.comes all are;
  }

-- ---- the end
pub none_known : (known : Captured → Type 0) (n : ℕ) (new : Option Contents) → new ≡ Some nothing_left → StaysKnown known (AreCaptured new n)
none_known known n new over bytes are = rw (over) tt

-- ---- what a call returns, if it returns the link type of a packet that it read
module _ (policy : Resolved) (n next : ℕ) (old new : Option Contents) (p : Packet) (captured : List ℕ) where
  pub packet_of_call : (o : Option ℕ) → next ≡ n + (if is_some o then 1 else 0) → IfSome o (λ link. IsNext policy n old new link p captured)
      → is_some o ≡ true → IsNextPacket policy.policy n (option_map (left_in policy n) old) (option_map (left_in policy next) new) (AreCaptured old n) p captured
  packet_of_call None one is some = absurd (true≢false (sym some))
  packet_of_call (Some link) one is some = (gives policy n next old new link p captured one is).packet

  pub known_of_call : (o : Option ℕ) → next ≡ n + (if is_some o then 1 else 0) → IfSome o (λ link. IsNext policy n old new link p captured) → IfNone o (IsEnd old new)
      → StaysKnown (AreCaptured old n) (AreCaptured new next)
  known_of_call None one is ended = none_known (AreCaptured old n) next new ended.over
  known_of_call (Some link) one is ended = (gives policy n next old new link p captured one is).known
