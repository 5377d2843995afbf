-- Captured bytes exist for the packets left, if those are known to the contract.
use Rattle.std.proofs.Common.{◌≡◌, ◌≤◌, ◌+◌, ◌==◌, ℕ, Bool, true, false, true≢false, if◌then◌else◌, Option, Some, None, List, [], ◌∷◌, refl, sym, ◌∙◌, arith}
use Rattle.std.specs.Prelude.{option_map}
use Rattle.std.proofs.lemmas.Bool.{eq-eqb, eqb-true}
use Rattle.pcap_defs.specs.Packet.{CapturedPacket}
use Rattle.pcap_defs.specs.Contents.{Contents}
use Rattle.policy_rules.specs.Resolved.{Resolved}
use Rattle.sched_defs.specs.Packets.{Captured, captured_from, AreThere}
use Rattle.sched_capture.specs.Arrivals.{AreCapturedFrom, AreCaptured, left_in}

own_bytes : (t : Bool) → t ≡ true → (bytes others : List ℕ) → (if t then bytes else others) ≡ bytes
own_bytes true is bytes others = refl
own_bytes false is bytes others = absurd (true≢false (sym is))

other_bytes : (t : Bool) → (t ≡ true → ⊥) → (bytes others : List ℕ) → (if t then bytes else others) ≡ others
other_bytes true not bytes others = absurd (not refl)
other_bytes false not bytes others = refl

same_from : (first : ℕ) (ps : List CapturedPacket) (c d : Captured) → ((n : ℕ) → first ≤ n → d n ≡ c n) → AreCapturedFrom first ps c → AreCapturedFrom first ps d
same_from first [] c d same are = tt
same_from first (p ∷ ps) c d same are = (same first (omega arith) ∙ are.0, same_from (first + 1) ps c d (λ n above. same n (omega (arith, above))) are.1)

pub captured_from-are : (first : ℕ) (ps : List CapturedPacket) → AreCapturedFrom first ps (captured_from first ps)
captured_from-are first [] = tt
captured_from-are first (p ∷ ps) = (
  own_bytes (first == first) (eq-eqb first first refl) p.captured (captured_from (first + 1) ps first),
  same_from (first + 1) ps (captured_from (first + 1) ps) (captured_from first (p ∷ ps))
      (λ n above. other_bytes (n == first) (λ is. let same : n ≡ first = eqb-true n first is in omega (arith, same, above)) p.captured (captured_from (first + 1) ps n))
      (captured_from-are (first + 1) ps),
)

pub there : (policy : Resolved) (n : ℕ) (left : Option Contents) → AreThere (option_map (left_in policy n) left) (AreCaptured left n)
there policy n None = tt
there policy n (Some contents) = (captured_from (n + 1) contents.packets, captured_from-are (n + 1) contents.packets)
