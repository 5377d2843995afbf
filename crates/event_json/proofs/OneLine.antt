-- What one outcome adds to a JSON report.
use Rattle.event_json.proofs.Prelude.{[], ◌∙◌, ◌∷◌, sym, subst, ◌≡◌, List, arith, ℕ, ◌+◌, Option, ◌^◌, ◌≤◌, append-nil, ◌-◌, Appended, Packet, Policy, text_of, Arrived, Departed, Dropped, Empty, Outcome, Address, capped, AreCapped, json_line, most_count, CountsOutcomes, AddsJson, Counts, JsonReport}
use Rattle.std.specs.Prelude.{min}

-- the text grew by the line of an outcome
pub one_line : (w v : JsonReport) (a b : Option (List ℕ)) (policy : Policy) (event : ℕ) (o : Outcome) (line : List ℕ)
    → line ≡ json_line w.rate policy event o → v.rate ≡ w.rate → CountsOutcomes w.counts (o ∷ []) v.counts
    → Appended (text_of a w.report) (text_of b v.report) line → AddsJson w a policy event (o ∷ []) v b
one_line w v a b policy event o line is same counts grew = record {
  rate = same;
  text = subst (Appended (text_of a w.report) (text_of b v.report)) (is ∙ sym (append-nil (json_line w.rate policy event o))) grew;
  counts = counts;
}

same : (old : ℕ) → old ≤ most_count → old ≡ capped (old + 0)
same old low = omega arith

-- one count grew, and the others stay
pub one_arrived : (old : Counts) (new : ℕ) (p : Packet) (a : Address) (ranks : List ℕ) → AreCapped old → new ≡ min (old.arrived + 1) (2 ^ 64 - 1)
    → CountsOutcomes old (Arrived p a ranks ∷ []) (record old { arrived = new })
one_arrived old new p a ranks low is = record { arrived = is; departed = same old.departed low.1; dropped = same old.dropped low.2; empty = same old.empty low.3 }

pub one_departed : (old : Counts) (new : ℕ) (p : Packet) (a : Address) (ranks : List ℕ) (start : Option ℕ) → AreCapped old → new ≡ min (old.departed + 1) (2 ^ 64 - 1)
    → CountsOutcomes old (Departed p a ranks start ∷ []) (record old { departed = new })
one_departed old new p a ranks start low is = record { arrived = same old.arrived low.0; departed = is; dropped = same old.dropped low.2; empty = same old.empty low.3 }

pub one_dropped : (old : Counts) (new : ℕ) (p : Packet) (a : Address) → AreCapped old → new ≡ min (old.dropped + 1) (2 ^ 64 - 1)
    → CountsOutcomes old (Dropped p a ∷ []) (record old { dropped = new })
one_dropped old new p a low is = record { arrived = same old.arrived low.0; departed = same old.departed low.1; dropped = is; empty = same old.empty low.3 }

pub one_empty : (old : Counts) (new : ℕ) → AreCapped old → new ≡ min (old.empty + 1) (2 ^ 64 - 1)
    → CountsOutcomes old (Empty ∷ []) (record old { empty = new })
one_empty old new low is = record { arrived = same old.arrived low.0; departed = same old.departed low.1; dropped = same old.dropped low.2; empty = is }
