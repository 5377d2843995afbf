-- A captured packet is read with its class and its flow.
use Rattle.sched_capture.proofs.Prelude.{◌≡◌, List, ℕ, Option, sym, subst, ap, ◌∙◌, ◌+◌, length, ◌≤◌, unwrap_or, Packet, Comes, Contents, most_captured, Resolved, IsSendable, IsNext, packet_told, packet_of, class_given}
use Rattle.rank_defs.specs.declared.environment.FlowKey.{FlowKey}
use Rattle.pcap_core.specs.Captures.{packet_of as packet_of_frame}
use Rattle.pcap_core.specs.declared.frame.LinkedFrame.{LinkedFrame}
use Rattle.packet_defs.specs.declared.extra.Header.{Header}
use Rattle.packet_defs.specs.Extra.{header_in}
use Rattle.packet_core.specs.Classes.{IsSorted}

pub packet-is : (policy : Resolved) (f : LinkedFrame) (bytes : List ℕ) (old p : Packet) → old.number ≡ f.frame.number → old.len ≡ f.frame.len → old.moment ≡ f.frame.moment
    → IsSorted policy (header_in policy.policy.version f.link bytes) old p → p ≡ packet_of policy f.frame.number (packet_of_frame f bytes)
packet-is policy f bytes old p number len moment sorted =
    let header : Header = header_in policy.policy.version f.link bytes in
    let number_is : p.number ≡ f.frame.number = sorted.number ∙ number in
    let len_is : p.len ≡ f.frame.len = sorted.len ∙ len in
    let moment_is : p.moment ≡ f.frame.moment = sorted.moment ∙ moment in
    let class_is : p.class ≡ class_given policy header f.frame.len = sym (ap (λ o. unwrap_or o 0) sorted.class) ∙ ap (class_given policy header) len in
    ap (λ n. record { number = n; class = p.class; len = p.len; moment = p.moment; flow = p.flow }) number_is
    ∙ ap (λ c. record { number = f.frame.number; class = c; len = p.len; moment = p.moment; flow = p.flow }) class_is
    ∙ ap (λ n. record { number = f.frame.number; class = class_given policy header f.frame.len; len = n; moment = p.moment; flow = p.flow }) len_is
    ∙ ap (λ m. record { number = f.frame.number; class = class_given policy header f.frame.len; len = f.frame.len; moment = m; flow = p.flow }) moment_is
    ∙ ap (λ (k : FlowKey). record { number = f.frame.number; class = class_given policy header f.frame.len; len = f.frame.len; moment = f.frame.moment; flow = k }) sorted.flow

-- and it is the next one if its record is next
pub next_of_record : (policy : Resolved) (n : ℕ) (old new : Option Contents) (f : LinkedFrame) (p : Packet) (bytes : List ℕ) → p ≡ packet_of policy (n + 1) (packet_of_frame f bytes)
    → Comes old new (packet_of_frame f bytes) → IsSendable policy.policy p → length bytes ≤ most_captured → IsNext policy n old new f.link p bytes
next_of_record policy n old new f p bytes is comes sendable short = record {
  comes = subst (λ (q : Packet). Comes old new (packet_told f.link q bytes)) (sym is) comes;
  packet = is ∙ ap (λ (q : Packet). packet_of policy (n + 1) (packet_told f.link q bytes)) (sym is);
  sendable = sendable;
  short = short;
}
