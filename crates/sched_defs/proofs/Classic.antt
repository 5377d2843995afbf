-- With a policy of version 1 or 2, a packet is dropped if its leaf has a limit that is reached.
use Rattle.sched_defs.proofs.Prelude.{◌≡◌, ℕ, Some, ap, refl, sym, ◌+◌, ◌∙◌, arith, Option, None, false, ◌≤◌, Bool, true, inl, inr, ◌≢◌, nat_eq, nat_le, not, ◌||◌, IfSome, eqb-false, length, Packet, IsAccepted, Policy, limits_at, group_at, at_most, queue_at, Address, CanArrive, IsSound, SourceState, class_of, is_full, total, one, bytes_of, one_of, is_over, passes_at, leads_over}
use Rattle.std.proofs.lemmas.Bool.{eqb-true, le-leb, lt-leb}
use Rattle.rank_defs.specs.FlowGroups.{grouped}
use Rattle.policy_defs.specs.declared.limits.Limits.{Limits}
use Rattle.policy_defs.specs.Classic.{IsClassic}
use Rattle.sched_defs.specs.Laws.{is_reached}
use Rattle.sched_defs.proofs.Queued.{class_is_ready, leads_in}
use Rattle.sched_defs.proofs.Totals.{way-last, leads_over-leaf, total-leaf}
use Rattle.sched_defs.proofs.Runs.{none_is_over}

-- one more passes a limit that isn't passed yet exactly if the limit is reached
one_more_is_over : (limit : Option ℕ) (n : ℕ) → IfSome limit (λ l. n ≤ l) → (is_over limit (n + 1) || false) ≡ is_reached limit n
one_more_is_over None n few = refl
one_more_is_over (Some l) n few = by_test (nat_eq l n) refl
  where
    by_test : (t : Bool) → nat_eq l n ≡ t → (not (nat_le (n + 1) l) || false) ≡ nat_eq l n
    by_test true e =
        let same : l ≡ n = eqb-true l n e in
        ap (λ (t : Bool). not t || false) (lt-leb (n + 1) l (omega (arith, same))) ∙ sym e
    by_test false e =
        let other : l ≢ n = eqb-false l n e in
        ap (λ (t : Bool). not t || false) (le-leb (n + 1) l (omega (arith, other, few))) ∙ sym e

-- a limit on packets alone
packets_alone : (l : Limits) (packets bytes of_flow : ℕ) → l ≡ at_most l.packets
    → (is_over l.packets packets || (is_over l.bytes bytes || is_over l.per_flow of_flow)) ≡ (is_over l.packets packets || false)
packets_alone l packets bytes of_flow e = ap (λ (m : Limits). is_over m.packets packets || (is_over m.bytes bytes || is_over m.per_flow of_flow)) e

pub classic_full : (policy : Policy) (p : Packet) (s : SourceState) → IsClassic policy → IsAccepted policy → IsSound policy s → CanArrive policy s p
    → is_full policy p s ≡ is_reached (limits_at policy (class_of policy p).leaf).packets (length (queue_at s.tree (class_of policy p).leaf))
classic_full policy p s classic accepted sound can =
    way-last (passes_at policy p s) digits others
    ∙ packets_alone (limits_at policy digits) (total one s digits + 1) (total bytes_of s digits + p.len)
    (total (one_of (group_at policy digits) (grouped (group_at policy digits) p.flow)) s digits + 1) (classic.of_packets digits)
    ∙ one_more_is_over (limits_at policy digits).packets (total one s digits) (sound.limits digits).packets
    ∙ ap (is_reached (limits_at policy digits).packets) (total-leaf policy s digits sound (leads_in policy accepted s sound p can.known.class))
  where
    digits : Address
    digits = (class_of policy p).leaf

    others : (a : Address) → leads_over a digits ≡ true → a ≢ digits → passes_at policy p s a ≡ false
    others a e ne = elim (classic.at_leaves a) [
      | inl none ↦ none_is_over policy p s a none
      | inr leads ↦ absurd (ne (leads_over-leaf policy.tree a digits leads (class_is_ready policy accepted p can.known.class).leaf_address e))
    ]
