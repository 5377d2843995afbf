-- The answer of a run over packets of one link type, for the file of these packets.
use Rattle.sched_capture.proofs.Prelude.{◌≡◌, List, Some, ℕ, None, Option, sym, subst, ap, ◌∙◌, Result, IfSome_then, on_err_weaker, on_ok_weaker, IfSome, OnErr, OnOk, prefix_of_nothing, appended_in_turn, appended_nothing, prefix_in_turn, prefix_of_longer, Appended, AppendedPrefix, Stop, FileContents, holds, no_capture, FaultAt, in_file, Policy, Resolved, outcomes, Captured, Left, StaysKnown, captured_from, start, Ending, LinkRate, on_err_given, IsRefusal, AreCapturedIn, left_in, forward_events, forward_over, forward_answer, sent_bytes, ForwardAnswer, forward_of, forward_refusal, refusal_ending, one_link_in, link_in}
use Rattle.pcap_core.specs.Bytes.{header_bytes}
use Rattle.sched_capture.specs.Arrivals.{Begins}
use Rattle.sched_capture.specs.CapturedBytes.{captured_from-are}
use Rattle.sched_capture.specs.declared.departures.ForwardEnding.{ForwardEnding}

-- ---- the header, and then the records
module _ (policy : Policy) (rate : LinkRate) (link : ℕ) (left : Option Left) (known : Captured → Type 0) (r : Result ForwardEnding Stop) where
  -- the bytes written are a prefix of the answer's
  abbrev IsPartOfAnswer : Option (List ℕ) → Option (List ℕ) → Type 0
  IsPartOfAnswer a b = OnErr r (IfSome left (λ l. (captured : Captured) → known captured → AppendedPrefix a b (forward_of policy rate link captured l).text))

  each_left : (o : Option Left) (P : Left → Type 0) → ((l : Left) → P l) → IfSome o P
  each_left None P each = tt
  each_left (Some l) P each = each l

  pub cut_header : (a b : Option (List ℕ)) → AppendedPrefix a b (header_bytes link) → IsPartOfAnswer a b
  cut_header a b part = on_err_given r _ (each_left left (λ l. (captured : Captured) → known captured → AppendedPrefix a b (forward_of policy rate link captured l).text)
      (λ l captured h. prefix_of_longer a b (header_bytes link) (sent_bytes captured (outcomes policy (forward_events policy rate l) (start policy))) part))

  -- no record is written yet
  pub none_sent : (a : Option (List ℕ)) → OnErr r (IfSome left (λ l. (captured : Captured) → known captured → AppendedPrefix a a (sent_bytes captured (outcomes policy (forward_events policy rate l) (start policy)))))
  none_sent a = on_err_given r _ (each_left left (λ l. (captured : Captured) → known captured → AppendedPrefix a a (sent_bytes captured (outcomes policy (forward_events policy rate l) (start policy))))
      (λ l captured h. prefix_of_nothing a a (sent_bytes captured (outcomes policy (forward_events policy rate l) (start policy))) (appended_nothing a)))

  pub cut_records : (a b c : Option (List ℕ)) → Appended a b (header_bytes link)
      → OnErr r (IfSome left (λ l. (captured : Captured) → known captured → AppendedPrefix b c (sent_bytes captured (outcomes policy (forward_events policy rate l) (start policy))))) → IsPartOfAnswer a c
  cut_records a b c header records = on_err_weaker r (λ all. IfSome_then left all
      (λ l each captured h. prefix_in_turn a b c (header_bytes link) (sent_bytes captured (outcomes policy (forward_events policy rate l) (start policy))) header (each captured h))) records

  pub all_records : (a b c : Option (List ℕ)) → Appended a b (header_bytes link)
      → OnOk r (IfSome left (λ l. (captured : Captured) → known captured → Appended b c (sent_bytes captured (outcomes policy (forward_events policy rate l) (start policy)))))
      → OnOk r (IfSome left (λ l. (captured : Captured) → known captured → Appended a c (forward_of policy rate link captured l).text))
  all_records a b c header records = on_ok_weaker r (λ all. IfSome_then left all
      (λ l each captured h. appended_in_turn a b c (header_bytes link) (sent_bytes captured (outcomes policy (forward_events policy rate l) (start policy))) header (each captured h))) records

-- ---- the run begins
module _ (policy : Resolved) (rate : LinkRate) (told : Option (List ℕ)) (left : Option Left) (known : Captured → Type 0) (link : ℕ) where
  -- the packets left, their captured bytes and the link type are those of the file
  pub record IsBegun : Type 0 where
    pub begins : IfSome told (λ file. Begins policy (one_link_in (in_file file)) left)
    pub captures : IfSome told (λ file. StaysKnown (AreCapturedIn (one_link_in (in_file file))) known)
    pub one : IfSome told (λ file. link ≡ link_in (in_file file))

  -- property Q of the packets left implies property P of the answer
  abbrev Says : (Left → Type 0) → (ForwardAnswer → Type 0) → Type 0
  Says Q P = (l : Left) (captured : Captured) → known captured → Q l → P (forward_of policy.policy rate link captured l)

  over_contents : (file : FileContents) (Q : Left → Type 0) (P : ForwardAnswer → Type 0) → Says Q P → Begins policy file left → StaysKnown (AreCapturedIn file) known → IfSome left Q → P (forward_over policy rate link file)
  over_contents (no_capture fault) Q P says begins stays each = absurd begins
  over_contents (holds contents) Q P says begins stays each =
      says (left_in policy 0 contents) (captured_from 1 contents.packets) (stays (captured_from 1 contents.packets) (captured_from-are 1 contents.packets)) (rw begins at each)

  pub in_told : (Q : Left → Type 0) (P : ForwardAnswer → Type 0) → Says Q P → IsBegun → IfSome left Q → IfSome told (λ file. P (forward_answer policy rate file))
  in_told Q P says begun each = by_told told begun.begins begun.captures begun.one
    where
      by_told : (t : Option (List ℕ)) → IfSome t (λ file. Begins policy (one_link_in (in_file file)) left) → IfSome t (λ file. StaysKnown (AreCapturedIn (one_link_in (in_file file))) known)
          → IfSome t (λ file. link ≡ link_in (in_file file)) → IfSome t (λ file. P (forward_answer policy rate file))
      by_told None begins captures same = tt
      by_told (Some file) begins captures same = subst (λ (n : ℕ). P (forward_over policy rate n (one_link_in (in_file file)))) same (over_contents (one_link_in (in_file file)) Q P says begins captures each)

-- ---- the file is rejected
refused : (policy : Resolved) (rate : LinkRate) (file : List ℕ) (fault : FaultAt) → one_link_in (in_file file) ≡ no_capture fault → forward_answer policy rate file ≡ forward_refusal fault
refused policy rate file fault is = ap (forward_over policy rate (link_in (in_file file))) is

module _ (policy : Resolved) (rate : LinkRate) (told : Option (List ℕ)) (e : Ending) (old new : Option (List ℕ)) where
  pub refused_ending : (end : ForwardEnding) → end ≡ refusal_ending e → IfSome told (λ file. IsRefusal (one_link_in (in_file file)) e old new) → IfSome told (λ file. end ≡ (forward_answer policy rate file).ending)
  refused_ending end is refusal = by_told told refusal
    where
      by_told : (t : Option (List ℕ)) → IfSome t (λ file. IsRefusal (one_link_in (in_file file)) e old new) → IfSome t (λ file. end ≡ (forward_answer policy rate file).ending)
      by_told None r = tt
      by_told (Some file) r = is ∙ ap refusal_ending r.ends ∙ ap (λ (a : ForwardAnswer). a.ending) (sym (refused policy rate file r.fault r.is))

  -- a property of the answer to a rejected file, with its text
  pub refused_so : (P : ForwardAnswer → Type 0) → ((fault : FaultAt) → Appended old new (forward_refusal fault).text → P (forward_refusal fault)) → IfSome told (λ file. IsRefusal (one_link_in (in_file file)) e old new)
      → IfSome told (λ file. P (forward_answer policy rate file))
  refused_so P each refusal = by_told told refusal
    where
      by_told : (t : Option (List ℕ)) → IfSome t (λ file. IsRefusal (one_link_in (in_file file)) e old new) → IfSome t (λ file. P (forward_answer policy rate file))
      by_told None r = tt
      by_told (Some file) r = subst P (sym (refused policy rate file r.fault r.is)) (each r.fault r.text)
