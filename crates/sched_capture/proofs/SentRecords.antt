-- The captured bytes that a departure leaves kept, and its record.
use Rattle.sched_capture.proofs.Prelude.{◌≡◌, List, Some, ℕ, None, Option, sym, subst, ap, ◌∙◌, [], refl, ◌∷◌, Bool, false, length, true, ◌≤◌, ◌++◌, ◌<◌, if◌then◌else◌, ◌^◌, not, ◌%◌, append-nil, nat_lt, ◌/◌, ◌||◌, IfSome, option_map, Appended, Packet, most_captured, Policy, text_of, Departed, Captured, TellsRecords, bytes_kept, Forwarding}
use Rattle.std.proofs.lemmas.Bool.{lt-ltb}
use Rattle.pcap_core.specs.Bytes.{record_bytes}
use Rattle.tree_defs.specs.Tree.{Address}
use Rattle.forward_defs.specs.Sendings.{late}
use Rattle.forward_defs.specs.Keeping.{without_bytes, record_for}

-- released bytes are as short as all kept ones
pub short_of : {V : Type 0} (items : V → List ℕ) (o r : Option V) → r ≡ o → ((bytes : List ℕ) → option_map items o ≡ Some bytes → length bytes ≤ most_captured) → IfSome r (λ v. length (items v) ≤ most_captured)
short_of {V} items o r is short = subst (λ (x : Option V). IfSome x (λ v. length (items v) ≤ most_captured)) (sym is) (by o short)
  where
    by : (x : Option V) → ((bytes : List ℕ) → option_map items x ≡ Some bytes → length bytes ≤ most_captured) → IfSome x (λ v. length (items v) ≤ most_captured)
    by None short = tt
    by (Some v) short = short (items v) refl

on_time : (t u : Bool) → u ≡ true → t ≡ (t || not u)
on_time true u is = refl
on_time false u is = sym (ap not is)

on_time_record : (t : Bool) → t ≡ true → (bytes : List ℕ) → (if t then bytes else []) ++ [] ≡ bytes
on_time_record t is bytes = ap (λ (u : Bool). (if u then bytes else []) ++ []) is ∙ append-nil bytes

-- a departure on time, of a packet whose captured bytes were kept
pub told_one : (captured : Captured) (f g : Forwarding) (a b : Option (List ℕ)) (policy : Policy) (event : ℕ) (p : Packet) (place : Address) (ranks : List ℕ) (start : ℕ) (bytes : List ℕ) (number len : ℕ)
    → number ≡ p.number → len ≡ p.len → start < late → Some bytes ≡ bytes_kept f number → ((n : ℕ) → bytes_kept g n ≡ without_bytes (bytes_kept f) number n) → g.late ≡ f.late
    → Appended (text_of a f.gathered) (text_of b g.gathered) (record_bytes (start / 10 ^ 9) (start % 10 ^ 9) len bytes)
    → TellsRecords captured f a policy event (Departed p place ranks (Some start) ∷ []) g b
told_one captured f g a b policy event p place ranks start bytes number len own own_len early kept rest same tells =
    let test : nat_lt start late ≡ true = lt-ltb start late early in
    record {
      keeps = record {
        kept = λ n. rest n ∙ ap (λ (m : ℕ). without_bytes (bytes_kept f) m n) own;
        late = same ∙ on_time f.late (nat_lt start late) test;
      };
      told = subst (Appended (text_of a f.gathered) (text_of b g.gathered))
          (ap (λ (n : ℕ). record_bytes (start / 10 ^ 9) (start % 10 ^ 9) n bytes) own_len
          ∙ sym (on_time_record (nat_lt start late) test (record_bytes (start / 10 ^ 9) (start % 10 ^ 9) p.len bytes))
          ∙ ap (λ (o : Option (List ℕ)). record_for (Some start) p.len o ++ []) (kept ∙ ap (bytes_kept f) own)) tells;
    }
