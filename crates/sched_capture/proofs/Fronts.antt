-- The front of a file in a window, and the contents of the file.
use Rattle.sched_capture.proofs.Prelude.{◌≡◌, List, Some, ℕ, None, Option, arith, sym, subst, ap, ◌∙◌, [], length, ◌++◌, ◌<◌, length-append, nil_from_length, IfSome, rest_of, IsShort, TakesFront, FileContents, in_capture, pcap_ng, IsHeaderFault, header_len, capture_of, in_file, in_ng_capture}
use Rattle.pcapng_defs.specs.Laws.{IsHeaderFront}
use Rattle.pcapng_defs.proofs.Formats.{fronts_tell_formats}

-- Bytes in a window before the bytes left of a file are its front.
file-of : (none held left mid : List ℕ) → none ≡ [] → none ++ left ≡ held ++ mid → left ≡ held ++ mid
file-of none held left mid e same = ap (λ xs. xs ++ left) (sym e) ∙ same

front-of : (none held left mid : List ℕ) → none ≡ [] → none ++ left ≡ held ++ mid → (length held < header_len → none ++ left ≡ held) → IsHeaderFront held left
front-of none held left mid e same short = record {
  rest = mid;
  joined = file-of none held left mid e same;
  enough = λ less. nil_from_length mid (omega (arith, length-append held mid, ap length (sym same ∙ short less)));
}

-- A property of the contents after them, read as pcapng or as a classic capture, holds of the
-- file's contents.
module _ (P : FileContents → Type 0) (none held : List ℕ) (e : none ≡ []) where
  pub as-newer : (left mid : Option (List ℕ)) → TakesFront (rest_of none left) (rest_of held mid) [] → IsShort (rest_of none left) held header_len
      → IsHeaderFault held pcap_ng → IfSome (rest_of held mid) (λ file. P (in_ng_capture file)) → IfSome left (λ file. P (in_file file))
  as-newer None mid same short is h = tt
  as-newer (Some left) None same short is h = absurd same
  as-newer (Some left) (Some mid) same short is h =
      subst P (sym ((fronts_tell_formats held left (front-of none held left mid e same short)).0 is)) (subst (λ file. P (in_ng_capture file)) (sym (file-of none held left mid e same)) h)

  pub as-classic : (left mid : Option (List ℕ)) → TakesFront (rest_of none left) (rest_of held mid) [] → IsShort (rest_of none left) held header_len
      → (IsHeaderFault held pcap_ng → ⊥) → IfSome (rest_of held mid) (λ file. P (in_capture (capture_of file))) → IfSome left (λ file. P (in_file file))
  as-classic None mid same short not h = tt
  as-classic (Some left) None same short not h = absurd same
  as-classic (Some left) (Some mid) same short not h =
      subst P (sym ((fronts_tell_formats held left (front-of none held left mid e same short)).1 not)) (subst (λ file. P (in_capture (capture_of file))) (sym (file-of none held left mid e same)) h)
