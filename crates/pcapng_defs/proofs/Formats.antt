-- The bytes at the front of a file determine its format.
use Rattle.pcapng_defs.proofs.Prelude.{List, refl, ℕ, ◌≡◌, ap, arith, length, ◌∙◌, ◌≤◌, Bool, sym, [], subst, true, ◌++◌, ◌<◌, leb, false, length-append, leb-true, leb-false, take-append-le, append-nil, FrontsTellFormats, IsHeaderFront, in_either, in_ng_capture}
use Rattle.pcap_defs.specs.Fault.{header_cut, bad_magic, pcap_ng, version, record_cut, data_cut, record_long, too_many}
use Rattle.pcap_defs.specs.Header.{header_len, IsHeaderFault}
use Rattle.pcap_defs.specs.Reading.{Capture, refused, packets, capture_of}
use Rattle.pcap_defs.specs.Contents.{FileContents, in_capture}
use Rattle.pcap_defs.proofs.ReadingLaws.{reads_refusals}

whole-newer : (front rest : List ℕ) → IsHeaderFault front pcap_ng → IsHeaderFault (front ++ rest) pcap_ng
whole-newer front rest h =
    (omega (arith, h.0, length-append front rest), take-append-le 4 front rest (omega (arith, h.0)) ∙ h.1)

front-newer : (front rest : List ℕ) (long : Bool) → leb header_len (length front) ≡ long → (length front < header_len → rest ≡ []) → IsHeaderFault (front ++ rest) pcap_ng → IsHeaderFault front pcap_ng
front-newer front rest true is enough h =
    let size : header_len ≤ length front = leb-true header_len (length front) is in
    (size, sym (take-append-le 4 front rest (omega (arith, size))) ∙ h.1)
front-newer front rest false is enough h =
    subst (λ xs. IsHeaderFault xs pcap_ng) (ap (λ ys. front ++ ys) (enough (leb-false header_len (length front) is)) ∙ append-nil front) h

-- a file that isn't rejected as pcapng is the classic capture
not-newer : (c : Capture) (blocks : FileContents) → (c ≡ refused pcap_ng → ⊥) → in_either c blocks ≡ in_capture c
not-newer (refused header_cut) blocks not = refl
not-newer (refused bad_magic) blocks not = refl
not-newer (refused pcap_ng) blocks not = absurd (not refl)
not-newer (refused version) blocks not = refl
not-newer (refused (record_cut n)) blocks not = refl
not-newer (refused (data_cut n)) blocks not = refl
not-newer (refused (record_long n)) blocks not = refl
not-newer (refused too_many) blocks not = refl
not-newer (packets head records fault) blocks not = refl

of-front : (front file : List ℕ) (is : IsHeaderFront front file) → IsHeaderFault file pcap_ng → IsHeaderFault front pcap_ng
of-front front file is h =
    front-newer front is.rest (leb header_len (length front)) refl is.enough (subst (λ xs. IsHeaderFault xs pcap_ng) is.joined h)

pub fronts_tell_formats : FrontsTellFormats
fronts_tell_formats front file is = (
  λ newer. ap (λ c. in_either c (in_ng_capture file)) ((reads_refusals pcap_ng file).0 (subst (λ xs. IsHeaderFault xs pcap_ng) (sym is.joined) (whole-newer front is.rest newer))),
  λ not. not-newer (capture_of file) (in_ng_capture file) (λ e. not (of-front front file is ((reads_refusals pcap_ng file).1 e))),
)
