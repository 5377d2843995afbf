-- A classic and a pcapng file whose packets are equal.
use Rattle.pcapng_defs.proofs.Prelude.{List, refl, ℕ, ◌≡◌, ap, ◌∙◌, None, Some, sym, at_start, AlikeFilesHoldTheSame, BlockFront, found, broken, nothing, Reading, at_front, front_of, reading_of, ng_capture_of, in_either, in_ng_capture, behind_front, block_fault_at, contents_read}
use Rattle.std.specs.Prelude.{option_map}
use Rattle.pcap_defs.specs.Contents.{holds}
use Rattle.pcapng_defs.proofs.Readings.{goes_block_by_block}

-- a file that is read without a fault is a capture
whole-holds : (front : BlockFront) (file : List ℕ) → front_of at_start file ≡ front → (ng_capture_of file).fault ≡ None → behind_front front (ng_capture_of file) ≡ holds (contents_read (ng_capture_of file))
whole-holds nothing file e whole = refl
whole-holds (broken fault) file e whole =
    let ends : (ng_capture_of file).fault ≡ Some fault = ap (λ (r : Reading). r.fault) (goes_block_by_block at_start file ∙ ap (at_front reading_of at_start) e) in
    absurd (cc)
whole-holds (found packet after others) file e whole = refl

pub alike_files : AlikeFilesHoldTheSame
alike_files file ng_file alike =
    ap (λ capture. in_either capture (in_ng_capture file)) alike.classic
    ∙ ap (λ packets. holds (record { packets = packets; fault = None })) (sym alike.same)
    ∙ ap (λ fault. holds (record { packets = (ng_capture_of ng_file).packets; fault = option_map block_fault_at fault })) (sym alike.whole)
    ∙ sym (whole-holds (front_of at_start ng_file) ng_file refl alike.whole)
    ∙ ap (λ capture. in_either capture (in_ng_capture ng_file)) (sym alike.begins)
