-- Captures that are rejected before their departures are written.
use Rattle.sched_capture.proofs.Prelude.{List, Some, ℕ, None, Option, Result, Err, Ok, IfSome_then, on_err_weaker, IfSome, OnErr, IfErr, prefix_of_nothing, AppendedPrefix, Stop, Opens, FileContents, holds, no_capture, Contents, in_file, Resolved, Ending, LinkRate, IsRefusalPart, forward_over, forward_answer, one_link_in, link_in, EachFileOf}
use Rattle.sched_capture.proofs.Refusals.{nothing_part}

-- a property of each file with these contents left is one of the file that was begun
pub of_file : {X : Type 0} (r : Result X (Result Ending Stop)) (told : Option (List ℕ)) (left : Option Contents) (P : FileContents → Type 0) → IfSome told (λ file. Opens (in_file file) left)
    → IfErr r (λ answer. OnErr answer (EachFileOf left P)) → IfErr r (λ answer. OnErr answer (IfSome told (λ file. P (in_file file))))
of_file (Ok x) told left P opens each = tt
of_file (Err (Ok e)) told left P opens each = tt
of_file (Err (Err stop)) None left P opens each = tt
of_file (Err (Err stop)) (Some file) left P opens each = each (in_file file) opens

-- a prefix written before the capture is begun is one for its packets of one link type
part_of_one_link : (file : FileContents) (old new : Option (List ℕ)) → IsRefusalPart file old new → IsRefusalPart (one_link_in file) old new
part_of_one_link (no_capture fault) old new part = part
part_of_one_link (holds contents) old new nothing = nothing_part (one_link_in (holds contents)) old new nothing

pub part_of_file : (answer : Result Ending Stop) (told old new : Option (List ℕ)) → OnErr answer (IfSome told (λ file. IsRefusalPart (in_file file) old new))
    → OnErr answer (IfSome told (λ file. IsRefusalPart (one_link_in (in_file file)) old new))
part_of_file answer told old new = on_err_weaker answer (λ all. IfSome_then told all (λ file part. part_of_one_link (in_file file) old new part))

-- and so it is a prefix of the answer
part_of_over : (policy : Resolved) (rate : LinkRate) (link : ℕ) (file : FileContents) (old new : Option (List ℕ)) → IsRefusalPart file old new → AppendedPrefix old new (forward_over policy rate link file).text
part_of_over policy rate link (no_capture fault) old new part = part
part_of_over policy rate link (holds contents) old new nothing = prefix_of_nothing old new (forward_over policy rate link (holds contents)).text nothing

pub part_of_answer : (policy : Resolved) (rate : LinkRate) (told old new : Option (List ℕ)) → IfSome told (λ file. IsRefusalPart (one_link_in (in_file file)) old new)
    → IfSome told (λ file. AppendedPrefix old new (forward_answer policy rate file).text)
part_of_answer policy rate told old new all = IfSome_then told all (λ file part. part_of_over policy rate (link_in (in_file file)) (one_link_in (in_file file)) old new part)
