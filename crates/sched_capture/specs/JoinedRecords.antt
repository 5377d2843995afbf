-- Records written in two calls are those written in one.
use Rattle.std.proofs.Common.{◌≡◌, ℕ, ◌||◌, ◌==◌, if◌then◌else◌, Option, None, Some, List, [], ◌∷◌, ◌++◌, refl, sym, ap, ◌∙◌, subst, append-nil}
use Rattle.outside_core.specs.Written.{Appended}
use Rattle.outside_core.proofs.WrittenLaws.{appended_nothing, appended_in_turn}
use Rattle.outside_core.specs.Text.{IsCut}
use Rattle.report_core.specs.Gathered.{text_of}
use Rattle.report_core.proofs.TextLaws.{IsCut-append, IsCut-longer}
use Rattle.sched_defs.specs.Packets.{Captured}
use Rattle.sched_defs.specs.Events.{Outcome, Arrived, Departed, Dropped, Empty}
use Rattle.forward_defs.specs.Sendings.{is_late}
use Rattle.sched_run.specs.Recording.{AreJoined}
use Rattle.sched_run.specs.Lines.{cut_unwritten}
use Rattle.forward_defs.specs.Keeping.{Keeping, keeps, record_of, record_for, kept_behind, records_of}
use Rattle.forward_defs.proofs.JoinedOutcomes.{kept_behind-append, records_of-append}
use Rattle.sched_capture.specs.declared.forwarding.Forwarding.{Forwarding}
use Rattle.sched_capture.specs.Forwarding.{keeping_of, HoldsTheSame, TellsRecords, CutsRecords}

-- ---- recorders that keep the same bytes write the same records
same_keeps : (captured : Captured) (k l : Keeping) (o : Outcome) → HoldsTheSame k l → HoldsTheSame (keeps captured k o) (keeps captured l o)
same_keeps captured k l (Arrived p a ranks) same = record { kept = λ n. ap (λ (x : Option (List ℕ)). if n == p.number then Some (captured p.number) else x) (same.kept n); late = same.late }
same_keeps captured k l (Departed p a ranks start) same = record { kept = λ n. ap (λ (x : Option (List ℕ)). if n == p.number then None else x) (same.kept n); late = ap (λ b. b || is_late start) same.late }
same_keeps captured k l (Dropped p a) same = same
same_keeps captured k l Empty same = same

same_record : (k l : Keeping) (o : Outcome) → HoldsTheSame k l → record_of k o ≡ record_of l o
same_record k l (Arrived p a ranks) same = refl
same_record k l (Departed p a ranks start) same = ap (record_for start p.len) (same.kept p.number)
same_record k l (Dropped p a) same = refl
same_record k l Empty same = refl

pub same_behind : (captured : Captured) (k l : Keeping) (os : List Outcome) → HoldsTheSame k l → HoldsTheSame (kept_behind captured k os) (kept_behind captured l os)
same_behind captured k l [] same = same
same_behind captured k l (o ∷ os) same = same_behind captured (keeps captured k o) (keeps captured l o) os (same_keeps captured k l o same)

pub same_records : (captured : Captured) (k l : Keeping) (os : List Outcome) → HoldsTheSame k l → records_of captured k os ≡ records_of captured l os
same_records captured k l [] same = refl
same_records captured k l (o ∷ os) same =
    ap (λ (x : List ℕ). x ++ records_of captured (keeps captured k o) os) (same_record k l o same)
    ∙ ap (λ (x : List ℕ). record_of l o ++ x) (same_records captured (keeps captured k o) (keeps captured l o) os (same_keeps captured k l o same))

same_then : (k l m : Keeping) → HoldsTheSame k l → HoldsTheSame l m → HoldsTheSame k m
same_then k l m first second = record { kept = λ n. first.kept n ∙ second.kept n; late = first.late ∙ second.late }

-- ---- consecutive outcomes
-- the records of later outcomes follow, by the bytes kept at that point
more_records : (captured : Captured) (k l : Keeping) (os ps : List Outcome) → HoldsTheSame l (kept_behind captured k os) → records_of captured k os ++ records_of captured l ps ≡ records_of captured k (os ++ ps)
more_records captured k l os ps same =
    ap (λ (x : List ℕ). records_of captured k os ++ x) (same_records captured l (kept_behind captured k os) ps same) ∙ sym (records_of-append captured k os ps)

pub records_are_joined : (captured : Captured) → AreJoined (TellsRecords captured) (CutsRecords captured)
records_are_joined captured = record {
  none = λ policy event f a. record { keeps = record { kept = λ n. refl; late = refl }; told = appended_nothing (text_of a f.gathered) };
  both = λ policy event os ps f g h a b c first second.
      let k = keeping_of f in
      record {
        keeps = subst (HoldsTheSame (keeping_of h)) (sym (kept_behind-append captured k os ps))
            (same_then (keeping_of h) (kept_behind captured (keeping_of g) ps) (kept_behind captured (kept_behind captured k os) ps) second.keeps (same_behind captured (keeping_of g) (kept_behind captured k os) ps first.keeps));
        told = subst (Appended (text_of a f.gathered) (text_of c h.gathered)) (more_records captured k (keeping_of g) os ps first.keeps)
            (appended_in_turn (text_of a f.gathered) (text_of b g.gathered) (text_of c h.gathered) (records_of captured (keeping_of f) os) (records_of captured (keeping_of g) ps) first.told second.told);
      };
  written = λ policy event os f g a b all. subst (λ (l : List ℕ). IsCut (text_of a f.gathered) l b) (append-nil (records_of captured (keeping_of f) os))
      (IsCut-append (text_of a f.gathered) (text_of b g.gathered) b (records_of captured (keeping_of f) os) [] all.told (cut_unwritten b g.gathered.unwritten []));
  longer = λ policy event os ps f a b cut. subst (λ (l : List ℕ). IsCut (text_of a f.gathered) l b) (sym (records_of-append captured (keeping_of f) os ps))
      (IsCut-longer (text_of a f.gathered) b (records_of captured (keeping_of f) os) (records_of captured (kept_behind captured (keeping_of f) os) ps) cut);
  later = λ policy event os ps f g a b c first cut. subst (λ (l : List ℕ). IsCut (text_of a f.gathered) l c) (more_records captured (keeping_of f) (keeping_of g) os ps first.keeps)
      (IsCut-append (text_of a f.gathered) (text_of b g.gathered) c (records_of captured (keeping_of f) os) (records_of captured (keeping_of g) ps) first.told cut);
}

-- and so they are whatever is known of the captured bytes
pub records_heard : (H : Captured → Type 0) → AreJoined {W = Forwarding} (λ w a policy event os v b. (bytes : Captured) → H bytes → TellsRecords bytes w a policy event os v b)
    (λ w a policy event os b. (bytes : Captured) → H bytes → CutsRecords bytes w a policy event os b)
records_heard H = record {
  none = λ policy event w a bytes h. (records_are_joined bytes).none policy event w a;
  both = λ policy event os ps w v x a b c first second bytes h. (records_are_joined bytes).both policy event os ps w v x a b c (first bytes h) (second bytes h);
  written = λ policy event os w v a b all bytes h. (records_are_joined bytes).written policy event os w v a b (all bytes h);
  longer = λ policy event os ps w a b cut bytes h. (records_are_joined bytes).longer policy event os ps w a b (cut bytes h);
  later = λ policy event os ps w v a b c first cut bytes h. (records_are_joined bytes).later policy event os ps w v a b c (first bytes h) (cut bytes h);
}
