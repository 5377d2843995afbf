-- The state of a fabric after a run through it.
use Rattle.sched_capture.proofs.Prelude.{◌≡◌, List, Some, ℕ, None, Option, arith, subst, ap, ◌∙◌, ◌+◌, Result, Err, Ok, IfSome, OnErr, OnOk, Stop, FileContents, holds, no_capture, in_file, Policy, Resolved, outcomes, Event, after, asked_in, pushed_in, Left, start, Ending, LeavesPart, Leaves, run_of, FabricRun, HoldsAfter, Laid, on_err_given, pace_of, answer_over, paced_answer, paced_through}
use Rattle.embed_defs.specs.Images.{image_map}
use Rattle.embed_defs.specs.Lift.{IsLift}
use Rattle.fabric_core.specs.declared.fabric.Fabric.{Ghosts}
use Rattle.sched_core.specs.Origins.{Origin}
use Rattle.sched_core.specs.Spills.{raised, spills_in}
use Rattle.sched_run.specs.declared.pace.Pace.{Pace}
use Rattle.sched_capture.specs.Arrivals.{Begins}
use Rattle.sched_embedded.specs.declared.embedded.Embedded.{Embedded}
use Rattle.sched_embedded.specs.Embedded.{EmbeddedStands, origin_of}

module _ {F : Type 0} (fabrics : Ghosts F) (policy : Policy) (laid : Laid) (c : Embedded F) (old mid : F)
    (origin : origin_of c ≡ record { images = laid.images; arities = laid.arities; pushes = fabrics.pushed old; pops = fabrics.popped old })
    (no_pushes : c.own.pushes ≡ 0) (no_departures : c.own.departures ≡ 0) (spills : fabrics.spilled mid ≡ fabrics.spilled old) where
  -- the fabric after these events, by a scheduler that had made none before
  pub holds_after : (events : List Event) (c' : Embedded F) (new : F) → EmbeddedStands fabrics c' new (after policy events (start policy)) → c'.own.pushes ≡ c.own.pushes + pushed_in (outcomes policy events (start policy)) →
      c'.own.departures ≡ c.own.departures + asked_in (outcomes policy events (start policy)) → Some (origin_of c') ≡ Some (origin_of c) → fabrics.spilled new ≡ raised (fabrics.spilled mid) (spills_in (Some (origin_of c).images) policy events (start policy)) →
      HoldsAfter fabrics (record { policy = policy; laid = laid; events = events }) old new
  holds_after events c' new stood pushed asked stays spilled =
      let one : origin_of c' ≡ origin_of c = cc in
      let same : origin_of c' ≡ record { images = laid.images; arities = laid.arities; pushes = fabrics.pushed old; pops = fabrics.popped old } = one ∙ origin in
      let pushes : c'.pushes_before ≡ fabrics.pushed old = ap (λ (o : Origin). o.pushes) same in
      let pops : c'.pops_before ≡ fabrics.popped old = ap (λ (o : Origin). o.pops) same in
      record {
        shape = stood.shape ∙ ap (λ (o : Origin). o.arities) same;
        lifted = subst (λ (o : Origin). IsLift (after policy events (start policy)).tree (image_map o.images) (fabrics.queues new)) same stood.lifted;
        pushes = omega (arith, stood.pushes, pushes, pushed, no_pushes);
        pops = omega (arith, stood.pops, pops, asked, no_departures);
        spills = spilled ∙ ap (λ (t : Option ℕ). raised t (spills_in (Some (origin_of c).images) policy events (start policy))) spills
            ∙ ap (λ (o : Origin). raised (fabrics.spilled old) (spills_in (Some o.images) policy events (start policy))) origin;
      }

-- ---- a whole run, and a part of one
module _ {F : Type 0} (fabrics : Ghosts F) (policy : Resolved) (laid : Laid) (pace : Pace) where
  -- a property of the run over the packets left after the header is one of the run of the file
  of_contents : (file : FileContents) (left : Option Left) (P : Option FabricRun → Type 0) → Begins policy file left → IfSome left (λ l. P (Some (paced_through policy.policy laid pace l)))
      → P (run_of policy.policy laid (answer_over policy (pace_of pace) file).events)
  of_contents (no_capture fault) left P begins each = absurd begins
  of_contents (holds contents) left P begins each = rw begins at each

  of_file : (file : List ℕ) (left : Option Left) (P : Option FabricRun → Type 0) → Begins policy (in_file file) left → IfSome left (λ l. P (Some (paced_through policy.policy laid pace l)))
      → P (run_of policy.policy laid (paced_answer policy (pace_of pace) file).events)
  of_file file left P begins each = of_contents (in_file file) left P begins each

  pub left_by : (r : Result Ending Stop) (told : Option (List ℕ)) (left : Option Left) (old new : F) → IfSome told (λ file. Begins policy (in_file file) left) →
      OnOk r (IfSome left (λ l. Leaves fabrics (Some (paced_through policy.policy laid pace l)) old new)) → OnOk r (IfSome told (λ file. Leaves fabrics (run_of policy.policy laid (paced_answer policy (pace_of pace) file).events) old new))
  left_by (Err stop) told left old new begins each = tt
  left_by (Ok e) None left old new begins each = tt
  left_by (Ok e) (Some file) left old new begins each = of_file file left (λ run. Leaves fabrics run old new) begins each

  pub left_amid : (r : Result Ending Stop) (told : Option (List ℕ)) (left : Option Left) (old new : F) → IfSome told (λ file. Begins policy (in_file file) left) →
      OnErr r (IfSome left (λ l. LeavesPart fabrics (Some (paced_through policy.policy laid pace l)) old new)) → OnErr r (IfSome told (λ file. LeavesPart fabrics (run_of policy.policy laid (paced_answer policy (pace_of pace) file).events) old new))
  left_amid (Ok e) told left old new begins each = tt
  left_amid (Err stop) None left old new begins each = tt
  left_amid (Err stop) (Some file) left old new begins each = of_file file left (λ run. LeavesPart fabrics run old new) begins each

-- a property of all packets left holds for a run that stopped before it began
pub left_before : {A : Type 0} (r : Result A Stop) (left : Option Left) (P : Left → Type 0) → ((l : Left) → P l) → OnErr r (IfSome left P)
left_before r left P each = on_err_given r (IfSome left P) (each_left left)
  where
    each_left : (o : Option Left) → IfSome o P
    each_left None = tt
    each_left (Some l) = each l
