-- The outputs of the program over plain queues, followed by the spills of their runs.
use Rattle.block_replay.proofs.Prelude.{refl, ◌≡◌, [], ℕ, ◌∙◌, arith, sym, List, Some, ap, subst, suc, zero, None, inl, inr, ◌++◌, Option, ◌+◌, append-nil, ◌⊎◌, ◌-◌, Ghosts, no_stop, each-follows, one-answer, Answer, IsGiven, refusal, HoldsLeft, UsesNoFabric, IsOutput, forward_run, laid_run, watchers, IsStop, status_code, forward_status, kind_status, no_form, Form, Pacing, check, direct, forward, link, plan, replay, script, soak, via, Event, Topology, IsBlockOutput, shared, Edition}
use Rattle.outside_core.specs.Written.{Appended, AppendedPrefix}
use Rattle.outside_core.proofs.WrittenLaws.{appended_in_turn, prefix_in_turn, prefix_of_longer}
use Rattle.pcap_defs.specs.Contents.{FileContents, no_capture, holds}
use Rattle.pcapng_defs.specs.NgContents.{in_file}
use Rattle.report_core.specs.declared.fault.FaultKind.{FaultKind}
use Rattle.report_core.specs.declared.fault.FaultKind.TheVariants as kind
use Rattle.target_core.specs.declared.target.Target.{Target}
use Rattle.policy_rules.specs.Resolved.{Resolved}
use Rattle.sched_defs.specs.Pace.{Pace, Link}
use Rattle.sched_defs.specs.declared.rate.LinkRate.{LinkRate}
use Rattle.sched_defs.specs.SendTime.{plain_rate}
use Rattle.sched_core.specs.Spills.{raised}
use Rattle.sched_embedded.specs.Fabrics.{FabricRun, run_of, Leaves, LeavesPart, HoldsAfter}
use Rattle.sched_embedded.specs.Laid.{Laid}
use Rattle.sched_capture.specs.SingleLinkType.{one_link_in, link_in}
use Rattle.sched_capture.specs.Answers.{answer_over}
use Rattle.sched_capture.specs.Forwards.{forward_over}
use Rattle.mapcheck_core.specs.declared.fault.MapFault.{MapFault}
use Rattle.mapcheck_core.specs.declared.given.Given.{Given}
use Rattle.tap_core.specs.Lists.{Entry}
use Rattle.replay_app.specs.Behind.{AreTapsLeft, tap_list}
use Rattle.replay_app.specs.Policies.{IsPolicy, IsPolicyRefused}
use Rattle.replay_app.specs.Scripts.{script_pace, ending_status}
use Rattle.replay_app.specs.Stages.{BehindRoom, BehindScript, BehindTarget, BehindTargetText, BehindWords}
use Rattle.replay_app.specs.Targets.{ForTarget}
use Rattle.replay_app.specs.Via.{ForMap, ForTopology, IsMapRefused, IsMapFile, Unbroken, WithRoomAlong, names_of}
use Rattle.replay_app.specs.declared.status.Status.TheVariants.{Done}
use Rattle.replay_app.proofs.CaptureLaws.{whole_part}
use Rattle.replay_app.proofs.NoRuns.{no_run}
use Rattle.block_replay.specs.Behind.{AreBlockTapsLeft}
use Rattle.block_replay.specs.Spills.{counted, run_spills, spills_line, spills_text}

-- ---- a run that ended whole exists
-- if the status is 0, there is a run
record HasRun (a : Answer) : Type 0 where
  there : a.status ≡ 0 → (run : FabricRun) × (a.run ≡ Some run)

refused_status : (k : FaultKind) → status_code (kind_status k) ≡ 0 → ⊥
refused_status kind.Words e = omega (arith, e)
refused_status kind.Policy e = omega (arith, e)
refused_status kind.Target e = omega (arith, e)
refused_status kind.Size e = omega (arith, e)
refused_status kind.Script e = omega (arith, e)
refused_status kind.Capture e = omega (arith, e)
refused_status kind.Tree e = omega (arith, e)
refused_status kind.Map e = omega (arith, e)

refused : (k : FaultKind) (R : ℕ → ℕ → Type 0) (code place : ℕ) → R code place → HasRun (refusal k code place)
refused k R code place h = record { there = λ e. absurd (refused_status k e) }

over_file : (policy : Resolved) (pace : Pace) (file : FileContents) → ending_status (answer_over policy pace file).ending ≡ 0 → (events : List Event) × ((answer_over policy pace file).events ≡ Some events)
over_file policy pace (no_capture fault) e = absurd (omega (arith, e))
over_file policy pace (holds contents) e = (_, refl)

laid : (policy : Resolved) (l : Laid) (pace : Pace) (capture : List ℕ) (watching : List Entry) (a : Answer) → a ≡ laid_run policy l pace capture watching → HasRun a
laid policy l pace capture watching a is = subst HasRun (sym is) (record {
  there = λ e.
      let w = over_file policy pace (in_file capture) e in
      (record { policy = policy.policy; laid = l; events = w.0 }, ap (run_of policy.policy l) w.1);
})

forward_file : (policy : Resolved) (rate : LinkRate) (type : ℕ) (file : FileContents) → status_code (forward_status (forward_over policy rate type file).ending) ≡ 0 → (events : List Event) × ((forward_over policy rate type file).events ≡ Some events)
forward_file policy rate type (no_capture fault) e = absurd (omega (arith, e))
forward_file policy rate type (holds contents) e = (_, refl)

sent : (policy : Resolved) (l : Laid) (rate : LinkRate) (capture : List ℕ) (a : Answer) → a ≡ forward_run policy l rate capture → HasRun a
sent policy l rate capture a is = subst HasRun (sym is) (record {
  there = λ e.
      let w = forward_file policy rate (link_in (in_file capture)) (one_link_in (in_file capture)) e in
      (record { policy = policy.policy; laid = l; events = w.0 }, ap (run_of policy.policy l) w.1);
})

behind_script : (watching : List Entry) (policy : Resolved) (l : Laid) (name capture : List ℕ) (contents : List ℕ → List ℕ) (a : Answer) → BehindScript watching policy l name capture contents a → HasRun a
behind_script watching policy l name capture contents a is =
    each-follows kind.Script _ _ _ HasRun (refused kind.Script _) (λ steps b read. laid policy l (script_pace steps) (contents capture) watching b) a is

behind_room : (watching : List Entry) (policy : Resolved) (l : Laid) (pacing : Pacing) (capture : List ℕ) (contents : List ℕ → List ℕ) (a : Answer) → BehindRoom watching policy l pacing capture contents a → HasRun a
behind_room watching policy l (script e named) capture contents a is = behind_script watching policy l e capture contents a is
behind_room watching policy l (link rate) capture contents a is = laid policy l (Link (plain_rate rate)) (contents capture) watching a is
behind_room watching policy l (forward rate) capture contents a is = sent policy l (plain_rate rate) (contents capture) a is

behind_target : (watching : List Entry) (policy : Resolved) (target : Target) (pacing : Pacing) (capture : List ℕ) (contents : List ℕ → List ℕ) (a : Answer) → BehindTarget watching policy target pacing capture contents a → HasRun a
behind_target watching policy target pacing capture contents a is =
    each-follows kind.Size _ _ _ HasRun (refused kind.Size _) (λ images b placed. behind_room watching policy (record { images = images; arities = target.arities }) pacing capture contents b) a is

behind_text : (watching : List Entry) (policy : Resolved) (target : List ℕ) (pacing : Pacing) (capture : List ℕ) (contents : List ℕ → List ℕ) (a : Answer) → BehindTargetText watching policy target pacing capture contents a → HasRun a
behind_text watching policy target pacing capture contents a is =
    each-follows kind.Target _ _ _ HasRun (refused kind.Target _) (λ read b is_target. behind_target watching policy read pacing capture contents b) a is

behind_words : (watching : List Entry) (latest : Edition) (policy target : List ℕ) (pacing : Pacing) (capture : List ℕ) (contents : List ℕ → List ℕ) (a : Answer) → BehindWords watching latest policy target pacing capture contents a → HasRun a
behind_words watching latest policy target pacing capture contents a is =
    each-follows kind.Policy (IsPolicyRefused latest (contents policy)) (IsPolicy latest (contents policy)) (λ policy_file. BehindTargetText watching policy_file.policy target pacing capture contents) HasRun (refused kind.Policy _)
    (λ policy_file b accepted. behind_text watching policy_file.policy target pacing capture contents b) a is

unbroken : (names : List (List ℕ)) (broken : Option MapFault) (after : Answer → Type 0) → ((a : Answer) → after a → HasRun a) → (a : Answer) → Unbroken names broken after a → HasRun a
unbroken names None after h a is = h a is
unbroken names (Some f) after h a is = record { there = λ e. absurd (omega (arith, e, ap (λ (x : Answer). x.status) is)) }

-- ---- along a given map
module _ (c e : List ℕ) (contents : List ℕ → List ℕ) where
  abbrev ThenRoom : Resolved → Topology → Given → Target → Answer → Type 0
  ThenRoom policy middle given target = WithRoomAlong policy.policy given middle target (λ l. BehindScript [] policy l e c contents)

  then_room : (policy : Resolved) (middle : Topology) (given : Given) (target : Target) (a : Answer) → ThenRoom policy middle given target a → HasRun a
  then_room policy middle given target a is =
      each-follows kind.Size _ _ _ HasRun (refused kind.Size _) (λ images b carried. behind_script [] policy (record { images = images; arities = target.arities }) e c contents b) a is

  module _ (t : List ℕ) where
    abbrev ThenTarget : Resolved → Topology → Given → Answer → Type 0
    ThenTarget policy middle given = ForTarget (contents t) (ThenRoom policy middle given)

    then_target : (policy : Resolved) (middle : Topology) (given : Given) (a : Answer) → ThenTarget policy middle given a → HasRun a
    then_target policy middle given a is = each-follows kind.Target _ _ _ HasRun (refused kind.Target _) (λ target b read. then_room policy middle given target b) a is

    module _ (m : List ℕ) where
      abbrev ThenMap : Resolved → Topology → Answer → Type 0
      ThenMap policy middle = ForMap policy.policy middle (contents m) (ThenTarget policy middle)

      then_map : (policy : Resolved) (middle : Topology) (a : Answer) → ThenMap policy middle a → HasRun a
      then_map policy middle a is =
          each-follows kind.Map (IsMapRefused policy.policy (contents m)) (IsMapFile policy.policy middle (contents m)) (λ map_file. Unbroken (names_of policy.policy) map_file.fault (ThenTarget policy middle map_file.given)) HasRun
          (refused kind.Map _) (λ map_file b read. unbroken (names_of policy.policy) map_file.fault (ThenTarget policy middle map_file.given) (then_target policy middle map_file.given) b) a is

      module _ (g : List ℕ) where
        abbrev ThenTopology : Resolved → Answer → Type 0
        ThenTopology policy = ForTopology (contents g) (ThenMap policy)

        then_topology : (policy : Resolved) (a : Answer) → ThenTopology policy a → HasRun a
        then_topology policy a is = each-follows kind.Tree _ _ _ HasRun (refused kind.Tree _) (λ middle b read. then_map policy middle b) a is

run_there : (form : Form) (contents : List ℕ → List ℕ) (taps : List Entry) → (UsesNoFabric form → ⊥) → (a : Answer) → IsOutput form contents taps a → HasRun a
run_there (replay latest p t c pacing) contents taps used a is = behind_words (watchers pacing taps) latest p t pacing c contents a is
run_there (check latest p) contents taps used a is = absurd (used tt)
run_there (plan latest p t) contents taps used a is = absurd (used tt)
run_there (direct latest p c e) contents taps used a is = absurd (used tt)
run_there (soak load) contents taps used a is = subst HasRun (sym is.is) (record { there = λ e. (_, refl) })
run_there (via latest p g m t c e) contents taps used a is =
    each-follows kind.Policy (IsPolicyRefused latest (contents p)) (IsPolicy latest (contents p)) (λ policy_file. ThenTopology c e contents t m g policy_file.policy) HasRun (refused kind.Policy _)
    (λ policy_file b accepted. then_topology c e contents t m g policy_file.policy b) a is
run_there no_form contents taps used a is = absurd (used tt)

-- ---- texts
-- no spills follow a text whose status isn't 0
not_whole : (status : ℕ) (run : Option FabricRun) → (status ≡ 0 → ⊥) → spills_text status run ≡ []
not_whole zero run other = absurd (other refl)
not_whole (suc n) run other = refl

no_spills : (status : ℕ) → spills_text status None ≡ []
no_spills zero = refl
no_spills (suc n) = refl

whole : (status : ℕ) (run : Option FabricRun) (r : FabricRun) → status ≡ 0 → run ≡ Some r → spills_text status run ≡ spills_line (run_spills r)
whole status run r e f = ap (λ (n : ℕ). spills_text n run) e ∙ ap (spills_text 0) f

risen : (old new more : ℕ) → Some new ≡ raised (Some old) more → new - old ≡ more
risen old new more e = let f : new ≡ old + more = cc in omega (arith, f)

module _ (form : Form) (contents : List ℕ → List ℕ) (taps : List Entry) where
  abbrev First : Answer → Type 0
  First = IsOutput form contents taps

  abbrev Counting : Answer → Type 0
  Counting = IsBlockOutput (shared form) contents taps

  -- ---- no spills follow
  module _ (status : ℕ) (none : (a : Answer) → First a → status ≡ a.status → spills_text a.status a.run ≡ []) (old new : Option (List ℕ)) where
    pub uncounted : IsGiven First status old new → IsGiven Counting status old new
    uncounted (inl w) = inl (record {
      answer = counted w.answer;
      is = record { first = w.answer; is = w.is; counted_is = refl };
      status_is = w.status_is;
      text = subst (λ (xs : List ℕ). Appended old new xs) (sym (ap (λ xs. w.answer.text ++ xs) (none w.answer w.is w.status_is) ∙ append-nil w.answer.text)) w.text;
    })
    uncounted (inr s) = inr (record {
      stop = s.stop;
      part = λ a is. subst (λ (x : Answer). AppendedPrefix old new x.text) (sym is.counted_is) (prefix_of_longer old new is.first.text _ (s.part is.first is.is));
    })

  -- if the status isn't 0
  none_behind_others : (status : ℕ) → (status ≡ 0 → ⊥) → (a : Answer) → First a → status ≡ a.status → spills_text a.status a.run ≡ []
  none_behind_others status other a is e = not_whole a.status a.run (λ z. other (e ∙ z))

  -- if the form uses no fabric
  pub none_behind_unused : UsesNoFabric form → (status : ℕ) → (a : Answer) → First a → status ≡ a.status → spills_text a.status a.run ≡ []
  none_behind_unused unused status a is e = ap (spills_text a.status) (no_run form contents taps unused a is) ∙ no_spills a.status

  -- if no run ended whole through the fabric
  pub none_behind : (status : ℕ) → ((status ≡ 0 → ⊥) ⊎ UsesNoFabric form) → (a : Answer) → First a → status ≡ a.status → spills_text a.status a.run ≡ []
  none_behind status (inl other) = none_behind_others status other
  none_behind status (inr unused) = none_behind_unused unused status

  -- ---- a line with the spills follows
  module _ (line : List ℕ) (behind : (a : Answer) → First a → 0 ≡ a.status → spills_text a.status a.run ≡ line) (old mid new : Option (List ℕ)) where
    counted_whole : IsGiven First 0 old mid → Appended mid new line → IsGiven Counting 0 old new
    counted_whole (inl w) text = inl (record {
      answer = counted w.answer;
      is = record { first = w.answer; is = w.is; counted_is = refl };
      status_is = w.status_is;
      text = subst (λ (xs : List ℕ). Appended old new (w.answer.text ++ xs)) (sym (behind w.answer w.is w.status_is)) (appended_in_turn old mid new w.answer.text line w.text text);
    })
    counted_whole (inr s) text = absurd (no_stop Done s.stop)

    counted_part : (status : ℕ) → IsStop status → IsGiven First 0 old mid → AppendedPrefix mid new line → IsGiven Counting status old new
    counted_part status stop (inl w) text = inr (record {
      stop = stop;
      part = λ a is.
          let e : is.first ≡ w.answer = one-answer form contents taps is.first w.answer is.is w.is in
          let given : AppendedPrefix old new (counted w.answer).text =
          subst (λ (xs : List ℕ). AppendedPrefix old new (w.answer.text ++ xs)) (sym (behind w.answer w.is w.status_is)) (prefix_in_turn old mid new w.answer.text line w.text text) in
          subst (λ (x : Answer). AppendedPrefix old new x.text) (sym (is.counted_is ∙ ap counted e)) given;
    })
    counted_part status stop (inr s) text = absurd (no_stop Done s.stop)

  -- ---- the taps
  pub taps_counted : (status : ℕ) (after : List Entry) → AreTapsLeft form contents status taps after → AreBlockTapsLeft (shared form) contents status taps after
  taps_counted status after left = λ below a is. left below is.first is.is ∙ ap (λ (x : Answer). tap_list form x.shown taps) (sym is.counted_is)

  -- ---- the fabric
  module _ {F : Type 0} (fabrics : Ghosts F) (old new : F) where
    pub fabric_counted : (status : ℕ) → HoldsLeft fabrics First status old new → HoldsLeft fabrics Counting status old new
    fabric_counted status h = record {
      whole = λ below a is. subst (λ (x : Answer). Leaves fabrics x.run old new) (sym is.counted_is) (h.whole below is.first is.is);
      part = λ stop a is. subst (λ (x : Answer). LeavesPart fabrics x.run old new) (sym is.counted_is) (h.part stop is.first is.is);
    }

    -- the result of a run that ended whole is also the result of a prefix of it
    pub fabric_stopped : (end status : ℕ) → IsStop end → status ≡ 0 → HoldsLeft fabrics First status old new → HoldsLeft fabrics Counting end old new
    fabric_stopped end status stopped zero_is h = record {
      whole = λ below. absurd (below stopped);
      part = λ stop a is. subst (λ (x : Answer). LeavesPart fabrics x.run old new) (sym is.counted_is) (whole_part fabrics is.first.run old new (h.whole (λ s. no_stop Done (subst IsStop zero_is s)) is.first is.is));
    }

    -- the spills that are reported are the increase of the count
    spills_behind : (UsesNoFabric form → ⊥) → (before after : ℕ) → fabrics.spilled old ≡ Some before → fabrics.spilled new ≡ Some after → HoldsLeft fabrics First 0 old new
        → (a : Answer) → First a → 0 ≡ a.status → spills_text a.status a.run ≡ spills_line (after - before)
    spills_behind used before after e f h a is zero_is =
        let w = (run_there form contents taps used a is).there (sym zero_is) in
        let leaves : HoldsAfter fabrics w.0 old new = subst (λ (run : Option FabricRun). Leaves fabrics run old new) w.1 (h.whole (no_stop Done) a is) in
        let rise : Some after ≡ raised (Some before) (run_spills w.0) = sym f ∙ leaves.spills ∙ ap (λ (o : Option ℕ). raised o (run_spills w.0)) e in
        whole a.status a.run w.0 (sym zero_is) w.1 ∙ ap spills_line (sym (risen before after (run_spills w.0) rise))

    -- the text that is written if the run ended whole and the line was written, whole or in part
    module _ (used : UsesNoFabric form → ⊥) (before after told : ℕ) (e : fabrics.spilled old ≡ Some before) (f : fabrics.spilled new ≡ Some after) (m : told ≡ after - before) (status : ℕ) (zero_is : status ≡ 0) (h : HoldsLeft fabrics First status old new) (a b c : Option (List ℕ)) (given : IsGiven First status a b) where
      behind-line : (x : Answer) → First x → 0 ≡ x.status → spills_text x.status x.run ≡ spills_line told
      behind-line x is z = spills_behind used before after e f (subst (λ (s : ℕ). HoldsLeft fabrics First s old new) zero_is h) x is z ∙ ap spills_line (sym m)

      at-zero : IsGiven First 0 a b
      at-zero = subst (λ (s : ℕ). IsGiven First s a b) zero_is given

      pub whole_line : Appended b c (spills_line told) → IsGiven Counting status a c
      whole_line text = subst (λ (s : ℕ). IsGiven Counting s a c) (sym zero_is) (counted_whole (spills_line told) behind-line a b c at-zero text)

      pub part_of_line : (end : ℕ) → IsStop end → AppendedPrefix b c (spills_line told) → IsGiven Counting end a c
      part_of_line end stop text = counted_part (spills_line told) behind-line a b c end stop at-zero text
