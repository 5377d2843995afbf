use Rattle.sched_capture.proofs.Prelude.{ap, ◌∙◌, IfSome_then, err_from_is_err_and, cut_part, cut_end, whole_end, forward_events, forward_ending, captures_of, there}
use Rattle.sched_capture.specs.SingleLinkType.{left_of}
use Rattle.sched_run.proofs.JoinedEvents.{made_all}
use Rattle.sched_capture.specs.JoinedRecords.{records_heard}
use Rattle.sched_capture.proofs.FromStart.{stand_at_start}
use Rattle.sched_capture.proofs.ForwardRuns.{stops, forwards}
use Rattle.sched_capture.proofs.departures.forward_over.Goals as goal

pub play_link-requires-clause-stands : goal.play_link-requires-clause-stands
play_link-requires-clause-stands g c =
    let r = c.requires in
    stand_at_start g.C.Scheduler.stands _ c.args.policy.now.policy _ _ _ r.start.policy_is (rw r.start.policy_is at r.start.set.accepted) r.start.stands

pub returns-in_err-ending-clause-part : goal.returns-in_err-ending-clause-part
returns-in_err-ending-clause-part g c =
    let p = err_from_is_err_and c.from_residual.result c.from_residual.ensures.1 in
    let r = c.requires in
    let packets = c.args.packets.now in
    let file = g.S.Shelf.left c.args.shelf.now in
    let stopped = stops g.C.Scheduler _ (captures_of packets file) (records_heard (captures_of packets file)) (record { all = λ policy event os f h a b is bytes known. is bytes known; part = λ policy event os f a b is bytes known. is bytes known })
    c.args.policy.now.policy (rw r.start.policy_is at r.start.set.accepted) c.args.rate _ r.start.stands r.unused.nothing (left_of packets file) (there packets file) _ _ _ (rw r.start.policy_is at c.in_err-ending.ensures.err) in
    rw p.1 (IfSome_then (left_of packets file) stopped (λ l short captured known. cut_part _ _ _ _ r.unused.none_gathered c.play_link.ensures.keeps.kept_sink.begins (short.cut captured known)))

pub returns-in_err-ending-clause-amid : goal.returns-in_err-ending-clause-amid
returns-in_err-ending-clause-amid g c =
    let p = err_from_is_err_and c.from_residual.result c.from_residual.ensures.1 in
    let r = c.requires in
    let packets = c.args.packets.now in
    let file = g.S.Shelf.left c.args.shelf.now in
    let stopped = stops g.C.Scheduler _ (captures_of packets file) (records_heard (captures_of packets file)) (record { all = λ policy event os f h a b is bytes known. is bytes known; part = λ policy event os f a b is bytes known. is bytes known })
    c.args.policy.now.policy (rw r.start.policy_is at r.start.set.accepted) c.args.rate _ r.start.stands r.unused.nothing (left_of packets file) (there packets file) _ _ _ (rw r.start.policy_is at c.in_err-ending.ensures.err) in
    rw p.1 (IfSome_then (left_of packets file) stopped (λ l short. short.made))

pub returns-in_err-finish-clause-part : goal.returns-in_err-finish-clause-part
returns-in_err-finish-clause-part g c =
    let p = err_from_is_err_and c.from_residual-in_err-finish.result c.from_residual-in_err-finish.ensures.1 in
    let r = c.requires in
    let packets = c.args.packets.now in
    let file = g.S.Shelf.left c.args.shelf.now in
    let whole = forwards g.C.Scheduler _ (captures_of packets file) (records_heard (captures_of packets file)) (record { all = λ policy event os f h a b is bytes known. is bytes known; part = λ policy event os f a b is bytes known. is bytes known })
    c.args.policy.now.policy (rw r.start.policy_is at r.start.set.accepted) c.args.rate _ r.start.stands r.unused.nothing (left_of packets file) (there packets file) c.in_ok-ending.ending _ c.in_ok-ending.ensures.ends.over (rw r.start.policy_is at c.in_ok-ending.ensures.ok) in
    rw p.1 (IfSome_then (left_of packets file) whole (λ l told captured known. cut_end _ _ _ _ _ _ r.unused.none_gathered c.play_link.ensures.keeps.kept_sink.begins c.in_err-finish.ensures.kept.begins (told.records captured known) c.in_err-finish.ensures.cut))

pub returns-in_err-finish-clause-amid : goal.returns-in_err-finish-clause-amid
returns-in_err-finish-clause-amid g c =
    let p = err_from_is_err_and c.from_residual-in_err-finish.result c.from_residual-in_err-finish.ensures.1 in
    let r = c.requires in
    let packets = c.args.packets.now in
    let file = g.S.Shelf.left c.args.shelf.now in
    let whole = forwards g.C.Scheduler _ (captures_of packets file) (records_heard (captures_of packets file)) (record { all = λ policy event os f h a b is bytes known. is bytes known; part = λ policy event os f a b is bytes known. is bytes known })
    c.args.policy.now.policy (rw r.start.policy_is at r.start.set.accepted) c.args.rate _ r.start.stands r.unused.nothing (left_of packets file) (there packets file) c.in_ok-ending.ending _ c.in_ok-ending.ensures.ends.over (rw r.start.policy_is at c.in_ok-ending.ensures.ok) in
    rw p.1 (IfSome_then (left_of packets file) whole (λ l told. made_all g.C.Scheduler c.args.policy.now.policy (forward_events c.args.policy.now.policy c.args.rate l) told.made))

pub returns-clause-ending : goal.returns-clause-ending
returns-clause-ending g c =
    let r = c.requires in
    let packets = c.args.packets.now in
    let file = g.S.Shelf.left c.args.shelf.now in
    let whole = forwards g.C.Scheduler _ (captures_of packets file) (records_heard (captures_of packets file)) (record { all = λ policy event os f h a b is bytes known. is bytes known; part = λ policy event os f a b is bytes known. is bytes known })
    c.args.policy.now.policy (rw r.start.policy_is at r.start.set.accepted) c.args.rate _ r.start.stands r.unused.nothing (left_of packets file) (there packets file) c.in_ok-ending.ending _ c.in_ok-ending.ensures.ends.over (rw r.start.policy_is at c.in_ok-ending.ensures.ok) in
    IfSome_then (left_of packets file) whole (λ l told link captured. c.ending_of.ensures ∙ ap forward_ending told.ends)

pub returns-clause-text : goal.returns-clause-text
returns-clause-text g c =
    let r = c.requires in
    let packets = c.args.packets.now in
    let file = g.S.Shelf.left c.args.shelf.now in
    let whole = forwards g.C.Scheduler _ (captures_of packets file) (records_heard (captures_of packets file)) (record { all = λ policy event os f h a b is bytes known. is bytes known; part = λ policy event os f a b is bytes known. is bytes known })
    c.args.policy.now.policy (rw r.start.policy_is at r.start.set.accepted) c.args.rate _ r.start.stands r.unused.nothing (left_of packets file) (there packets file) c.in_ok-ending.ending _ c.in_ok-ending.ensures.ends.over (rw r.start.policy_is at c.in_ok-ending.ensures.ok) in
    IfSome_then (left_of packets file) whole (λ l told captured known. whole_end _ _ _ _ _ _ r.unused.none_gathered (told.records captured known) c.in_ok-finish.ensures.whole)

pub returns-clause-state : goal.returns-clause-state
returns-clause-state g c =
    let r = c.requires in
    let packets = c.args.packets.now in
    let file = g.S.Shelf.left c.args.shelf.now in
    let whole = forwards g.C.Scheduler _ (captures_of packets file) (records_heard (captures_of packets file)) (record { all = λ policy event os f h a b is bytes known. is bytes known; part = λ policy event os f a b is bytes known. is bytes known })
    c.args.policy.now.policy (rw r.start.policy_is at r.start.set.accepted) c.args.rate _ r.start.stands r.unused.nothing (left_of packets file) (there packets file) c.in_ok-ending.ending _ c.in_ok-ending.ensures.ends.over (rw r.start.policy_is at c.in_ok-ending.ensures.ok) in
    IfSome_then (left_of packets file) whole (λ l told. told.made)
