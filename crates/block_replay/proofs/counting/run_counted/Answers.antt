use Rattle.block_replay.proofs.Prelude.{refl, ◌≡◌, arith, sym, subst, ◌-◌, is_stop, IsStop, form_up_to}
use Rattle.block_replay.proofs.Counted.{uncounted, none_behind, fabric_counted, fabric_stopped, taps_counted, whole_line, part_of_line}
use Rattle.block_replay.proofs.counting.run_counted.Goals as goal

pub returns-then-not-ended_whole-clause-told : goal.returns-then-not-ended_whole-clause-told
returns-then-not-ended_whole-clause-told g c = λ contents told.
    let form = form_up_to c.args.latest c.args.words.now in
    let status = c.run_to-status.result in
    let other = c.ended_whole.ensures.untold (let f = c.if-not-ended_whole.true in cc) in
    let end = c.run_to-status.ensures.told contents told in
    record {
      answer = uncounted form contents _ status (none_behind form contents _ status other) _ _ end.answer;
      fabric = fabric_counted form contents _ _ c.args.fabric.now c.run_to-status.new.fabric status end.fabric;
      taps = taps_counted form contents _ status _ end.taps;
    }

pub returns-in-Ok-clause-told : goal.returns-in-Ok-clause-told
returns-in-Ok-clause-told g c = λ contents told.
    let form = form_up_to c.args.latest c.args.words.now in
    let status = c.run_to-status.result in
    let t = c.ended_whole.ensures.told (let f = c.if-not-ended_whole.false in cc) in
    let before = c.args.fabric.now in
    let after = c.run_to-status.new.fabric in
    let rise : c.saturating_sub.result ≡ after.spilled - before.spilled = omega (arith, c.saturating_sub.ensures, c.spills.ensures, c.spills-before.ensures) in
    let end = c.run_to-status.ensures.told contents told in
    record {
      answer = whole_line form contents _ _ before after t.1 before.spilled after.spilled c.saturating_sub.result refl refl rise status t.0 end.fabric _ _ _ end.answer c.in-Ok.ensures.text;
      fabric = fabric_counted form contents _ _ before after status end.fabric;
      taps = taps_counted form contents _ status _ end.taps;
    }

pub returns-in-Err-clause-told : goal.returns-in-Err-clause-told
returns-in-Err-clause-told g c = λ contents told.
    let form = form_up_to c.args.latest c.args.words.now in
    let status = c.run_to-status.result in
    let t = c.ended_whole.ensures.told (let f = c.if-not-ended_whole.false in cc) in
    let before = c.args.fabric.now in
    let after = c.run_to-status.new.fabric in
    let rise : c.saturating_sub.result ≡ after.spilled - before.spilled = omega (arith, c.saturating_sub.ensures, c.spills.ensures, c.spills-before.ensures) in
    let stopped = subst IsStop (sym c.stop_status.ensures) (is_stop c.in-Err.stop) in
    let end = c.run_to-status.ensures.told contents told in
    record {
      answer = part_of_line form contents _ _ before after t.1 before.spilled after.spilled c.saturating_sub.result refl refl rise status t.0 end.fabric _ _ _ end.answer c.stop_status.result stopped c.in-Err.ensures.part;
      fabric = fabric_stopped form contents _ _ before after c.stop_status.result status stopped t.0 end.fabric;
      taps = λ below. absurd (below stopped);
    }
