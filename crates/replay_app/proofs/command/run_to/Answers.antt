use Rattle.replay_app.proofs.Prelude.{subst, sym, ◌∙◌, inl, inr, IsStop}
use Rattle.replay_app.proofs.AnswerLaws.{is_stop, no_stop}
use Rattle.replay_app.proofs.command.run_to.Goals as goal

pub returns-in-Ok-clause-told : goal.returns-in-Ok-clause-told
returns-in-Ok-clause-told g c = λ contents told.
    let written = (c.in-Ok.ensures.answer contents told).whole in
    let left = c.in-Ok.ensures.left contents told in
    record {
      answer = inl (record { answer = written.answer; is = written.is; status_is = c.code.ensures ∙ written.status_is; text = written.text });
      fabric = record {
        whole = λ below a is. (left.whole a is).fabric;
        part = λ stop. absurd (no_stop c.in-Ok.status (subst IsStop c.code.ensures stop));
      };
      taps = λ below a is. (left.whole a is).taps;
    }

pub returns-in-Err-clause-told : goal.returns-in-Err-clause-told
returns-in-Err-clause-told g c = λ contents told.
    let stop = subst IsStop (sym c.stop_status.ensures) (is_stop c.in-Err.stop) in
    record {
      answer = inr (record { stop = stop; part = (c.in-Err.ensures.answer contents told).part });
      fabric = record {
        whole = λ below. absurd (below stop);
        part = λ is. (c.in-Err.ensures.left contents told).part;
      };
      taps = λ below. absurd (below stop);
    }
