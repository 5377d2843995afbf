use Rattle.std.proofs.Common.{rules, ◌≡◌, ◌∙◌, refl, subst, sym, List, ℕ}
use Rattle.std.proofs.lemmas.Result.{err_from_is_err_and}
use Rattle.outside_core.specs.Written.{Appended, AppendedPrefix}
use Rattle.replay_app.specs.Answer.{Answer, text_alone}
use Rattle.replay_app.specs.Policies.{entries_in}
use Rattle.front_upgrade.specs.Upgraded.{upgraded_text}
use Rattle.front_upgrade.proofs.command.write_upgraded.Goals as goal

pub returns-in_err-write-clause-answer : goal.returns-in_err-write-clause-answer
returns-in_err-write-clause-answer g c =
    let p = err_from_is_err_and c.from_residual-in_err-write.result c.from_residual-in_err-write.ensures.1 in
    let old = g.K.Sink.written c.args.sink.now in
    let new = g.K.Sink.written c.write.new.sink in
    let same : c.deref.result.now ≡ c.in_ok-text.text.items = search rules in
    λ sound.
    let text = same ∙ c.in_ok-text.ensures sound in
    rw (p.1) record {
      whole = tt;
      part = λ b e. subst (λ (a : Answer). AppendedPrefix old new a.text) (sym e) (subst (λ (t : List ℕ). AppendedPrefix old new t) text c.in_err-write.ensures.part);
    }

pub returns-clause-answer : goal.returns-clause-answer
returns-clause-answer g c =
    let old = g.K.Sink.written c.args.sink.now in
    let new = g.K.Sink.written c.write.new.sink in
    let same : c.deref.result.now ≡ c.in_ok-text.text.items = search rules in
    λ sound.
    let text = same ∙ c.in_ok-text.ensures sound in
    record {
      whole = record {
        answer = text_alone 0 (upgraded_text (entries_in c.args.lines.now));
        is = refl;
        status_is = refl;
        text = subst (λ (t : List ℕ). Appended old new t) text c.in_ok-write.ensures.text;
      };
      part = tt;
    }
