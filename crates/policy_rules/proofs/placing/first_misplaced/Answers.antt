use Rattle.policy_rules.proofs.Prelude.{◌∙◌, ap, List, ◌≡◌, sym, take, not, Some, Option, option_map, Entry, sense_of, Sense, is_placed, entries_of, last_sense, is_placed_behind}
use Rattle.policy_rules.proofs.BodyVariables.{placed_behind, last_sense-push}
use Rattle.policy_rules.proofs.Lines.{entry_of}
use Rattle.policy_rules.proofs.PassLemmas.{ends_here, goes_on}
use Rattle.policy_rules.proofs.placing.first_misplaced.Goals as goal

pub returns-then-not-is_placed : goal.returns-then-not-is_placed
returns-then-not-is_placed c =
    let done : List Entry = take c.loop-line.line-index (entries_of c.args.lines.now) in
    let s : Sense = sense_of c.loop-line-item.result.1 in
    ends_here (λ done. last_sense done ≡ option_map (λ s. sense_of s.now) c.loop-line.last) (λ done s. not (is_placed done s)) c.args.lines.now c.loop-line.line-index c.loop-line-item.result
    c.requires.rising c.loop-line-test.true c.loop-line-item.is c.loop-line.invariant
    (ap not (placed_behind done s ∙ ap (λ (o : Option Sense). is_placed_behind o s) c.loop-line.invariant.keeps ∙ sym c.is_placed.ensures ∙ c.if-not-is_placed.true))

pub loop-line-preserved : goal.loop-line-preserved
loop-line-preserved c =
    let done : List Entry = take c.loop-line.line-index (entries_of c.args.lines.now) in
    let s : Sense = sense_of c.loop-line-item.result.1 in
    goes_on (λ done. last_sense done ≡ option_map (λ s. sense_of s.now) c.loop-line.last) (λ done s. not (is_placed done s)) c.args.lines.now c.loop-line.line-index c.loop-line-item.result
    c.requires.rising c.loop-line-test.true c.loop-line-item.is c.loop-line.invariant (λ done. last_sense done ≡ Some (sense_of c.loop-line-item.result.1))
    (ap not (placed_behind done s ∙ ap (λ (o : Option Sense). is_placed_behind o s) c.loop-line.invariant.keeps ∙ sym c.is_placed.ensures ∙ c.if-not-is_placed.false))
    (last_sense-push done (entry_of c.loop-line-item.result))
