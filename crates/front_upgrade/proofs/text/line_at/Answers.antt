use Rattle.front_upgrade.proofs.Prelude.{ap, ◌∙◌, arith, map, List}
use Rattle.policy_text.specs.Entries.{Numbered, entry_of}
use Rattle.front_upgrade.specs.Upgraded.{line_at}
use Rattle.front_upgrade.proofs.LineLaws.{line_of_number, no_line_of_number}
use Rattle.front_upgrade.proofs.text.line_at.Goals as goal

pub returns-in-Some-get : goal.returns-in-Some-get
returns-in-Some-get c =
    let found = c.in-Some-get.ensures.lookup in
    let place = c.in-Some.ensures in
    ap (λ (l : Numbered). l.0) found.1
    ∙ line_of_number c.entries.result.now c.args.number c.in-Some.place _ (omega (arith, place.0, place.1)) found.3.0
    ∙ ap (λ (ls : List Numbered). line_at (map entry_of ls) c.args.number) c.entries.ensures.entries

pub returns-in-None : goal.returns-in-None
returns-in-None c =
    let found = c.in-None.ensures.lookup in
    let place = c.in-Some.ensures in
    no_line_of_number c.entries.result.now c.args.number c.in-Some.place (omega (arith, place.0, place.1)) found.3
    ∙ ap (λ (ls : List Numbered). line_at (map entry_of ls) c.args.number) c.entries.ensures.entries
