use Rattle.replay_app.proofs.Prelude.{sym, ℕ, ap, ◌∙◌, ◌++◌, Vec, Global, names_of, pair_text, pair_line}
use Rattle.replay_app.proofs.NodeNames.{name_in}
use Rattle.replay_app.proofs.ViaLaws.{no_pair}
use Rattle.replay_app.proofs.route.pair_text.Goals as goal
use Rattle.replay_app.proofs.route.pair_text.Goals.{in-Prefix+in_ok-put_pair, in_default}

pub returns : goal.returns
returns c =
    let p = c.args.policy.now.policy in
    elim c.match-fault.branch [
      | in-Prefix+in_ok-put_pair w ↦
          let inside = rw w.in-Prefix.is at c.requires.nodes in
          let first = name_in p w.in-Prefix.first w.name.result.now inside.0 w.name.ensures.name in
          let second = name_in p w.in-Prefix.second w.name-in-Prefix.result.now inside.1 w.name-in-Prefix.ensures.name in
          ap (λ (v : Vec ℕ Global). v.items) w.text-is
          ∙ w.in_ok-put_pair.ensures
          ∙ (λ i. (c.new-text.ensures.items i) ++ pair_line (first i) (second i))
          ∙ ap (pair_text (names_of p)) (sym w.in-Prefix.is)
      | in_default w ↦ ap (λ (v : Vec ℕ Global). v.items) w.text-is ∙ c.new-text.ensures.items ∙ no_pair (names_of p) c.args.fault w.in_default.not-Prefix
    ]
