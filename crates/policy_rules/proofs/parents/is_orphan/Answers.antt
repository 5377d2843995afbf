use Rattle.policy_rules.proofs.Prelude.{◌∙◌, ap, List, ℕ, not, bytes_eq, sense_of, root, is_once}
use Rattle.policy_rules.proofs.Orphans.{orphan-counted, named}
use Rattle.policy_rules.proofs.parents.is_orphan.Goals as goal

pub returns-then-ne : goal.returns-then-ne
returns-then-ne c = λ all t.
    orphan-counted all (sense_of c.args.statement.now) c.in-Leaf.name c.ne.result c.is_once.result (named c.args.statement.now c.in-Leaf.name c.in-Leaf.is)
    (c.ne.ensures ∙ ap (λ (a : List ℕ). not (bytes_eq a root)) c.as_str.ensures)
    (c.is_once.ensures all t ∙ ap (is_once all) c.as_str-then-ne.ensures)
    c.if-ne.true
