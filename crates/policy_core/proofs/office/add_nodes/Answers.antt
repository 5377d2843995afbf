use Rattle.policy_core.proofs.Prelude.{List, ◌≡◌, [], ◌∷◌, Some, map, ◌++◌, take, on_ok_weaker, codes, Sense, node, sense_of, unset, of_prio, office_nodes}
use Rattle.policy_text_defs.specs.Settings.{no_queueing}
use Rattle.policy_core.proofs.OfficeLines.{one-more}
use Rattle.policy_core.proofs.office.add_nodes.Goals as goal

pub returns : goal.returns
returns c =
    let old : List Sense = map sense_of c.args.all.now in
    let first : map sense_of c.add_node.new.all ≡ old ++ take 1 office_nodes = c.in_ok-add_node.ensures in
    let second : map sense_of c.add_node-2.new.all ≡ old ++ take 2 office_nodes = one-more old (map sense_of c.add_node.new.all) (map sense_of c.add_node-2.new.all) (take 1 office_nodes) (node (codes "normal") (codes "stfq") (of_prio (Some 1)) no_queueing (codes "web" ∷ codes "mail" ∷ codes "backup" ∷ codes "other" ∷ [])) first c.in_ok-add_node-2.ensures in
    on_ok_weaker c.add_node-3.result (λ last. one-more old (map sense_of c.add_node-2.new.all) (map sense_of c.add_node-3.new.all) (take 2 office_nodes) (node (codes "root") (codes "strict") unset no_queueing (codes "urgent" ∷ codes "normal" ∷ [])) second last) c.add_node-3.ensures
