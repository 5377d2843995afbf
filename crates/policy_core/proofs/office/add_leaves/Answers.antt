use Rattle.policy_core.proofs.Prelude.{List, ◌≡◌, [], ◌∷◌, Some, map, ◌++◌, take, on_ok_weaker, codes, Sense, sense_of, unset, of_weight, office_leaves}
use Rattle.policy_text_defs.specs.Settings.{no_queueing}
use Rattle.policy_text_defs.specs.Sense.{leaf}
use Rattle.policy_core.proofs.OfficeLines.{one-more}
use Rattle.policy_core.proofs.office.add_leaves.Goals as goal

pub returns : goal.returns
returns c =
    let old : List Sense = map sense_of c.args.all.now in
    let first : map sense_of c.add_leaf.new.all ≡ old ++ take 1 office_leaves = c.in_ok-add_leaf.ensures in
    let second : map sense_of c.add_leaf-2.new.all ≡ old ++ take 2 office_leaves = one-more old (map sense_of c.add_leaf.new.all) (map sense_of c.add_leaf-2.new.all) (take 1 office_leaves) (leaf (codes "video") (codes "fifo") (of_weight (Some 2)) no_queueing (codes "video" ∷ [])) first c.in_ok-add_leaf-2.ensures in
    let third : map sense_of c.add_leaf-3.new.all ≡ old ++ take 3 office_leaves = one-more old (map sense_of c.add_leaf-2.new.all) (map sense_of c.add_leaf-3.new.all) (take 2 office_leaves) (leaf (codes "ssh") (codes "fifo") unset no_queueing (codes "ssh" ∷ [])) second c.in_ok-add_leaf-3.ensures in
    let fourth : map sense_of c.add_leaf-4.new.all ≡ old ++ take 4 office_leaves = one-more old (map sense_of c.add_leaf-3.new.all) (map sense_of c.add_leaf-4.new.all) (take 3 office_leaves) (leaf (codes "dns") (codes "fifo") unset no_queueing (codes "dns" ∷ [])) third c.in_ok-add_leaf-4.ensures in
    let fifth : map sense_of c.add_leaf-5.new.all ≡ old ++ take 5 office_leaves = one-more old (map sense_of c.add_leaf-4.new.all) (map sense_of c.add_leaf-5.new.all) (take 4 office_leaves) (leaf (codes "web") (codes "stfq") (of_weight (Some 4)) no_queueing (codes "web" ∷ [])) fourth c.in_ok-add_leaf-5.ensures in
    let sixth : map sense_of c.add_leaf-6.new.all ≡ old ++ take 6 office_leaves = one-more old (map sense_of c.add_leaf-5.new.all) (map sense_of c.add_leaf-6.new.all) (take 5 office_leaves) (leaf (codes "mail") (codes "fifo") (of_weight (Some 2)) no_queueing (codes "mail" ∷ [])) fifth c.in_ok-add_leaf-6.ensures in
    let seventh : map sense_of c.add_leaf-7.new.all ≡ old ++ take 7 office_leaves = one-more old (map sense_of c.add_leaf-6.new.all) (map sense_of c.add_leaf-7.new.all) (take 6 office_leaves) (leaf (codes "backup") (codes "fifo") unset no_queueing (codes "backup" ∷ [])) sixth c.in_ok-add_leaf-7.ensures in
    on_ok_weaker c.add_leaf-8.result (λ last. one-more old (map sense_of c.add_leaf-7.new.all) (map sense_of c.add_leaf-8.new.all) (take 7 office_leaves) (leaf (codes "other") (codes "fifo") unset no_queueing (codes "other" ∷ [])) seventh last) c.add_leaf-8.ensures
