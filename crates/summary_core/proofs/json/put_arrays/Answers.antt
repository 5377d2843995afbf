use Rattle.summary_core.proofs.Prelude.{ℕ, List, ap, ◌∙◌, ◌++◌, append_assoc, codes, Group}
use Rattle.summary_core.specs.Json.{array_json}
use Rattle.summary_core.proofs.json.put_arrays.Goals as goal

pub returns : goal.returns
returns c =
    let old = c.args.into.now.items in
    let gs = c.args.groups.now in
    let leaves = array_json (codes ",\"leaves\":[") in
    let classes = array_json (codes "],\"classes\":[") in
    c.in_ok-put_array-2.ensures
    ∙ ap (λ (l : List Group). c.put_array.new.into.items ++ classes l) c.deref-2.ensures.value
    ∙ ap (λ (s : List ℕ). s ++ classes gs.classes.items) (c.in_ok-put_array.ensures ∙ ap (λ (l : List Group). old ++ leaves l) c.deref.ensures.value)
    ∙ append_assoc old (leaves gs.leaves.items) (classes gs.classes.items)
