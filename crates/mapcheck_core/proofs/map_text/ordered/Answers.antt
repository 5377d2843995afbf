use Rattle.mapcheck_core.proofs.Prelude.{◌≡◌, List, ℕ, ◌∙◌, ap, true, Bool, cond, bytes_eq, knows}
use Rattle.std.proofs.lemmas.Map.Text.{is_eq-slice_cmp}
use denote.Ref.{Bor}
use Rattle.mapcheck_core.proofs.NamePlaces.{has-more}
use Rattle.mapcheck_core.proofs.map_text.ordered.Goals as goal

pub loop-name-preserved : goal.loop-name-preserved
loop-name-preserved c = λ q.
    let asked : Bor (List ℕ) = record { ref_ptr = (0, 0); now = q } in
    let before : Bool = knows c.loop-name.known q in
    let added : knows c.insert.new.self q ≡ cond (bytes_eq c.name-item.result q) true before =
    c.in_ok-insert.ensures.updates.0 asked
    ∙ ap (λ (b : Bool). cond b true before) (is_eq-slice_cmp c.as_str.result.now q)
    ∙ ap (λ (n : List ℕ). cond (bytes_eq n q) true before) c.as_str.ensures in
    has-more c.args.names.now c.loop-name.name-index c.name-item.result q before (knows c.insert.new.self q) c.loop-name-test.true c.name-item.is (c.loop-name.invariant q) added
