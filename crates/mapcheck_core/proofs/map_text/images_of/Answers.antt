use Rattle.mapcheck_core.proofs.Prelude.{◌≡◌, sym, List, ℕ, subst, ◌∙◌, ap, map, false, rules, line_of_entry, MapLine, has, line_for, named}
use Rattle.mapcheck_core.proofs.NamePlaces.{name-given, mapped-more}
use Rattle.mapcheck_core.proofs.map_text.images_of.Goals as goal

pub unreachable-requires : goal.unreachable-requires
unreachable-requires c =
    let ms = map line_of_entry c.args.entries.now in
    let unnamed : has (named ms) c.name-item.result ≡ false = subst (λ (n : List ℕ). has (named ms) n ≡ false) c.as_str.ensures c.in_default.ensures in
    name-given c.args.names.now ms c.loop-name.name-index c.name-item.result c.requires c.loop-name-test.true c.name-item.is unnamed

pub loop-name-preserved : goal.loop-name-preserved
loop-name-preserved c =
    let ms = map line_of_entry c.args.entries.now in
    let name = c.name-item.result in
    let entry = c.in-Some.entry.now in
    let line : line_for ms name ≡ line_of_entry entry = subst (λ (n : List ℕ). line_for ms n ≡ line_of_entry entry) c.as_str.ensures c.in-Some.ensures.1 in
    let copy : c.from_vec.result ≡ entry.image = search rules in
    record {
      images = c.in_ok-push.ensures.ok ∙ mapped-more (λ (n : List ℕ). (line_for ms n).image) c.args.names.now c.loop-name.name-index name c.loop-name.images c.from_vec.result c.loop-name-test.true c.name-item.is c.loop-name.invariant.images (copy ∙ ap (λ (m : MapLine). m.image) (sym line));
      lines = c.in_ok-push-2.ensures.ok ∙ mapped-more (λ (n : List ℕ). (line_for ms n).line) c.args.names.now c.loop-name.name-index name c.loop-name.lines entry.line c.loop-name-test.true c.name-item.is c.loop-name.invariant.lines (ap (λ (m : MapLine). m.line) (sym line));
    }
