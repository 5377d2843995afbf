use Rattle.std.proofs.Common.{◌<◌, length}
use Rattle.std.proofs.lemmas.Bool.{leb-true, le-leb}
use Rattle.embed_core.proofs.MapSteps.{inner-height, some_child}
use Rattle.embed_core.proofs.needs.Needs.fit.Goals as goal

pub returns-else-is_empty : goal.returns-else-is_empty
returns-else-is_empty c =
    let l : 0 < length c.self.inside.children.items = some_child c.self.inside.children.items c.self.inside.children.len c.self.inside.children.ok.0 c.if-is_empty.ensures in
    let h = inner-height c.self.inside.need c.args.height c.self.inside.children.items c.args.self.now c.self.view_is l in
    record { fit = (λ t. h.1 (leb-true c.self.inside.need c.args.height t), λ r. le-leb c.self.inside.need c.args.height (h.0 r)) }
