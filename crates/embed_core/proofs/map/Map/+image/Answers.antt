use Rattle.embed_core.proofs.Prelude.{◌≡◌, length, sym, subst, ◌<◌, ◌≤◌, get_or, None, Option, MatchOption, Some, Address}
use Rattle.embed_core.proofs.MapSteps.{image-down, image-out}
use Rattle.embed_core.proofs.map.Map.+image.Goals as goal

pub returns-in-Some : goal.returns-in-Some
returns-in-Some t c =
    let e : c.in-Some.below.now ≡ get_or c.self.inside.children.items (get_or c.args.address.now 0 0) c.in-Some.below.now = rw c.deref-in-len1-up.ensures.value at c.in-Some.ensures.lookup.1 in
    let l : get_or c.args.address.now 0 0 < length c.self.inside.children.items = rw c.deref-in-len1-up.ensures.value at c.in-Some.ensures.lookup.3.0 in
    let d = image-down c.self.inside.image.items c.self.inside.children.items c.args.self.now c.in-Some.below.now c.args.address.now c.self.view_is c.in-len1-up.len_at_least l e in
    record { image = subst (λ (z : Option Address). MatchOption c.image.result (z ≡ None) (λ image. z ≡ Some image.now)) (sym d) c.image.ensures.image }

pub returns-in-None : goal.returns-in-None
returns-in-None t c =
    let l : length c.self.inside.children.items ≤ get_or c.args.address.now 0 0 = rw c.deref-in-len1-up.ensures.value at c.in-None.ensures.lookup.3 in
    record { image = image-out c.self.inside.image.items c.self.inside.children.items c.args.self.now c.args.address.now c.self.view_is c.in-len1-up.len_at_least l }
