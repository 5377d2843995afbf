use Rattle.embed_core.proofs.Prelude.{◌≡◌, length, arith, sym, ◌∙◌, ap, ◌<◌, drop, ◌-◌, rules, length-drop, length-take, root_of}
use Rattle.embed_core.proofs.LiftSteps.{IsStep, step-down, step-within, ranks-behind, IsLast, last-at}
use Rattle.embed_core.proofs.map.Map.+lift_from.Goals as goal

pub index-child-requires : goal.index-child-requires
index-child-requires g t c =
    let b : c.args.step < length (g.W.Way.digits c.args.way.now) = omega (arith, c.if-step-steps.true, c.steps.ensures.steps) in
    omega (
      arith,
      step-within c.self.inside.image.items c.self.inside.children.items c.args.self.now c.args.step (g.W.Way.digits c.args.way.now) c.self.view_is b c.requires.leaf,
      c.digit.ensures.digit,
      c.self.inside.children.ok.0,
    )

pub overflow_sub-part : goal.overflow_sub-part
overflow_sub-part g t c =
    let b : c.args.step < length (g.W.Way.digits c.args.way.now) = omega (arith, c.if-step-steps.true, c.steps.ensures.steps) in
    let s : IsStep (length c.args.digits.now) c.self.inside.image.items c.args.self.now c.args.step (g.W.Way.digits c.args.way.now) (g.W.Way.ranks c.args.way.now) c.index-child.result.now
    = step-down c.self.inside.image.items c.self.inside.children.items c.args.self.now c.args.step (g.W.Way.digits c.args.way.now) c.self.view_is b c.requires.leaf (length c.args.digits.now) (g.W.Way.ranks c.args.way.now) c.digit.result c.index-child.result.now c.requires.whole c.requires.deep c.digit.ensures.digit c.index-child.ensures in
    omega (arith, s.deeper.longer, ap length s.root, c.depth.ensures.depth, c.depth-then-step-steps.ensures.depth)

pub fill_front-requires : goal.fill_front-requires
fill_front-requires g t c =
    let b : c.args.step < length (g.W.Way.digits c.args.way.now) = omega (arith, c.if-step-steps.true, c.steps.ensures.steps) in
    let s : IsStep (length c.args.digits.now) c.self.inside.image.items c.args.self.now c.args.step (g.W.Way.digits c.args.way.now) (g.W.Way.ranks c.args.way.now) c.index-child.result.now
    = step-down c.self.inside.image.items c.self.inside.children.items c.args.self.now c.args.step (g.W.Way.digits c.args.way.now) c.self.view_is b c.requires.leaf (length c.args.digits.now) (g.W.Way.ranks c.args.way.now) c.digit.result c.index-child.result.now c.requires.whole c.requires.deep c.digit.ensures.digit c.index-child.ensures in
    record { count = omega (arith, s.deeper.short, s.deeper.longer, ap length s.root, c.depth.ensures.depth, c.depth-then-step-steps.ensures.depth, c.requires.ranks) }

pub lift_from-requires : goal.lift_from-requires
lift_from-requires g t c κs within =
    let b : c.args.step < length (g.W.Way.digits c.args.way.now) = omega (arith, c.if-step-steps.true, c.steps.ensures.steps) in
    let s : IsStep (length c.args.digits.now) c.self.inside.image.items c.args.self.now c.args.step (g.W.Way.digits c.args.way.now) (g.W.Way.ranks c.args.way.now) c.index-child.result.now
    = step-down c.self.inside.image.items c.self.inside.children.items c.args.self.now c.args.step (g.W.Way.digits c.args.way.now) c.self.view_is b c.requires.leaf (length c.args.digits.now) (g.W.Way.ranks c.args.way.now) c.digit.result c.index-child.result.now c.requires.whole c.requires.deep c.digit.ensures.digit c.index-child.ensures in
    let n : length c.fill_front.new.ranks ≡ length c.args.ranks.now = c.fill_front.auto.ranks in (
      search rules,
      (
        within,
        (
          s.leaf_below,
          (
            s.deeper.deep,
            (
              c.requires.whole,
              (
                omega (arith, b),
                omega (
                  arith,
                  n,
                  s.deeper.short,
                  s.deeper.longer,
                  ap length s.root,
                  c.depth.ensures.depth,
                  c.depth-then-step-steps.ensures.depth,
                  c.requires.ranks,
                  length-take (length c.fill_front.new.ranks - (c.depth.result - c.depth-then-step-steps.result)) (drop (c.depth.result - c.depth-then-step-steps.result) c.fill_front.new.ranks),
                  length-drop (c.depth.result - c.depth-then-step-steps.result) c.fill_front.new.ranks,
                ),
              ),
            ),
          ),
        ),
      ),
    )

pub returns-then-step-steps-clause-digits : goal.returns-then-step-steps-clause-digits
returns-then-step-steps-clause-digits g t c =
    let b : c.args.step < length (g.W.Way.digits c.args.way.now) = omega (arith, c.if-step-steps.true, c.steps.ensures.steps) in
    let s : IsStep (length c.args.digits.now) c.self.inside.image.items c.args.self.now c.args.step (g.W.Way.digits c.args.way.now) (g.W.Way.ranks c.args.way.now) c.index-child.result.now
    = step-down c.self.inside.image.items c.self.inside.children.items c.args.self.now c.args.step (g.W.Way.digits c.args.way.now) c.self.view_is b c.requires.leaf (length c.args.digits.now) (g.W.Way.ranks c.args.way.now) c.digit.result c.index-child.result.now c.requires.whole c.requires.deep c.digit.ensures.digit c.index-child.ensures in
    c.lift_from.ensures.digits ∙ sym s.image

pub returns-then-step-steps-clause-ranks : goal.returns-then-step-steps-clause-ranks
returns-then-step-steps-clause-ranks g t c =
    let b : c.args.step < length (g.W.Way.digits c.args.way.now) = omega (arith, c.if-step-steps.true, c.steps.ensures.steps) in
    let s : IsStep (length c.args.digits.now) c.self.inside.image.items c.args.self.now c.args.step (g.W.Way.digits c.args.way.now) (g.W.Way.ranks c.args.way.now) c.index-child.result.now
    = step-down c.self.inside.image.items c.self.inside.children.items c.args.self.now c.args.step (g.W.Way.digits c.args.way.now) c.self.view_is b c.requires.leaf (length c.args.digits.now) (g.W.Way.ranks c.args.way.now) c.digit.result c.index-child.result.now c.requires.whole c.requires.deep c.digit.ensures.digit c.index-child.ensures in
    let n : c.depth.result - c.depth-then-step-steps.result ≡ length (root_of c.index-child.result.now) - length c.self.inside.image.items = omega (arith, ap length s.root, c.depth.ensures.depth, c.depth-then-step-steps.ensures.depth) in
    ranks-behind (c.depth.result - c.depth-then-step-steps.result) c.rank-rank.result c.args.ranks.now c.lift_from.new.ranks c.fill_front.new.ranks c.fill_front.ensures.filled
    ∙ rw (n, c.lift_from.ensures.ranks, c.rank-rank.ensures.rank) (sym s.ranks_are)

pub returns-else-step-steps-clause-ranks : goal.returns-else-step-steps-clause-ranks
returns-else-step-steps-clause-ranks g t c =
    let e : IsLast (length c.args.digits.now) c.args.self.now c.args.step (g.W.Way.digits c.args.way.now) (g.W.Way.ranks c.args.way.now) c.args.ranks.now
    = last-at (length c.args.digits.now) c.args.self.now c.args.step (g.W.Way.digits c.args.way.now) (g.W.Way.ranks c.args.way.now) c.args.ranks.now (omega (arith, c.if-step-steps.false, c.steps.ensures.steps)) c.requires.deep c.requires.leaf c.requires.ranks in
    rw c.rank-rank.ensures.rank e.ranks_are
