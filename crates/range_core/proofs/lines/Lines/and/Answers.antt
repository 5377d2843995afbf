use Rattle.range_core.proofs.LeastLines.{AreLeast-append}
use Rattle.range_core.proofs.lines.Lines.and.Goals as goal

pub returns : goal.returns
returns c = rw (c.lesser.ensures, c.lesser-2.ensures, c.lesser-3.ensures) (λ xs ys h k. AreLeast-append xs ys c.args.self c.args.other h k)
