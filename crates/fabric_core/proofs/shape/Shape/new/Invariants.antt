use Rattle.fabric_core.proofs.Prelude.{ℕ, ◌≡◌, ◌<◌, ◌≤◌, ◌*◌, length, get_or, drop}
use Rattle.embed_defs.specs.Target.{leaves}
use Rattle.fabric_core.specs.Children.{first_child}
use Rattle.fabric_core.proofs.ChildSteps.{IsLevel}
use Rattle.fabric_core.proofs.shape.Shape.new.Given as goal

abbrev pub invariant-loop-arity : goal.invariant-loop-arity
invariant-loop-arity l = record {
  level : IsLevel l.arities l.arity-index (length l.children.items) l.width;
  before : (n : ℕ) → n < length l.children.items → get_or l.children.items n 0 ≡ first_child l.arities 0 1 n;
  leaves : l.width * leaves (drop l.arity-index l.arities) ≡ leaves l.arities;
  few : length l.children.items ≤ l.arity-index * 65536;
}
