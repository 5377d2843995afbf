use Rattle.fabric_core.proofs.Prelude.{ℕ, ◌≡◌, ◌<◌, ◌+◌, ◌*◌, length, get_or}
use Rattle.fabric_core.proofs.shape.add_children.Given as goal

abbrev pub invariant-loop : goal.invariant-loop
invariant-loop l = record {
  long : length l.children.items ≡ length l.initial.children.items + l.counter;
  child : l.child ≡ length l.initial.children.items + l.width + l.counter * l.arity;
  kept : (j : ℕ) → j < length l.initial.children.items → get_or l.children.items j 0 ≡ get_or l.initial.children.items j 0;
  added : (place : ℕ) → place < l.counter → get_or l.children.items (length l.initial.children.items + place) 0 ≡ length l.initial.children.items + l.width + place * l.arity;
}
