-- The arities that a table gives are those of a target.
use Rattle.target_core.proofs.Prelude.{arith, ◌≤◌, List, length, ℕ, [], ◌∷◌, replicate, suc, zero, IsArity, least_arity, most_arity, most_height, Items, Members, item, no_items, AreArities, each_arity, one_arity, GivesArities, first_arity}
use Rattle.std.specs.List.{AllByRecursion}
use Rattle.std.proofs.lemmas.List.{length-replicate}
use Rattle.target_core.specs.Laws.{AcceptedTargetsAreInRange}

narrow_replicate : (h d : ℕ) → least_arity ≤ d → d ≤ most_arity → AllByRecursion IsArity (replicate h d)
narrow_replicate zero d l m = tt
narrow_replicate (suc h) d l m = ((l, m), narrow_replicate h d l m)

narrow_items : (ds : Items) (ns : List ℕ) → AreArities ds ns → AllByRecursion IsArity ns
narrow_items no_items [] a = tt
narrow_items no_items (n ∷ ns) a = absurd a
narrow_items (item d ds) [] a = absurd a
narrow_items (item d ds) (n ∷ ns) a = ((a.1, a.2), narrow_items ds ns a.3)

pub narrow_target : (t : Members) (ns : List ℕ) (a : ℕ) → GivesArities t ns a → AllByRecursion IsArity ns
narrow_target t ns a (one_arity d h k p q) = narrow_replicate h d p.least p.most
narrow_target t ns a (each_arity ds ns' k p q f) = narrow_items ds ns' q

short_target : (t : Members) (ns : List ℕ) (a : ℕ) → GivesArities t ns a → length ns ≤ most_height
short_target t ns a (one_arity d h k p q) = omega (arith, length-replicate h d, q.most)
short_target t ns a (each_arity ds ns' k p q f) = f

above_first : (ns : List ℕ) → AllByRecursion IsArity ns → IsArity (first_arity ns)
above_first [] n = (omega arith, omega arith)
above_first (d ∷ ds) n = n.0

above_target : (t : Members) (ns : List ℕ) (a : ℕ) → GivesArities t ns a → IsArity a
above_target t ns a (one_arity d h k p q) = (p.least, p.most)
above_target t ns a (each_arity ds ns' k p q f) = above_first ns' (narrow_items ds ns' q)

pub in_range-holds : AcceptedTargetsAreInRange
in_range-holds bytes ns a p =
    let above = above_target p.table ns a p.gives in
    record {
      target = record { levels = short_target p.table ns a p.gives; narrow = narrow_target p.table ns a p.gives; few = p.few };
      wide = above.0;
      narrow = above.1;
    }
