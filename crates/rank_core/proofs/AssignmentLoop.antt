-- One iteration of the loop over assignments.
use Rattle.rank_core.proofs.Prelude.{◌≡◌, sym, subst, ◌∙◌, List, ap, map, ◌∷◌, AllByRecursion, assigned-in_range, IsCheckedAssignment, assignment_of, Program, IsMemoryInRange, IsShapedAssignment, IsShaped, Memory, run, assigned, Env, Assign}

abbrev pub Turn : Program → Env → List Assign → Memory → Memory → Type 0
Turn p env rest m end =
    IsMemoryInRange p m × AllByRecursion (IsCheckedAssignment p) (map assignment_of rest) × AllByRecursion (IsShapedAssignment p) (map assignment_of rest) × (run p env (map assignment_of rest) m ≡ end)

pub turn : (p : Program) → IsShaped p → (env : Env) (a : Assign) (whole rest : List Assign) (m n end : Memory) → whole ≡ a ∷ rest → n ≡ assigned p env m (assignment_of a) → Turn p env whole m end → Turn p env rest n end
turn p shaped env a whole rest m n end split is h =
    let k : Turn p env (a ∷ rest) m end = subst (λ (l : List Assign). Turn p env l m end) split h
    in (subst (IsMemoryInRange p) (sym is) (assigned-in_range p shaped env m (assignment_of a) k.0), k.1.1, k.2.1, ap (run p env (map assignment_of rest)) is ∙ k.3)
