-- The state of the passes after one more statement.
use Rattle.policy_rules.proofs.Prelude.{List, ◌≡◌, [], ◌∷◌, refl, ◌++◌, Some, Entry, Sense, is_placed, last_sense, is_placed_behind}

-- the last statement is the one that was appended
pub last_sense-push : (entries : List Entry) (e : Entry) → last_sense (entries ++ e ∷ []) ≡ Some e.1
last_sense-push [] e = refl
last_sense-push (a ∷ []) e = refl
last_sense-push (a ∷ b ∷ entries) e = last_sense-push (b ∷ entries) e

-- the order check of a statement depends only on the last one
pub placed_behind : (entries : List Entry) (s : Sense) → is_placed entries s ≡ is_placed_behind (last_sense entries) s
placed_behind [] s = refl
placed_behind (a ∷ []) s = refl
placed_behind (a ∷ b ∷ entries) s = further b entries
  where
    further : (b : Entry) (entries : List Entry) → is_placed (b ∷ entries) s ≡ is_placed_behind (last_sense (b ∷ entries)) s
    further b [] = refl
    further b (c ∷ entries) = further c entries
