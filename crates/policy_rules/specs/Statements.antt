-- The declarations and lists of one statement.
use Rattle.std.specs.Prelude.{Bool, true, false, [], ◌∷◌}
use Rattle.std.specs.Option.{option_map_or}
use Rattle.std.specs.Str.{bytes_eq}
use Rattle.policy_text_defs.specs.Sense.{Sense, class, filter as filtered}
use Rattle.policy_rules.specs.Names.{node_name}
use Rattle.policy_rules.specs.Clauses.{root}

-- whether a statement declares the root
abbrev pub is_root : Sense → Bool
is_root s = option_map_or (bytes_eq root) (node_name s) false

-- whether the last class has no condition, given the same for the statements before
abbrev pub is_catch_all : Bool → Sense → Bool
is_catch_all found (class c a []) = true
is_catch_all found (filtered c a []) = true
is_catch_all found (class c a (x ∷ cs)) = false
is_catch_all found (filtered c a (x ∷ cs)) = false
is_catch_all found s = found
