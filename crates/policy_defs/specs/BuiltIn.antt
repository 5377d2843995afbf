-- The names of the built-in transactions are reserved for them.
use Rattle.std.specs.Prelude.{◌≡◌, Some}
use Rattle.tree_defs.specs.Tree.{Address}
use Rattle.rank_defs.specs.Programs.{Program}
use Rattle.rank_defs.specs.Builtins.{builtin}
use Rattle.policy_defs.specs.Policy.{Policy, Node, node_at}

-- a node that uses the name of a built-in transaction has its program
abbrev pub AreBuiltIn : Policy → Type 0
AreBuiltIn policy =
    (a : Address) (n : Node) (program : Program) → node_at policy.tree a ≡ Some n → builtin n.using ≡ Some program
    → n.program ≡ program
