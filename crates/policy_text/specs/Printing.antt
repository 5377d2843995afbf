-- Parts of printed lines.
use Rattle.std.specs.Prelude.{ℕ, List, ◌++◌, codes}
use Rattle.policy_text_defs.specs.declared.attribute.Attrs.{Attrs}
use Rattle.policy_text_defs.specs.Canonical.{attributes_text}

-- `KEYWORD NAME using TRANSACTION` and the attributes: the first part of a leaf or node
abbrev pub vertex_text : List ℕ → List ℕ → List ℕ → Attrs → List ℕ
vertex_text keyword n u a = keyword ++ (n ++ (codes " using " ++ (u ++ attributes_text a)))
