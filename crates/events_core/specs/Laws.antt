-- The laws that follow from the definition of a script.
use Rattle.std.specs.Prelude.{◌≤◌, List, ℕ, length}
use Rattle.events_core.specs.declared.step.Step.{Step}
use Rattle.events_core.specs.declared.fault.ScriptFault.{ScriptFault}
use Rattle.events_core.specs.Script.{most_bytes, IsScript, IsFirstFault}

-- a text that isn't too long can't lack both steps and a first error
abbrev pub ScriptsHaveAnAnswer : Type 0
ScriptsHaveAnAnswer =
    (text : List ℕ) → length text ≤ most_bytes
    → ((steps : List Step) → IsScript text steps → ⊥)
    → ((fault : ScriptFault) → IsFirstFault text fault → ⊥)
    → ⊥
