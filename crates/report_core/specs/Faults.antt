-- The word of each kind of fault.
use Rattle.std.specs.Prelude.{ℕ, List, codes}
use Rattle.report_core.specs.declared.fault.FaultKind.{FaultKind}
use Rattle.report_core.specs.declared.fault.FaultKind.TheVariants.{Words, Policy, Target, Size, Script, Capture, Tree, Map}

abbrev pub word_of : FaultKind → List ℕ
word_of Words = codes "words"
word_of Policy = codes "policy"
word_of Target = codes "target"
word_of Size = codes "size"
word_of Script = codes "script"
word_of Capture = codes "capture"
word_of Tree = codes "tree"
word_of Map = codes "map"
