-- What contracts know of real files and standard output: whether a file is open, and the fault
-- counts.
use Rattle.std.specs.Prelude.{ℕ, Bool, is_some}
use Rattle.outside_core.specs.declared.system.FileShelf.{FileShelf}
use Rattle.outside_core.specs.declared.system.StdSink.{StdSink}

abbrev pub shelf_faults : {R A B : Type 0} → FileShelf R A B → ℕ
shelf_faults s = s.faults

abbrev pub is_begun : {R A B : Type 0} → FileShelf R A B → Bool
is_begun s = is_some s.reading

abbrev pub sink_faults : {R : Type 0} → StdSink R → ℕ
sink_faults s = s.faults
