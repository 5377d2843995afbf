-- What an error in reading a file means for the work on it.
use Rattle.std.specs.Prelude.{Option, Some, None}
use Rattle.outside_core.specs.declared.shelves.ShelfError.{ShelfError}
use Rattle.outside_core.specs.declared.shelves.ShelfError.TheVariants as shelf
use Rattle.outside_core.specs.declared.read_error.ReadError.{ReadError}
use Rattle.outside_core.specs.declared.read_error.ReadError.TheVariants.{Fault, Source, Memory}
use Rattle.outside_core.specs.declared.stop.Stop.{Stop}
use Rattle.outside_core.specs.declared.stop.Stop.TheVariants as stop

-- a shelf's error as an error in reading its file
abbrev pub read_error : ShelfError → ReadError
read_error shelf.Failed = Source
read_error shelf.NoMemory = Memory

-- why work stops, unless the file itself has a fault
abbrev pub stop_of : ReadError → Option Stop
stop_of (Fault code place) = None
stop_of Source = Some stop.Source
stop_of Memory = Some stop.Memory
