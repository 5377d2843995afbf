-- How loading a file may fail.
use Rattle.outside_core.specs.declared.shelves.ShelfError.{ShelfError}
use Rattle.outside_core.specs.declared.shelves.ShelfError.TheVariants as shelf
use Rattle.outside_core.specs.declared.loading.LoadError.{LoadError}
use Rattle.outside_core.specs.declared.loading.LoadError.TheVariants as loading

-- the load error for an error of the shelf
abbrev pub load_error : ShelfError → LoadError
load_error shelf.Failed = loading.Failed
load_error shelf.NoMemory = loading.NoMemory
