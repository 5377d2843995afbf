-- How a queue is stored as a ghost value.
use Rattle.std.specs.Coded.{Coded, coded×, coded_ℕ, coded_list}
use Rattle.tree_defs.specs.Queue.{Queue}

abbrev pub queue_code : Coded Queue
queue_code = coded_list (coded× coded_ℕ coded_ℕ)
