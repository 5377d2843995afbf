use Rattle.std.proofs.Common.{◌≡◌, ◌+◌, ◌*◌, ◌≤◌, [], ◌∷◌, ◌++◌, length, take, drop}
use Rattle.outside_core.specs.Report.{ranks_text}
use Rattle.report_core.proofs.Ranks.{later_ranks}
use Rattle.report_core.proofs.line.put_ranks.Given as goal

abbrev pub invariant-loop-rank : goal.invariant-loop-rank
invariant-loop-rank l = record {
  text : take l.end l.line ++ later_ranks (drop l.rank-index l.others) ≡ take l.at l.fn.line ++ 32 ∷ [] ++ ranks_text l.ranks;
  short : l.end ≤ l.at + 21 + 21 * l.rank-index;
  length : length l.line ≡ length l.fn.line;
}
