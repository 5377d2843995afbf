use Rattle.summary_core.proofs.Prelude.{sym, leb, rules, IsNonDecreasingBy-from_sort, IsPartitionPoint-from_clause, IsPartitionedBy-leb}
use Rattle.summary_core.proofs.Ranks.{count-point}
use Rattle.summary_core.proofs.delays.count_to.Goals as goal

pub returns : goal.returns
returns c =
    let xs = c.args.sorted.now in
    let bound = c.args.bound in
    let point = IsPartitionPoint-from_clause (λ y. leb y bound) xs c.partition_point.result c.partition_point.ensures.partitioned
    (IsPartitionedBy-leb (λ n. n) xs bound (IsNonDecreasingBy-from_sort (λ n. n) xs c.requires)) (λ a r f called. search rules) in
    sym (count-point bound xs c.partition_point.result c.partition_point.ensures.bound point.0 point.1)
