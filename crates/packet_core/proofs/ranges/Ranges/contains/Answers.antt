use Rattle.std.proofs.Common.{rules, List, ◌≡◌, ◌∙◌, sym, subst, ap, arith, length, false, true, leb}
use Rattle.std.specs.List.Sorted.{IsPartitionPoint, IsNonDecreasingBy}
use Rattle.std.proofs.lemmas.List.Sorted.{IsPartitionPoint-from_clause, IsPartitionedBy-leb}
use Rattle.std.proofs.lemmas.Bool.{le-ltb}
use Rattle.policy_text_defs.specs.declared.test.Range.{Range}
use Rattle.packet_core.specs.Ranges.{low, high}
use Rattle.packet_core.proofs.RangeLaws.{last-decides, none-decides}
use Rattle.packet_core.proofs.ranges.Ranges.contains.Goals as goal
use Rattle.packet_core.proofs.ranges.Ranges.contains.Goals.{After-partition_point-after}

point : (c : After-partition_point-after) → IsPartitionPoint (λ (r : Range). leb (low r) c.args.value ≡ true) (λ r. leb (low r) c.args.value ≡ false) c.args.self.now.all.items c.partition_point-after.result
point c =
    subst (λ (l : List Range). IsPartitionPoint (λ (r : Range). leb (low r) c.args.value ≡ true) (λ r. leb (low r) c.args.value ≡ false) l c.partition_point-after.result) c.deref.ensures.value
    (IsPartitionPoint-from_clause (λ r. leb (low r) c.args.value) c.deref.result.now c.partition_point-after.result c.partition_point-after.ensures.partitioned
    (IsPartitionedBy-leb low c.deref.result.now c.args.value (subst (λ (l : List Range). IsNonDecreasingBy low l) (sym c.deref.ensures.value) c.args.self.now.lows)) (λ a r f called. search rules))

pub returns-then-after-gt0 : goal.returns-then-after-gt0
returns-then-after-gt0 c =
    ap (λ (r : Range). leb c.args.value (high r)) c.index.ensures
    ∙ last-decides c.args.self.now.all.items c.partition_point-after.result c.args.value c.index.result.now c.args.self.now.highs c.if-after-gt0.true
    (omega (arith, c.partition_point-after.ensures.bound, ap (λ (l : List Range). length l) c.deref.ensures.value))
    (λ i e less. (point c.before.before).0 i e (omega arith) less) (point c.before.before).1

pub returns-else-after-gt0 : goal.returns-else-after-gt0
returns-else-after-gt0 c = le-ltb 0 c.partition_point-after.result c.if-after-gt0.false ∙ none-decides c.args.self.now.all.items c.partition_point-after.result c.args.value (omega (arith, c.if-after-gt0.false)) (point c.before).1
