use Rattle.target_core.proofs.Prelude.{arith, ◌≤◌, length, ◌<◌, leaves, table_view, too_long}
use Rattle.std.proofs.lemmas.Result.{err_from_is_err_and}
use Rattle.target_core.proofs.ArityRanges.{narrow_target, in_range-holds}
use Rattle.target_core.proofs.Faults.{refused_toml, refused_keys, refused_leaves}
use Rattle.target_core.proofs.read.read_target.Goals as goal

pub returns-then-bytes-gt-MOST_BYTES-clause-refused : goal.returns-then-bytes-gt-MOST_BYTES-clause-refused
returns-then-bytes-gt-MOST_BYTES-clause-refused c _ = too_long c.if-bytes-gt-MOST_BYTES.true

pub returns-in_err-table-clause-refused : goal.returns-in_err-table-clause-refused
returns-in_err-table-clause-refused c =
    let short : length c.args.bytes.now ≤ 65536 = omega arith in
    let p = err_from_is_err_and c.from_residual.result c.from_residual.ensures.1 in
    rw (p.1, p.2) (λ shown. refused_toml c.args.bytes.now c.in_err-table.field-0.0 short (c.in_err-table.ensures.refused shown))

pub returns-in_err-target-clause-refused : goal.returns-in_err-target-clause-refused
returns-in_err-target-clause-refused c =
    let short : length c.args.bytes.now ≤ 65536 = omega arith in
    let p = err_from_is_err_and c.from_residual-in_err-target.result c.from_residual-in_err-target.ensures.1 in
    rw (p.1, p.2)
    (λ shown. refused_keys c.args.bytes.now c.in_err-target.field-0.0 (table_view c.in_ok-table.table) short c.in_ok-table.ensures.toml (c.in_err-target.ensures.refused shown))

pub has_few_leaves-requires : goal.has_few_leaves-requires
has_few_leaves-requires c =
    let target = c.in_ok-target.target in
    rw c.as_slice.ensures (narrow_target (table_view c.in_ok-table.table) target.arities target.above c.in_ok-target.ensures.accepted)

pub returns-clause-refused : goal.returns-clause-refused
returns-clause-refused c _ =
    let target = c.in_ok-target.target in
    let short : length c.args.bytes.now ≤ 65536 = omega arith in
    let many : 65536 < leaves target.arities = grind arith in
    refused_leaves c.args.bytes.now (table_view c.in_ok-table.table) target.arities target.above short c.in_ok-table.ensures.toml c.in_ok-target.ensures.accepted many

pub returns-then-has_few_leaves-clause-range : goal.returns-then-has_few_leaves-clause-range
returns-then-has_few_leaves-clause-range c =
    let target = c.in_ok-target.target in
    let few : leaves target.arities ≤ 65536 = rw c.as_slice.ensures at (c.has_few_leaves.ensures.0 c.if-has_few_leaves.true) in
    in_range-holds c.args.bytes.now target.arities target.above
    (record { short = omega arith; table = table_view c.in_ok-table.table; toml = c.in_ok-table.ensures.toml; gives = c.in_ok-target.ensures.accepted; few = few })
