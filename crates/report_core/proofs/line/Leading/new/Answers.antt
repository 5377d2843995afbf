use Rattle.std.proofs.Common.{rules, sym, arith}
use Rattle.std.proofs.Math.Nat.{mul-one}
use Rattle.std.proofs.lemmas.Fmt.{decimal_digit}
use Rattle.report_core.proofs.line.Leading.new.Goals as goal

pub invariant_of-result : goal.invariant_of-result
invariant_of-result g c = record {
  leading = 1;
  unit_some = c.requires.some;
  some = omega arith;
  small = search (rules, g.UNIT.fits);
  round = sym (mul-one g.row.UNIT);
  within = omega arith;
  text = sym (decimal_digit 1 (omega arith));
}
