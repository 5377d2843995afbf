use Rattle.std.proofs.Common.{rules, subst, List}
use Rattle.std.specs.List.Sorted.{IsPermutation}
use Rattle.std.proofs.lemmas.List.Sorted.{IsNonDecreasingBy-from_sort_by_key}
use Rattle.policy_text_defs.specs.declared.test.Range.{Range}
use Rattle.packet_core.specs.Ranges.{low}
use Rattle.packet_core.proofs.ranges.sorted.Goals as goal

pub returns : goal.returns
returns c = (subst (λ (l : List Range). IsPermutation l c.sort_by_key.new.self.items) c.in_ok-all.ensures.items c.in_ok-sort_by_key.ensures.permutation, IsNonDecreasingBy-from_sort_by_key low c.sort_by_key.new.self.items c.in_ok-sort_by_key.ensures.sorted (λ a r f called. search rules))
