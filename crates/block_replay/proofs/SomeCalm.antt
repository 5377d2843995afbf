-- A calm policy that is laid by a good map: the premises of the laws can be met.
use Rattle.block_replay.proofs.Prelude.{refl, ◌≡◌, [], arith, ◌∷◌, Some, subst, suc, zero, codes, lit≤, Maps, IsAccepted, IsNodeReady, AreBuiltIn, Node, node_at, Policy, builtins-checked, fifo, stfq, builtin, named, Program, no_marks_in_range, start, Address, IsLaidCalmly}
use Rattle.block_replay.specs.CalmRows.{node_of, pair_by, side_by_side}

abbrev fair : Policy
fair = pair_by (named (codes "stfq") stfq)

-- a property of the root and of both leaves is one of each node
module _ (P : Node → Type 0) (root : P (node_of (named (codes "stfq") stfq))) (fifos : P (node_of (named (codes "fifo") fifo))) where
  each_node : (a : Address) (n : Node) → node_at fair.tree a ≡ Some n → P n
  each_node [] n e = let same : node_of (named (codes "stfq") stfq) ≡ n = cc in subst P same root
  each_node (zero ∷ []) n e = let same : node_of (named (codes "fifo") fifo) ≡ n = cc in subst P same fifos
  each_node (zero ∷ i ∷ a) n e = cc
  each_node (suc zero ∷ []) n e = let same : node_of (named (codes "fifo") fifo) ≡ n = cc in subst P same fifos
  each_node (suc zero ∷ i ∷ a) n e = cc
  each_node (suc (suc i) ∷ a) n e = cc

fair-accepted : IsAccepted fair
fair-accepted = record {
  nodes = each_node IsNodeReady
      (record { shaped = builtins-checked.1.1.1.1.1.0.0; checked = builtins-checked.1.1.1.1.1.0.1; marks = no_marks_in_range; name = lit≤ tt })
      (record { shaped = builtins-checked.0.0; checked = builtins-checked.0.1; marks = no_marks_in_range; name = lit≤ tt });
  classes = (record { marks = no_marks_in_range; leaf_address = tt }, (record { marks = no_marks_in_range; leaf_address = tt }, tt));
  some_class = omega arith;
  levels = lit≤ tt;
  children = (omega arith, (tt, (tt, tt)));
}

stfq_is : (program : Program) → builtin (codes "stfq") ≡ Some program → stfq ≡ program
stfq_is program e = cc

fifo_is : (program : Program) → builtin (codes "fifo") ≡ Some program → fifo ≡ program
fifo_is program e = cc

fair-built_in : AreBuiltIn fair
fair-built_in a n program e = each_node (λ z. (q : Program) → builtin z.using ≡ Some q → z.program ≡ q) stfq_is fifo_is a n e program

fair-maps : Maps 1 (start fair).tree side_by_side
fair-maps = record {
  shape = (tt, (tt, tt));
  good = record {
    root = refl;
    deep = (omega arith, omega arith, refl, (omega arith, omega arith, refl, tt));
    nested = ((0 ∷ [], refl), (refl, refl, tt), tt, ((1 ∷ [], refl), tt, tt, tt));
  };
}

pub fair_is_laid_calmly : IsLaidCalmly 1 fair side_by_side
fair_is_laid_calmly = record { accepted = fair-accepted; built_in = fair-built_in; maps = fair-maps; calm = refl }
