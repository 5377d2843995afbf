use Rattle.policy_core.proofs.Prelude.{List, ◌≡◌, ℕ, ap, sym, subst, ◌∙◌, ◌+◌, take, position, bytes_eq, ArePut}
use Rattle.policy_core.proofs.LeafPlaces.{put-some, put-none}
use Rattle.policy_core.proofs.homes.put.Goals.{in-Some, in_default}
use Rattle.policy_core.proofs.homes.put.Goals as goal

pub loop-name-preserved : goal.loop-name-preserved
loop-name-preserved c =
    let at : position (bytes_eq c.name-item.result) c.args.classes.now ≡ c.place.result = ap (λ (a : List ℕ). position (bytes_eq a) c.args.classes.now) (sym c.as_str.ensures) ∙ sym c.place.ensures in
    elim c.match-place.branch [
      | in-Some w ↦ subst (λ (new : List ℕ). ArePut c.args.classes.now (take (c.loop-name.name-index + 1) c.args.listed.now) c.args.leaf c.args.leaves.now new) (sym w.leaves-is)
          (put-some c.args.classes.now c.args.listed.now c.args.leaf c.loop-name.name-index w.in-Some.place c.args.leaves.now c.loop-name.leaves c.name-item.result c.requires.len c.loop-name-test.true c.name-item.is (at ∙ w.in-Some.is) c.loop-name.invariant)
      | in_default w ↦ subst (λ (new : List ℕ). ArePut c.args.classes.now (take (c.loop-name.name-index + 1) c.args.listed.now) c.args.leaf c.args.leaves.now new) (sym w.leaves-is)
          (put-none c.args.classes.now c.args.listed.now c.args.leaf c.loop-name.name-index c.args.leaves.now c.loop-name.leaves c.name-item.result c.loop-name-test.true c.name-item.is (at ∙ w.in_default.is) c.loop-name.invariant)
    ]
