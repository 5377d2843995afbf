use Rattle.sched_embedded.proofs.Prelude.{sym, ℕ, ◌∙◌, ap, ◌≡◌, subst, List, arith, length, Some, [], ◌∷◌, ◌+◌, length-map, length-append, slice_get, IsLiftedPathTo, LiftedPath, Address, LeadsToLeaf, leaf_of}
use Rattle.sched_embedded.proofs.ClassPaths.{one_more, leaf-told, leaf-leads}
use Rattle.sched_embedded.proofs.embedded.class_paths.Goals as goal

pub to-requires-clause-leaf : goal.to-requires-clause-leaf
to-requires-clause-leaf c =
    subst (LeadsToLeaf c.args.map.now) (sym c.address.ensures.address)
    (leaf-leads _ c.args.policy.now.policy c.classes-class-items.result.now c.loop-class.class-index c.class-item.result c.classes-class-items.ensures.classes c.loop-class-test.true c.class-item.is c.args.map.now c.classes-class-items.ensures.accepted c.requires.shape)

pub loop-class-preserved : goal.loop-class-preserved
loop-class-preserved c =
    let lifted_paths : List LiftedPath = c.loop-class.lifted_paths.items in
    let lifted_path : LiftedPath = c.in_ok-to.field-0 in
    let told : leaf_of c.args.policy.now.policy c.loop-class.class-index ≡ c.address.result.now
    = leaf-told _ c.args.policy.now.policy c.classes-class-items.result.now c.loop-class.class-index c.class-item.result c.classes-class-items.ensures.classes c.loop-class-test.true c.class-item.is ∙ sym c.address.ensures.address in
    let there : IsLiftedPathTo c.args.map.now (leaf_of c.args.policy.now.policy (length lifted_paths)) lifted_path
    = subst (λ (z : Address). IsLiftedPathTo c.args.map.now z lifted_path) (sym (ap (leaf_of c.args.policy.now.policy) c.loop-class.invariant.many ∙ told)) c.in_ok-to.ensures.lifted in
    record {
      many = ap length c.in_ok-push.ensures.items ∙ length-append lifted_paths (lifted_path ∷ []) ∙ ap (λ (n : ℕ). n + 1) c.loop-class.invariant.many;
      each = λ n x e. one_more (λ m. IsLiftedPathTo c.args.map.now (leaf_of c.args.policy.now.policy m)) lifted_paths lifted_path c.loop-class.invariant.each there n x (subst (λ (z : List LiftedPath). slice_get z n ≡ Some x) c.in_ok-push.ensures.items e);
    }

pub returns : goal.returns
returns c =
    let n : c.loop-class.class-index ≡ length c.classes-class-items.result.now = omega arith in
    record {
      lifted_paths = record {
        whole = c.loop-class.invariant.many ∙ n ∙ sym (length-map c.classes-class-items.result.now _) ∙ ap length c.classes-class-items.ensures.classes;
        each = c.loop-class.invariant.each;
      };
    }
