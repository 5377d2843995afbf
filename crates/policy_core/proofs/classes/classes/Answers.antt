use Rattle.policy_core.proofs.Prelude.{List, ap, ◌∙◌, arith, slice_index, given-within, marks_of, sense_of, Test, alternatives_of}
use Rattle.policy_rules.specs.Resolved.{class_in}
use Rattle.policy_core.proofs.ClassLemmas.{class-more, class-same, no-class}
use Rattle.policy_core.proofs.classes.classes.Goals.{in-Class+in_ok-alternatives-in-Class+in_ok-push-in-Class, in-Filter+in_ok-alternatives-in-Filter+in_ok-push-in-Filter, in_default}
use Rattle.policy_core.proofs.classes.classes.Goals as goal

pub bounds-leaves-len : goal.bounds-leaves-len
bounds-leaves-len c =
    let few = given-within class_in c.args.lines.now c.loop-statement.statement-index c.loop-statement-item.result _ c.loop-statement-test.true c.loop-statement-item.is (ap (λ s. class_in (sense_of s)) c.in-Class.is) in
    omega (arith, few, c.loop-statement.invariant.counted, c.len.ensures, c.requires.len)

pub offset_bounds-leaves-len : goal.offset_bounds-leaves-len
offset_bounds-leaves-len c =
    let few = given-within class_in c.args.lines.now c.loop-statement.statement-index c.loop-statement-item.result _ c.loop-statement-test.true c.loop-statement-item.is (ap (λ s. class_in (sense_of s)) c.in-Class.is) in
    omega (arith, few, c.loop-statement.invariant.counted, c.len.ensures, c.requires.len, c.type_inv.leaves)

pub bounds-leaves-len-in-Filter : goal.bounds-leaves-len-in-Filter
bounds-leaves-len-in-Filter c =
    let few = given-within class_in c.args.lines.now c.loop-statement.statement-index c.loop-statement-item.result _ c.loop-statement-test.true c.loop-statement-item.is (ap (λ s. class_in (sense_of s)) c.in-Filter.is) in
    omega (arith, few, c.loop-statement.invariant.counted, c.len-in-Filter.ensures, c.requires.len)

pub offset_bounds-leaves-len-in-Filter : goal.offset_bounds-leaves-len-in-Filter
offset_bounds-leaves-len-in-Filter c =
    let few = given-within class_in c.args.lines.now c.loop-statement.statement-index c.loop-statement-item.result _ c.loop-statement-test.true c.loop-statement-item.is (ap (λ s. class_in (sense_of s)) c.in-Filter.is) in
    omega (arith, few, c.loop-statement.invariant.counted, c.len-in-Filter.ensures, c.requires.len, c.type_inv.leaves)

pub loop-statement-preserved : goal.loop-statement-preserved
loop-statement-preserved c = elim c.match-statement.branch [
  | in-Class+in_ok-alternatives-in-Class+in_ok-push-in-Class w ↦
      class-more c.args.lines.now c.loop-statement.statement-index c.loop-statement-item.result (record { name = w.in-Class.field-0; marks = marks_of w.in-Class.attrs; conditions = alternatives_of w.in-Class.conditions }) c.args.leaves.now
      c.loop-statement.classes c.match-statement.classes w.class.result w.len.result
      c.loop-statement-test.true c.loop-statement-item.is (ap (λ s. class_in (sense_of s)) w.in-Class.is) c.requires.len c.loop-statement.invariant
      (w.classes-is ∙ w.in_ok-push-in-Class.ensures.ok)
      (w.class.ensures ∙ ap (λ (cs : List (List Test)). record { marks = marks_of w.in-Class.attrs; conditions = cs; leaf = slice_index c.args.leaves.now w.len.result }) (w.in_ok-alternatives-in-Class.ensures ∙ ap alternatives_of w.as_slice.ensures))
      w.len.ensures
  | in-Filter+in_ok-alternatives-in-Filter+in_ok-push-in-Filter w ↦
      class-more c.args.lines.now c.loop-statement.statement-index c.loop-statement-item.result (record { name = w.in-Filter.field-0; marks = marks_of w.in-Filter.attrs; conditions = w.in-Filter.tests }) c.args.leaves.now
      c.loop-statement.classes c.match-statement.classes w.class-in-Filter.result w.len-in-Filter.result
      c.loop-statement-test.true c.loop-statement-item.is (ap (λ s. class_in (sense_of s)) w.in-Filter.is) c.requires.len c.loop-statement.invariant
      (w.classes-is ∙ w.in_ok-push-in-Filter.ensures.ok)
      (w.class-in-Filter.ensures ∙ ap (λ (cs : List (List Test)). record { marks = marks_of w.in-Filter.attrs; conditions = cs; leaf = slice_index c.args.leaves.now w.len-in-Filter.result }) (w.in_ok-alternatives-in-Filter.ensures ∙ w.as_slice-in-Filter.ensures))
      w.len-in-Filter.ensures
  | in_default w ↦
      class-same c.args.lines.now c.loop-statement.statement-index c.loop-statement-item.result c.args.leaves.now c.loop-statement.classes c.match-statement.classes
      c.loop-statement-test.true c.loop-statement-item.is (no-class c.loop-statement-item.result.1 w.in_default.not-Class w.in_default.not-Filter) c.loop-statement.invariant w.classes-is
]
