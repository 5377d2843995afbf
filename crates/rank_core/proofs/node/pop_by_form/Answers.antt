use Rattle.rank_core.proofs.Prelude.{◌≡◌, sym, rules, subst, ◌∙◌, ap, arith, [], refl, slice_set, pos, length-within, program_of, Memory, memory_for, write, clamped, Keep, IsForm, AreKept, RunAs, HasState, state_of, step_of, after_pop, NodeState}
use Rattle.std.specs.Vec.{with_item}
use Rattle.rank_defs.specs.declared.transaction.Span.{Span}
use Rattle.rank_defs.specs.Values.{num}
use Rattle.rank_core.proofs.NoLines.{rank_alone}
use Rattle.rank_core.proofs.NodeKept.{popped-keeps}
use Rattle.rank_core.proofs.RankKept.{keep_alone}
use Rattle.rank_core.proofs.node.pop_by_form.Goals as goal
use Rattle.rank_core.proofs.node.pop_by_form.Goals.{In-Kept, After-clamp}

-- a step without assignments
pub returns-in-Empty-clause-after : goal.returns-in-Empty-clause-after
returns-in-Empty-clause-after c =
    let none : RunAs (program_of c.args.transaction.now) (program_of c.args.transaction.now).pop [] = subst (IsForm (program_of c.args.transaction.now) (program_of c.args.transaction.now).pop) c.in-Empty.is c.requires.form
    in rank_alone c.args.transaction.now c.args.transaction.now.pop c.args.who.now c.args.env.now c.args.rank c.args.rank c.args.state.now (none c.args.env.now (memory_for c.args.who.now c.args.rank (state_of c.args.state.now)))

-- a step that stores the rank in a variable of the node
pub index_mut-requires : goal.index_mut-requires
index_mut-requires c =
    let kept : AreKept (program_of c.args.transaction.now) (program_of c.args.transaction.now).pop c.in-Kept.kept = subst (IsForm (program_of c.args.transaction.now) (program_of c.args.transaction.now).pop) c.in-Kept.is c.requires.form
    in omega (arith, kept.keep, length-within c.args.transaction.now.keeps c.args.state.now.keeps.items c.requires.can.in_range.keeps)

after-kept : (c : After-clamp) → HasState (record c.args.state.now { keeps = with_item c.args.state.now.keeps c.in-Kept.kept.keep c.clamp.result }) (after_pop (program_of c.args.transaction.now) c.args.who.now c.args.env.now c.args.rank (state_of c.args.state.now))
after-kept c =
    let kept : AreKept (program_of c.args.transaction.now) (program_of c.args.transaction.now).pop c.in-Kept.kept = subst (IsForm (program_of c.args.transaction.now) (program_of c.args.transaction.now).pop) c.in-Kept.is c.requires.form
    in let m : Memory = memory_for c.args.who.now c.args.rank (state_of c.args.state.now)
    in let k = c.in-Kept.kept.keep
    in let is : step_of c.args.transaction.now c.args.transaction.now.pop c.args.who.now c.args.env.now c.args.rank c.args.state.now ≡ write (Keep k) (clamped c.in-Kept.kept.span (num (pos c.args.rank))) m
    = kept.same c.args.env.now m ∙ ap (λ (s : Span). write (Keep k) (clamped s (num (pos c.args.rank))) m) (sym kept.span)
    in let after : NodeState = record c.args.state.now { keeps = with_item c.args.state.now.keeps k c.clamp.result }
    in let keeps : after.keeps.items ≡ slice_set c.args.state.now.keeps.items k (clamped c.in-Kept.kept.span (num (pos c.args.rank))) = search rules
    in keep_alone c.args.transaction.now c.args.transaction.now.pop c.args.who.now c.args.env.now c.args.rank k _ c.args.state.now after is keeps refl refl

pub returns-in-Kept-clause-after : goal.returns-in-Kept-clause-after
returns-in-Kept-clause-after c = after-kept (goal.at.returns-in-Kept-clause-after c).After-clamp

pub returns-in-Kept-clause-keeps : goal.returns-in-Kept-clause-keeps
returns-in-Kept-clause-keeps c =
    popped-keeps c.args.transaction.now c.args.who.now c.args.env.now c.args.state.now _ c.requires.can (λ w. (λ h. h, λ h. h)) refl c.args.rank c.requires.rank (after-kept (goal.at.returns-in-Kept-clause-keeps c).After-clamp)

-- any other step
pub returns-in_default-clause-keeps : goal.returns-in_default-clause-keeps
returns-in_default-clause-keeps c =
    popped-keeps c.args.transaction.now c.args.who.now c.args.env.now c.args.state.now c.run_lines.new.state c.requires.can c.run_lines.ensures.room c.run_lines.ensures.children c.args.rank c.requires.rank c.run_lines.ensures.after
