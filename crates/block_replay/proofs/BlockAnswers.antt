-- For given arguments and file contents there is exactly one correct output.
use Rattle.block_replay.proofs.Prelude.{refl, ◌∙◌, sym, ap, one-follows, some-follows, policies_are_one, rooms_are_one, targets_are_one, one-answer, same-answer, topology_of, shared, calm}
use Rattle.report_core.specs.declared.fault.FaultKind.TheVariants as kind
use Rattle.target_core.proofs.ArityRanges.{in_range-holds}
use Rattle.replay_app.proofs.SomeAnswer.{some-answer, read_policies, read_targets, read_rooms, exactly}
use Rattle.block_replay.specs.Laws.{HaveOneBlockAnswer, HaveABlockAnswer}
use Rattle.block_replay.specs.Spills.{counted}

pub one-block_answer : HaveOneBlockAnswer
one-block_answer (shared form) contents taps a b x y = x.counted_is ∙ ap counted (one-answer form contents taps x.first y.first x.is y.is) ∙ sym y.counted_is
one-block_answer (calm latest p t) contents taps a b x y =
    one-follows kind.Policy _ _ _ (policies_are_one latest (contents p)) (λ policy_file.
    one-follows kind.Target _ _ _ (targets_are_one (contents t)) (λ target.
    one-follows kind.Size _ _ _ (rooms_are_one (topology_of policy_file.policy.policy.tree) target) (λ images. same-answer _))) a b x y

pub some-block_answer : HaveABlockAnswer
some-block_answer (shared form) contents taps none = some-answer form contents taps (λ a is. none (counted a) (record { first = a; is = is; counted_is = refl }))
some-block_answer (calm latest p t) contents taps none =
    some-follows kind.Policy _ _ _ (read_policies latest (contents p)) (λ policy_file policy.
    some-follows kind.Target _ _ _ (read_targets (contents t)) (λ target is.
    some-follows kind.Size _ _ _ (read_rooms (topology_of policy_file.policy.policy.tree) target (in_range-holds (contents t) target.arities target.above is)) (λ images placed.
    exactly _))) none
