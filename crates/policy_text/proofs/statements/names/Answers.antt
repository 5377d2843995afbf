use Rattle.policy_text.proofs.Prelude.{◌≡◌, ap, sym, ◌++◌, ◌∙◌, refl, [], ◌∷◌, repeats_more, repeats_over, pure}
use Rattle.policy_text_defs.proofs.AttributeLaws.{name_shrinks}
use Rattle.policy_text.proofs.LoopLaws.{names_start, repeats_at}
use Rattle.policy_text.proofs.statements.names.Goals as goal

pub loop-name-init : goal.loop-name-init
loop-name-init c =
    let empty = c.from_vec-names.ensures ∙ c.new.ensures.items in
    let pushed : c.push.new.self ≡ c.in_ok-name.field-0.now ∷ [] = c.in_ok-push.ensures.ok ∙ ap (λ l. l ++ c.in_ok-new.field-0 ∷ []) empty ∙ ap (λ w. w ∷ []) c.in_ok-new.ensures in
    repeats_at _ _ _ _ _ _ (names_start _ _ _ c.in_ok-name.ensures) pushed

pub loop-name-preserved : goal.loop-name-preserved
loop-name-preserved c =
    let pushed : c.push-in-Some.new.self ≡ c.loop-name.names ++ c.in-Some.name.now ∷ [] = c.in_ok-push-2.ensures.ok ∙ ap (λ w. c.loop-name.names ++ w ∷ []) c.in_ok-new-2.ensures in
    repeats_at _ _ _ _ _ _ (repeats_more _ _ _ _ _ _ _ _ _ c.loop-name.invariant c.in-Some.ensures refl (name_shrinks _ c.loop-name.names _ _ _ _ c.in-Some.ensures refl)) pushed

pub returns : goal.returns
returns c = repeats_over _ _ _ _ _ c.loop-name.invariant c.in_default.ensures.0 ∙ ap (pure c.loop-name.names) (sym c.in_default.ensures.1)
