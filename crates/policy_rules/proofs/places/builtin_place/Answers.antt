use Rattle.policy_rules.proofs.Prelude.{◌∙◌, ap, List, ◌≡◌, ℕ, map, position, rules, tests, Bor, YieldsList-from_slice, position_from_yields_List, bytes_eq}
use Rattle.policy_rules.proofs.Texts.{position-map}
use Rattle.policy_rules.proofs.places.builtin_place.Goals as goal

pub returns : goal.returns
returns c =
    let texts : List (Bor (List ℕ)) = c.iter.result.rest.now in
    let at : c.position.result ≡ position (λ k. bytes_eq c.args.name.now k.now) texts = position_from_yields_List (λ (k : Bor (List ℕ)). bytes_eq c.args.name.now k.now) _ _ _ c.position.ensures.ran (YieldsList-from_slice texts cc) (λ x b q k. search (rules, tests)) in
    at ∙ position-map (λ (k : Bor (List ℕ)). k.now) (bytes_eq c.args.name.now) texts ∙ ap (λ (l : List (Bor (List ℕ))). position (bytes_eq c.args.name.now) (map (λ k. k.now) l)) c.iter.ensures.rest
