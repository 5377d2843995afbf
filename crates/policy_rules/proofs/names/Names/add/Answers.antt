use Rattle.policy_rules.proofs.Prelude.{◌∙◌, ap, List, ◌≡◌, sym, ℕ, [], ◌∷◌, ◌++◌, false, length, subst, Some, rules, UpdatesBy, slice_cmp, nat_cmp, has, ArePlaces, texts}
use Rattle.policy_rules.proofs.Texts.{ArePlaces-push}
use Rattle.policy_rules.proofs.names.Names.add.Goals as goal

pub invariant_of-self-2 : goal.invariant_of-self-2
invariant_of-self-2 c =
    let new : has (texts c.self.inside.names.items) c.args.name.now ≡ false = subst (λ (names : List (List ℕ)). has names c.args.name.now ≡ false) (sym c.self.view_is) (sym c.contains.ensures ∙ c.if-contains.false)
    in let place : c.len.result ≡ length c.self.inside.names.items = search rules
    in let all : c.push_reserved.new.self.items ≡ c.self.inside.names.items ++ c.args.name ∷ [] = c.push_reserved.ensures.items ∙ ap (λ l. l ++ c.args.name ∷ []) c.in_ok-reserve.ensures.items
    in subst (λ l. ArePlaces c.insert.new.self (texts l)) (sym all)
    (ArePlaces-push c.self.inside.places c.insert.new.self c.self.inside.names.items c.args.name c.self.invariant new
    (subst (λ n. UpdatesBy (λ a b. slice_cmp nat_cmp a.now b.now) (λ k. slice_cmp nat_cmp c.args.name.now k.now) c.self.inside.places c.insert.new.self (Some n)) place c.in_ok-insert.ensures.updates))
