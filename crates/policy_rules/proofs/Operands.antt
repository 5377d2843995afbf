-- Expressions whose words are the variables of the open transaction.
use Rattle.policy_rules.proofs.Prelude.{◌∙◌, ap, List, ◌≡◌, refl, ◌||◌, ◌&&◌, codes, bytes_eq, Phrase, choice, negation, number, two, word, Entry, pop, push, is_variable, is_known, are_operands_known, AreVariables, open_variables, Name, has}

-- the known words depend only on the set of the variables' names
pub operands_same : (vs ws : List Name) → ((n : Name) → has vs n ≡ has ws n) → (t : Phrase) → are_operands_known vs t ≡ are_operands_known ws t
operands_same vs ws same (number n) = refl
operands_same vs ws same (word w) = ap (λ b. is_variable w || b) (same w)
operands_same vs ws same (two op a b) = ap (λ x. x && are_operands_known vs b) (operands_same vs ws same a) ∙ ap (λ x. are_operands_known ws a && x) (operands_same vs ws same b)
operands_same vs ws same (negation a) = operands_same vs ws same a
operands_same vs ws same (choice c a b) =
    ap (λ x. x && (are_operands_known vs a && are_operands_known vs b)) (operands_same vs ws same c)
    ∙ ap (λ x. are_operands_known ws c && (x && are_operands_known vs b)) (operands_same vs ws same a)
    ∙ ap (λ x. are_operands_known ws c && (are_operands_known ws a && x)) (operands_same vs ws same b)

module _ (entries earlier : List Entry) (vs : List Name) (kept : AreVariables earlier vs) (n : Name) (t : Phrase) where
  pub push_known : ((bytes_eq n (codes "rank") || has vs n) && are_operands_known vs t) ≡ is_known entries earlier (push n t)
  push_known =
      ap (λ b. (bytes_eq n (codes "rank") || b) && are_operands_known vs t) (kept n)
      ∙ ap (λ b. (bytes_eq n (codes "rank") || has (open_variables earlier) n) && b) (operands_same vs (open_variables earlier) kept t)

  pub pop_known : (has vs n && are_operands_known vs t) ≡ is_known entries earlier (pop n t)
  pop_known = ap (λ b. b && are_operands_known vs t) (kept n) ∙ ap (λ b. has (open_variables earlier) n && b) (operands_same vs (open_variables earlier) kept t)
