use Rattle.policy_rules.proofs.Prelude.{◌∙◌, ap, ◌≡◌, sym, false, Bool, true, ◌||◌, ◌&&◌, codes, bytes_eq, phrase_of, sense_of, is_known, are_operands_known, Name, has}
use Rattle.policy_rules.proofs.Operands.{push_known, pop_known}
use Rattle.policy_rules.proofs.known.is_known.Goals as goal

pub returns-then-is_target_known : goal.returns-then-is_target_known
returns-then-is_target_known c = λ entries earlier are kept.
    let known : (bytes_eq c.in-Push.name (codes "rank") || has c.args.variables.now c.in-Push.name) ≡ true =
    sym (c.is_target_known.ensures ∙ ap (λ (n : Name). bytes_eq n (codes "rank") || has c.args.variables.now n) c.as_str.ensures) ∙ c.if-is_target_known.true in
    c.are_operands_known.ensures ∙ sym (ap (λ (b : Bool). b && are_operands_known c.args.variables.now (phrase_of c.in-Push.value)) known)
    ∙ push_known entries earlier c.args.variables.now kept c.in-Push.name (phrase_of c.in-Push.value) ∙ sym (ap (λ s. is_known entries earlier (sense_of s)) c.in-Push.is)

pub returns-else-is_target_known : goal.returns-else-is_target_known
returns-else-is_target_known c = λ entries earlier are kept.
    let known : (bytes_eq c.in-Push.name (codes "rank") || has c.args.variables.now c.in-Push.name) ≡ false =
    sym (c.is_target_known.ensures ∙ ap (λ (n : Name). bytes_eq n (codes "rank") || has c.args.variables.now n) c.as_str.ensures) ∙ c.if-is_target_known.false in
    c.if-is_target_known.false ∙ sym (ap (λ (b : Bool). b && are_operands_known c.args.variables.now (phrase_of c.in-Push.value)) known)
    ∙ push_known entries earlier c.args.variables.now kept c.in-Push.name (phrase_of c.in-Push.value) ∙ sym (ap (λ s. is_known entries earlier (sense_of s)) c.in-Push.is)

pub returns-then-contains : goal.returns-then-contains
returns-then-contains c = λ entries earlier are kept.
    let known : has c.args.variables.now c.in-Pop.name ≡ true = sym (c.contains.ensures ∙ ap (λ (n : Name). has c.args.variables.now n) c.as_str-in-Pop.ensures) ∙ c.if-contains.true in
    c.are_operands_known-then-contains.ensures ∙ sym (ap (λ (b : Bool). b && are_operands_known c.args.variables.now (phrase_of c.in-Pop.value)) known)
    ∙ pop_known entries earlier c.args.variables.now kept c.in-Pop.name (phrase_of c.in-Pop.value) ∙ sym (ap (λ s. is_known entries earlier (sense_of s)) c.in-Pop.is)

pub returns-else-contains : goal.returns-else-contains
returns-else-contains c = λ entries earlier are kept.
    let known : has c.args.variables.now c.in-Pop.name ≡ false = sym (c.contains.ensures ∙ ap (λ (n : Name). has c.args.variables.now n) c.as_str-in-Pop.ensures) ∙ c.if-contains.false in
    c.if-contains.false ∙ sym (ap (λ (b : Bool). b && are_operands_known c.args.variables.now (phrase_of c.in-Pop.value)) known)
    ∙ pop_known entries earlier c.args.variables.now kept c.in-Pop.name (phrase_of c.in-Pop.value) ∙ sym (ap (λ s. is_known entries earlier (sense_of s)) c.in-Pop.is)
