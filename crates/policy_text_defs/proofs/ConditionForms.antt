-- The tokens of the canonical text of conditions have their forms.
use Rattle.policy_text_defs.proofs.Prelude.{List, ℕ, [], refl, ◌≡◌, ◌∷◌, ◌++◌, subst, Bool, true, false, sym, arith, ◌≤◌, cond, ◌<◌, eqb, eqb-true, append-nil, AllByRecursion, figure, sign, octets_of, Guard, IsCondition, guarded, unguarded, Address, Conditions, Range, also, between, dest, field, ipv4, ipv6, last, prefix, single, source, AreOctets, address_of, IsValidCondition, IsValidAddress, Condition}
use Rattle.text_core.specs.declared.mark.Mark.TheVariants as m
use Rattle.policy_text_defs.specs.declared.condition.Condition.TheVariants as condition
use Rattle.policy_text_defs.proofs.ConditionTokens.{range_tokens, address_tokens, condition_tokens, more_conditions_tokens, guard_tokens}

range_case : (low high : ℕ) (v : Bool) → eqb low high ≡ v → low ≤ high → Range (cond v (figure low ∷ []) (figure low ∷ sign m.DotDot ∷ figure high ∷ [])) low high
range_case low high true same ordered = subst (Range (figure low ∷ []) low) (eqb-true low high same) (single low)
range_case low high false apart ordered = between low high ordered

pub range_form : (low high : ℕ) → low ≤ high → Range (range_tokens low high) low high
range_form low high ordered = range_case low high (eqb low high) refl ordered

pub octets_are : (a : ℕ) → a < 4294967296 → AreOctets (octets_of a)
octets_are a small = record { first = omega arith; second = omega arith; third = omega arith; fourth = omega arith }

pub address_same : (a : ℕ) → address_of (octets_of a) ≡ a
address_same a = omega arith

pub address_form : (a l : ℕ) → IsValidAddress a l → Address (address_tokens a l) a l
address_form a l is =
    let P : ℕ → Type 0 = λ b. Address (address_tokens a l) b l in
    subst P (address_same a) (prefix (octets_of a) l (octets_are a is.address) is.prefix)

condition_form : (c : Condition) → IsValidCondition c → IsCondition (condition_tokens c) c
condition_form (condition.Field f low high) is = field f (range_tokens low high) low high (range_form low high is.ordered) is.below
condition_form (condition.Source a l) is = source (address_tokens a l) a l (address_form a l is)
condition_form (condition.Dest a l) is = dest (address_tokens a l) a l (address_form a l is)
condition_form condition.Ipv4 is = ipv4
condition_form condition.Ipv6 is = ipv6

conditions_form : (c : Condition) (cs : List Condition) → IsValidCondition c → AllByRecursion IsValidCondition cs → Conditions (condition_tokens c ++ more_conditions_tokens cs) (c ∷ cs)
conditions_form c [] is all = subst (λ l. Conditions l (c ∷ [])) (sym (append-nil (condition_tokens c))) (last (condition_tokens c) c (condition_form c is))
conditions_form c (d ∷ ds) is all = also (condition_tokens c) (condition_tokens d ++ more_conditions_tokens ds) c (d ∷ ds) (condition_form c is) (conditions_form d ds all.0 all.1)

pub guard_form : (cs : List Condition) → AllByRecursion IsValidCondition cs → Guard (guard_tokens cs) cs
guard_form [] all = unguarded
guard_form (c ∷ cs) all = guarded (condition_tokens c ++ more_conditions_tokens cs) (c ∷ cs) (conditions_form c cs all.0 all.1)
