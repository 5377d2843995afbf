-- Consequences of the definition of a plan.
use Rattle.std.specs.Prelude.{◌≡◌, ℕ, Bool, List}
use Rattle.embed_defs.specs.Target.{IsInRange}
use Rattle.policy_defs.specs.Policy.{Policy}
use Rattle.embed_plan.specs.Plan.{IsPlan}

-- there is only one text, and the policy's tree either fits or doesn't
abbrev pub PoliciesHaveOnePlan : Type 0
PoliciesHaveOnePlan =
    (policy : Policy) (arities : List ℕ) (above : ℕ) (fits others : Bool) (text other : List ℕ)
    → IsPlan policy arities above fits text → IsPlan policy arities above others other → (fits ≡ others) × (text ≡ other)

-- a policy and a target have a plan
abbrev pub PoliciesHaveAPlan : Type 0
PoliciesHaveAPlan =
    (policy : Policy) (arities : List ℕ) (above : ℕ) → IsInRange arities above
    → (fits : Bool) × ((text : List ℕ) × IsPlan policy arities above fits text)
