-- Laws of the clauses that statements fail, and of the policies that they give.
use Rattle.std.specs.Prelude.{◌≡◌, ◌≢◌, true, List, All}
use Rattle.policy_text_defs.specs.declared.edition.Edition.TheVariants.{Classic}
use Rattle.policy_text_defs.specs.Editions.{is_of}
use Rattle.policy_text_defs.specs.Sense.{Entry}
use Rattle.policy_defs.specs.Classic.{IsClassic}
use Rattle.policy_rules.specs.Accepted.{AreAccepted, IsFault}
use Rattle.policy_rules.specs.Resolved.{Resolved, IsResolved}
use Rattle.policy_rules.specs.declared.fault.PolicyFault.{PolicyFault}
use Rattle.policy_rules.specs.declared.fault.PolicyFault.TheVariants.{NoMemory}

-- statements have at most one error, apart from `NoMemory`
abbrev pub HaveOneFault : Type 0
HaveOneFault = (entries : List Entry) (f g : PolicyFault) → f ≢ NoMemory → g ≢ NoMemory → IsFault entries f → IsFault entries g → f ≡ g

-- accepted statements have no error, apart from `NoMemory`
abbrev pub AcceptedHaveNoFault : Type 0
AcceptedHaveNoFault = (entries : List Entry) (f : PolicyFault) → f ≢ NoMemory → IsFault entries f → AreAccepted entries → ⊥

-- statements of the classic edition give a classic policy
abbrev pub ClassicStatementsGiveClassicPolicies : Type 0
ClassicStatementsGiveClassicPolicies =
    (entries : List Entry) (r : Resolved) → All (λ e. is_of Classic e.1 ≡ true) entries → IsResolved entries r → IsClassic r.policy
