-- The reading of an interface's options, step by step.
use Rattle.pcapng_core.proofs.Prelude.{◌≡◌, ℕ, List, sym, ◌∙◌, ap, arith, length, ◌+◌, Option, Some, ◌<◌, ◌≤◌, None, ◌-◌, drop, take, Bool, length-drop, length-take, cond-true, lt-ltb, length-take-le, drop-take, Passes, unit_of, option_len, ends, at_option, usual_unit, Unit, IsUnitOf, StandsAt, SameUnit, Gives, Ends}
use Rattle.pcapng_defs.specs.Interface.{option_front}
use Rattle.pcapng_defs.proofs.OptionSteps.{units_go_option_by_option}
use Rattle.pcapng_core.specs.declared.options.Step.TheVariants.{Passes as Behind}

-- after an option
pub same-more : (big : Bool) (count rest behind : ℕ) (old mid new : Option (List ℕ)) → SameUnit big count rest old mid → behind ≤ rest → Passes (rest - behind) mid new → StandsAt big rest mid (Behind behind)
    → SameUnit big count behind old new
same-more big count rest behind None mid new same less passed stands = tt
same-more big count rest behind (Some old) None new same less passed stands = absurd same
same-more big count rest behind (Some old) (Some mid) None same less passed stands = absurd passed
same-more big count rest behind (Some old) (Some mid) (Some new) same less passed stands = λ h.
    let s = same h in
    let size : length (take rest mid) ≡ rest = length-take-le rest mid s.0 in
    let sum : rest - behind + behind ≡ rest = omega (arith, less) in
    let moved : drop (rest - behind) (take rest mid) ≡ take behind new =
    ap (λ m. drop (rest - behind) (take m mid)) (sym sum) ∙ drop-take (rest - behind) behind mid ∙ ap (take behind) (sym passed.1) in (
      omega (arith, s.0, less, ap length passed.1, length-drop (rest - behind) mid),
      s.1 ∙ units_go_option_by_option big (take rest mid) ∙ ap (at_option (unit_of big)) (stands s.0)
          ∙ ap (λ m. unit_of big (drop (m - behind) (take rest mid))) size ∙ ap (unit_of big) moved,
    )

-- if the options end
pub unit-ends : (big : Bool) (count rest behind : ℕ) (old mid : Option (List ℕ)) → SameUnit big count rest old mid → StandsAt big rest mid (Ends behind) → IsUnitOf big count old usual_unit
unit-ends big count rest behind None mid same stands = tt
unit-ends big count rest behind (Some old) None same stands = absurd same
unit-ends big count rest behind (Some old) (Some mid) same stands = λ h.
    let s = same h in
    s.1 ∙ units_go_option_by_option big (take rest mid) ∙ ap (at_option (unit_of big)) (stands s.0)

-- if the options give the unit
pub unit-gives : (big : Bool) (count rest behind : ℕ) (unit : Unit) (old mid : Option (List ℕ)) → SameUnit big count rest old mid → StandsAt big rest mid (Gives unit behind) → IsUnitOf big count old unit
unit-gives big count rest behind unit None mid same stands = tt
unit-gives big count rest behind unit (Some old) None same stands = absurd same
unit-gives big count rest behind unit (Some old) (Some mid) same stands = λ h.
    let s = same h in
    s.1 ∙ units_go_option_by_option big (take rest mid) ∙ ap (at_option (unit_of big)) (stands s.0)

option_front-few : (big : Bool) (bytes : List ℕ) → length bytes < option_len → option_front big bytes ≡ ends
unfolding option_front
option_front-few big bytes few = cond-true _ _ _ (lt-ltb (length bytes) option_len few)

-- if too few bytes are left for an option
pub unit-few : (big : Bool) (count rest : ℕ) (old mid : Option (List ℕ)) → SameUnit big count rest old mid → rest < option_len → IsUnitOf big count old usual_unit
unit-few big count rest None mid same few = tt
unit-few big count rest (Some old) None same few = absurd same
unit-few big count rest (Some old) (Some mid) same few = λ h.
    let s = same h in
    s.1 ∙ units_go_option_by_option big (take rest mid) ∙ ap (at_option (unit_of big)) (option_front-few big (take rest mid) (omega (arith, few, length-take rest mid)))
