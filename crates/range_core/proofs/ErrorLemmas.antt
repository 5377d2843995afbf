-- A fault that is returned as an error.
use Rattle.std.proofs.Common.{◌≡◌, ◌↔◌, Some, Err, Result, ap}
use Rattle.range_core.specs.declared.fault.RangeFault.{RangeFault}

same-some : (f g : RangeFault) → Some f ≡ Some g → f ≡ g
same-some f g e = cc

same-error : {V : Type 0} (f g : RangeFault) → ◌≡◌ {A = Result V RangeFault} (Err f) (Err g) → f ≡ g
same-error f g e = cc

pub as-error : {V : Type 0} (f g : RangeFault) (Holds : Type 0) → ((Some f ≡ Some g) ↔ Holds) → (◌≡◌ {A = Result V RangeFault} (Err f) (Err g) ↔ Holds)
as-error f g Holds h = (λ e. h.0 (ap Some (same-error f g e)), λ x. ap Err (same-some f g (h.1 x)))
