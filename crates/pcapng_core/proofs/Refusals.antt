-- The properties of an error that is passed on.
use Rattle.pcapng_core.proofs.Prelude.{◌≡◌, sym, subst, Err, Ok, Result, IfErr, IsErrAnd}

pub err-passed : {A E : Type 0} (r : Result A E) (x : E) (Q : E → Type 0) → IsErrAnd r (λ e. e ≡ x) → Q x → IfErr r Q
err-passed (Ok a) x Q h q = tt
err-passed (Err e) x Q h q = subst Q (sym h) q
