-- Why a line isn't accepted.
use Rattle.std.specs.Prelude.{◌≡◌, refl, [], ◌∷◌, map}
use Rattle.text_core.specs.declared.token.TokenFault.{TokenFault}
use Rattle.text_core.specs.declared.token.TokenFault.TheVariants as fault
use Rattle.text_core.specs.declared.refusal.Refusal.{Refusal}
use Rattle.text_core.specs.declared.refusal.Refusal.TheVariants as refusal

-- a line with a bad token is malformed
abbrev pub refusal_of : TokenFault → Refusal
refusal_of (fault.Bad place) = refusal.NoForm
refusal_of fault.NoMemory = refusal.NoMemory

both_refusals : map refusal_of (fault.Bad 3 ∷ fault.NoMemory ∷ []) ≡ refusal.NoForm ∷ refusal.NoMemory ∷ []
both_refusals = refl
