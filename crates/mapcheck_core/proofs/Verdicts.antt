-- The answer that a verdict gives.
use Rattle.mapcheck_core.proofs.Prelude.{◌≡◌, subst, ap, refl, Err, Result, Ok, ◌↔◌, IsEmbedding, Topology, image_of, Breaks, MapFault, Given}
use Rattle.mapcheck_core.proofs.MapLaws.{breaks_none, breaks_one}

abbrev Answer : Type 0
Answer = Result (Unit {0}) MapFault

abbrev the_answer : MapFault → Answer
the_answer f = Err f

abbrev all_right : Answer
all_right = Ok tt

same_fault : (f h : MapFault) (r : Answer) → r ≡ Err f → r ≡ Err h → f ≡ h
same_fault f h r e d = cc

pub refused : (s t : Topology) (g : Given) (f : MapFault) → Breaks s t g f → (h : MapFault) → ((the_answer f) ≡ Err h) ↔ Breaks s t g h
refused s t g f b h = (λ e. subst (Breaks s t g) (same_fault f h (Err f) refl e) b, λ c. ap the_answer (breaks_one s t g f h b c))

different : (h : MapFault) → all_right ≡ Err h → ⊥
different h d = cc

pub accepted : (s t : Topology) (g : Given) → IsEmbedding s t (image_of s g) → (h : MapFault) → (all_right ≡ Err h) ↔ Breaks s t g h
accepted s t g e h = (λ d. absurd (different h d), λ b. absurd (breaks_none s t g h b e))
