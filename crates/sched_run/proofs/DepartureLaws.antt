-- The result of a departure that is recorded.
use Rattle.sched_run.proofs.Prelude.{None, ◌∙◌, ◌≡◌, sym, subst, Some, Option, IfOk-weaker, option_map, IfOk, Result, IfNone, IsNone, ◌↔◌, Departed, departed_packet, IsDeparture, KeepsTrace, next_departed, ForEachState, Ghosts, departed, leaver, Way, size, AsksOnce, Departs}

-- what holds if no packet departed holds if none was to depart
if_none_left : {A B : Type 0} (P : Type 0) (f : A → B) (d : Option B) (o : Option A) → d ≡ option_map f o → IfNone d P → IfNone o P
if_none_left P f d (Some l) same h = tt
if_none_left P f None None same h = h
if_none_left P f (Some d) None same h = absurd (cc)

-- the answer, unless the record failed, is the packet that the scheduler gave
pub departs : {C U E : Type 0} (S : Ghosts C U) (c c' : C) (u u' : U) (trace trace' : Way) (d : Option Departed) (answer : Result (Option Departed) E) → IfOk answer (λ x. x ≡ d)
    → ForEachState S.stands (S.policy c) c u (λ s. S.stands c' u' (departed (S.policy c) s)) → ForEachState S.stands (S.policy c) c u (λ s. IsDeparture (S.policy c) s d trace')
    → KeepsTrace d trace trace' → AsksOnce S c u c' u' → Departs S answer c u trace c' u' trace'
departs S c c' u u' trace trace' d answer same state left kept asked = record {
  state = state;
  value = λ s sound stood. IfOk-weaker answer (λ x. x ≡ d) (λ x. x ≡ next_departed (S.policy c) s) (λ x e. e ∙ (left s sound stood).value) same;
  none = λ s sound stood. IfOk-weaker answer (λ x. x ≡ d) (λ x. IsNone x ↔ (size s.tree ≡ 0))
      (λ x e. subst (λ (y : Option Departed). IsNone y ↔ (size s.tree ≡ 0)) (sym e) (left s sound stood).none) same;
  taken = λ s sound stood. (left s sound stood).taken;
  untouched = λ s sound stood. if_none_left (trace' ≡ trace) (departed_packet (S.policy c)) d (leaver s) (left s sound stood).value kept.stays;
  room = kept.room;
  asked = asked;
}
