use Rattle.policy_core.proofs.Prelude.{ℕ, sym, subst, ◌∙◌, IsPlaceOf}
use Rattle.policy_core.proofs.Programs.{place-of}
use Rattle.policy_core.proofs.nodes.program.Goals as goal

pub returns : goal.returns
returns c = record {
  program = λ es rising few names known.
      subst (λ (n : ℕ). IsPlaceOf es c.args.used.now n) (sym c.unwrap_or.ensures)
      (place-of es c.args.used.now c.program_place.result (c.program_place.ensures.place es rising few names) (c.program_place.ensures.known es rising few names ∙ known) known);
}
