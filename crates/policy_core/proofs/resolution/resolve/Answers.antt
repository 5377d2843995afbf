use Rattle.policy_core.proofs.Prelude.{List, ℕ, sym, subst, IfErr, OnOk, AreAccepted, IsFault, entries_of, AreWritten, IsRising, Statement}
use Rattle.policy_core.proofs.WrittenLines.{rising, valid}
use Rattle.policy_core.proofs.resolution.resolve.Goals as goal

pub accept-requires-clause-rising : goal.accept-requires-clause-rising
accept-requires-clause-rising c =
    rising c.entries.result.now (subst (λ (ls : List (ℕ × Statement)). IsRising ls) (sym c.entries.ensures.entries) c.entries.ensures.rising)

pub accept-requires-clause-valid : goal.accept-requires-clause-valid
accept-requires-clause-valid c =
    valid c.entries.result.now (subst (λ (ls : List (ℕ × Statement)). AreWritten ls) (sym c.entries.ensures.entries) c.entries.ensures.written)

pub returns-clause-accepts : goal.returns-clause-accepts
returns-clause-accepts c = subst (λ (ls : List (ℕ × Statement)). OnOk c.accept.result (AreAccepted (entries_of ls))) c.entries.ensures.entries c.accept.ensures.accepts

pub returns-clause-refuses : goal.returns-clause-refuses
returns-clause-refuses c = subst (λ (ls : List (ℕ × Statement)). IfErr c.accept.result (IsFault (entries_of ls))) c.entries.ensures.entries c.accept.ensures.refuses
