-- The statements of the test samples.
use Rattle.std.specs.Prelude.{◌≡◌, ◌≤◌, true, List, [], ◌∷◌, codes}
use Rattle.rank_defs.specs.declared.transaction.Span.{Span}
use Rattle.policy_text_defs.specs.Phrase.{Phrase, word, depth, most_depth}
use Rattle.policy_text_defs.specs.Sense.{Entry, numbered, version, transaction, keep, each, push, pop}
use Rattle.policy_text_defs.specs.Valid.{HasOperands}
use Rattle.policy_rules.specs.Clauses.{are_operands_known}

abbrev pub digit : Span
digit = record { low = 0; high = 9; first = 0 }

-- `n` is the node's variable, `m` each child's or flow's; line 5 ranks, and line 6 sets `n` to `m`
abbrev pub ranking : Phrase → List Entry
ranking rank =
    numbered 1 (version 1 ∷ transaction (codes "t") ∷ keep (codes "n") digit ∷ each (codes "m") digit ∷ push (codes "rank") rank ∷ pop (codes "n") (word (codes "m")) ∷ [])

-- an expression over these variables that can be written
pub record IsSample (a : Phrase) : Type 0 where
  pub known : are_operands_known (codes "n" ∷ codes "m" ∷ []) a ≡ true
  pub operands : HasOperands a
  pub low : depth a ≤ most_depth
