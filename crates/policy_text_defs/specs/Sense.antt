-- Statements without their location in memory.
use Rattle.std.specs.Prelude.{◌≡◌, refl, ℕ, suc, List, [], ◌∷◌, codes}
use Rattle.rank_defs.specs.declared.transaction.Span.{Span}
use Rattle.policy_text_defs.specs.declared.attribute.Attrs.{Attrs}
use Rattle.policy_text_defs.specs.declared.condition.Condition.{Condition}
use Rattle.policy_text_defs.specs.declared.queueing.Queueing.{Queueing}
use Rattle.policy_text_defs.specs.declared.test.Test.{Test}
use Rattle.policy_text_defs.specs.declared.statement.Statement.{Statement}
use Rattle.policy_text_defs.specs.declared.statement.Statement.TheVariants as statement
use Rattle.policy_text_defs.specs.Phrase.{Phrase, phrase_of}

pub data Sense : Type 0 where
  version : ℕ → Sense
  transaction : (name : List ℕ) → Sense
  keep : (name : List ℕ) → Span → Sense
  each : (name : List ℕ) → Span → Sense
  push : (name : List ℕ) → Phrase → Sense
  pop : (name : List ℕ) → Phrase → Sense
  class : (name : List ℕ) → Attrs → List Condition → Sense
  filter : (name : List ℕ) → Attrs → List (List Test) → Sense
  leaf : (name used : List ℕ) → Attrs → Queueing → (classes : List (List ℕ)) → Sense
  node : (name used : List ℕ) → Attrs → Queueing → (children : List (List ℕ)) → Sense

abbrev pub sense_of : Statement → Sense
sense_of (statement.Version v) = version v
sense_of (statement.Transaction n) = transaction n
sense_of (statement.Keep n s) = keep n s
sense_of (statement.Each n s) = each n s
sense_of (statement.Push n t) = push n (phrase_of t)
sense_of (statement.Pop n t) = pop n (phrase_of t)
sense_of (statement.Class n a cs) = class n a cs
sense_of (statement.Filter n a cs) = filter n a cs
sense_of (statement.Leaf n u a q ns) = leaf n u a q ns
sense_of (statement.Node n u a q ns) = node n u a q ns

-- a line's number and its statement
abbrev pub Entry : Type 0
Entry = ℕ × Sense

abbrev pub entry : ℕ → Sense → Entry
entry n s = (n, s)

-- statements with consecutive line numbers, from N
abbrev pub numbered : ℕ → List Sense → List Entry
numbered n [] = []
numbered n (s ∷ ss) = entry n s ∷ numbered (suc n) ss

numbers_follow_one_another : numbered 3 (version 2 ∷ transaction (codes "t") ∷ []) ≡ (3, version 2) ∷ (4, transaction (codes "t")) ∷ []
numbers_follow_one_another = refl
