-- Laws of the program's output.
use Rattle.std.specs.Prelude.{◌≡◌, ℕ, List}
use Rattle.tap_core.specs.Lists.{Entry}
use Rattle.replay_app.specs.Answer.{Answer}
use Rattle.block_replay.specs.Output.{IsBlockOutput}
use Rattle.block_replay.specs.Words.{BlockForm}

-- for given arguments, file contents and taps there is at most one correct output
abbrev pub HaveOneBlockAnswer : Type 0
HaveOneBlockAnswer = (form : BlockForm) (contents : List ℕ → List ℕ) (taps : List Entry) (a b : Answer)
    → IsBlockOutput form contents taps a → IsBlockOutput form contents taps b → a ≡ b

-- for all arguments, file contents and taps there is a correct output
abbrev pub HaveABlockAnswer : Type 0
HaveABlockAnswer = (form : BlockForm) (contents : List ℕ → List ℕ) (taps : List Entry)
    → ((a : Answer) → IsBlockOutput form contents taps a → ⊥) → ⊥
