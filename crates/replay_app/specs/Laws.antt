-- Laws of the program's output.
use Rattle.std.specs.Prelude.{◌≡◌, ℕ, List, [], ◌++◌}
use Rattle.tree_defs.specs.Topology.{topology_of, complete}
use Rattle.target_core.specs.declared.target.Target.{Target}
use Rattle.embed_defs.specs.Embedding.{HasEmbedding}
use Rattle.policy_text_defs.specs.declared.edition.Edition.{Edition}
use Rattle.tap_core.specs.Lists.{Entry}
use Rattle.tap_core.specs.Names.{none_named}
use Rattle.tap_core.specs.declared.watch.Named.{Named}
use Rattle.replay_app.specs.Answer.{Answer}
use Rattle.replay_app.specs.Output.{IsOutput}
use Rattle.replay_app.specs.Policies.{PolicyFile, IsPolicy}
use Rattle.replay_app.specs.Targets.{IsTargetOf}
use Rattle.replay_app.specs.Words.{Form, replay, direct, script}

-- for given arguments, file contents and taps there is at most one correct output
abbrev pub HaveOneAnswer : Type 0
HaveOneAnswer = (form : Form) (contents : List ℕ → List ℕ) (taps : List Entry) (a b : Answer)
    → IsOutput form contents taps a → IsOutput form contents taps b → a ≡ b

-- for all arguments, file contents and taps there is a correct output
abbrev pub HaveAnAnswer : Type 0
HaveAnAnswer = (form : Form) (contents : List ℕ → List ℕ) (taps : List Entry) → ((a : Answer) → IsOutput form contents taps a → ⊥) → ⊥

-- the same status and the same report, which lines of taps may follow if taps are named
pub record ReportsTheSame (named : Named) (through direct : Answer) : Type 0 where
  pub status : through.status ≡ direct.status
  pub lines : List ℕ
  pub report : through.text ≡ direct.text ++ lines
  pub untapped : named ≡ none_named → lines ≡ []

-- if some map embeds the policy's tree into the target, `replay` reports what `direct` reports for
-- the same policy, capture and script
abbrev pub ReplayReportsWhatDirectReports : Type 0
ReplayReportsWhatDirectReports = (latest : Edition) (p t c e : List ℕ) (named : Named) (contents : List ℕ → List ℕ) (taps : List Entry) (policy_file : PolicyFile) (target : Target)
    → IsPolicy latest (contents p) policy_file → IsTargetOf (contents t) target → HasEmbedding (topology_of policy_file.policy.policy.tree) (complete target.arities)
    → (a b : Answer) → IsOutput (replay latest p t c (script e named)) contents taps a → IsOutput (direct latest p c e) contents taps b → ReportsTheSame named a b
