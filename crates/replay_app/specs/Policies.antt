-- Reading the text of a policy.
use Rattle.std.specs.Prelude.{◌≢◌, ℕ, List, map, Result}
use Rattle.report_core.specs.declared.fault.FaultKind.TheVariants.{Policy}
use Rattle.policy_text_defs.specs.Canonical.{canonical_text}
use Rattle.policy_text_defs.specs.Sense.{Sense, Entry}
use Rattle.policy_text_defs.specs.declared.edition.Edition.{Edition}
use Rattle.policy_text_defs.specs.Text.{HasEntries}
use Rattle.policy_text.specs.declared.lines.Lines.{Lines}
use Rattle.policy_text.specs.declared.fault.TextFault.{TextFault}
use Rattle.policy_text.specs.Codes.{code_of as text_code, line_of as text_line}
use Rattle.policy_text.specs.Entries.{entry_of}
use Rattle.policy_text.specs.Parsing.{IsCause}
use Rattle.policy_rules.specs.Accepted.{AreAccepted, IsFault}
use Rattle.policy_rules.specs.Codes.{code_of, line_of}
use Rattle.policy_rules.specs.Resolved.{Resolved, IsResolved}
use Rattle.policy_rules.specs.declared.fault.PolicyFault.{PolicyFault}
use Rattle.policy_rules.specs.declared.fault.PolicyFault.TheVariants.{NoMemory}
use Rattle.replay_app.specs.Answer.{Answer, text_alone}
use Rattle.replay_app.specs.Follows.{Follows, IsRead}
use Rattle.replay_app.specs.declared.refusal.Refusal.{Refusal}
use Rattle.replay_app.specs.declared.policies.PolicyFile as code

-- the statements, without their line numbers
abbrev pub senses_of : List Entry → List Sense
senses_of es = map (λ e. e.1) es

-- the statements that were read, with their line numbers
abbrev pub entries_in : Lines → List Entry
entries_in lines = map entry_of lines.held

-- the code and line number with which a reader of the editions up to `latest` rejects a text: it is
-- too long, or its first line in error decides
pub data IsTextRefused (latest : Edition) (text : List ℕ) : ℕ → ℕ → Type 0 where
  at_fault : (f : TextFault) → IsCause latest text f → IsTextRefused latest text (text_code f) (text_line f)

-- the code and line number with which a policy is rejected: those of its text, or those of the
-- first clause that its statements break
pub data IsPolicyRefused (latest : Edition) (text : List ℕ) : ℕ → ℕ → Type 0 where
  text_refused : (code line : ℕ) → IsTextRefused latest text code line → IsPolicyRefused latest text code line
  statements_refused : (es : List Entry) (f : PolicyFault) → HasEntries latest text es → f ≢ NoMemory → IsFault es f → IsPolicyRefused latest text (code_of f) (line_of f)

-- statements, and the policy that they give
pub record PolicyFile : Type 0 where
  pub entries : List Entry
  pub policy : Resolved

abbrev pub policy_file_of : code.PolicyFile → PolicyFile
policy_file_of j = record { entries = entries_in j.lines; policy = j.policy }

-- for a reader of the editions up to `latest`, the text has these statements, they are accepted, and
-- they give this policy
pub record IsPolicy (latest : Edition) (text : List ℕ) (j : PolicyFile) : Type 0 where
  pub has : HasEntries latest text j.entries
  pub accepted : AreAccepted j.entries
  pub gives : IsResolved j.entries j.policy

-- outputs that depend on the text of a policy
abbrev pub UnderPolicy : Edition → List ℕ → (PolicyFile → Answer → Type 0) → Answer → Type 0
UnderPolicy latest text after = Follows Policy (IsPolicyRefused latest text) (IsPolicy latest text) after

-- the output of `check`: the canonical text of a policy
abbrev pub checked : PolicyFile → Answer
checked j = text_alone 0 (canonical_text (senses_of j.entries))

-- what a reader of the editions up to `latest` reads of a text
abbrev pub IsPolicyRead : Edition → List ℕ → Result code.PolicyFile Refusal → Type 0
IsPolicyRead latest text read = IsRead (IsPolicyRefused latest text) (λ j. IsPolicy latest text (policy_file_of j)) read
