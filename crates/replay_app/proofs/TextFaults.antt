-- The fault of a text is the cause of its rejection.
use Rattle.replay_app.proofs.Prelude.{subst, ℕ, List, ◌≡◌, inr, inl, ◌≢◌, ◌⊎◌, Err, Result, Ok, IsMapAnswer, IsTreeFault, MapFault, Given, Policy, Edition, names_of, policy_edition, IsMapRefused, IsTreeRefused, unread}
use Rattle.mapcheck_core.specs.declared.fault.MapFault.TheVariants as map
use Rattle.mapcheck_core.specs.declared.tree_fault.TreeFault.{TreeFault}
use Rattle.mapcheck_core.specs.declared.tree_fault.TreeFault.TheVariants as tree
use Rattle.mapcheck_core.specs.MapFaults.{code_of, place_of}
use Rattle.mapcheck_core.specs.TreeTexts.{code_of as tree_code, place_of as tree_place}
use Rattle.policy_text.proofs.TextSteps.{cause_told}
use Rattle.policy_text.specs.Codes.{code_of as text_code, line_of as text_line}
use Rattle.policy_text.specs.Parsing.{HasCause}
use Rattle.policy_text.specs.declared.fault.TextFault.{TextFault}
use Rattle.policy_text.specs.declared.fault.TextFault.TheVariants as fault
use Rattle.replay_app.specs.Policies.{IsPolicyRefused, text_refused, at_fault}
use Rattle.replay_app.specs.Via as via

pub policy_refused : (latest : Edition) (text : List ℕ) (f : TextFault) → f ≢ fault.NoMemory → HasCause latest text f → IsPolicyRefused latest text (text_code f) (text_line f)
policy_refused latest text f some is = text_refused (text_code f) (text_line f) (at_fault f (cause_told latest text f some is))

pub tree_refused : (text : List ℕ) (f : TreeFault) → f ≢ tree.NoMemory → (f ≡ tree.NoMemory) ⊎ IsTreeFault text f → IsTreeRefused text (tree_code f) (tree_place f)
tree_refused text f some (inl none) = absurd (some none)
tree_refused text f some (inr is) = via.at_fault f is

-- a map that was read in the policy's edition, with the policy's names
module _ (policy : Policy) (text : List ℕ) (edition : Edition) (written : edition ≡ policy_edition policy) (names : List (List ℕ)) (same : names ≡ names_of policy) where
  as_defined : (r : Result Given MapFault) → IsMapAnswer edition text names r → IsMapAnswer (policy_edition policy) text (names_of policy) r
  as_defined r answer = subst (λ (ns : List (List ℕ)). IsMapAnswer (policy_edition policy) text ns r) same (subst (λ (e : Edition). IsMapAnswer e text names r) written answer)

  pub map_refused : (r : Result Given MapFault) (f : MapFault) → r ≡ Err f → f ≢ map.NoMemory → (r ≡ Err map.NoMemory) ⊎ IsMapAnswer edition text names r → IsMapRefused policy text (code_of f) (place_of f)
  map_refused r f is some (inl none) = absurd (some cc)
  map_refused r f is some (inr answer) = unread f (as_defined (Err f) (subst (IsMapAnswer edition text names) is answer))

  pub map_answer : (r : Result Given MapFault) (g : Given) → r ≡ Ok g → (r ≡ Err map.NoMemory) ⊎ IsMapAnswer edition text names r → IsMapAnswer (policy_edition policy) text (names_of policy) (Ok g)
  map_answer r g is (inl none) = absurd cc
  map_answer r g is (inr answer) = as_defined (Ok g) (subst (IsMapAnswer edition text names) is answer)
