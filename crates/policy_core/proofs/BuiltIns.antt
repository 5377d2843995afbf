-- A policy that accepted statements give uses the names of built-in transactions only for these.
use Rattle.policy_core.proofs.Prelude.{List, ◌≡◌, ℕ, ap, sym, subst, [], ◌∙◌, ◌∷◌, suc, Some, zero, Option, AreBuiltIn, Node, node_at, node_below, Name, body_named, or_written, IsTreeIn, Resolved, AreTreesIn, IsInnerOf, IsLeafOf, IsResolved, names_of, IsNodeOf, Entry, Sense, node, class, filtered, version, each, keep, pop, push, transaction, Attrs, builtin, Program, Tree, Trees, inner, more, none, Address}
use Rattle.tree_defs.specs.Tree.{leaf as leaf_of}
use Rattle.policy_text_defs.specs.declared.queueing.Queueing.{Queueing}
use Rattle.policy_text_defs.specs.Sense.{leaf}
use Rattle.policy_core.proofs.PlacePrograms.{none-some, some-same}

-- if a node uses this name, it has this program
abbrev HasIfNamed : Node → Type 0
HasIfNamed n = (p : Program) → builtin n.using ≡ Some p → n.program ≡ p

named-node : (es : List Entry) (n : Node) (name used : Name) (a : Attrs) (q : Queueing) → IsNodeOf es n name used a q → HasIfNamed n
named-node es n name used a q said p is =
    sym (some-same (sym (ap (λ (o : Option Program). or_written o (body_named es used)) (ap builtin (sym said.using_is) ∙ is)) ∙ said.program_is))

named-leaf : (es : List Entry) (n : Node) (s : Sense) → IsLeafOf es n s → HasIfNamed n
named-leaf es n (version v) said = absurd said
named-leaf es n (transaction t) said = absurd said
named-leaf es n (keep m s) said = absurd said
named-leaf es n (each m s) said = absurd said
named-leaf es n (push m t) said = absurd said
named-leaf es n (pop m t) said = absurd said
named-leaf es n (class m a cs) said = absurd said
named-leaf es n (filtered m a cs) said = absurd said
named-leaf es n (leaf m u a q ns) said = named-node es n m u a q said
named-leaf es n (node m u a q ns) said = absurd said

named-inner : (es : List Entry) (n : Node) (names : List Name) (s : Sense) → IsInnerOf es n names s → HasIfNamed n
named-inner es n names (version v) said = absurd said
named-inner es n names (transaction t) said = absurd said
named-inner es n names (keep m s) said = absurd said
named-inner es n names (each m s) said = absurd said
named-inner es n names (push m t) said = absurd said
named-inner es n names (pop m t) said = absurd said
named-inner es n names (class m a cs) said = absurd said
named-inner es n names (filtered m a cs) said = absurd said
named-inner es n names (leaf m u a q ns) said = absurd said
named-inner es n names (node m u a q ns) said = named-node es n m u a q said.0

mutual
  named-at : (es : List Entry) (tree : Tree Node) (a : Address) (n : Node) → IsTreeIn es tree → node_at tree a ≡ Some n → HasIfNamed n
  named-at es (leaf_of m) [] n said at = subst HasIfNamed (some-same at) (named-leaf es m said.1.1 said.4)
  named-at es (leaf_of m) (i ∷ a) n said at = absurd (none-some at)
  named-at es (inner m ts) [] n said at = subst HasIfNamed (some-same at) (named-inner es m (names_of ts) said.0.1.1 said.0.4)
  named-at es (inner m ts) (i ∷ a) n said at = named-below es ts i a n said.1 at

  named-below : (es : List Entry) (ts : Trees Node) (i : ℕ) (a : Address) (n : Node) → AreTreesIn es ts → node_below ts i a ≡ Some n → HasIfNamed n
  named-below es none i a n said at = absurd (none-some at)
  named-below es (more t ts) zero a n said at = named-at es t a n said.0 at
  named-below es (more t ts) (suc i) a n said at = named-below es ts i a n said.1 at

pub built-in : (es : List Entry) (r : Resolved) → IsResolved es r → AreBuiltIn r.policy
built-in es r resolved a n p at is = named-at es r.policy.tree a n resolved.tree at p is
