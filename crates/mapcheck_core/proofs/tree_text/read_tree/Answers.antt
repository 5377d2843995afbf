use Rattle.mapcheck_core.proofs.Prelude.{◌≡◌, sym, subst, inr, ◌⊎◌, Err, Result, Ok, err_from_is_err_and, topology, Topo, IsTreeFault, AreReadLines, TreeFault, Found}
use Rattle.mapcheck_core.specs.declared.tree_fault.TreeFault.TheVariants as fault
use Rattle.mapcheck_core.specs.TreeTexts.{too_long}
use Rattle.mapcheck_core.proofs.TreeSteps.{no_tree, large_tree, tree_text, text_within}
use Rattle.mapcheck_core.proofs.TreeAnswers.{accepted, refused}
use Rattle.mapcheck_core.proofs.tree_text.read_tree.Goals as goal

abbrev Answer : Type 0
Answer = Result Topo TreeFault

abbrev no : TreeFault → Answer
no f = Err f

abbrev yes : Topo → Answer
yes t = Ok t

pub returns-then-text-gt-MOST_TREE_BYTES-clause-fault : goal.returns-then-text-gt-MOST_TREE_BYTES-clause-fault
returns-then-text-gt-MOST_TREE_BYTES-clause-fault c = inr (too_long c.if-text-gt-MOST_TREE_BYTES.true)

pub returns-in_err-found-clause-accepted : goal.returns-in_err-found-clause-accepted
returns-in_err-found-clause-accepted c = λ t is.
    let left = err_from_is_err_and c.from_residual.result c.from_residual.ensures.1 in
    let told : (left.0 ≡ fault.NoMemory) ⊎ IsTreeFault c.args.text.now left.0 = subst (λ (f : TreeFault). (f ≡ fault.NoMemory) ⊎ IsTreeFault c.args.text.now f) (sym left.2) c.in_err-found.ensures.fault in
    rw left.1 (accepted topology c.args.text.now (no left.0) t told is)

pub returns-in_err-found-clause-refused : goal.returns-in_err-found-clause-refused
returns-in_err-found-clause-refused c = λ f is.
    let left = err_from_is_err_and c.from_residual.result c.from_residual.ensures.1 in
    let told : (left.0 ≡ fault.NoMemory) ⊎ IsTreeFault c.args.text.now left.0 = subst (λ (f : TreeFault). (f ≡ fault.NoMemory) ⊎ IsTreeFault c.args.text.now f) (sym left.2) c.in_err-found.ensures.fault in
    rw left.1 (refused topology c.args.text.now (no left.0) f told is)

pub returns-in-Nothing-clause-fault : goal.returns-in-Nothing-clause-fault
returns-in-Nothing-clause-fault c = inr (no_tree c.args.text.now c.in_ok-found.line c.if-text-gt-MOST_TREE_BYTES.false (subst (λ (f : Found). AreReadLines c.args.text.now f c.in_ok-found.line) c.in-Nothing.is c.in_ok-found.ensures.ok))

pub returns-in-Nothing-clause-accepted : goal.returns-in-Nothing-clause-accepted
returns-in-Nothing-clause-accepted c = λ t is. accepted topology c.args.text.now (no (fault.Line 0)) t (returns-in-Nothing-clause-fault c) is

pub returns-in-Nothing-clause-refused : goal.returns-in-Nothing-clause-refused
returns-in-Nothing-clause-refused c = λ f is. refused topology c.args.text.now (no (fault.Line 0)) f (returns-in-Nothing-clause-fault c) is

pub returns-in-Large-clause-fault : goal.returns-in-Large-clause-fault
returns-in-Large-clause-fault c = inr (large_tree c.args.text.now c.in_ok-found.line c.if-text-gt-MOST_TREE_BYTES.false (subst (λ (f : Found). AreReadLines c.args.text.now f c.in_ok-found.line) c.in-Large.is c.in_ok-found.ensures.ok))

pub returns-in-Large-clause-accepted : goal.returns-in-Large-clause-accepted
returns-in-Large-clause-accepted c = λ t is. accepted topology c.args.text.now (no (fault.Large c.in_ok-found.line)) t (returns-in-Large-clause-fault c) is

pub returns-in-Large-clause-refused : goal.returns-in-Large-clause-refused
returns-in-Large-clause-refused c = λ f is. refused topology c.args.text.now (no (fault.Large c.in_ok-found.line)) f (returns-in-Large-clause-fault c) is

pub returns-in-Tree-clause-tree : goal.returns-in-Tree-clause-tree
returns-in-Tree-clause-tree c = tree_text c.args.text.now c.in-Tree.tree c.in_ok-found.line c.if-text-gt-MOST_TREE_BYTES.false (subst (λ (f : Found). AreReadLines c.args.text.now f c.in_ok-found.line) c.in-Tree.is c.in_ok-found.ensures.ok)

pub returns-in-Tree-clause-limits : goal.returns-in-Tree-clause-limits
returns-in-Tree-clause-limits c = text_within c.args.text.now (topology c.in-Tree.tree) (returns-in-Tree-clause-tree c)

pub returns-in-Tree-clause-accepted : goal.returns-in-Tree-clause-accepted
returns-in-Tree-clause-accepted c = λ t is. accepted topology c.args.text.now (yes c.in-Tree.tree) t (returns-in-Tree-clause-tree c) is

pub returns-in-Tree-clause-refused : goal.returns-in-Tree-clause-refused
returns-in-Tree-clause-refused c = λ f is. refused topology c.args.text.now (yes c.in-Tree.tree) f (returns-in-Tree-clause-tree c) is
