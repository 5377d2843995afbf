use Rattle.policy_core.proofs.Prelude.{List, ◌≡◌, ℕ, ap, sym, subst, arith, length, AreAcyclic, IsLeastLine, entries_of, IsCyclic, IsTooDeep, Entry, lists, IsBelow, IsDeep, IsLeast, AreParents}
use Rattle.std.proofs.lemmas.Option.{MatchOption-at_some, MatchOption-at_none}
use Rattle.policy_core.proofs.FamilyNames.{few-names}
use Rattle.policy_core.proofs.FamilyFaults.{rooted-named, root_at, root-is, graph-range, graph-nodes, graph-small, parents-all, cycle-line, no-cycle, graph-forest, deep-line, no-deep}
use Rattle.policy_core.proofs.faults.check_family.Goals as goal

pub first_on_cycle-requires-clause-in_range : goal.first_on_cycle-requires-clause-in_range
first_on_cycle-requires-clause-in_range c = graph-range (entries_of c.args.lines.now) c.requires.rising c.requires.rooted c.args.graph.now c.requires.graph

pub first_on_cycle-requires-clause-small : goal.first_on_cycle-requires-clause-small
first_on_cycle-requires-clause-small c = graph-small (entries_of c.args.lines.now) c.requires.rising c.requires.rooted c.args.graph.now c.requires.graph

pub line_of-requires : goal.line_of-requires
line_of-requires c =
    let found : IsLeast (length c.args.graph.now) (λ a. IsBelow (lists c.args.graph.now) a a) c.in-Some.node = MatchOption-at_some _ _ _ c.in-Some.is c.in_ok-node.ensures.first in
    record { declared = omega (arith, found.within, graph-nodes (entries_of c.args.lines.now) c.requires.rising c.requires.rooted c.args.graph.now c.requires.graph) }

pub returns-in-Some-clause-fault : goal.returns-in-Some-clause-fault
returns-in-Some-clause-fault c =
    let found : IsLeast (length c.args.graph.now) (λ a. IsBelow (lists c.args.graph.now) a a) c.in-Some.node = MatchOption-at_some _ _ _ c.in-Some.is c.in_ok-node.ensures.first in (
      c.requires.rooted,
      subst (λ (n : ℕ). IsLeastLine (IsCyclic (entries_of c.args.lines.now)) (entries_of c.args.lines.now) n) (sym c.line_of.ensures)
          (cycle-line (entries_of c.args.lines.now) c.requires.rising c.requires.rooted c.args.graph.now c.requires.graph c.in-Some.node found),
    )

pub parents-requires-clause-in_range : goal.parents-requires-clause-in_range
parents-requires-clause-in_range c = graph-range (entries_of c.args.lines.now) c.requires.rising c.requires.rooted c.args.graph.now c.requires.graph

pub parents-requires-clause-small : goal.parents-requires-clause-small
parents-requires-clause-small c = graph-small (entries_of c.args.lines.now) c.requires.rising c.requires.rooted c.args.graph.now c.requires.graph

pub number-requires-clause-small : goal.number-requires-clause-small
number-requires-clause-small c = omega (arith, few-names (entries_of c.args.lines.now) c.args.nodes.now c.requires.nodes (rooted-named (entries_of c.args.lines.now) c.requires.rising c.requires.rooted))

pub first_deep-requires-clause-small : goal.first_deep-requires-clause-small
first_deep-requires-clause-small c =
    omega (
      arith,
      ap length c.as_slice.ensures.value,
      parents-all (entries_of c.args.lines.now) c.requires.rising c.requires.rooted c.args.graph.now c.requires.graph c.in_ok-parents.parents.items c.in_ok-parents.ensures.parents,
      graph-small (entries_of c.args.lines.now) c.requires.rising c.requires.rooted c.args.graph.now c.requires.graph,
    )

pub line_of-requires-in-Some-first_deep : goal.line_of-requires-in-Some-first_deep
line_of-requires-in-Some-first_deep c =
    let es : List Entry = entries_of c.args.lines.now in
    let acyclic : AreAcyclic es = no-cycle es c.requires.rising c.requires.rooted c.args.graph.now c.requires.graph (MatchOption-at_none _ _ c.in_default.is c.in_ok-node.ensures.first) in
    let root : c.number.result ≡ root_at es = root-is es c.requires.rising c.requires.rooted c.args.graph.now c.requires.graph c.args.nodes.now c.number.result c.requires.nodes c.number.ensures in
    let parents : AreParents (lists c.args.graph.now) c.as_slice.result.now = subst (λ (l : List ℕ). AreParents (lists c.args.graph.now) l) (sym c.as_slice.ensures.value) c.in_ok-parents.ensures.parents in
    let found : IsLeast (length c.as_slice.result.now) (IsDeep (lists c.args.graph.now) c.number.result) c.in-Some-first_deep.node =
    c.in-Some-first_deep.ensures.first (lists c.args.graph.now) (graph-forest es c.requires.rising c.requires.rooted c.args.graph.now c.requires.graph acyclic c.number.result root) parents in
    record {
      declared = omega (
        arith,
        found.within,
        parents-all es c.requires.rising c.requires.rooted c.args.graph.now c.requires.graph c.as_slice.result.now parents,
        graph-nodes es c.requires.rising c.requires.rooted c.args.graph.now c.requires.graph,
      );
    }

pub returns-in-Some-first_deep-clause-fault : goal.returns-in-Some-first_deep-clause-fault
returns-in-Some-first_deep-clause-fault c =
    let es : List Entry = entries_of c.args.lines.now in
    let acyclic : AreAcyclic es = no-cycle es c.requires.rising c.requires.rooted c.args.graph.now c.requires.graph (MatchOption-at_none _ _ c.in_default.is c.in_ok-node.ensures.first) in
    let root : c.number.result ≡ root_at es = root-is es c.requires.rising c.requires.rooted c.args.graph.now c.requires.graph c.args.nodes.now c.number.result c.requires.nodes c.number.ensures in
    let parents : AreParents (lists c.args.graph.now) c.as_slice.result.now = subst (λ (l : List ℕ). AreParents (lists c.args.graph.now) l) (sym c.as_slice.ensures.value) c.in_ok-parents.ensures.parents in
    let found : IsLeast (length c.as_slice.result.now) (IsDeep (lists c.args.graph.now) c.number.result) c.in-Some-first_deep.node =
    c.in-Some-first_deep.ensures.first (lists c.args.graph.now) (graph-forest es c.requires.rising c.requires.rooted c.args.graph.now c.requires.graph acyclic c.number.result root) parents in (
      acyclic,
      subst (λ (n : ℕ). IsLeastLine (IsTooDeep es) es n) (sym c.line_of-in-Some-first_deep.ensures)
          (deep-line es c.requires.rising c.requires.rooted c.args.graph.now c.requires.graph c.number.result (length c.as_slice.result.now) c.in-Some-first_deep.node root
          (parents-all es c.requires.rising c.requires.rooted c.args.graph.now c.requires.graph c.as_slice.result.now parents) found),
    )

pub returns-clause-ok : goal.returns-clause-ok
returns-clause-ok c =
    let es : List Entry = entries_of c.args.lines.now in
    let acyclic : AreAcyclic es = no-cycle es c.requires.rising c.requires.rooted c.args.graph.now c.requires.graph (MatchOption-at_none _ _ c.in_default.is c.in_ok-node.ensures.first) in
    let root : c.number.result ≡ root_at es = root-is es c.requires.rising c.requires.rooted c.args.graph.now c.requires.graph c.args.nodes.now c.number.result c.requires.nodes c.number.ensures in
    let parents : AreParents (lists c.args.graph.now) c.as_slice.result.now = subst (λ (l : List ℕ). AreParents (lists c.args.graph.now) l) (sym c.as_slice.ensures.value) c.in_ok-parents.ensures.parents in
    no-deep es c.requires.rising c.requires.rooted c.args.graph.now c.requires.graph acyclic c.number.result (length c.as_slice.result.now) root (parents-all es c.requires.rising c.requires.rooted c.args.graph.now c.requires.graph c.as_slice.result.now parents)
    (c.in_default-first_deep.ensures.first (lists c.args.graph.now) (graph-forest es c.requires.rising c.requires.rooted c.args.graph.now c.requires.graph acyclic c.number.result root) parents)
