use Rattle.policy_rules.proofs.Prelude.{◌∙◌, ap, refl, inl, inr, sense_of, with_name}
use Rattle.policy_rules.proofs.SpaceLemmas.{transaction-more, class-more, node-more, nothing_more}
use Rattle.policy_rules.proofs.spaces.Spaces.add.Goals as goal

pub returns-in_ok-add-in-Transaction : goal.returns-in_ok-add-in-Transaction
returns-in_ok-add-in-Transaction c = λ earlier line are new.
    transaction-more earlier c.args.self.now are line c.args.statement.now new c.in-Transaction.name c.add.new.self (ap sense_of c.in-Transaction.is)
    (c.in_ok-add-in-Transaction.ensures.ok ∙ ap (with_name c.args.self.now.transactions) c.as_str.ensures)

pub returns-in_ok-add-in-Class : goal.returns-in_ok-add-in-Class
returns-in_ok-add-in-Class c = λ earlier line are new. elim c.in-Class.is [
  | inl (a, cs, is) ↦ class-more earlier c.args.self.now are line c.args.statement.now new c.in-Class.name c.add-in-Class.new.self _ (ap sense_of is) refl refl refl refl
      (c.in_ok-add-in-Class.ensures.ok ∙ ap (with_name c.args.self.now.classes) c.as_str-in-Class.ensures)
  | inr (a, ts, is) ↦ class-more earlier c.args.self.now are line c.args.statement.now new c.in-Class.name c.add-in-Class.new.self _ (ap sense_of is) refl refl refl refl
      (c.in_ok-add-in-Class.ensures.ok ∙ ap (with_name c.args.self.now.classes) c.as_str-in-Class.ensures)
]

pub returns-in_ok-add-in-Leaf : goal.returns-in_ok-add-in-Leaf
returns-in_ok-add-in-Leaf c = λ earlier line are new. elim c.in-Leaf.is [
  | inl (u, a, q, ns, is) ↦ node-more earlier c.args.self.now are line c.args.statement.now new c.in-Leaf.name c.add-in-Leaf.new.self _ (ap sense_of is) refl refl refl refl
      (c.in_ok-add-in-Leaf.ensures.ok ∙ ap (with_name c.args.self.now.nodes) c.as_str-in-Leaf.ensures)
  | inr (u, a, q, ns, is) ↦ node-more earlier c.args.self.now are line c.args.statement.now new c.in-Leaf.name c.add-in-Leaf.new.self _ (ap sense_of is) refl refl refl refl
      (c.in_ok-add-in-Leaf.ensures.ok ∙ ap (with_name c.args.self.now.nodes) c.as_str-in-Leaf.ensures)
]

pub returns-in-Version : goal.returns-in-Version
returns-in-Version c = λ earlier line are new. nothing_more earlier c.args.self.now are line c.args.statement.now new c.in-Version.is

pub returns-in-Version-2 : goal.returns-in-Version-2
returns-in-Version-2 c = λ earlier line are new. nothing_more earlier c.args.self.now are line c.args.statement.now new c.in-Version.is

pub returns-in-Version-3 : goal.returns-in-Version-3
returns-in-Version-3 c = λ earlier line are new. nothing_more earlier c.args.self.now are line c.args.statement.now new c.in-Version.is

pub returns-in-Version-4 : goal.returns-in-Version-4
returns-in-Version-4 c = λ earlier line are new. nothing_more earlier c.args.self.now are line c.args.statement.now new c.in-Version.is

pub returns-in-Version-5 : goal.returns-in-Version-5
returns-in-Version-5 c = λ earlier line are new. nothing_more earlier c.args.self.now are line c.args.statement.now new c.in-Version.is
