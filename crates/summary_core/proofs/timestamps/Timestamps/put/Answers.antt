use Rattle.summary_core.proofs.Prelude.{ℕ, length, ◌≡◌, arith, List, ap, ◌≤◌, ◌∙◌, Some, if◌then◌else◌, Option, ◌-◌, ◌==◌, stamp_at}
use Rattle.summary_core.proofs.Slots.{stored}
use Rattle.summary_core.proofs.timestamps.Timestamps.put.Goals as goal

pub returns : goal.returns
returns c = λ yes n.
    let first = c.fill.new.self.first in
    let slots = c.fill.new.self.slots.items in
    let number = c.args.number in
    let moment = c.args.moment in
    let least : first ≤ number = omega (arith, c.if-number-self.false, c.fill.ensures.first) in
    let count : length slots ≡ number - c.restart.new.self.first = c.in_ok-fill.ensures.count (omega (arith, c.if-place-len.false, c.len.ensures)) in
    let place : number - first ≡ length slots = omega (arith, count, c.fill.ensures.first) in
    ap (λ (l : List ℕ). stamp_at first l n) c.in_ok-push_back.ensures.items
    ∙ stored first slots number moment least place (λ e. omega (arith, e, c.if-moment-eq-ABSENT.false)) n
    ∙ ap (λ (o : Option ℕ). if n == number then Some moment else o) (c.in_ok-fill.ensures.kept n ∙ c.restart.ensures n)
