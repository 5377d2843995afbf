use Rattle.pcapng_core.proofs.Prelude.{◌≡◌, ℕ, List, subst, IfSome, taken-first, short-first, held, rest_of, broken, front_of, IsStart, carried_of, fault_in}
use Rattle.pcapng_core.proofs.Starts.{start-taken, starts-broken}
use Rattle.pcapng_core.proofs.Refusals.{err-passed}
use Rattle.pcapng_core.proofs.reader.read_start.Goals as goal

pub returns-in_err-start_in-clause-fault : goal.returns-in_err-start_in-clause-fault
returns-in_err-start_in-clause-fault g c =
    let old = rest_of (held c.args.window.now) (g.S.Shelf.left c.args.shelf.now) in
    let new = rest_of (held c.take.new.self) (g.S.Shelf.left c.take.new.shelf) in
    let front = c.take.new.into.items in
    let carried = carried_of c.args.carry.now in
    err-passed c.from_residual-in_err-start_in.result c.in_err-start_in.field-0.0
    (λ e. IfSome (fault_in e) (λ fault. IfSome old (λ left. front_of carried left ≡ broken fault)))
    c.from_residual-in_err-start_in.ensures.1
    (starts-broken carried (fault_in c.in_err-start_in.field-0.0) front c.deref.result.now old new
    (taken-first c.clear.new.self.items (held c.args.window.now) (g.S.Shelf.left c.args.shelf.now) new front c.clear.ensures.items c.in_ok-take.ensures.taken)
    (short-first c.clear.new.self.items (held c.args.window.now) (g.S.Shelf.left c.args.shelf.now) front 12 c.clear.ensures.items c.in_ok-take.ensures.short)
    c.deref.ensures.value c.in_err-start_in.ensures.fault c.in_err-start_in.ensures.cut)

pub returns-clause-start : goal.returns-clause-start
returns-clause-start g c =
    let new = rest_of (held c.take.new.self) (g.S.Shelf.left c.take.new.shelf) in
    let front = c.take.new.into.items in
    let start = subst (λ (xs : List ℕ). IsStart (carried_of c.args.carry.now) c.in_ok-start_in.field-0 xs) c.deref.ensures.value c.in_ok-start_in.ensures.start in
    start-taken (carried_of c.args.carry.now) c.in_ok-start_in.field-0 front _ new
    (taken-first c.clear.new.self.items (held c.args.window.now) (g.S.Shelf.left c.args.shelf.now) new front c.clear.ensures.items c.in_ok-take.ensures.taken)
    start
