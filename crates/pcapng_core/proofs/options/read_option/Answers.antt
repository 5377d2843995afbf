use Rattle.pcapng_core.proofs.Prelude.{◌≡◌, ℕ, List, sym, ◌∙◌, ap, arith, length, ◌+◌, subst, ◌<◌, ◌-◌, get_or, ltb-true, get_or_read, taken-first, passes-taken, taken-more, passes-more, held, rest_of, FrontOf, StandsAt, Gives}
use Rattle.pcapng_core.specs.declared.options.Front.TheVariants as front
use Rattle.pcapng_core.proofs.OptionReads.{passes-as, stands-ends, stands-gives, stands-passes}
use Rattle.pcapng_core.proofs.options.read_option.Goals as goal

pub returns-in-Ends-clause-step : goal.returns-in-Ends-clause-step
returns-in-Ends-clause-step g c =
    let old = rest_of (held c.args.window.now) (g.S.Shelf.left c.args.shelf.now) in
    let mid = rest_of (held c.take.new.self) (g.S.Shelf.left c.take.new.shelf) in
    let opt = c.take.new.into.items in
    let behind = c.args.count - 4 in
    let first = taken-first c.clear.new.self.items (held c.args.window.now) (g.S.Shelf.left c.args.shelf.now) mid opt c.clear.ensures.items c.in_ok-take.ensures.taken in
    let four : length c.take.new.into.items ≡ 4 = omega (arith, c.len.ensures, c.if-len-lt-OPTION_LEN.false, c.in_ok-take.ensures.bound, c.take.new.into.ok.0) in
    let said = subst (λ (xs : List ℕ). FrontOf c.args.big xs (c.args.count - 4) front.Ends) c.deref.ensures.value c.in-Ends.ensures.front in
    stands-ends c.args.big c.args.count behind behind old mid opt first four (omega (arith, c.requires.some)) said

pub returns-in-Some-clause-passed : goal.returns-in-Some-clause-passed
returns-in-Some-clause-passed g c =
    let old = rest_of (held c.args.window.now) (g.S.Shelf.left c.args.shelf.now) in
    let mid = rest_of (held c.take.new.self) (g.S.Shelf.left c.take.new.shelf) in
    let new = rest_of (held c.take-in-Unit.new.self) (g.S.Shelf.left c.take-in-Unit.new.shelf) in
    let opt = c.take.new.into.items in
    let more = c.take-in-Unit.new.into.items in
    let first = taken-first c.clear.new.self.items (held c.args.window.now) (g.S.Shelf.left c.args.shelf.now) mid opt c.clear.ensures.items c.in_ok-take.ensures.taken in
    let second = taken-more old (g.S.Shelf.left c.take.new.shelf) new opt (held c.take.new.self) more first c.in_ok-take-in-Unit.ensures.taken in
    let long : 4 < length c.deref-in-Unit.result.now = ltb-true _ _ (sym c.in-Some.ensures.lookup.0) in
    let five : length c.take-in-Unit.new.into.items ≡ 5 = omega (arith, long, ap length c.deref-in-Unit.ensures.value, c.in_ok-take-in-Unit.ensures.bound, c.take-in-Unit.new.into.ok.0) in
    passes-as (length more) _ old new (omega (arith, five, c.in-Unit.ensures.fits)) (passes-taken old new more second)

pub returns-in-Some-clause-step : goal.returns-in-Some-clause-step
returns-in-Some-clause-step g c =
    let old = rest_of (held c.args.window.now) (g.S.Shelf.left c.args.shelf.now) in
    let mid = rest_of (held c.take.new.self) (g.S.Shelf.left c.take.new.shelf) in
    let new = rest_of (held c.take-in-Unit.new.self) (g.S.Shelf.left c.take-in-Unit.new.shelf) in
    let opt = c.take.new.into.items in
    let more = c.take-in-Unit.new.into.items in
    let behind = c.args.count - 4 in
    let first = taken-first c.clear.new.self.items (held c.args.window.now) (g.S.Shelf.left c.args.shelf.now) mid opt c.clear.ensures.items c.in_ok-take.ensures.taken in
    let second = taken-more old (g.S.Shelf.left c.take.new.shelf) new opt (held c.take.new.self) more first c.in_ok-take-in-Unit.ensures.taken in
    let long : 4 < length c.deref-in-Unit.result.now = ltb-true _ _ (sym c.in-Some.ensures.lookup.0) in
    let four : length c.take.new.into.items ≡ 4 = omega (arith, c.len.ensures, c.if-len-lt-OPTION_LEN.false, c.in_ok-take.ensures.bound, c.take.new.into.ok.0) in
    let five : length c.take-in-Unit.new.into.items ≡ 5 = omega (arith, long, ap length c.deref-in-Unit.ensures.value, c.in_ok-take-in-Unit.ensures.bound, c.take-in-Unit.new.into.ok.0) in
    let said = subst (λ (xs : List ℕ). FrontOf c.args.big xs (c.args.count - 4) front.Unit) c.deref.ensures.value c.in-Unit.ensures.front in
    let at : c.in-Some.value.now ≡ get_or c.take-in-Unit.new.into.items 4 0 = get_or_read c.deref-in-Unit.result.now 4 c.in-Some.value.now long c.in-Some.ensures.lookup.1 0 ∙ ap (λ (xs : List ℕ). get_or xs 4 0) c.deref-in-Unit.ensures.value in
    let stands = stands-gives c.args.big c.args.count behind (c.args.count - 4 - 1) c.in-Some.value.now old mid new opt more first second four five (omega (arith, c.requires.some)) c.in-Unit.ensures.fits said at in
    subst (λ u. StandsAt c.args.big c.args.count old (Gives u (c.args.count - 4 - 1))) (sym c.unit_by.ensures) stands

pub returns-in_ok-passed-in-Other-clause-passed : goal.returns-in_ok-passed-in-Other-clause-passed
returns-in_ok-passed-in-Other-clause-passed g c =
    let old = rest_of (held c.args.window.now) (g.S.Shelf.left c.args.shelf.now) in
    let mid = rest_of (held c.take.new.self) (g.S.Shelf.left c.take.new.shelf) in
    let new = rest_of (held c.pass.new.self) (g.S.Shelf.left c.pass.new.shelf) in
    let opt = c.take.new.into.items in
    let n = c.in_ok-passed-in-Other.passed in
    let first = taken-first c.clear.new.self.items (held c.args.window.now) (g.S.Shelf.left c.args.shelf.now) mid opt c.clear.ensures.items c.in_ok-take.ensures.taken in
    let four : length c.take.new.into.items ≡ 4 = omega (arith, c.len.ensures, c.if-len-lt-OPTION_LEN.false, c.in_ok-take.ensures.bound, c.take.new.into.ok.0) in
    passes-as (length opt + n) _ old new
    (omega (arith, four, c.requires.some, c.in_ok-passed-in-Other.ensures.bound, c.in-Other.ensures.fits))
    (passes-more (length opt) n old mid new (passes-taken old mid opt first) c.in_ok-passed-in-Other.ensures.passed)

pub returns-in_ok-passed-in-Other-clause-step : goal.returns-in_ok-passed-in-Other-clause-step
returns-in_ok-passed-in-Other-clause-step g c =
    let old = rest_of (held c.args.window.now) (g.S.Shelf.left c.args.shelf.now) in
    let mid = rest_of (held c.take.new.self) (g.S.Shelf.left c.take.new.shelf) in
    let opt = c.take.new.into.items in
    let behind = c.args.count - 4 in
    let first = taken-first c.clear.new.self.items (held c.args.window.now) (g.S.Shelf.left c.args.shelf.now) mid opt c.clear.ensures.items c.in_ok-take.ensures.taken in
    let four : length c.take.new.into.items ≡ 4 = omega (arith, c.len.ensures, c.if-len-lt-OPTION_LEN.false, c.in_ok-take.ensures.bound, c.take.new.into.ok.0) in
    let said = subst (λ (xs : List ℕ). FrontOf c.args.big xs (c.args.count - 4) (front.Other c.in-Other.filled)) c.deref.ensures.value c.in-Other.ensures.front in
    stands-passes c.args.big c.args.count behind c.in-Other.filled c.in_ok-passed-in-Other.passed old mid opt first four (omega (arith, c.requires.some)) c.in-Other.ensures.fits said
    c.in_ok-passed-in-Other.ensures.bound c.in_ok-passed-in-Other.ensures.end
