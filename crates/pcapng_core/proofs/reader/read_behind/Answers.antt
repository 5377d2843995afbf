use Rattle.pcapng_core.proofs.Prelude.{◌≡◌, ℕ, List, sym, ◌∙◌, ap, arith, length, ◌+◌, Option, subst, ◌<◌, ◌-◌, IfSome, ◌++◌, taken-first, passes-taken, passes-kept, passes-more, held, Passes, rest_of, long_at, Unit, IsUnitOf, ◌≢◌, ReadsTo, IsEndFault, block_end}
use Rattle.pcapng_core.specs.declared.start.Kind.TheVariants as kind
use Rattle.pcapng_core.proofs.Behind.{behind-read, behind-differs}
use Rattle.pcapng_core.proofs.OptionReads.{passes-as}
use Rattle.pcapng_core.proofs.reader.read_behind.Given.{Over}
use Rattle.pcapng_core.proofs.reader.read_behind.Goals as goal
use Rattle.pcapng_core.proofs.reader.read_behind.Goals.{After-read_long-2}

-- what the total length at the end says of all bytes that were left
behind : (g : Over) (c : After-read_long-2 g)
    → (c.read_long-2.result ≡ c.args.start.total → ReadsTo c.args.start (length c.args.front.now.items) c.args.captured c.take.new.into.items c.in_ok-unit.unit (rest_of (c.args.front.now.items ++ held c.args.window.now) (g.S.Shelf.left c.args.shelf.now)) (rest_of (held c.take-2.new.self) (g.S.Shelf.left c.take-2.new.shelf)))
    × (c.read_long-2.result ≢ c.args.start.total → IfSome (rest_of (c.args.front.now.items ++ held c.args.window.now) (g.S.Shelf.left c.args.shelf.now)) (λ left. IsEndFault c.args.start c.args.number left (block_end c.args.number)))
behind g c =
    let s = c.args.start in
    let front = c.args.front.now.items in
    let n = length c.args.front.now.items in
    let captured = c.args.captured in
    let into = c.take.new.into.items in
    let end = c.take-2.new.into.items in
    let gap = c.args.start.total - c.len-2.result - c.args.captured - 4 in
    let old = rest_of (c.args.front.now.items ++ held c.args.window.now) (g.S.Shelf.left c.args.shelf.now) in
    let r0 = rest_of (held c.args.window.now) (g.S.Shelf.left c.args.shelf.now) in
    let r1 = rest_of (held c.take.new.self) (g.S.Shelf.left c.take.new.shelf) in
    let r2 = rest_of (held c.pass_gap.new.window) (g.S.Shelf.left c.pass_gap.new.shelf) in
    let r3 = rest_of (held c.take-2.new.self) (g.S.Shelf.left c.take-2.new.shelf) in
    let room = c.requires.room in
    let more : 12 < c.args.start.total = omega (arith, c.if-total-eq-START_LEN.false, c.requires.room.least) in
    let sum : n + captured + gap + 4 ≡ s.total = omega (arith, c.requires.room.room more, c.len-2.ensures, c.args.front.now.ok.0) in
    let some = c.in_ok-unit.ensures.ok_part in
    let p0 = passes-kept front (held c.args.window.now) (g.S.Shelf.left c.args.shelf.now) in
    let taken = taken-first c.clear.new.self.items (held c.args.window.now) (g.S.Shelf.left c.args.shelf.now) r1 into c.clear.ensures.items c.in_ok-take.ensures.taken in
    let size : length c.take.new.into.items ≡ c.args.captured = omega (arith, c.len.ensures, c.if-len-captured.false, c.in_ok-take.ensures.bound, c.take.new.into.ok.0) in
    let p1 = passes-as (n + length into) (n + captured) old r1 (omega (arith, size)) (passes-more n (length into) old r0 r1 p0 (passes-taken r0 r1 into taken)) in
    let passed = subst (λ (o : Option Unit). IfSome o (λ unit. Passes gap r1 r2)) some c.in_ok-pass_gap.ensures.passed in
    let p2 = passes-more (n + captured) gap old r1 r2 p1 passed in
    let ends = taken-first c.clear-2.new.self.items (held c.pass_gap.new.window) (g.S.Shelf.left c.pass_gap.new.shelf) r3 end c.clear-2.ensures.items c.in_ok-take-2.ensures.taken in
    let four : length c.take-2.new.into.items ≡ 4 = omega (arith, c.len-3.ensures, c.if-len-lt-TOTAL_LEN.false, c.in_ok-take-2.ensures.bound, c.take-2.new.into.ok.0) in
    let p3 = passes-as (n + captured + gap + length end) s.total old r3 (omega (arith, sum, four)) (passes-more (n + captured + gap) (length end) old r2 r3 p2 (passes-taken r2 r3 end ends)) in
    let told : c.read_long-2.result ≡ long_at c.args.start.big 0 c.take-2.new.into.items = c.read_long-2.ensures ∙ ap (λ (xs : List ℕ). long_at c.args.start.big 0 xs) c.deref-2.ensures.value in
    let unit = c.in_ok-unit.unit in
    let options = subst (λ (o : Option Unit). IfSome o (λ unit. s.kind ≡ kind.Interface → IsUnitOf s.big gap r1 unit)) some c.in_ok-pass_gap.ensures.unit in
    let last = passes-as (n + captured + gap) (s.total - 4) old r2 (omega (arith, sum)) p2 in (
      (λ e. behind-read s n captured gap into end unit old r0 r1 r2 r3 room sum p0 taken size p1 passed options p2 ends four p3 (sym told ∙ e)),
      (λ differ. behind-differs s c.args.number old r2 r3 end (omega (arith, more)) last ends four p3 (λ e. differ (told ∙ e))),
    )

pub returns-then-read_long-start-2-clause-fault : goal.returns-then-read_long-start-2-clause-fault
returns-then-read_long-start-2-clause-fault g c = (behind g (goal.at.returns-then-read_long-start-2-clause-fault g c).After-read_long-2).1 c.if-read_long-start-2.true

pub returns-clause-read : goal.returns-clause-read
returns-clause-read g c = (behind g (goal.at.returns-clause-read g c).After-read_long-2).0 c.if-read_long-start-2.false
