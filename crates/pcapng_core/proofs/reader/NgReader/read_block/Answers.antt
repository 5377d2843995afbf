use Rattle.pcapng_core.proofs.Prelude.{◌≡◌, ℕ, List, length, ◌+◌, Option, Some, subst, ◌<◌, None, IfSome, ◌++◌, taken-more, held, rest_of, BlockFault, block_cut, broken, front_of, IsEndFault, front_len, carried_of, fault_in, carry_of, rest_left, NgFault, TakesFront, HasRoom, Unit, Packet, Carried, ReadsTo, TakesBlock, went}
use Rattle.pcapng_core.specs.declared.body.Body.TheVariants as body
use Rattle.pcapng_core.proofs.FoundBlocks.{some-map, blocks-taken, blocks-faulty, blocks-cut, blocks-ended}
use Rattle.pcapng_core.proofs.Refusals.{err-passed}
use Rattle.pcapng_core.proofs.Rooms.{body-room}
use Rattle.pcapng_core.proofs.Bodies.{told}
use Rattle.pcapng_core.proofs.reader.NgReader.read_block.Given.{Over}
use Rattle.pcapng_core.proofs.reader.NgReader.read_block.Goals as goal
use Rattle.pcapng_core.proofs.reader.NgReader.read_block.Goals.{After-read_behind-arg-4-1}

pub returns-in_err-body-clause-fault : goal.returns-in_err-body-clause-fault
returns-in_err-body-clause-fault g c =
    let carried = carry_of c.args.self.now in
    let s = c.in-Some.start in
    let old = rest_left c.args.self.now (g.S.Shelf.left c.args.shelf.now) in
    let left1 = g.S.Shelf.left c.read_start.new.shelf in
    let held1 = held c.read_start.new.window in
    let front1 = c.read_start.new.front.items in
    let start = rw c.in-Some.is at c.in_ok-start.ensures.start in
    let x = c.in_err-body.field-0.0 in
    let less = λ (left : List ℕ). length left < front_len s.kind in
    err-passed c.from_residual-in_err-body.result x
    (λ (e : NgFault). IfSome (fault_in e) (λ fault. IfSome old (λ left. front_of carried left ≡ broken fault)))
    c.from_residual-in_err-body.ensures.1
    (some-map (fault_in x) (λ fault. IfSome (rest_of (front1 ++ held1) left1) less) (λ fault. IfSome old (λ left. front_of carried left ≡ broken fault))
    (λ fault named few.
    blocks-cut carried s front1 held1 fault old left1 start c.in_ok-start.ensures.taken
    (subst (λ (o : Option BlockFault). IfSome o (λ f. f ≡ block_cut (carried.blocks + 1))) named c.in_err-body.ensures.cut) few)
    c.in_err-body.ensures.fault)

-- the front takes the first bytes of those that were left
taken : (g : Over) (c : After-read_behind-arg-4-1 g) → TakesFront (rest_left c.args.self.now (g.S.Shelf.left c.args.shelf.now)) (rest_of (held c.read_front.new.window) (g.S.Shelf.left c.read_front.new.shelf)) c.read_front.new.front.items
taken g c =
    taken-more (rest_left c.args.self.now (g.S.Shelf.left c.args.shelf.now)) (g.S.Shelf.left c.read_start.new.shelf) (rest_of (held c.read_front.new.window) (g.S.Shelf.left c.read_front.new.shelf))
    c.read_start.new.front.items (held c.read_start.new.window) c.read_front.new.front.items c.in_ok-start.ensures.taken c.in_ok-body.ensures.taken

room : (g : Over) (c : After-read_behind-arg-4-1 g) → HasRoom c.in-Some.start (length c.read_front.new.front.items) c.captured.result
room g c =
    let front = c.read_front.new.front.items in
    body-room (carry_of c.args.self.now) c.in-Some.start c.in_ok-body.body front (length front) c.captured.result (rw c.in-Some.is at c.in_ok-start.ensures.fits) c.in_ok-body.ensures.front c.in_ok-body.ensures.body c.captured.ensures

-- the block that a reader goes past
gone : (g : Over) (c : After-read_behind-arg-4-1 g) (into : List ℕ) (unit : Unit) (y : Option Packet × Carried) (new : Option (List ℕ))
    → ReadsTo c.in-Some.start (length c.read_front.new.front.items) c.captured.result into unit (rest_of (c.read_front.new.front.items ++ held c.read_front.new.window) (g.S.Shelf.left c.read_front.new.shelf)) new
    → went (carry_of c.args.self.now) c.in-Some.start.big unit c.in_ok-body.body ≡ Some y
    → TakesBlock (carry_of c.args.self.now) (told into y.0) y.1 (rest_left c.args.self.now (g.S.Shelf.left c.args.shelf.now)) new
gone g c into unit y new read past =
    blocks-taken (carry_of c.args.self.now) c.in-Some.start c.in_ok-body.body c.read_front.new.front.items (held c.read_front.new.window) into c.captured.result unit y
    (rest_left c.args.self.now (g.S.Shelf.left c.args.shelf.now)) (g.S.Shelf.left c.read_front.new.shelf) new (rw c.in-Some.is at c.in_ok-start.ensures.start) (taken g c)
    c.in_ok-body.ensures.front c.in_ok-body.ensures.body c.captured.ensures read (room g c) past

pub read_behind-requires-clause-room : goal.read_behind-requires-clause-room
read_behind-requires-clause-room g c = room g (goal.at.read_behind-requires-clause-room g c).After-read_behind-arg-4-1

pub returns-in_err-unit-clause-fault : goal.returns-in_err-unit-clause-fault
returns-in_err-unit-clause-fault g c =
    let s = c.in-Some.start in
    let old = rest_left c.args.self.now (g.S.Shelf.left c.args.shelf.now) in
    let start = rw c.in-Some.is at c.in_ok-start.ensures.start in
    let front = c.read_front.new.front.items in
    let left2 = g.S.Shelf.left c.read_front.new.shelf in
    let held2 = held c.read_front.new.window in
    let at = goal.at.returns-in_err-unit-clause-fault g c in
    let x = c.in_err-unit.field-0.0 in
    let cause = λ (fault : BlockFault). IfSome old (λ left. front_of (carry_of c.args.self.now) left ≡ broken fault) in
    err-passed c.from_residual-in_err-unit.result x (λ (e : NgFault). IfSome (fault_in e) cause) c.from_residual-in_err-unit.ensures.1
    (some-map (fault_in x) (λ fault. IfSome (rest_of (front ++ held2) left2) (λ left. IsEndFault s c.number.result left fault)) cause
    (λ fault named end. blocks-ended (carry_of c.args.self.now) s c.number.result front held2 fault old left2 start (taken g at.After-read_behind-arg-4-1) c.number.ensures end)
    c.in_err-unit.ensures.fault)

pub returns-in_err-packet-clause-fault : goal.returns-in_err-packet-clause-fault
returns-in_err-packet-clause-fault g c =
    let old = rest_left c.args.self.now (g.S.Shelf.left c.args.shelf.now) in
    let start = rw c.in-Some.is at c.in_ok-start.ensures.start in
    let b = c.in_ok-body.body in
    let new = rest_of (held c.read_behind.new.window) (g.S.Shelf.left c.read_behind.new.shelf) in
    let p = (goal.at.returns-in_err-packet-clause-fault g c).After-read_behind-arg-4-1 in
    let x = c.in_err-packet.field-0.0 in
    let cause = λ (fault : BlockFault). IfSome old (λ left. front_of (carry_of c.args.self.now) left ≡ broken fault) in
    err-passed c.from_residual-in_err-packet.result x (λ (e : NgFault). IfSome (fault_in e) cause) c.from_residual-in_err-packet.ensures.1
    (some-map (fault_in x) (λ fault. b ≡ body.Faulty x) cause
    (λ fault named is. blocks-faulty (carry_of c.args.self.now) c.in-Some.start b x c.read_front.new.front.items (held c.read_front.new.window) c.read_behind.new.into.items c.captured.result c.in_ok-unit.unit
    old (g.S.Shelf.left c.read_front.new.shelf) new start (taken g p) c.in_ok-body.ensures.front c.in_ok-body.ensures.body c.captured.ensures c.in_ok-unit.ensures.read (room g p) fault named is)
    c.in_err-packet.ensures.faulty)

pub returns-in-Some-2-clause-found : goal.returns-in-Some-2-clause-found
returns-in-Some-2-clause-found g c = λ h.
    gone g (goal.at.returns-in-Some-2-clause-found g c).After-read_behind-arg-4-1 c.read_behind.new.into.items c.in_ok-unit.unit (Some c.in-Some-2.packet, carried_of c.go_past.new.self)
    (rest_of (held c.read_behind.new.window) (g.S.Shelf.left c.read_behind.new.shelf)) c.in_ok-unit.ensures.read (rw c.in-Some-2.is at c.in_ok-packet.ensures.past)

pub returns-in-None-clause-found : goal.returns-in-None-clause-found
returns-in-None-clause-found g c = λ h.
    gone g (goal.at.returns-in-None-clause-found g c).After-read_behind-arg-4-1 c.read_behind.new.into.items c.in_ok-unit.unit (None, carried_of c.go_past.new.self)
    (rest_of (held c.read_behind.new.window) (g.S.Shelf.left c.read_behind.new.shelf)) c.in_ok-unit.ensures.read (rw c.in-None.is at c.in_ok-packet.ensures.past)
