use Rattle.sched_core.proofs.Prelude.{arith, ◌≡◌, ap, ◌∙◌, sym, ℕ, Some, None, ◌<◌, refl, Option, ◌≤◌, is_some, IsSome, if◌then◌else◌, nat_eq, ◌==◌, Bool, ap₂, ◌&&◌, ◌^◌, err_from_is_err_and, on_ok_weaker, on_err_weaker, get, Packet, or_stray}
use Rattle.sched_core.specs.declared.held.Held.{Held}
use Rattle.sched_core.specs.Chunks.{packet_from}
use Rattle.sched_core.specs.Windows.{packet_at}
use Rattle.sched_core.specs.Held.{held_at}
use Rattle.sched_core.proofs.SlotLaws.{split}
use Rattle.sched_core.proofs.HeldNumbers.{neither, came-other, put-slot}
use Rattle.sched_core.proofs.held.Held.put.Goals as goal
use Rattle.sched_core.proofs.held.Held.put.Goals.{After-stretch, After-put_stray-2, then-is_sparse+in_ok-move_outliers, else-is_sparse}

-- ---- packets may have become strays, and the window reaches the number
held_now : (c : After-stretch) (n : ℕ) → or_stray (packet_at c.stretch.new.self n) (get nat_eq c.if-is_sparse.self.strays n) ≡ held_at c.args.self.now n
unfolding held_at
held_now c n =
    let moved : held_at c.if-is_sparse.self n ≡ held_at c.args.self.now n = elim c.if-is_sparse.branch [
      | then-is_sparse+in_ok-move_outliers w ↦ ap (λ (h : Held). held_at h n) w.self-is ∙ w.move_outliers.ensures.held n
      | else-is_sparse w ↦ ap (λ (h : Held). held_at h n) w.self-is
    ] in
    ap (λ (o : Option Packet). or_stray o (get nat_eq c.if-is_sparse.self.strays n)) (c.stretch.ensures.packets n) ∙ moved

apart_now : (c : After-stretch) (n : ℕ) → IsSome (packet_at c.stretch.new.self n) → get nat_eq c.if-is_sparse.self.strays n ≡ None
apart_now c n some = c.if-is_sparse.self.apart n (sym (ap is_some (c.stretch.ensures.packets n)) ∙ some)

-- nothing was there under the number
none_there : (c : After-stretch) → (packet_at c.stretch.new.self c.args.packet.now.number ≡ None) × (get nat_eq c.if-is_sparse.self.strays c.args.packet.now.number ≡ None)
unfolding held_at packet_from
none_there c =
    let old = c.args.self.now in
    let k = c.args.packet.now.number in
    let far : old.window.end ≤ k = omega (arith, c.if-packet-self.false) in
    let few : k < 2 ^ 63 = omega (arith, c.if-packet-gt-LAST.false) in
    neither (packet_at c.stretch.new.self k) (get nat_eq c.if-is_sparse.self.strays k) (held_now c k ∙ ap₂ or_stray (old.window.behind k far) (old.behind k far few))

pub push-requires-clause-free : goal.push-requires-clause-free
push-requires-clause-free c = (none_there (goal.at.push-requires-clause-free c).After-stretch).0

-- ---- the packet is in the window
pub invariant_of-self-2 : goal.invariant_of-self-2
invariant_of-self-2 c =
    let t = (goal.at.invariant_of-self-2 c).After-stretch in
    let h = c.if-is_sparse.self in
    let p = c.args.packet.now in
    record {
      apart = λ n some. split n p.number
          (λ same. ap (get nat_eq h.strays) same ∙ (none_there t).1)
          (λ other. apart_now t n (sym (ap is_some (came-other c.push.result (packet_at c.stretch.new.self) (packet_at c.push.new.self) p.number n p c.push.ensures.ok c.push.ensures.err other)) ∙ some));
      behind = λ n behind low. h.behind n (omega (arith, behind, c.push.ensures.end, c.stretch.ensures.near)) low;
    }

pub returns-in_err-stretch-clause-err : goal.returns-in_err-stretch-clause-err
unfolding held_at
returns-in_err-stretch-clause-err c =
    let t = (goal.at.returns-in_err-stretch-clause-err c).After-stretch in
    let p = err_from_is_err_and c.from_residual-in_err-stretch.result c.from_residual-in_err-stretch.ensures.1 in
    rw (p.1) (λ n. held_now t n)

pub returns-in_err-push-clause-err : goal.returns-in_err-push-clause-err
unfolding held_at
returns-in_err-push-clause-err c =
    let t = (goal.at.returns-in_err-push-clause-err c).After-stretch in
    let p = err_from_is_err_and c.from_residual-in_err-push.result c.from_residual-in_err-push.ensures.1 in
    rw (p.1) (λ n. ap (λ (o : Option Packet). or_stray o (get nat_eq c.if-is_sparse.self.strays n)) (c.in_err-push.ensures.err n) ∙ held_now t n)

pub returns-then-branch-clause-ok : goal.returns-then-branch-clause-ok
unfolding held_at
returns-then-branch-clause-ok c = λ n.
    let t = (goal.at.returns-then-branch-clause-ok c).After-stretch in
    let w = c.stretch.new.self in
    let p = c.args.packet.now in
    put-slot n p.number p.number p (Some p) (packet_at w n) (packet_at c.push.new.self n) (get nat_eq c.if-is_sparse.self.strays n) refl
    (c.in_ok-push.ensures.ok n ∙ ap (λ (t : Bool). if t && (n == p.number) then Some p else packet_at w n) c.if-branch.true)
    (λ same. refl)
    ∙ ap (λ (o : Option Packet). if n == p.number then Some p else o) (held_now t n)

-- ---- the packet is a stray
not_pushed : (c : After-put_stray-2) (n : ℕ) → packet_at c.push.new.self n ≡ packet_at c.stretch.new.self n
not_pushed c n = c.in_ok-push.ensures.ok n ∙ ap (λ (t : Bool). if t && (n == c.args.packet.now.number) then Some c.args.packet.now else packet_at c.stretch.new.self n) c.if-branch.false

pub returns-clause-ok : goal.returns-clause-ok
unfolding held_at
returns-clause-ok c =
    let t = (goal.at.returns-clause-ok c).After-stretch in
    let p = c.args.packet.now in
    on_ok_weaker c.put_stray-2.result (λ done n. done n
    ∙ ap (λ (o : Option Packet). if n == p.number then Some p else or_stray o (get nat_eq c.if-is_sparse.self.strays n)) (not_pushed c n)
    ∙ ap (λ (o : Option Packet). if n == p.number then Some p else o) (held_now t n)) c.put_stray-2.ensures.ok

pub returns-clause-err : goal.returns-clause-err
unfolding held_at
returns-clause-err c =
    let t = (goal.at.returns-clause-err c).After-stretch in
    on_err_weaker c.put_stray-2.result (λ done n. done n
    ∙ ap (λ (o : Option Packet). or_stray o (get nat_eq c.if-is_sparse.self.strays n)) (not_pushed c n)
    ∙ held_now t n) c.put_stray-2.ensures.err
