use Rattle.pifo_core.proofs.Prelude.{arith, ◌≡◌, ap, ◌∙◌, ◌≤◌, insert, ◌-◌, IsOk, vec_capacity, vec_len, put, queue_of, Held}
use Rattle.pifo_core.proofs.HeldLaws.{queue_of-inserted, IsKept-inserted}
use Rattle.pifo_core.proofs.sorted.SortedPifoPifo.push.Goals as goal

entry : goal.After-self-1 → Held
entry c = record { rank = c.args.rank; arrival = c.self.inside.pushed; value = c.args.value }

inserted : (c : goal.After-self-1) → c.insert.new.self.items ≡ insert c.self.inside.held.items c.place_for-place.result (entry c)
unfolding entry
inserted c =
    let room : 1 ≤ vec_capacity c.self.inside.held - vec_len c.self.inside.held = rw (← c.self.view_is) at c.requires.room in
    let fits : IsOk c.insert.result = c.insert.ensures.succeeds (omega (arith, room)) in
    grind (arith, c.insert.ensures.items, fits)

pub invariant_of-self : goal.invariant_of-self
unfolding entry
invariant_of-self c =
    rw (inserted c) (IsKept-inserted c.self.inside.held.items c.place_for-place.result (entry c) c.self.invariant
    (rw (← c.deref.ensures.value) c.place_for-place.ensures.before) (rw (← c.deref.ensures.value) c.place_for-place.ensures.behind))

pub returns-clause-entries : goal.returns-clause-entries
unfolding entry
returns-clause-entries c =
    ap queue_of (inserted c)
    ∙ queue_of-inserted c.self.inside.held.items c.place_for-place.result (entry c) c.self.invariant
    (rw (← c.deref.ensures.value) c.place_for-place.ensures.before) (rw (← c.deref.ensures.value) c.place_for-place.ensures.behind)
    ∙ ap (λ v. put v.entries c.args.rank c.args.value) c.self.view_is
