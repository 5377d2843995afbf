use Rattle.policy_rules.proofs.Prelude.{ap, refl, arith, inl, inr, sense_of}
use Rattle.policy_rules.proofs.RoomLemmas.{room_for, room_opened}
use Rattle.policy_rules.proofs.room.Room.admit.Goals as goal

pub returns-in-Version-clause-room : goal.returns-in-Version-clause-room
returns-in-Version-clause-room c = λ told earlier line room. room_for earlier line _ _ (ap sense_of c.in-Version.is) room refl (omega arith) (omega arith) (omega arith) (omega arith) (omega arith)

pub returns-in-Transaction-clause-room : goal.returns-in-Transaction-clause-room
returns-in-Transaction-clause-room c = λ told earlier line room. room_opened earlier line _ _ (ap sense_of c.in-Transaction.is) room refl (omega arith) (omega arith) (c.take_one.ensures.one told) refl refl

pub returns-in-Class-clause-room : goal.returns-in-Class-clause-room
returns-in-Class-clause-room c = λ told earlier line room. elim c.in-Class.is [
  | inl (n, a, cs, is) ↦ room_for earlier line _ _ (ap sense_of is) room refl (c.take_one-in-Class.ensures.one told) (omega arith) (omega arith) (omega arith) (omega arith)
  | inr (n, a, ts, is) ↦ room_for earlier line _ _ (ap sense_of is) room refl (c.take_one-in-Class.ensures.one told) (omega arith) (omega arith) (omega arith) (omega arith)
]

pub returns-in-Leaf-clause-room : goal.returns-in-Leaf-clause-room
returns-in-Leaf-clause-room c = λ told earlier line room. elim c.in-Leaf.is [
  | inl (n, u, a, q, ns, is) ↦ room_for earlier line _ _ (ap sense_of is) room refl (omega arith) (c.take_one-in-Leaf.ensures.one told) (omega arith) (omega arith) (omega arith)
  | inr (n, u, a, q, ns, is) ↦ room_for earlier line _ _ (ap sense_of is) room refl (omega arith) (c.take_one-in-Leaf.ensures.one told) (omega arith) (omega arith) (omega arith)
]

pub returns-in-Push-clause-room : goal.returns-in-Push-clause-room
returns-in-Push-clause-room c = λ told earlier line room. elim c.in-Push.is [
  | inl (n, t, is) ↦ room_for earlier line _ _ (ap sense_of is) room refl (omega arith) (omega arith) (omega arith) (omega arith) (c.take_one-in-Push.ensures.one told)
  | inr (n, t, is) ↦ room_for earlier line _ _ (ap sense_of is) room refl (omega arith) (omega arith) (omega arith) (omega arith) (c.take_one-in-Push.ensures.one told)
]

pub returns-in-Keep-clause-room : goal.returns-in-Keep-clause-room
returns-in-Keep-clause-room c = λ told earlier line room. elim c.in-Keep.is [
  | inl (n, span, is) ↦ room_for earlier line _ _ (ap sense_of is) room refl (omega arith) (omega arith) (omega arith) (c.take_one-in-Keep.ensures.one told) (omega arith)
  | inr (n, span, is) ↦ room_for earlier line _ _ (ap sense_of is) room refl (omega arith) (omega arith) (omega arith) (c.take_one-in-Keep.ensures.one told) (omega arith)
]
