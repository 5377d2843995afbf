-- A push-in first-out queue (SIGCOMM 2016): pairs of a rank and a value, in order of arrival.
use Rattle.std.specs.Prelude.{◌≡◌, refl, ℕ, List, [], ◌∷◌, ◌++◌, Option, Some, None, nat_le, if◌then◌else◌}

abbrev pub Entry : Type 0
Entry = ℕ × ℕ

abbrev pub Queue : Type 0
Queue = List Entry

-- the queue after a pair arrives
abbrev pub put : Queue → ℕ → ℕ → Queue
put q rank value = q ++ (rank, value) ∷ []

-- the rank and value of a dequeued pair, and the remaining queue
pub record Taking : Type 0 where
  pub rank : ℕ
  pub value : ℕ
  pub rest : Queue

-- dequeues the pair at the front of the queue if its rank is at most that of the pair that would be
-- dequeued without it
abbrev pub sooner : ℕ → ℕ → Queue → Taking → Taking
sooner rank value q later =
    if nat_le rank later.rank
    then record { rank = rank; value = value; rest = q }
    else record later { rest = (rank, value) ∷ later.rest }

-- dequeues from a queue with this pair at its front
abbrev pub take_from : ℕ → ℕ → Queue → Taking
take_from rank value [] = record { rank = rank; value = value; rest = [] }
take_from rank value (e ∷ q) = sooner rank value (e ∷ q) (take_from e.0 e.1 q)

-- dequeues the earliest pair of the least rank
abbrev pub take_least : Queue → Option Taking
take_least [] = None
take_least (e ∷ q) = Some (take_from e.0 e.1 q)

pub put-comes_last : put ((5, 1) ∷ (3, 2) ∷ []) 4 7 ≡ (5, 1) ∷ (3, 2) ∷ (4, 7) ∷ []
put-comes_last = refl

pub take_least-ties_leave_in_order_of_arrival : take_least ((5, 1) ∷ (3, 2) ∷ (3, 7) ∷ []) ≡ Some (record { rank = 3; value = 2; rest = (5, 1) ∷ (3, 7) ∷ [] })
take_least-ties_leave_in_order_of_arrival = refl

pub take_least-last_of_all : take_least ((5, 1) ∷ (3, 2) ∷ (0, 7) ∷ []) ≡ Some (record { rank = 0; value = 7; rest = (5, 1) ∷ (3, 2) ∷ [] })
take_least-last_of_all = refl

pub take_least-of_none : take_least [] ≡ None
take_least-of_none = refl
