-- Examples of taps.
use Rattle.std.specs.Prelude.{◌≡◌, refl, ℕ, true, false, List, [], ◌∷◌, map, codes}
use Rattle.std.specs.Fmt.{digits}
use Rattle.rank_defs.specs.Programs.{max_rank}
use Rattle.packet_defs.specs.declared.packet.Departed.{Departed}
use Rattle.tap_core.specs.declared.kinds.TapKind.{TapKind}
use Rattle.tap_core.specs.declared.kinds.TapKind.TheVariants.{Bytes, Order, First, Drops}
use Rattle.tap_core.specs.declared.kinds.Dropped.{Dropped}
use Rattle.tap_core.specs.Steps.{first_state, departure_step, drop_step, is_full}
use Rattle.tap_core.specs.Lines.{line}

-- a departed packet and a dropped packet, with this number and length
abbrev gone : ℕ → ℕ → Departed
gone packet len = record { packet = packet; class = 0; leaf = 0; len = len }

abbrev lost : ℕ → ℕ → Dropped
lost packet len = record { packet = packet; class = 0; leaf = 0; len = len }

abbrev kinds : List TapKind
kinds = Bytes ∷ Order ∷ First 2 ∷ Drops ∷ []

first_states : map first_state kinds ≡ (0 ∷ 0 ∷ []) ∷ (0 ∷ 0 ∷ []) ∷ [] ∷ (0 ∷ 0 ∷ []) ∷ []
first_states = refl

a_departure : map (λ k. departure_step k (gone 3 1500) (first_state k)) kinds ≡ (1 ∷ 1500 ∷ []) ∷ (3 ∷ 0 ∷ []) ∷ (3 ∷ []) ∷ (0 ∷ 0 ∷ []) ∷ []
a_departure = refl

a_drop : map (λ k. drop_step k (lost 3 1500) (first_state k)) kinds ≡ (0 ∷ 0 ∷ []) ∷ (0 ∷ 0 ∷ []) ∷ [] ∷ (1 ∷ 1500 ∷ []) ∷ []
a_drop = refl

counts_reach_the_greatest_rank : departure_step Bytes (gone 1 2) (4611686018427387902 ∷ 4611686018427387902 ∷ []) ≡ max_rank ∷ max_rank ∷ []
counts_reach_the_greatest_rank = refl

counts_stay_there : departure_step Bytes (gone 1 2) (max_rank ∷ max_rank ∷ []) ≡ max_rank ∷ max_rank ∷ []
counts_stay_there = refl

drops_stay_there : drop_step Drops (lost 1 2) (max_rank ∷ 4611686018427387900 ∷ []) ≡ max_rank ∷ 4611686018427387902 ∷ []
drops_stay_there = refl

late_packets_stay_there : departure_step Order (gone 1 2) (2 ∷ max_rank ∷ []) ≡ 2 ∷ max_rank ∷ []
late_packets_stay_there = refl

an_equal_number_is_late : departure_step Order (gone 3 2) (3 ∷ 0 ∷ []) ≡ 3 ∷ 1 ∷ []
an_equal_number_is_late = refl

the_limit_is_kept : departure_step (First 2) (gone 9 2) (3 ∷ 1 ∷ []) ≡ 3 ∷ 1 ∷ []
the_limit_is_kept = refl

full_at_the_limit : map (is_full (First 2)) ([] ∷ (3 ∷ []) ∷ (3 ∷ 1 ∷ []) ∷ (3 ∷ 1 ∷ 6 ∷ []) ∷ []) ≡ false ∷ false ∷ true ∷ true ∷ []
full_at_the_limit = refl

a_limit_of_none_is_full_at_once : is_full (First 0) [] ≡ true
a_limit_of_none_is_full_at_once = refl

pub line-bytes : line Bytes (8 ∷ 8500 ∷ []) ≡ codes "tap bytes 8 8500\n"
unfolding digits
line-bytes = refl

pub line-order : line Order (8 ∷ 5 ∷ []) ≡ codes "tap order 5 8\n"
unfolding digits
line-order = refl

pub line-first : line (First 8) (3 ∷ 1 ∷ 6 ∷ 8 ∷ 5 ∷ 7 ∷ 4 ∷ 2 ∷ []) ≡ codes "tap first 3 1 6 8 5 7 4 2\n"
unfolding digits
line-first = refl

line-first_of_none : line (First 0) [] ≡ codes "tap first\n"
line-first_of_none = refl

pub line-drops : line Drops (1 ∷ 4 ∷ []) ≡ codes "tap drops 1 4\n"
unfolding digits
line-drops = refl
