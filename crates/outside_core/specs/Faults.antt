-- 64-bit counts that never fall, and the calls that are set to fail.
use Rattle.std.specs.Prelude.{◌≡◌, refl, ◌≤◌, ◌+◌, ◌-◌, ◌^◌, ◌==◌, ℕ, Bool, true, false, List, [], ◌∷◌, min, Result, MatchResult}
use Rattle.std.specs.List.{list_any}

-- one more; the last 64-bit value stays at itself
abbrev pub one_more : ℕ → ℕ
one_more count = min (count + 1) (2 ^ 64 - 1)

-- the count rose: it is greater, or is at its last value
abbrev pub Rose : ℕ → ℕ → Type 0
Rose before now = one_more before ≤ now

-- a call that succeeds leaves the count unchanged, and one that fails raises it by one
abbrev pub CountsFaults : {X E : Type 0} → Result X E → ℕ → ℕ → Type 0
CountsFaults result before now = MatchResult result (λ _. now ≡ before) (λ _. now ≡ one_more before)

-- whether the call with this number is set to fail
abbrev pub is_to_fail : List ℕ → ℕ → Bool
is_to_fail fail call = list_any (λ number. number == call) fail

one_more-first : one_more 0 ≡ 1
one_more-first = refl

one_more-before_last : one_more (2 ^ 64 - 2) ≡ 2 ^ 64 - 1
one_more-before_last = refl

one_more-last : one_more (2 ^ 64 - 1) ≡ 2 ^ 64 - 1
one_more-last = refl

is_to_fail-second : is_to_fail (2 ∷ 5 ∷ []) 5 ≡ true
is_to_fail-second = refl

is_to_fail-other : is_to_fail (2 ∷ 5 ∷ []) 3 ≡ false
is_to_fail-other = refl
