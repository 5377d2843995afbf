use Rattle.std.proofs.Common.{◌≤◌, ◌-◌, ℕ, List, [], ◌++◌, length, take, drop, Option, None, Some, refl, sym, ap, ◌∙◌, append_assoc, append-nil, arith, length-drop}
use Rattle.std.proofs.lemmas.List.{take-append-drop, take_all}
use Rattle.outside_core.specs.Written.{Appended, AppendedBefore, AppendedPrefix}

-- two appends in sequence
pub appended_in_turn : (a b c : Option (List ℕ)) (xs ys : List ℕ) → Appended a b xs → Appended b c ys → Appended a c (xs ++ ys)
appended_in_turn a b None xs ys first second = tt
appended_in_turn a None (Some now) xs ys first second = absurd second
appended_in_turn None (Some mid) (Some now) xs ys first second = absurd first
appended_in_turn (Some before) (Some mid) (Some now) xs ys first second = second ∙ ap (λ s. s ++ ys) first ∙ append_assoc before xs ys

-- an append of nothing
pub appended_nothing : (a : Option (List ℕ)) → Appended a a []
appended_nothing None = tt
appended_nothing (Some now) = sym (append-nil now)

-- an append, then an append of a prefix
pub prefix_in_turn : (a b c : Option (List ℕ)) (xs ys : List ℕ) → Appended a b xs → AppendedPrefix b c ys → AppendedPrefix a c (xs ++ ys)
prefix_in_turn a b c xs ys first second = record {
  front = xs ++ second.front;
  back = second.back;
  whole = append_assoc xs second.front second.back ∙ ap (λ s. xs ++ s) second.whole;
  grew = appended_in_turn a b c xs second.front first second.grew;
}

-- an append of a prefix of some bytes is an append of a prefix of any longer bytes
pub prefix_of_longer : (a b : Option (List ℕ)) (xs ys : List ℕ) → AppendedPrefix a b xs → AppendedPrefix a b (xs ++ ys)
prefix_of_longer a b xs ys prefix = record {
  front = prefix.front;
  back = prefix.back ++ ys;
  whole = sym (append_assoc prefix.front prefix.back ys) ∙ ap (λ s. s ++ ys) prefix.whole;
  grew = prefix.grew;
}

-- one more piece from the front of the rest is written
pub appended_one_more_piece : (a b c : Option (List ℕ)) (bytes rest : List ℕ) (n : ℕ) → AppendedBefore a b bytes rest → Appended b c (take n rest) → AppendedBefore a c bytes (take (length rest - n) (drop n rest))
appended_one_more_piece a b c bytes rest n part step =
    let all : length (drop n rest) ≤ length rest - n = omega (arith, length-drop n rest) in
    rw take_all (record {
      front = part.front ++ take n rest;
      whole = append_assoc part.front (take n rest) (drop n rest) ∙ ap (λ s. part.front ++ s) (take-append-drop n rest) ∙ part.whole;
      grew = appended_in_turn a b c part.front (take n rest) part.grew step;
    })

-- if nothing was written, a prefix was: the empty one
pub prefix_of_nothing : (a b : Option (List ℕ)) (xs : List ℕ) → Appended a b [] → AppendedPrefix a b xs
prefix_of_nothing a b xs nothing = record { front = []; back = xs; whole = refl; grew = nothing }
