-- Numbers at the front of a list.
use Rattle.std.proofs.Common.{◌≡◌, ◌≤◌, ◌+◌, ℕ, Bool, true, false, List, ◌++◌, length, drop, ap, ◌∙◌, arith, length-drop}
use Rattle.std.proofs.lemmas.List.{drop-append-le}
use Rattle.byteorder.specs.Endian.{big_number, little_number}
use Rattle.byteorder.specs.Numbers.{big_from-append, little_from-append}
use Rattle.pcap_defs.specs.Number.{number_at}

-- bytes after a number don't change it
pub number_at-append : (big : Bool) (n at : ℕ) (xs ys : List ℕ) → at + n ≤ length xs → number_at big n at (xs ++ ys) ≡ number_at big n at xs
number_at-append true n at xs ys h =
    let inside : at ≤ length xs = omega arith in
    let room : n ≤ length (drop at xs) = omega (arith, length-drop at xs) in
    ap (big_number n) (drop-append-le at xs ys inside) ∙ big_from-append n (drop at xs) ys room
number_at-append false n at xs ys h =
    let inside : at ≤ length xs = omega arith in
    let room : n ≤ length (drop at xs) = omega (arith, length-drop at xs) in
    ap (little_number n) (drop-append-le at xs ys inside) ∙ little_from-append n (drop at xs) ys room
