-- Bytes written on a line follow the bytes before them.
use Rattle.std.proofs.Common.{◌≡◌, ℕ, ◌+◌, ◌-◌, ◌≤◌, List, ◌++◌, length, take, drop, sym, ap, ◌∙◌, append_assoc, arith, length-append, take-append-drop}
use Rattle.std.proofs.lemmas.List.{take-take, take_at, length-take-le}
use Rattle.std.proofs.Math.Seq.{take-append-add}

-- the bytes written from `at` to `end` follow the bytes before them
pub put_between : (at start end : ℕ) (line old text behind : List ℕ) → start ≡ at → start + length text ≡ end → at ≤ length old
    → take start line ≡ take start old → drop start line ≡ text ++ behind → take end line ≡ take at old ++ text
put_between at start end line old text behind same long within before after =
    let front : length (take start old ++ text) ≡ end = omega (arith, length-append (take start old) text, length-take-le start old (omega (arith, same, within)), long) in
    ap (take end) (sym (take-append-drop start line) ∙ ap (λ l. l ++ drop start line) before ∙ ap (λ l. take start old ++ l) after ∙ sym (append_assoc (take start old) text behind))
    ∙ take_at (take start old ++ text) behind end front
    ∙ ap (λ n. take n old ++ text) same

-- a prefix of the bytes written
pub part_put : (at few room : ℕ) (old bytes line : List ℕ) → at ≤ length old → few ≤ length bytes → room ≡ at + length bytes
    → take room line ≡ take at old ++ bytes → take (at + few) line ≡ take at old ++ take few bytes
part_put at few room old bytes line within short whole put =
    sym (take-take (at + few) room line (omega (arith, short, whole)))
    ∙ ap (take (at + few)) put
    ∙ ap (λ k. take (k + few) (take at old ++ bytes)) (sym (length-take-le at old within))
    ∙ take-append-add (take at old) bytes few

-- the first `n` bytes and the last `n`, which may overlap
pub put_both : (at n middle one_end end : ℕ) (bytes old one two first last : List ℕ) → at ≤ length old → length bytes ≤ n + n → n ≤ length bytes
    → middle + n ≡ at + length bytes → one_end ≡ at + n → first ≡ take n bytes → last ≡ drop (length bytes - n) bytes
    → take one_end one ≡ take at old ++ first → take end two ≡ take middle one ++ last → take end two ≡ take at old ++ bytes
put_both at n middle one_end end bytes old one two first last within short long place room is_first is_last put_first put_last =
    let extra : ℕ = length bytes - n in
    let begins : middle ≡ at + extra = omega (arith, place, long) in
    let some : extra ≤ n = omega (arith, short, long) in
    let n_long : length (take n bytes) ≡ n = length-take-le n bytes long in
    let first_put : take one_end one ≡ take at old ++ take n bytes = put_first ∙ ap (λ l. take at old ++ l) is_first in
    let front : take middle one ≡ take at old ++ take extra bytes =
    ap (λ k. take k one) begins
    ∙ part_put at extra one_end old (take n bytes) one within (omega (arith, some, n_long)) (omega (arith, room, n_long)) first_put
    ∙ ap (λ l. take at old ++ l) (take-take extra n bytes some) in
    put_last
    ∙ ap (λ l. l ++ last) front
    ∙ append_assoc (take at old) (take extra bytes) last
    ∙ ap (λ l. take at old ++ (take extra bytes ++ l)) is_last
    ∙ ap (λ l. take at old ++ l) (take-append-drop extra bytes)
