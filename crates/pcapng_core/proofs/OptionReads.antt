-- The option at the front of options, after a reader's steps.
use Rattle.pcapng_core.proofs.Prelude.{◌≡◌, ℕ, List, sym, ◌∙◌, ap, arith, length, ◌+◌, Option, Some, subst, ◌<◌, ◌≤◌, None, ◌-◌, ◌++◌, drop, take, Bool, true, ⊎_elim, false, length-append, get_or, add-zero, get_or-drop, take-append-add, cases_lt, length-take-le, Passes, IsAll, TakesFront, number_at-append, number_at, option_len, gives, passes, unit_by, option_front, FrontOf, StandsAt, front_said, Gives, Ends}
use Rattle.pcapng_core.specs.declared.options.Front.{Front}
use Rattle.pcapng_core.specs.declared.options.Front.TheVariants as front
use Rattle.pcapng_core.specs.declared.options.Step.TheVariants.{Passes as Behind}

-- skipping an equal number of bytes
pub passes-as : (n m : ℕ) (old new : Option (List ℕ)) → n ≡ m → Passes n old new → Passes m old new
passes-as n m old new e h = subst (λ k. Passes k old new) e h

-- one byte as a number
one-byte : (big : Bool) (at : ℕ) (xs : List ℕ) → number_at big 1 at xs ≡ get_or xs at 0
one-byte true at xs =
    let e : get_or (drop at xs) 0 0 ≡ get_or xs (at + 0) 0 = get_or-drop at xs 0 0 in
    omega (arith, e, ap (λ i. get_or xs i 0) (add-zero at))
one-byte false at xs =
    let e : get_or (drop at xs) 0 0 ≡ get_or xs (at + 0) 0 = get_or-drop at xs 0 0 in
    omega (arith, e, ap (λ i. get_or xs i 0) (add-zero at))

-- the front of `count` bytes of options, of which the first four were taken
front-at : (big : Bool) (count behind : ℕ) (left opt rest : List ℕ) (f : Front) → left ≡ opt ++ rest → length opt ≡ 4 → count ≡ 4 + behind → FrontOf big opt behind f → count ≤ length left
    → option_front big (take count left) ≡ front_said big (take count left) f
front-at big count behind left opt rest f split four sum said enough =
    let cut : take count left ≡ opt ++ take behind rest =
    ap (take count) split ∙ ap (λ m. take m (opt ++ rest)) (sum ∙ ap (λ m. m + behind) (sym four)) ∙ take-append-add opt rest behind in
    let size : length (take behind rest) ≡ behind = length-take-le behind rest (omega (arith, ap length split, length-append opt rest, four, sum, enough)) in
    ap (option_front big) cut ∙ said (take behind rest) size ∙ ap (λ xs. front_said big xs f) (sym cut)

-- the options end
pub stands-ends : (big : Bool) (count behind rest : ℕ) (old new : Option (List ℕ)) (opt : List ℕ) → TakesFront old new opt → length opt ≡ 4 → count ≡ 4 + behind → FrontOf big opt behind front.Ends
    → StandsAt big count old (Ends rest)
stands-ends big count behind rest None new opt taken four sum said = tt
stands-ends big count behind rest (Some left) None opt taken four sum said = absurd taken
stands-ends big count behind rest (Some left) (Some new) opt taken four sum said = front-at big count behind left opt new front.Ends taken four sum said

-- the options give the unit, in the fifth byte
pub stands-gives : (big : Bool) (count behind rest value : ℕ) (old mid new : Option (List ℕ)) (opt more : List ℕ) → TakesFront old mid opt → TakesFront old new more → length opt ≡ 4 → length more ≡ 5
    → count ≡ 4 + behind → 1 ≤ behind → FrontOf big opt behind front.Unit → value ≡ get_or more 4 0 → StandsAt big count old (Gives (unit_by value) rest)
stands-gives big count behind rest value None mid new opt more first second four five sum some said at = tt
stands-gives big count behind rest value (Some left) None new opt more first second four five sum some said at = absurd first
stands-gives big count behind rest value (Some left) (Some mid) None opt more first second four five sum some said at = absurd second
stands-gives big count behind rest value (Some left) (Some mid) (Some new) opt more first second four five sum some said at = λ enough.
    let five_more : count ≡ length more + (count - 5) = omega (arith, five, sum, some) in
    let cut : take count left ≡ more ++ take (count - 5) new =
    ap (take count) second ∙ ap (λ m. take m (more ++ new)) five_more ∙ take-append-add more new (count - 5) in
    let byte : number_at big 1 option_len (take count left) ≡ value =
    ap (number_at big 1 option_len) cut ∙ number_at-append big 1 option_len more (take (count - 5) new) (omega (arith, five)) ∙ one-byte big option_len more ∙ sym at in
    front-at big count behind left opt mid front.Unit first four sum said enough ∙ ap (λ m. gives (unit_by m)) byte

-- another option, whose bytes were skipped
pub stands-passes : (big : Bool) (count behind filled n : ℕ) (old mid : Option (List ℕ)) (opt : List ℕ) → TakesFront old mid opt → length opt ≡ 4 → count ≡ 4 + behind → filled ≤ behind
    → FrontOf big opt behind (front.Other filled) → n ≤ filled → (n < filled → IsAll n mid) → StandsAt big count old (Behind (behind - n))
stands-passes big count behind filled n None mid opt taken four sum fits said less end = tt
stands-passes big count behind filled n (Some left) None opt taken four sum fits said less end = absurd taken
stands-passes big count behind filled n (Some left) (Some rest) opt taken four sum fits said less end = λ enough.
    let len : length left ≡ 4 + length rest = ap length taken ∙ length-append opt rest ∙ ap (λ m. m + length rest) four in
    let all : n ≡ filled = ⊎_elim
    (λ (fewer : n < filled). absurd (omega (arith, end fewer, fewer, len, sum, fits, enough)))
    (λ (most : filled ≤ n). omega (arith, most, less))
    (cases_lt n filled) in
    let size : length (take count left) ≡ count = length-take-le count left enough in
    front-at big count behind left opt rest (front.Other filled) taken four sum said enough
    ∙ ap (λ m. passes (drop m (take count left))) (omega (arith, all, size, sum, fits))
