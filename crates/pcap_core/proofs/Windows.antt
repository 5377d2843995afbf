-- The remaining bytes don't change while bytes move from the file into a window and out of it.
use Rattle.pcap_core.proofs.Prelude.{◌≡◌, ap, arith, [], ◌<◌, ◌∙◌, List, None, sym, ℕ, ◌++◌, Option, Some, length, refl, ◌+◌, ◌-◌, append_assoc, ◌≤◌, length-append, take, drop, length-drop, min, drop-append-le, drop-take, length-take, take-append-drop, drop-drop, nil_from_length, take-take, EndsWhereEmpty, Passes, TakesFront, rest_of, IsWhole}

-- a window is empty after a read only if nothing was left
pub fill-end : (left new : Option (List ℕ)) (held buf : List ℕ) (n : ℕ) → EndsWhereEmpty left n → n ≤ length buf → held ≡ [] → take (n - 0) buf ≡ [] → IsWhole (rest_of held left)
fill-end None new held buf n end within e none = tt
fill-end (Some left) new held buf n end within e none =
    let empty : n ≡ 0 = omega (arith, ap length none, length-take (n - 0) buf) in
    ap (λ xs. xs ++ left) e ∙ end.0 empty

-- bytes of the window that are appended to the output leave the window
pub copy-moved : (xs ys into new : List ℕ) (at end n : ℕ) → ys ≡ xs → new ≡ into ++ take (at + n - at) (drop at ys) → at + n ≤ end → end ≤ length xs
    → new ++ take (end - (at + n)) (drop (at + n) xs) ≡ into ++ take (end - at) (drop at xs)
copy-moved xs ys into new at end n e copied h within =
    let more : n + (end - (at + n)) ≡ end - at = omega arith in
    let some : at + n - at ≡ n = omega arith in
    let zs = drop at xs in
    let halves : take n (drop at xs) ++ take (end - (at + n)) (drop n (drop at xs)) ≡ take (end - at) (drop at xs) =
    ap (λ zs. take n (drop at xs) ++ zs) (sym (drop-take n (end - (at + n)) zs))
    ∙ ap (λ zs. zs ++ drop n (take (n + (end - (at + n))) (drop at xs))) (sym (take-take n (n + (end - (at + n))) zs (omega arith)))
    ∙ take-append-drop n (take (n + (end - (at + n))) zs)
    ∙ ap (λ m. take m (drop at xs)) more in
    ap (λ zs. zs ++ take (end - (at + n)) (drop (at + n) xs)) (copied ∙ ap (λ zs. into ++ take (at + n - at) (drop at zs)) e)
    ∙ append_assoc into (take (at + n - at) (drop at xs)) (take (end - (at + n)) (drop (at + n) xs))
    ∙ ap (λ m. into ++ (take m (drop at xs) ++ take (end - (at + n)) (drop (at + n) xs))) some
    ∙ ap (λ zs. into ++ (take n (drop at xs) ++ take (end - (at + n)) zs)) (sym (drop-drop n at xs))
    ∙ ap (λ zs. into ++ zs) halves

-- bytes skipped, and then more bytes skipped
pub passes-more : (n m : ℕ) (old mid new : Option (List ℕ)) → Passes n old mid → Passes m mid new → Passes (n + m) old new
passes-more n m None mid new first second = tt
passes-more n m (Some old) None new first second = absurd first
passes-more n m (Some old) (Some mid) None first second = absurd second
passes-more n m (Some old) (Some mid) (Some new) first second =
    (omega (arith, first.0, second.0, ap length first.1, length-drop n old), second.1 ∙ ap (drop m) first.1 ∙ drop-drop m n old)

-- bytes of the window that are skipped after a read
pub passes-held : (n : ℕ) (old : Option (List ℕ)) (left : Option (List ℕ)) (held now : List ℕ) → TakesFront old (rest_of held left) [] → n ≤ length held → now ≡ drop n held
    → Passes n old (rest_of now left)
passes-held n None left held now same within passed = tt
passes-held n (Some old) None held now same within passed = absurd same
passes-held n (Some old) (Some left) held now same within passed =
    (omega (arith, within, ap length same, length-append held left), ap (λ xs. xs ++ left) passed ∙ sym (drop-append-le n held left within) ∙ ap (drop n) (sym same))

-- no bytes are skipped only if nothing was left
pub passes-end : (n most : ℕ) (old : Option (List ℕ)) (held : List ℕ) → n ≡ min (length held) most → 0 < most → (held ≡ [] → IsWhole old) → n ≡ 0 → IsWhole old
passes-end n most old held count some end none = end (nil_from_length held (omega (arith, count, some, none)))

-- the window's bytes after some were skipped
pub held-advanced : (xs : List ℕ) (at end n : ℕ) → at + n ≤ end → take (end - (at + n)) (drop (at + n) xs) ≡ drop n (take (end - at) (drop at xs))
held-advanced xs at end n h =
    let more : n + (end - (at + n)) ≡ end - at = omega arith in
    ap (take (end - (at + n))) (sym (drop-drop n at xs)) ∙ sym (drop-take n (end - (at + n)) (drop at xs)) ∙ ap (λ m. drop n (take m (drop at xs))) more

-- bytes of the window that are taken in place are the first of it
in-place : (xs : List ℕ) (at end n : ℕ) → at + n ≤ end → end ≤ length xs
    → drop (at + n - n) (take (at + n) xs) ++ take (end - (at + n)) (drop (at + n) xs) ≡ take (end - at) (drop at xs)
in-place xs at end n h within =
    let before : at + n - n ≡ at = omega arith in
    let some : n ≡ at + n - at = omega arith in
    let front : drop (at + n - n) (take (at + n) xs) ≡ take (at + n - at) (drop at xs) =
    ap (λ m. drop m (take (at + n) xs)) before ∙ drop-take at n xs ∙ ap (λ m. take m (drop at xs)) some in
    ap (λ zs. zs ++ take (end - (at + n)) (drop (at + n) xs)) front ∙ copy-moved xs xs [] (take (at + n - at) (drop at xs)) at end n refl refl h within

pub taken-in-place : (xs : List ℕ) (at end n : ℕ) (left : Option (List ℕ)) → at + n ≤ end → end ≤ length xs
    → TakesFront (rest_of (take (end - at) (drop at xs)) left) (rest_of (take (end - (at + n)) (drop (at + n) xs)) left) (drop (at + n - n) (take (at + n) xs))
taken-in-place xs at end n None h within = tt
taken-in-place xs at end n (Some left) h within =
    ap (λ zs. zs ++ left) (sym (in-place xs at end n h within))
    ∙ append_assoc (drop (at + n - n) (take (at + n) xs)) (take (end - (at + n)) (drop (at + n) xs)) left

-- and so they are after the first `before` bytes were skipped
pub taken-held : (xs : List ℕ) (at end before n : ℕ) → at + (before + n) ≤ end → end ≤ length xs
    → take (end - at) (drop at xs) ≡ take before (take (end - at) (drop at xs))
    ++ (drop (at + (before + n) - n) (take (at + (before + n)) xs) ++ take (end - (at + (before + n))) (drop (at + (before + n)) xs))
taken-held xs at end before n h within =
    let sum : at + before + n ≡ at + (before + n) = omega arith in
    let front = take before (take (end - at) (drop at xs)) in
    let rest : drop before (take (end - at) (drop at xs)) ≡ drop (at + (before + n) - n) (take (at + (before + n)) xs) ++ take (end - (at + (before + n))) (drop (at + (before + n)) xs) =
    sym (held-advanced xs at end before (omega (arith, h))) ∙ sym (in-place xs (at + before) end n (omega (arith, h)) within)
    ∙ ap (λ m. drop (m - n) (take m xs) ++ take (end - m) (drop m xs)) sum in
    sym (take-append-drop before (take (end - at) (drop at xs))) ∙ ap (λ zs. front ++ zs) rest
