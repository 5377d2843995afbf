-- The bytes of a window after more bytes of the file were read.
use Rattle.pcap_core.proofs.Prelude.{◌≡◌, ap, arith, [], ◌∙◌, List, None, sym, ℕ, ◌++◌, Option, Some, length, ◌+◌, ◌-◌, append_assoc, ◌≤◌, length-append, subst, take, drop, append-nil, length-drop, drop-append-le, drop-take, with_items_is, length-take-le, take-append-le, IfSome, EndsWhereEmpty, Takes, TakesFront, rest_of}
use Rattle.std.proofs.Math.Seq.{take-append-add}
use Rattle.std.specs.declared.vec.Vec.{Vec}
use Rattle.std.specs.Vec.{with_items}
use borrow.Rule.Slice.PartMut.{post_of}

-- the buffer was overwritten from `end` on
pub held-read : (xs buf post zs : List ℕ) (at end n : ℕ) → zs ≡ take end xs ++ (buf ++ post) → at ≤ end → end ≤ length xs → n ≤ length buf
    → take (end + n - at) (drop at zs) ≡ take (end - at) (drop at xs) ++ take n buf
held-read xs buf post zs at end n e low within short =
    let more : at + (end - at) ≡ end = omega (arith, low) in
    let size : length (take (end - at) (drop at xs)) ≡ end - at = length-take-le (end - at) (drop at xs) (omega (arith, within, length-drop at xs)) in
    let far : at ≤ length (take end xs) = omega (arith, low, length-take-le end xs within) in
    let front : drop at (take end xs) ≡ take (end - at) (drop at xs) = ap (λ m. drop at (take m xs)) (sym more) ∙ drop-take at (end - at) xs in
    let count : end + n - at ≡ length (take (end - at) (drop at xs)) + n = omega (arith, size, low) in
    ap (λ ys. take (end + n - at) (drop at ys)) e
    ∙ ap (take (end + n - at)) (drop-append-le at (take end xs) (buf ++ post) far ∙ ap (λ ys. ys ++ (buf ++ post)) front)
    ∙ ap (λ m. take m (take (end - at) (drop at xs) ++ (buf ++ post))) count
    ∙ take-append-add (take (end - at) (drop at xs)) (buf ++ post) n
    ∙ ap (λ ys. take (end - at) (drop at xs) ++ ys) (take-append-le n buf post short)

-- and none of the new bytes belong to the window
pub held-refused : (xs buf post zs : List ℕ) (at end : ℕ) → zs ≡ take end xs ++ (buf ++ post) → at ≤ end → end ≤ length xs
    → take (end - at) (drop at zs) ≡ take (end - at) (drop at xs)
held-refused xs buf post zs at end e low within =
    let same : end + 0 - at ≡ end - at = omega arith in
    ap (λ m. take m (drop at zs)) (sym same) ∙ held-read xs buf post zs at end 0 e low within (omega arith) ∙ append-nil (take (end - at) (drop at xs))

-- the buffer after the write
module _ {Z : Type 0} (v : Vec ℕ Z) (shown buf : List ℕ) (at end : ℕ) (same : shown ≡ v.items) (size : length buf ≡ length shown - end) (low : at ≤ end) (within : end ≤ length shown) (whole : length shown ≡ v.len) where
  abbrev pub written : List ℕ
  written = take end shown ++ (buf ++ post_of end (length shown - end) shown)

  items : (with_items v written).items ≡ take end v.items ++ (buf ++ post_of end (length shown - end) shown)
  items =
      let front : length (take end shown) ≡ end = length-take-le end shown within in
      let rest : length (post_of end (length shown - end) shown) ≡ 0 = omega (arith, length-drop (length shown - end) (drop end shown), length-drop end shown) in
      let count : length written ≡ v.len =
      omega (arith, length-append (take end shown) (buf ++ post_of end (length shown - end) shown), length-append buf (post_of end (length shown - end) shown), front, rest, size, within, whole) in
      with_items_is v written count ∙ ap (λ xs. take end xs ++ (buf ++ post_of end (length shown - end) shown)) same

  inside : end ≤ length v.items
  inside = subst (λ xs. end ≤ length xs) same within

  pub held-written : (n : ℕ) → n ≤ length buf → take (end + n - at) (drop at (with_items v written).items) ≡ take (end - at) (drop at v.items) ++ take n buf
  held-written n short = held-read v.items buf (post_of end (length shown - end) shown) (with_items v written).items at end n items low inside short

  pub held-unwritten : take (end - at) (drop at (with_items v written).items) ≡ take (end - at) (drop at v.items)
  held-unwritten = held-refused v.items buf (post_of end (length shown - end) shown) (with_items v written).items at end items low inside

-- the remaining bytes are the same, but more of them are in the window
pub same-read : (old new : Option (List ℕ)) (buf before now : List ℕ) (n : ℕ) → Takes old new buf n → now ≡ before ++ take n buf → TakesFront (rest_of before old) (rest_of now new) []
same-read None new buf before now n takes e = tt
same-read (Some left) new buf before now n takes e =
    subst (λ o. TakesFront (Some (before ++ left)) (rest_of now o) []) (sym takes.1)
    (ap (λ xs. before ++ xs) takes.0 ∙ sym (append_assoc before (take n buf) (drop n left)) ∙ ap (λ xs. xs ++ drop n left) (sym e))

pub same-refused : (old new : Option (List ℕ)) (before now : List ℕ) → new ≡ old → now ≡ before → TakesFront (rest_of before old) (rest_of now new) []
same-refused None new before now is e = tt
same-refused (Some left) new before now is e = subst (λ o. TakesFront (Some (before ++ left)) (rest_of now o) []) (sym is) (ap (λ xs. xs ++ left) (sym e))

-- if no byte was read, the window has all remaining bytes
pub all-read : (old new : Option (List ℕ)) (buf before now : List ℕ) (n : ℕ) → EndsWhereEmpty old n → now ≡ before ++ take n buf → n ≡ 0 → IfSome (rest_of before old) (λ left. left ≡ now)
all-read None new buf before now n ends e none = tt
all-read (Some left) new buf before now n ends e none =
    ap (λ xs. before ++ xs) (ends.0 none) ∙ ap (λ m. before ++ take m buf) (sym none) ∙ sym e

-- the same held before, if nothing was taken
pub all-held : (old mid : Option (List ℕ)) (now : List ℕ) → TakesFront old mid [] → IfSome mid (λ left. left ≡ now) → IfSome old (λ left. left ≡ now)
all-held None mid now same all = tt
all-held (Some old) None now same all = absurd same
all-held (Some old) (Some mid) now same all = same ∙ all
