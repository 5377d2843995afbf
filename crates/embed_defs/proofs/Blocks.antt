-- The blocks of the children of a node are side by side, so none of their images is a prefix of
-- another.
use Rattle.embed_defs.proofs.Prelude.{[], ℕ, ◌≡◌, refl, ◌∷◌, ap, ◌∙◌, arith, sym, length, List, ◌≤◌, Some, ◌++◌, ◌+◌, ◌-◌, None, ◌<◌, inl, inr, append-nil, length-append, cond, cases_Bool, length-take-le, nil_from_length, after-append, after-is, after, Child, digits, image_part, IsAmong, comes_before, start_of, Arities, leaves_below}
use Rattle.tree_defs.specs.Tree.{Address}
use Rattle.embed_defs.proofs.Levels.{ArePositive, leaves-positive}
use Rattle.embed_defs.proofs.Addresses.{none_unless}
use Rattle.embed_defs.proofs.ChildOrder.{Comes, comes, before, Comes-trans, Comes-le, Comes-irrefl}
use Rattle.embed_defs.proofs.Digits.{length-digits, digits-prefix}

abbrev term : Arities → Child → Child → ℕ
term a x y = cond (comes_before x y) (leaves_below a x.1) 0

own_term : (a : Arities) (x y : Child) → Comes x y → term a x y ≡ leaves_below a x.1
own_term a x y c = rw (before x y c) refl

self_term : (a : Arities) (x : Child) → term a x x ≡ 0
self_term a x = elim (cases_Bool (comes_before x x)) [ inl t ↦ absurd (Comes-irrefl x (comes x x t)) | inr t ↦ rw t refl ]

term-step : (a : Arities) (z x y : Child) → Comes x y → term a z x ≤ term a z y
term-step a z x y c = elim (cases_Bool (comes_before z x)) [
  | inl t ↦ rw (t, before z y (Comes-trans z x y (comes z x t) c)) (omega arith)
  | inr t ↦ rw t (omega arith)
]

term-leaves : (a : Arities) (z y : Child) → term a z y ≤ leaves_below a z.1
term-leaves a z y = elim (cases_Bool (comes_before z y)) [ inl t ↦ rw t (omega arith) | inr t ↦ rw t (omega arith) ]

starts-step : (a : Arities) (xs : List Child) (x y : Child) → Comes x y → start_of a xs x ≤ start_of a xs y
starts-step a [] x y c = omega arith
starts-step a (z ∷ zs) x y c = omega (arith, term-step a z x y c, starts-step a zs x y c)

-- y's block begins at or after the end of x's
pub starts-own : (a : Arities) (xs : List Child) (x y : Child) → Comes x y → IsAmong x xs → start_of a xs x + leaves_below a x.1 ≤ start_of a xs y
starts-own a [] x y c m = absurd m
starts-own a (z ∷ zs) x y c m = elim m [
  | inl e ↦
      let s : term a z x ≡ 0 = ap (λ (w : Child). term a w x) e ∙ self_term a x in
      let o : term a z y ≡ leaves_below a x.1 = ap (λ (w : Child). term a w y) e ∙ own_term a x y c in
      omega (arith, s, o, starts-step a zs x y c)
  | inr n ↦ omega (arith, term-step a z x y c, starts-own a zs x y c n)
]

-- the number of leaves of all blocks
abbrev pub all_leaves : Arities → List Child → ℕ
all_leaves a [] = 0
all_leaves a (x ∷ xs) = leaves_below a x.1 + all_leaves a xs

starts-leaves : (a : Arities) (xs : List Child) (y : Child) → start_of a xs y ≤ all_leaves a xs
starts-leaves a [] y = omega arith
starts-leaves a (z ∷ zs) y = omega (arith, term-leaves a z y, starts-leaves a zs y)

-- a child's block ends within these leaves
pub starts-inside : (a : Arities) (xs : List Child) (y : Child) → IsAmong y xs → start_of a xs y + leaves_below a y.1 ≤ all_leaves a xs
starts-inside a [] y m = absurd m
starts-inside a (z ∷ zs) y m = elim m [
  | inl e ↦
      let s : term a z y ≡ 0 = ap (λ (w : Child). term a w y) e ∙ self_term a y in
      let o : leaves_below a z.1 ≡ leaves_below a y.1 = ap (λ (w : Child). leaves_below a w.1) e in
      omega (arith, s, o, starts-leaves a zs y)
  | inr n ↦ omega (arith, term-leaves a z y, starts-inside a zs y n)
]

pub start-below : (a : Arities) (h : ℕ) (xs : List Child) (y : Child) → ArePositive a → IsAmong y xs → all_leaves a xs ≤ leaves_below a h → start_of a xs y < leaves_below a h
start-below a h xs y p m r = omega (arith, starts-inside a xs y m, leaves-positive a y.1 p)

pub length-part : (a : Arities) (h : ℕ) (xs : List Child) (y : Child) → length (image_part a h xs y) ≡ h - y.1
length-part a h xs y = length-take-le (h - y.1) (digits a h (start_of a xs y)) (omega (arith, length-digits a h (start_of a xs y)))

module _ (a : Arities) (h : ℕ) (xs : List Child) (p : ArePositive a) (r : all_leaves a xs ≤ leaves_below a h) where
  -- the image of an earlier child isn't a prefix of a later one's
  pub earlier-apart : (x y : Child) → IsAmong x xs → IsAmong y xs → x.1 ≤ h → Comes x y → after (image_part a h xs x) (image_part a h xs y) ≡ None
  earlier-apart x y m n l c = none_unless (after (image_part a h xs x) (image_part a h xs y)) (λ w s.
      let t : start_of a xs y < start_of a xs x + leaves_below a (h - (h - x.1))
      = digits-prefix a h (h - x.1) (h - y.1) (start_of a xs x) (start_of a xs y) w p (omega arith) (start-below a h xs x p m r) (start-below a h xs y p n r) s in
      let e : leaves_below a (h - (h - x.1)) ≡ leaves_below a x.1 = ap (leaves_below a) (omega arith) in
      omega (arith, t, e, starts-own a xs x y c m))

  -- the image of a later child isn't a prefix of an earlier one's
  pub later-apart : (x y : Child) → IsAmong x xs → IsAmong y xs → x.1 ≤ h → Comes x y → after (image_part a h xs y) (image_part a h xs x) ≡ None
  later-apart x y m n l c = none_unless (after (image_part a h xs y) (image_part a h xs x)) (λ w s.
      let e : image_part a h xs x ≡ image_part a h xs y ++ w = after-is (image_part a h xs y) (image_part a h xs x) w s in
      let k : h - x.1 ≡ (h - y.1) + length w = sym (length-part a h xs x) ∙ ap length e ∙ length-append (image_part a h xs y) w ∙ ap (λ (z : ℕ). z + length w) (length-part a h xs y) in
      let o : y.1 ≤ x.1 = Comes-le x y c in
      let f : w ≡ [] = nil_from_length w (omega arith) in
      let g : image_part a h xs x ≡ image_part a h xs y = e ∙ ap (λ (z : Address). image_part a h xs y ++ z) f ∙ append-nil (image_part a h xs y) in
      let b : after (image_part a h xs x) (image_part a h xs y) ≡ Some [] = ap (after (image_part a h xs x)) (sym g ∙ sym (append-nil (image_part a h xs x))) ∙ after-append (image_part a h xs x) [] in
      let i : after (image_part a h xs x) (image_part a h xs y) ≡ None = earlier-apart x y m n l c in
      cc)
