-- A good map's images without their parents' prefixes are a placement. Each image is the
-- concatenation of the parts on the path to it.
use Rattle.embed_defs.proofs.Prelude.{[], ℕ, ◌≡◌, refl, ◌∷◌, ap, ◌∙◌, arith, suc, sym, length, List, Some, zero, ◌++◌, ◌-◌, ◌<◌, subst, ◌≢◌, append-nil, drop, replicate, append_assoc, length-drop, drop_at, option_map, slice_index, after-is, after, IsPrefixOf, inner, leaf, more, none, Tree, Trees, root_of, SameShape, SameShapes, subtree_in, subtree, AreDeep, IsDeep, AreNested, IsNested, image_map, image_at, lift_ranks, lift_ranks_below, placed_ranks, placed_ranks_below, relative, relatives, IsPlaced, ArePlaced, lift_digits, IsApartFrom, part, digits_below}
use Rattle.tree_defs.specs.Tree.{Address}
use Rattle.embed_defs.proofs.Addresses.{after-sum}
use Rattle.embed_defs.proofs.LeafHeights.{IsOfHeight, AreOfHeight}

root-relative : (n : ℕ) (m : Tree Address) → root_of (relative n m) ≡ drop n (root_of m)
root-relative n (leaf e) = refl
root-relative n (inner e ts) = refl

-- dropping the prefix e
dropped : (e f : Address) (p : IsPrefixOf e f) → drop (length e) f ≡ p.0
dropped e f p = ap (drop (length e)) (after-is e f p.0 p.1) ∙ drop_at e p.0 (length e) refl

goes_on : (e f : Address) → IsPrefixOf e f → e ++ drop (length e) f ≡ f
goes_on e f p = ap (λ (z : Address). e ++ z) (dropped e f p) ∙ sym (after-is e f p.0 p.1)

after-dropped : (e f g : Address) → IsPrefixOf e f → IsPrefixOf e g → after (drop (length e) f) (drop (length e) g) ≡ after f g
after-dropped e f g p q =
    sym (after-sum e (drop (length e) f) (drop (length e) g)) ∙ ap (λ (z : Address). after z (e ++ drop (length e) g)) (goes_on e f p) ∙ ap (after f) (goes_on e g q)

drop-long : (e f : Address) → length e < length f → drop (length e) f ≢ []
drop-long e f l p = let n : length (drop (length e) f) ≡ 0 = ap length p in absurd (omega (arith, n, length-drop (length e) f))

apart-relatives : (e f : Address) (ts : Trees Address) → IsPrefixOf e f → AreNested e ts → IsApartFrom f ts → IsApartFrom (drop (length e) f) (relatives (length e) ts)
apart-relatives e f none p w a = tt
apart-relatives e f (more t ts) p w a =
    rw (root-relative (length e) t)
    (after-dropped e f (root_of t) p w.0 ∙ a.0, after-dropped e (root_of t) f w.0 p ∙ a.1, apart-relatives e f ts p w.3 a.2)

mutual
  pub placed : (h n : ℕ) (m : Tree Address) → IsDeep h m → IsNested m → IsPlaced (relative n m)
  placed h n (leaf e) d w = tt
  placed h n (inner e ts) d w = are_placed h e ts d w

  are_placed : (h : ℕ) (e : Address) (ts : Trees Address) → AreDeep h e ts → AreNested e ts → ArePlaced (relatives (length e) ts)
  are_placed h e none d w = tt
  are_placed h e (more t ts) d w =
      rw (root-relative (length e) t)
      (drop-long e (root_of t) d.0, apart-relatives e (root_of t) ts w.0 w.3 w.1, placed h (length e) t d.2 w.2, are_placed h e ts d.3 w.3)

mutual
  pub high : (h n : ℕ) (m : Tree Address) → IsDeep h m → IsOfHeight (relative n m) (h - length (root_of m))
  high h n (leaf e) d = omega (arith, d)
  high h n (inner e ts) d = are_high h e ts d

  are_high : (h : ℕ) (e : Address) (ts : Trees Address) → AreDeep h e ts → AreOfHeight (relatives (length e) ts) (h - length e)
  are_high h e none d = tt
  are_high h e (more t ts) d =
      let l : length (drop (length e) (root_of t)) ≡ length (root_of t) - length e = length-drop (length e) (root_of t) in
      let k : h - length (root_of t) ≡ (h - length e) - length (drop (length e) (root_of t)) = omega (arith, l, d.0, d.1) in
      rw (root-relative (length e) t)
      (omega (arith, l, d.1), subst (IsOfHeight (relative (length e) t)) k (high h (length e) t d.2), are_high h e ts d.3)

mutual
  pub image-parts : (n : ℕ) (m : Tree Address) (b : Address) (u : Tree Address) → IsNested m → subtree m b ≡ Some u → image_at m b ≡ Some (root_of m ++ lift_digits (relative n m) b)
  image-parts n (leaf e) [] u w m = ap Some (sym (append-nil e))
  image-parts n (leaf e) (i ∷ b) u w m = cc
  image-parts n (inner e ts) [] u w m = ap Some (sym (append-nil e))
  image-parts n (inner e ts) (i ∷ b) u w m = image-parts_in e ts i b u w m

  image-parts_in : (e : Address) (ts : Trees Address) (i : ℕ) (b : Address) (u : Tree Address) → AreNested e ts → subtree_in ts i b ≡ Some u
      → option_map root_of (subtree_in ts i b) ≡ Some (e ++ (part (relatives (length e) ts) i ++ digits_below (relatives (length e) ts) i b))
  image-parts_in e none i b u w m = cc
  image-parts_in e (more t ts) zero b u w m =
      rw (root-relative (length e) t)
      (image-parts (length e) t b u w.2 m
      ∙ ap Some (ap (λ (z : Address). z ++ lift_digits (relative (length e) t) b) (sym (goes_on e (root_of t) w.0)) ∙ append_assoc e (drop (length e) (root_of t)) (lift_digits (relative (length e) t) b)))
  image-parts_in e (more t ts) (suc i) b u w m = image-parts_in e ts i b u w.3 m

pub image-is : (m : Tree Address) (b : Address) (u : Tree Address) → root_of m ≡ [] → IsNested m → subtree m b ≡ Some u → image_map m b ≡ lift_digits (relative 0 m) b
image-is m b u r w s = rw (image-parts 0 m b u w s, r) refl

-- a map has the shape of its placement
mutual
  pub shape-relative : {Q : Type 0} (n : ℕ) (t : Tree Q) (m : Tree Address) → SameShape t m → SameShape t (relative n m)
  shape-relative n (leaf q) (leaf e) s = tt
  shape-relative n (leaf q) (inner e us) s = absurd s
  shape-relative n (inner q ts) (leaf e) s = absurd s
  shape-relative n (inner q ts) (inner e us) s = shapes-relative (length e) ts us s

  shapes-relative : {Q : Type 0} (n : ℕ) (ts : Trees Q) (us : Trees Address) → SameShapes ts us → SameShapes ts (relatives n us)
  shapes-relative n none none s = tt
  shapes-relative n none (more u us) s = absurd s
  shapes-relative n (more t ts) none s = absurd s
  shapes-relative n (more t ts) (more u us) s = (shape-relative n t u s.0, shapes-relative n ts us s.1)

-- the lifted ranks are the same
mutual
  pub ranks-relative : (n : ℕ) (m : Tree Address) (digits ranks : List ℕ) → lift_ranks m digits ranks ≡ placed_ranks (relative n m) digits ranks
  ranks-relative n (leaf e) digits ranks = refl
  ranks-relative n (inner e ts) [] ranks = refl
  ranks-relative n (inner e ts) (i ∷ digits) ranks = ranks_below-relative (length e) ts i digits ranks

  ranks_below-relative : (n : ℕ) (ts : Trees Address) (i : ℕ) (digits ranks : List ℕ)
      → lift_ranks_below n ts i digits ranks ≡ replicate (length (part (relatives n ts) i)) (slice_index ranks 0) ++ placed_ranks_below (relatives n ts) i digits (drop 1 ranks)
  ranks_below-relative n none i digits ranks = refl
  ranks_below-relative n (more t ts) zero digits ranks =
      let l : length (drop n (root_of t)) ≡ length (root_of t) - n = length-drop n (root_of t) in
      rw (root-relative n t, l) (ap (λ (z : List ℕ). replicate (length (root_of t) - n) (slice_index ranks 0) ++ z) (ranks-relative n t digits (drop 1 ranks)))
  ranks_below-relative n (more t ts) (suc i) digits ranks = ranks_below-relative n ts i digits ranks
