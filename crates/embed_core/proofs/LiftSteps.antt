-- One step down a map along a path.
use Rattle.embed_core.proofs.Prelude.{◌≡◌, length, arith, sym, ◌∙◌, ap, List, ◌+◌, subst, ℕ, ◌<◌, [], refl, ◌≤◌, get_or, ◌∷◌, drop, ◌++◌, suc, zero, take, ◌-◌, append-nil, length-drop, replicate, drop_all, drop_more, length-replicate, take_at, get_or-drop, option_map, unwrap_or, IsDeep, AreDeep, image_map, lift_ranks, lift_ranks_below, branch, trees_of, Address, Tree, root_of, inner, leaf, Trees, more, LeadsToLeaf, none, LeadsBelow}
use Rattle.std.proofs.Common.{set}
use borrow.Rule.Slice.PartMut.{put_mid}
use Rattle.embed_core.proofs.MapSteps.{child-at}

root-branch : (e : Address) (ts : Trees Address) → root_of (branch e ts) ≡ e
root-branch e none = refl
root-branch e (more t ts) = refl

pub root-is : (e : Address) (ks : List (Tree Address)) (m : Tree Address) → branch e (trees_of ks) ≡ m → e ≡ root_of m
root-is e ks m p = sym (root-branch e (trees_of ks)) ∙ ap root_of p

pub leads-index : (ks : List (Tree Address)) (i : ℕ) (digits : Address) → LeadsBelow (trees_of ks) i digits → i < length ks
leads-index [] i digits l = absurd l
leads-index (k ∷ ks) zero digits l = omega arith
leads-index (k ∷ ks) (suc i) digits l = omega (arith, leads-index ks i digits l)

pub leads-child : (ks : List (Tree Address)) (i : ℕ) (k : Tree Address) (digits : Address) → LeadsBelow (trees_of ks) i digits → k ≡ get_or ks i k → LeadsToLeaf k digits
leads-child [] i k digits l e = absurd l
leads-child (j ∷ ks) zero k digits l e = subst (λ (z : Tree Address). LeadsToLeaf z digits) (sym e) l
leads-child (j ∷ ks) (suc i) k digits l e = leads-child ks i k digits l e

-- the lengths of a child's image
pub record IsDeeper (h : ℕ) (e : Address) (k : Tree Address) : Type 0 where
  pub longer : length e < length (root_of k)
  pub short : length (root_of k) ≤ h
  pub deep : IsDeep h k

pub deep-child : (h : ℕ) (e : Address) (ks : List (Tree Address)) (i : ℕ) (k : Tree Address) → AreDeep h e (trees_of ks) → i < length ks → k ≡ get_or ks i k → IsDeeper h e k
deep-child h e [] i k d l f = absurd (omega arith)
deep-child h e (j ∷ ks) zero k d l f = subst (IsDeeper h e) (sym f) (record { longer = d.0; short = d.1; deep = d.2 })
deep-child h e (j ∷ ks) (suc i) k d l f = deep-child h e ks i k d.3 (omega arith) f

ranks-child : (n : ℕ) (ks : List (Tree Address)) (i : ℕ) (k : Tree Address) (digits : Address) (r : ℕ) (ranks : List ℕ) → i < length ks → k ≡ get_or ks i k
    → lift_ranks_below n (trees_of ks) i digits (r ∷ ranks) ≡ replicate (length (root_of k) - n) r ++ lift_ranks k digits ranks
ranks-child n [] i k digits r ranks l f = absurd (omega arith)
ranks-child n (j ∷ ks) zero k digits r ranks l f = ap (λ (z : Tree Address). replicate (length (root_of z) - n) r ++ lift_ranks z digits ranks) (sym f)
ranks-child n (j ∷ ks) (suc i) k digits r ranks l f = ranks-child n ks i k digits r ranks (omega arith) f

-- the facts about the child k, the image e and the ranks at a node m whose path continues to k
record IsNext (h : ℕ) (e : Address) (m : Tree Address) (i : ℕ) (way : Address) (r : ℕ) (ranks : List ℕ) (k : Tree Address) : Type 0 where
  root : root_of m ≡ e
  deeper : IsDeeper h e k
  leaf_below : LeadsToLeaf k way
  image : image_map m (i ∷ way) ≡ image_map k way
  ranks_are : lift_ranks m (i ∷ way) (r ∷ ranks) ≡ replicate (length (root_of k) - length e) r ++ lift_ranks k way ranks

next : (h : ℕ) (e : Address) (ks : List (Tree Address)) (i : ℕ) (way : Address) (r : ℕ) (ranks : List ℕ) (k : Tree Address) → IsDeep h (branch e (trees_of ks)) → LeadsToLeaf (branch e (trees_of ks)) (i ∷ way)
    → k ≡ get_or ks i k → IsNext h e (branch e (trees_of ks)) i way r ranks k
next h e [] i way r ranks k w l f = absurd l
next h e (j ∷ ks) i way r ranks k w l f =
    let b : i < length (j ∷ ks) = leads-index (j ∷ ks) i way l in
    record {
      root = refl;
      deeper = deep-child h e (j ∷ ks) i k w b f;
      leaf_below = leads-child (j ∷ ks) i k way l f;
      image = ap (λ o. unwrap_or (option_map root_of o) []) (child-at (j ∷ ks) i k way b f);
      ranks_are = ranks-child (length e) (j ∷ ks) i k way r ranks b f;
    }

next-within : (e : Address) (ks : List (Tree Address)) (i : ℕ) (way : Address) → LeadsToLeaf (branch e (trees_of ks)) (i ∷ way) → i < length ks
next-within e [] i way l = absurd l
next-within e (k ∷ ks) i way l = leads-index (k ∷ ks) i way l

-- the same, at a step of a path
pub record IsStep (h : ℕ) (e : Address) (m : Tree Address) (step : ℕ) (digits ranks : List ℕ) (k : Tree Address) : Type 0 where
  pub root : root_of m ≡ e
  pub deeper : IsDeeper h e k
  pub leaf_below : LeadsToLeaf k (drop (step + 1) digits)
  pub image : image_map m (drop step digits) ≡ image_map k (drop (step + 1) digits)
  pub ranks_are : lift_ranks m (drop step digits) (drop step ranks) ≡ replicate (length (root_of k) - length e) (get_or ranks step 0) ++ lift_ranks k (drop (step + 1) digits) (drop (step + 1) ranks)

module _ (e : Address) (ks : List (Tree Address)) (m : Tree Address) (step : ℕ) (digits : List ℕ) (p : branch e (trees_of ks) ≡ m) (b : step < length digits) (l : LeadsToLeaf m (drop step digits)) where
  leads : LeadsToLeaf (branch e (trees_of ks)) (get_or digits step 0 ∷ drop (step + 1) digits)
  leads = subst (λ (z : Tree Address). LeadsToLeaf z (get_or digits step 0 ∷ drop (step + 1) digits)) (sym p) (subst (LeadsToLeaf m) (drop_more digits step 0 b) l)

  pub step-within : get_or digits step 0 < length ks
  step-within = next-within e ks (get_or digits step 0) (drop (step + 1) digits) leads

  pub step-down : (h : ℕ) (ranks : List ℕ) (i : ℕ) (k : Tree Address) → length ranks ≡ length digits + 1 → IsDeep h m → i ≡ get_or digits step 0 → k ≡ get_or ks i k → IsStep h e m step digits ranks k
  step-down h ranks i k n w x f =
      let d : drop step digits ≡ get_or digits step 0 ∷ drop (step + 1) digits = drop_more digits step 0 b in
      let r : drop step ranks ≡ get_or ranks step 0 ∷ drop (step + 1) ranks = drop_more ranks step 0 (omega (arith, n, b)) in
      let o : IsNext h e (branch e (trees_of ks)) (get_or digits step 0) (drop (step + 1) digits) (get_or ranks step 0) (drop (step + 1) ranks) k
      = next h e ks _ _ (get_or ranks step 0) (drop (step + 1) ranks) k (subst (IsDeep h) (sym p) w) leads (rw x at f) in
      let t : IsNext h e m (get_or digits step 0) (drop (step + 1) digits) (get_or ranks step 0) (drop (step + 1) ranks) k
      = subst (λ (z : Tree Address). IsNext h e z (get_or digits step 0) (drop (step + 1) digits) (get_or ranks step 0) (drop (step + 1) ranks) k) p o in
      record {
        root = t.root;
        deeper = t.deeper;
        leaf_below = t.leaf_below;
        image = ap (image_map m) d ∙ t.image;
        ranks_are = ap (λ (z : Address). lift_ranks m z (drop step ranks)) d ∙ ap (lift_ranks m (get_or digits step 0 ∷ drop (step + 1) digits)) r ∙ t.ranks_are;
      }

-- the ranks of the child follow the first ones
pub ranks-behind : (n r : ℕ) (old new filled : List ℕ) → filled ≡ replicate n r ++ drop n old → put_mid n (length filled - n) filled new ≡ replicate n r ++ new
ranks-behind n r old new filled e =
    let t : take n filled ≡ replicate n r = ap (take n) e ∙ take_at (replicate n r) (drop n old) n (length-replicate n r) in
    let d : drop (length filled - n) (drop n filled) ≡ [] = drop_all (length filled - n) (drop n filled) (omega (arith, length-drop n filled)) in
    rw (t, d) (ap (λ (z : List ℕ). replicate n r ++ z) (append-nil new))

-- the facts at the end of a path: the leaf's image is as long as the digits, and there is one rank
pub record IsEnd (h : ℕ) (m : Tree Address) (way ranks lifted : List ℕ) : Type 0 where
  pub long : length (root_of m) ≡ h
  pub image : root_of m ≡ image_map m way
  pub one : 0 < length lifted
  pub ranks_are : set lifted 0 (get_or ranks 0 0) ≡ lift_ranks m way ranks

end-at : (h : ℕ) (m : Tree Address) (way ranks lifted : List ℕ) → length way < 1 → IsDeep h m → LeadsToLeaf m way → length lifted + length (root_of m) ≡ h + 1 → IsEnd h m way ranks lifted
end-at h m (i ∷ way) ranks lifted z w l n = absurd (omega arith)
end-at h (inner e ts) [] ranks lifted z w l n = absurd l
end-at h (leaf e) [] ranks [] z w l n = absurd (omega (arith, w))
end-at h (leaf e) [] ranks (r ∷ s ∷ lifted) z w l n = absurd (omega (arith, w))
end-at h (leaf e) [] ranks (r ∷ []) z w l n = record { long = w; image = refl; one = omega arith; ranks_are = refl }

pub record IsLast (h : ℕ) (m : Tree Address) (step : ℕ) (digits ranks lifted : List ℕ) : Type 0 where
  pub long : length (root_of m) ≡ h
  pub image : root_of m ≡ image_map m (drop step digits)
  pub one : 0 < length lifted
  pub ranks_are : set lifted 0 (get_or ranks step 0) ≡ lift_ranks m (drop step digits) (drop step ranks)

pub last-at : (h : ℕ) (m : Tree Address) (step : ℕ) (digits ranks lifted : List ℕ) → length digits ≤ step → IsDeep h m → LeadsToLeaf m (drop step digits) → length lifted + length (root_of m) ≡ h + 1 → IsLast h m step digits ranks lifted
last-at h m step digits ranks lifted b w l n =
    let e : IsEnd h m (drop step digits) (drop step ranks) lifted = end-at h m (drop step digits) (drop step ranks) lifted (omega (arith, length-drop step digits)) w l n in
    let s : get_or (drop step ranks) 0 0 ≡ get_or ranks step 0 = get_or-drop step ranks 0 0 ∙ ap (λ (i : ℕ). get_or ranks i 0) (omega arith) in
    record { long = e.long; image = e.image; one = e.one; ranks_are = ap (set lifted 0) (sym s) ∙ e.ranks_are }
