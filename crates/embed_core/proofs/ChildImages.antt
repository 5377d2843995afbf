-- The images of the children of a node, as a list.
use Rattle.embed_core.proofs.Prelude.{◌≡◌, length, arith, sym, ◌∙◌, ap, List, ◌+◌, ℕ, ◌<◌, [], refl, ◌≤◌, get_or, ◌∷◌, drop, ◌++◌, suc, zero, append-nil, append_assoc, drop_all, children, canonical, Child, image_part, canonicals, Arities, branch, trees_of, Address, Tree, root_of, nodes, inner, more}
use Rattle.embed_core.proofs.PlacedChildren.{child-count}

abbrev pub images_from : Arities → ℕ → Address → List Child → List (Tree ℕ) → ℕ → List (Tree Address)
images_from a h e xs [] i = []
images_from a h e xs (k ∷ ks) i = canonical a (root_of k) (e ++ image_part a h xs (i, root_of k)) k ∷ images_from a h e xs ks (suc i)

pub length-images : (a : Arities) (h : ℕ) (e : Address) (xs : List Child) (ks : List (Tree ℕ)) (i : ℕ) → length (images_from a h e xs ks i) ≡ length ks
length-images a h e xs [] i = refl
length-images a h e xs (k ∷ ks) i = ap suc (length-images a h e xs ks (suc i))

images-trees : (a : Arities) (h : ℕ) (e : Address) (xs : List Child) (ks : List (Tree ℕ)) (i : ℕ) → trees_of (images_from a h e xs ks i) ≡ canonicals a h e xs (trees_of ks) i
images-trees a h e xs [] i = refl
images-trees a h e xs (k ∷ ks) i = ap (more (canonical a (root_of k) (e ++ image_part a h xs (i, root_of k)) k)) (images-trees a h e xs ks (suc i))

images-rest : (a : Arities) (h : ℕ) (e : Address) (xs : List Child) (ks : List (Tree ℕ)) (i j : ℕ) (k : Tree ℕ) → i < length ks → k ≡ get_or ks i k
    → images_from a h e xs (drop i ks) j ≡ canonical a (root_of k) (e ++ image_part a h xs (j, root_of k)) k ∷ images_from a h e xs (drop (i + 1) ks) (suc j)
images-rest a h e xs [] i j k l f = absurd (omega arith)
images-rest a h e xs (m ∷ ks) zero j k l f =
    (ap (λ (z : Tree ℕ). canonical a (root_of z) (e ++ image_part a h xs (j, root_of z)) z ∷ images_from a h e xs ks (suc j)) (sym f))
images-rest a h e xs (m ∷ ks) (suc i) j k l f =
    let y : suc i + 1 ≡ suc (i + 1) = omega arith in
    rw y (images-rest a h e xs ks i j k (omega arith) f)

pub images-step : (a : Arities) (h : ℕ) (e : Address) (xs : List Child) (ks : List (Tree ℕ)) (i n : ℕ) (k : Tree ℕ) (vs all : List (Tree Address)) (f : Address) (v : Tree Address) → i < length ks → k ≡ get_or ks i k → n ≡ root_of k
    → f ≡ e ++ image_part a h xs (i, n) → v ≡ canonical a n f k → vs ++ images_from a h e xs (drop i ks) i ≡ all → (vs ++ v ∷ []) ++ images_from a h e xs (drop (i + 1) ks) (i + 1) ≡ all
images-step a h e xs ks i n k vs all f v l p q r s t =
    let w : v ≡ canonical a (root_of k) (e ++ image_part a h xs (i, root_of k)) k = s ∙ rw (r, q) refl in
    let x : i + 1 ≡ suc i = omega arith in
    let y : v ∷ images_from a h e xs (drop (i + 1) ks) (i + 1) ≡ images_from a h e xs (drop i ks) i = rw (w, images-rest a h e xs ks i i k l p, x) refl in
    append_assoc vs (v ∷ []) (images_from a h e xs (drop (i + 1) ks) (i + 1)) ∙ ap (λ (z : List (Tree Address)). vs ++ z) y ∙ t

pub images-done : (a : Arities) (h : ℕ) (e : Address) (xs : List Child) (ks : List (Tree ℕ)) (i : ℕ) (vs all : List (Tree Address)) → length ks ≤ i → vs ++ images_from a h e xs (drop i ks) i ≡ all → vs ≡ all
images-done a h e xs ks i vs all l t =
    let d : drop i ks ≡ [] = drop_all i ks l in
    sym (append-nil vs) ∙ ap (λ (z : List (Tree ℕ)). vs ++ images_from a h e xs z i) (sym d) ∙ t

pub all-images : (a : Arities) (h : ℕ) (e : Address) (m : Tree ℕ) (n : ℕ) (ks : List (Tree ℕ)) (vs : List (Tree Address)) → branch n (trees_of ks) ≡ m → vs ≡ images_from a h e (children (trees_of ks) 0) ks 0
    → branch e (trees_of vs) ≡ canonical a h e m
all-images a h e m n ks vs p q = ap (λ (z : List (Tree Address)). branch e (trees_of z)) q ∙ node ks ∙ ap (canonical a h e) p
  where
    node : (ks : List (Tree ℕ)) → branch e (trees_of (images_from a h e (children (trees_of ks) 0) ks 0)) ≡ canonical a h e (branch n (trees_of ks))
    node [] = refl
    node (k ∷ ks) = ap (inner e) (images-trees a h e (children (trees_of (k ∷ ks)) 0) (k ∷ ks) 0)

pub few-images : (a : Arities) (h : ℕ) (e : Address) (m : Tree ℕ) (n : ℕ) (ks : List (Tree ℕ)) (vs : List (Tree Address)) → branch n (trees_of ks) ≡ m → nodes m ≤ 1024 → vs ≡ images_from a h e (children (trees_of ks) 0) ks 0 → length vs ≤ 1024
few-images a h e m n ks vs p l q =
    let r : length vs ≡ length ks = ap length q ∙ length-images a h e (children (trees_of ks) 0) ks 0 in
    omega (arith, r, l, child-count m n ks p)
