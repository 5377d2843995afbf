-- From tests on node numbers to the clauses of an embedding.
use Rattle.mapcheck_core.proofs.Prelude.{◌≡◌, sym, List, ℕ, subst, ◌∙◌, ap, [], refl, arith, None, inr, Some, ◌<◌, false, length, true, ◌≤◌, inl, Option, get_or, Bool, ◌-◌, eq-eqb, both_ways, and_parts, cases_lt, and_from, eqb-true, false_from_ne_true, cases_order, not-true, not_from_false, true_from_ne_false, get_or_default, IsEmbedding, number_of, leaf_at, Topology, IsBranched, IsPrefixOf, nodes, Address, IsAddressOf, subtree, LeadsToLeaf, IsLeast, breaks_at, IsFirstPair, is_broken, is_prefix, differ, lies_in, image_of, prefix, Breaks, IsOutside, MissesLeaf, outside, root, HoldsNowhere, IsInside, IsLeastLine, KeepsLeaves, KeepsPrefix, KeepsRoot, line_of, IsLeastPair, span_at, MapFault, Given}
use Rattle.embed_defs.proofs.Addresses.{none_unless}
use Rattle.tree_defs.specs.Tree as tree
use Rattle.mapcheck_core.specs.declared.fault.MapFault.TheVariants as fault
use Rattle.mapcheck_core.specs.declared.check.Demand.TheVariants as demand
use Rattle.mapcheck_core.specs.GivenMaps.{leaf}
use Rattle.mapcheck_core.proofs.NumberLaws.{positive, at_number, number_inside, span_is, number_root}
use Rattle.mapcheck_core.proofs.PrefixLaws.{prefix_inside, inside_prefix, there, prefix_true, true_prefix, address_true, leaf_true, true_leaf, single_leaf, leaf_single, inside_true, true_inside}

-- the test of an address's number decides whether the address has the property P
pub record Tells (s : Topology) (test : ℕ → Bool) (P : Address → Type 0) : Type 0 where
  pub holds : (a : Address) (u : Topology) → subtree s a ≡ Some u → test (number_of s a) ≡ true → P a
  pub passes : (a : Address) (u : Topology) → subtree s a ≡ Some u → P a → test (number_of s a) ≡ true

pub found : (s : Topology) (g : Given) (test : ℕ → Bool) (P : Address → Type 0) (n : ℕ) → Tells s test P → IsLeast test g.lines (nodes s) (Some n) → IsLeastLine s g P n
found s g test P n d l =
    let at = at_number s l.0.0 l.0.1 in record {
      address = at.0;
      inside = (at.1, at.2);
      holds = d.holds at.0 at.1 at.2 (subst (λ (k : ℕ). test k ≡ true) (sym at.3) l.0.2);
      line = l.0.3 ∙ ap (λ (k : ℕ). get_or g.lines k 0) (sym at.3);
      least = λ a h p. l.1 (number_of s a) (number_inside s a h.0 h.1) (d.passes a h.0 h.1 p);
    }

pub nowhere : (s : Topology) (g : Given) (test : ℕ → Bool) (P : Address → Type 0) → Tells s test P → IsLeast test g.lines (nodes s) None → HoldsNowhere s P
nowhere s g test P d l = λ a h p. both_ways (test (number_of s a)) (l (number_of s a) (number_inside s a h.0 h.1)) (d.passes a h.0 h.1 p)

pub outside_told : (s t : Topology) (g : Given) → Tells s (breaks_at demand.Address s t g) (IsOutside s t g)
outside_told s t g = record {
  holds = λ a u e b h. both_ways _ (not-true _ b) (address_true t (image_of s g a) h);
  passes = λ a u e p. not_from_false _ (false_from_ne_true _ (λ x. p (there (subtree t (image_of s g a)) x)));
}

pub leaf_told : (s t : Topology) (g : Given) → IsBranched s → Tells s (breaks_at demand.Leaf s t g) (MissesLeaf s t g)
leaf_told s t g branched = record {
  holds = λ a u e b. let both = and_parts _ _ b in (single_leaf s a u branched e (eqb-true _ 1 both.0), λ l. both_ways _ (not-true _ both.1) (leaf_true t (image_of s g a) l));
  passes = λ a u e p. and_from _ _ (eq-eqb _ 1 (leaf_single s a p.0)) (not_from_false _ (false_from_ne_true _ (λ x. p.1 (true_leaf t (image_of s g a) x))));
}

-- ---- prefixes

differ_true : (x y : Bool) → differ x y ≡ true → (x ≡ true → y ≡ true) → (y ≡ true → x ≡ true) → ⊥
differ_true true true e f h = cc
differ_true true false e f h = let z : false ≡ true = f refl in cc
differ_true false true e f h = let z : false ≡ true = h refl in cc
differ_true false false e f h = cc

differ_false : (x y : Bool) → differ x y ≡ false → (x ≡ true → y ≡ true) × (y ≡ true → x ≡ true)
differ_false true true e = (λ h. refl, λ h. refl)
differ_false true false e = cc
differ_false false true e = cc
differ_false false false e = (λ h. h, λ h. h)

prefix_lies : (s : Topology) (a b : Address) (u v : Topology) → subtree s a ≡ Some u → subtree s b ≡ Some v → IsPrefixOf a b → lies_in (number_of s a) (span_at s (number_of s a)) (number_of s b) ≡ true
prefix_lies s a b u v e f p =
    let place = prefix_inside s a b u v e f p in
    let high : number_of s b - number_of s a < span_at s (number_of s a) = omega (arith, place.1, span_is s a u e) in
    inside_true (number_of s a) (span_at s (number_of s a)) (number_of s b) place.0 high

lies_prefix : (s : Topology) (a b : Address) (u v : Topology) → subtree s a ≡ Some u → subtree s b ≡ Some v → lies_in (number_of s a) (span_at s (number_of s a)) (number_of s b) ≡ true → IsPrefixOf a b
lies_prefix s a b u v e f l =
    let place = true_inside (number_of s a) (span_at s (number_of s a)) (number_of s b) l in
    inside_prefix s a b u v e f place.0 (omega (arith, place.1, span_is s a u e))

broken_pair : (s : Topology) (g : Given) (a b : Address) (u v : Topology) → subtree s a ≡ Some u → subtree s b ≡ Some v → is_broken g (number_of s a) (span_at s (number_of s a)) (number_of s b) ≡ true → ¬ KeepsPrefix s g a b
broken_pair s g a b u v e f d keeps =
    differ_true _ _ d (λ l. prefix_true (image_of s g a) (image_of s g b) (keeps.0 (lies_prefix s a b u v e f l))) (λ p. prefix_lies s a b u v e f (keeps.1 (true_prefix (image_of s g a) (image_of s g b) p)))

kept_pair : (s : Topology) (g : Given) (a b : Address) (u v : Topology) → subtree s a ≡ Some u → subtree s b ≡ Some v → is_broken g (number_of s a) (span_at s (number_of s a)) (number_of s b) ≡ false → KeepsPrefix s g a b
kept_pair s g a b u v e f d =
    let both = differ_false (lies_in (number_of s a) (span_at s (number_of s a)) (number_of s b)) (is_prefix (image_of s g a) (image_of s g b)) d in
    (λ p. true_prefix (image_of s g a) (image_of s g b) (both.0 (prefix_lies s a b u v e f p)), λ p. lies_prefix s a b u v e f (both.1 (prefix_true (image_of s g a) (image_of s g b) p)))

pub pair_found : (s : Topology) (g : Given) (a b : ℕ) → IsFirstPair s g (nodes s) (Some (a, b)) → IsLeastPair s g a b
pair_found s g a b l =
    let x = at_number s a l.0 in
    let y = at_number s b l.1.0 in
    let d : is_broken g (number_of s x.0) (span_at s (number_of s x.0)) (number_of s y.0) ≡ true =
    subst (λ (k : ℕ). is_broken g k (span_at s k) (number_of s y.0) ≡ true) (sym x.3) (subst (λ (k : ℕ). is_broken g a (span_at s a) k ≡ true) (sym y.3) l.1.1) in record {
      first = x.0;
      second = y.0;
      first_inside = (x.1, x.2);
      second_inside = (y.1, y.2);
      first_number = sym x.3;
      second_number = sym y.3;
      broken = broken_pair s g x.0 y.0 x.1 y.1 x.2 y.2 d;
      least = λ p q hp hq k. elim (cases_order a (number_of s p)) [
        | inl e ↦ inr (
          e,
          elim (cases_lt (number_of s q) b) [
            | inl low ↦ absurd (k (kept_pair s g p q hp.0 hq.0 hp.1 hq.1 (subst (λ (n : ℕ). is_broken g n (span_at s n) (number_of s q) ≡ false) e (l.1.2 (number_of s q) low))))
            | inr high ↦ high
          ],
        )
        | inr (inl low) ↦ inl low
        | inr (inr high) ↦ absurd (k (kept_pair s g p q hp.0 hq.0 hp.1 hq.1 (l.2 (number_of s p) high (number_of s q) (number_inside s q hq.0 hq.1))))
      ];
    }

pub all_kept : (s : Topology) (g : Given) → IsFirstPair s g (nodes s) None → (a b : Address) → IsAddressOf s a → IsAddressOf s b → KeepsPrefix s g a b
all_kept s g l a b h k = kept_pair s g a b h.0 k.0 h.1 k.1 (l (number_of s a) (number_inside s a h.0 h.1) (number_of s b) (number_inside s b k.0 k.1))

-- ---- the whole

leaf_address : (s : Topology) (a : Address) → LeadsToLeaf s a → IsAddressOf s a
leaf_address s a l = let d = leaf_at s a l in (tree.leaf d.0, d.1)

pub embeds : (s t : Topology) (g : Given) → IsInside s t g → KeepsRoot s g → KeepsLeaves s t g → ((a b : Address) → IsAddressOf s a → IsAddressOf s b → KeepsPrefix s g a b) → IsEmbedding s t (image_of s g)
embeds s t g within same leaves prefixes = record {
  root = same;
  inside = λ a h. there (subtree t (image_of s g a)) (true_from_ne_false _ (λ f. within a h (λ x. both_ways _ f (address_true t (image_of s g a) x))));
  leaves = λ a l. true_leaf t (image_of s g a) (true_from_ne_false _ (λ f. leaves a (leaf_address s a l) (l, λ x. both_ways _ f (leaf_true t (image_of s g a) x))));
  prefixes = prefixes;
}

pub breaks_none : (s t : Topology) (g : Given) (f : MapFault) → Breaks s t g f → IsEmbedding s t (image_of s g) → ⊥
breaks_none s t g f (outside n l) e = l.holds (e.inside l.address l.inside)
breaks_none s t g f (root n inside k line) e = k e.root
breaks_none s t g f (leaf n inside k l) e = l.holds.1 (e.leaves l.address l.holds.0)
breaks_none s t g f (prefix a b inside k leaves l) e = l.broken (e.prefixes l.first l.second l.first_inside l.second_inside)

one_line : (s : Topology) (g : Given) (P : Address → Type 0) (n m : ℕ) → IsLeastLine s g P n → IsLeastLine s g P m → n ≡ m
one_line s g P n m l k =
    let up : n ≤ line_of s g k.address = l.least k.address k.inside k.holds in
    let down : m ≤ line_of s g l.address = k.least l.address l.inside l.holds in
    omega (arith, up, down, l.line, k.line)

one_pair : (s : Topology) (g : Given) (a b c d : ℕ) → IsLeastPair s g a b → IsLeastPair s g c d → (a ≡ c) × (b ≡ d)
one_pair s g a b c d l k =
    elim (l.least k.first k.second k.first_inside k.second_inside k.broken) [
      | inl low ↦ elim (k.least l.first l.second l.first_inside l.second_inside l.broken) [
        | inl lower ↦ absurd (omega (arith, low, lower, l.first_number, k.first_number))
        | inr same ↦ absurd (omega (arith, low, same.0, l.first_number, k.first_number))
      ]
      | inr same ↦ elim (k.least l.first l.second l.first_inside l.second_inside l.broken) [
        | inl lower ↦ absurd (omega (arith, same.0, lower, l.first_number, k.first_number))
        | inr also ↦ (same.0 ∙ sym k.first_number, omega (arith, same.1, also.1, l.second_number, k.second_number))
      ]
    ]

pub breaks_one : (s t : Topology) (g : Given) (f h : MapFault) → Breaks s t g f → Breaks s t g h → f ≡ h
breaks_one s t g f h (outside n l) (outside m k) = ap fault.NoAddress (one_line s g _ n m l k)
breaks_one s t g f h (outside n l) (root m inside k line) = absurd (inside l.address l.inside l.holds)
breaks_one s t g f h (outside n l) (leaf m inside k j) = absurd (inside l.address l.inside l.holds)
breaks_one s t g f h (outside n l) (prefix a b inside k leaves j) = absurd (inside l.address l.inside l.holds)
breaks_one s t g f h (root n i r e) (outside m k) = absurd (i k.address k.inside k.holds)
breaks_one s t g f h (root n i r e) (root m j q d) = ap fault.Root (e ∙ sym d)
breaks_one s t g f h (root n i r e) (leaf m j q k) = absurd (r q)
breaks_one s t g f h (root n i r e) (prefix a b j q leaves k) = absurd (r q)
breaks_one s t g f h (leaf n i r l) (outside m k) = absurd (i k.address k.inside k.holds)
breaks_one s t g f h (leaf n i r l) (root m j q d) = absurd (q r)
breaks_one s t g f h (leaf n i r l) (leaf m j q k) = ap fault.Leaf (one_line s g _ n m l k)
breaks_one s t g f h (leaf n i r l) (prefix a b j q leaves k) = absurd (leaves l.address l.inside l.holds)
breaks_one s t g f h (prefix a b i r leaves l) (outside m k) = absurd (i k.address k.inside k.holds)
breaks_one s t g f h (prefix a b i r leaves l) (root m j q d) = absurd (q r)
breaks_one s t g f h (prefix a b i r leaves l) (leaf m j q k) = absurd (leaves k.address k.inside k.holds)
breaks_one s t g f h (prefix a b i r leaves l) (prefix c d j q others k) = let same = one_pair s g a b c d l k in ap (λ (n : ℕ). fault.Prefix n b) same.0 ∙ ap (λ (n : ℕ). fault.Prefix c n) same.1

-- the image and the line number of the root are the first
pub root_image : (s : Topology) (g : Given) → image_of s g [] ≡ get_or g.images 0 []
root_image s g = ap (λ (k : ℕ). get_or g.images k []) (number_root s)

pub root_line : (s : Topology) (g : Given) → line_of s g [] ≡ get_or g.lines 0 0
root_line s g = ap (λ (k : ℕ). get_or g.lines k 0) (number_root s)

-- ---- the meaning of the first test that fails

pub outside_broken : (s t : Topology) (g : Given) (o : Option ℕ) (n : ℕ) → IsLeast (breaks_at demand.Address s t g) g.lines (nodes s) o → o ≡ Some n → Breaks s t g (fault.NoAddress n)
outside_broken s t g o n l e = outside n (found s g _ _ n (outside_told s t g) (subst (IsLeast (breaks_at demand.Address s t g) g.lines (nodes s)) e l))

pub none_outside : (s t : Topology) (g : Given) (o : Option ℕ) → IsLeast (breaks_at demand.Address s t g) g.lines (nodes s) o → ((n : ℕ) → o ≡ Some n → ⊥) → IsInside s t g
none_outside s t g o l e = nowhere s g _ _ (outside_told s t g) (subst (IsLeast (breaks_at demand.Address s t g) g.lines (nodes s)) (none_unless o e) l)

pub leaf_broken : (s t : Topology) (g : Given) (o : Option ℕ) (n : ℕ) → IsBranched s → IsInside s t g → KeepsRoot s g → IsLeast (breaks_at demand.Leaf s t g) g.lines (nodes s) o → o ≡ Some n → Breaks s t g (fault.Leaf n)
leaf_broken s t g o n b i r l e = leaf n i r (found s g _ _ n (leaf_told s t g b) (subst (IsLeast (breaks_at demand.Leaf s t g) g.lines (nodes s)) e l))

pub leaves_kept : (s t : Topology) (g : Given) (o : Option ℕ) → IsBranched s → IsLeast (breaks_at demand.Leaf s t g) g.lines (nodes s) o → ((n : ℕ) → o ≡ Some n → ⊥) → KeepsLeaves s t g
leaves_kept s t g o b l e = nowhere s g _ _ (leaf_told s t g b) (subst (IsLeast (breaks_at demand.Leaf s t g) g.lines (nodes s)) (none_unless o e) l)

-- the first image, as it is read
first_image : (s : Topology) (g : Given) (xs : List (List ℕ)) (x : List ℕ) → length g.images ≡ nodes s → xs ≡ g.images → x ≡ get_or xs 0 x → image_of s g [] ≡ x
first_image s g xs x size e f =
    let some : 0 < length g.images = let p = positive s in omega arith in
    root_image s g ∙ get_or_default g.images 0 [] x some ∙ ap (λ (z : List (List ℕ)). get_or z 0 x) (sym e) ∙ sym f

pub root_kept : (s : Topology) (g : Given) (xs : List (List ℕ)) (x : List ℕ) → length g.images ≡ nodes s → xs ≡ g.images → x ≡ get_or xs 0 x → x ≡ [] → KeepsRoot s g
root_kept s g xs x size e f empty = first_image s g xs x size e f ∙ empty

pub root_broken : (s t : Topology) (g : Given) (xs : List (List ℕ)) (x ls : List ℕ) → IsInside s t g → length g.images ≡ nodes s → xs ≡ g.images → x ≡ get_or xs 0 x → (x ≡ [] → ⊥) → ls ≡ g.lines → Breaks s t g (fault.Root (get_or ls 0 0))
root_broken s t g xs x ls i size e f moved d = root _ i (λ k. moved (sym (first_image s g xs x size e f) ∙ k)) (ap (λ (z : List ℕ). get_or z 0 0) d ∙ sym (root_line s g))
