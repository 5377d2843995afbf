-- Updates of one queue of the array.
use Rattle.fabric_core.proofs.Prelude.{ℕ, ◌≡◌, List, [], length, sym, ap, get_or, ◌∙◌, ◌<◌, ◌∷◌, map, set, suc, zero, map-set_same, length-map, get_or-map, map-set, AllByRecursion, Queue, put, put_at, Ghosts}

-- ---- bounds of numbers
pub bound-at : (P : ℕ → Type 0) (ns : List ℕ) (n : ℕ) → AllByRecursion P ns → P 0 → P (get_or ns n 0)
bound-at P [] n a z = z
bound-at P (k ∷ ns) zero a z = a.0
bound-at P (k ∷ ns) (suc n) a z = bound-at P ns n a.1 z

pub bound-set : (P : ℕ → Type 0) (ns : List ℕ) (n k : ℕ) → AllByRecursion P ns → P k → AllByRecursion P (set ns n k)
bound-set P [] n k a p = tt
bound-set P (m ∷ ns) zero k a p = (p, a.1)
bound-set P (m ∷ ns) (suc n) k a p = (a.0, bound-set P ns n k a.1 p)

pub bound-more : (P Q : ℕ → Type 0) (ns : List ℕ) → ((k : ℕ) → P k → Q k) → AllByRecursion P ns → AllByRecursion Q ns
bound-more P Q [] f a = tt
bound-more P Q (k ∷ ns) f a = (f k a.0, bound-more P Q ns f a.1)

module _ {Q : Type 0} (node : Ghosts Q) where
  pub length-entries : (qs : List Q) → length (map node.entries qs) ≡ length qs
  length-entries qs = length-map qs node.entries

  pub length-spare : (qs : List Q) → length (map node.spare qs) ≡ length qs
  length-spare qs = length-map qs node.spare

  pub entries-at : (qs : List Q) (n : ℕ) (e : Q) → n < length qs → get_or (map node.entries qs) n [] ≡ node.entries (get_or qs n e)
  entries-at qs n e l = get_or-map node.entries qs n e [] l

  pub pushes-at : (qs : List Q) (n : ℕ) (e : Q) → n < length qs → get_or (map node.pushes qs) n 0 ≡ node.pushes (get_or qs n e)
  pushes-at qs n e l = get_or-map node.pushes qs n e 0 l

  pub spare-at : (qs : List Q) (n : ℕ) (e : Q) → n < length qs → get_or (map node.spare qs) n 0 ≡ node.spare (get_or qs n e)
  spare-at qs n e l = get_or-map node.spare qs n e 0 l

  pub entries-set : (qs : List Q) (n : ℕ) (c : Q) → map node.entries (set qs n c) ≡ set (map node.entries qs) n (node.entries c)
  entries-set qs n c = map-set node.entries qs n c

  pub pushes-set : (qs : List Q) (n : ℕ) (c : Q) → map node.pushes (set qs n c) ≡ set (map node.pushes qs) n (node.pushes c)
  pushes-set qs n c = map-set node.pushes qs n c

  pub spare-set : (qs : List Q) (n : ℕ) (c : Q) → map node.spare (set qs n c) ≡ set (map node.spare qs) n (node.spare c)
  spare-set qs n c = map-set node.spare qs n c

  pub entries-put : (qs : List Q) (n rank value : ℕ) (c e : Q) → n < length qs → node.entries c ≡ put (node.entries (get_or qs n e)) rank value → map node.entries (set qs n c) ≡ put_at (map node.entries qs) n rank value
  entries-put qs n rank value c e l p =
      entries-set qs n c ∙ ap (λ (q : Queue). set (map node.entries qs) n q) (p ∙ ap (λ (q : Queue). put q rank value) (sym (entries-at qs n e l)))

  -- ---- unchanged parts
  pub entries_stay : (old qs : List Q) (i : ℕ) (c e : Q) → map node.entries qs ≡ map node.entries old → node.entries c ≡ node.entries (get_or qs i e) → map node.entries (set qs i c) ≡ map node.entries old
  entries_stay old qs i c e s p = map-set_same node.entries qs i c e p ∙ s

  pub pushes_stay : (old qs : List Q) (i : ℕ) (c e : Q) → map node.pushes qs ≡ map node.pushes old → node.pushes c ≡ node.pushes (get_or qs i e) → map node.pushes (set qs i c) ≡ map node.pushes old
  pushes_stay old qs i c e s p = map-set_same node.pushes qs i c e p ∙ s

  pub flows_stay : (old qs : List Q) (i : ℕ) (c e : Q) → map node.flows qs ≡ map node.flows old → node.flows c ≡ node.flows (get_or qs i e) → map node.flows (set qs i c) ≡ map node.flows old
  flows_stay old qs i c e s p = map-set_same node.flows qs i c e p ∙ s
