-- The effect of a push and a pop on the free slots.
use Rattle.fabric_core.proofs.Prelude.{ℕ, arith, ◌≡◌, List, ◌+◌, [], length, sym, ap, get_or, ◌∙◌, subst, ◌<◌, ◌∷◌, ◌*◌, ◌≤◌, map, drop, set, inl, inr, eqb, get_or-set_other, get_or-set_same, ltb, ◌-◌, cases_Bool, eqb-false, eqb-true, drop_more, drop_all, Address, IsLeafAddress, nodes, room_at, ArrayTakesRoom, ArrayKeepsRoom, Ghosts}
use Rattle.fabric_core.proofs.ArrayUpdates.{spare-at, spare-set, length-spare}
use Rattle.fabric_core.proofs.LevelWalks.{IsAt, at_index, leaf_length}
use Rattle.fabric_core.proofs.PushLaws.{array_take, array_take-along}
use Rattle.fabric_core.proofs.ReserveSteps.{IsRoomier}

-- ---- no less room in each queue means no less room at each address
roomier_read : (ar : List ℕ) (spare now : List ℕ) (begin width place : ℕ) (b : Address) → IsRoomier spare now → room_at ar spare begin width place b ≤ room_at ar now begin width place b
roomier_read [] spare now begin width place [] r = r (begin + place)
roomier_read [] spare now begin width place (x ∷ b) r = omega arith
roomier_read (d ∷ ar) spare now begin width place [] r = r (begin + place)
roomier_read (d ∷ ar) spare now begin width place (x ∷ b) r =
    elim (cases_Bool (ltb x d)) [
      | inl t ↦ rw t (roomier_read ar spare now (begin + width) (width * d) (place * d + x) b r)
      | inr t ↦ rw t (omega arith)
    ]

pub roomier_keeps : (ar : List ℕ) (spare now : List ℕ) → IsRoomier spare now → ArrayKeepsRoom ar spare now
roomier_keeps ar spare now r b = roomier_read ar spare now 0 1 0 b r

pub roomier_same : (spare : List ℕ) → IsRoomier spare spare
roomier_same spare j = omega arith

roomier_set : (old now : List ℕ) (i k : ℕ) → i < length now → IsRoomier old now → get_or now i 0 ≤ k → IsRoomier old (set now i k)
roomier_set old now i k l r m j =
    elim (cases_Bool (eqb j i)) [
      | inl t ↦ let e : j ≡ i = eqb-true j i t in subst (λ (z : ℕ). get_or old z 0 ≤ get_or (set now i k) z 0) (sym e) (omega (arith, m, r i, get_or-set_same now i k 0 l))
      | inr t ↦ omega (arith, r j, get_or-set_other now i j k 0 (eqb-false j i t))
    ]

module _ {Q : Type 0} (node : Ghosts Q) where
  pub roomier_next : (old qs : List Q) (i : ℕ) (c e : Q) → i < length qs → IsRoomier (map node.spare old) (map node.spare qs) → node.spare (get_or qs i e) ≤ node.spare c
      → IsRoomier (map node.spare old) (map node.spare (set qs i c))
  roomier_next old qs i c e l r m =
      subst (λ (z : List ℕ). IsRoomier (map node.spare old) z) (sym (spare-set node qs i c))
      (roomier_set (map node.spare old) (map node.spare qs) i (node.spare c) (omega (arith, l, length-spare node qs)) r (omega (arith, m, spare-at node qs i e l)))

  pub roomier_last : (ar : List ℕ) (old qs : List Q) (i : ℕ) (c e : Q) → i < length qs → IsRoomier (map node.spare old) (map node.spare qs) → node.spare (get_or qs i e) ≤ node.spare c
      → ArrayKeepsRoom ar (map node.spare old) (map node.spare (set qs i c))
  roomier_last ar old qs i c e l r m = roomier_keeps ar (map node.spare old) (map node.spare (set qs i c)) (roomier_next old qs i c e l r m)

  -- ---- the rest of a push takes the slots that the whole push takes
  abbrev pub IsTaking : List ℕ → List ℕ → List Q → List Q → ℕ → ℕ → ℕ → ℕ → Type 0
  IsTaking arities digits old now level begin width place =
      array_take (drop level arities) (map node.spare now) begin width place (drop level digits) ≡ array_take arities (map node.spare old) 0 1 0 digits

  -- one queue has one free slot fewer
  spare_taken : (qs : List Q) (i : ℕ) (c e : Q) → i < length qs → node.spare c + 1 ≡ node.spare (get_or qs i e) → map node.spare (set qs i c) ≡ set (map node.spare qs) i (get_or (map node.spare qs) i 0 - 1)
  spare_taken qs i c e l one = spare-set node qs i c ∙ ap (λ (n : ℕ). set (map node.spare qs) i n) (omega (arith, one, spare-at node qs i e l))

  pub taking_next : (arities digits : List ℕ) (old qs : List Q) (level begin width place : ℕ) (c e : Q) → IsLeafAddress arities digits → level < length digits → IsAt arities (length qs) level begin width place
      → IsTaking arities digits old qs level begin width place → node.spare c + 1 ≡ node.spare (get_or qs (begin + place) e)
      → IsTaking arities digits old (set qs (begin + place) c) (level + 1) (begin + width) (width * get_or arities level 0) (place * get_or arities level 0 + get_or digits level 0)
  taking_next arities digits old qs level begin width place c e leaf l at s one =
      let within : begin + place < length qs = at_index arities (length qs) level begin width place at in
      ap (λ (z : List ℕ). array_take (drop (level + 1) arities) z (begin + width) (width * get_or arities level 0) (place * get_or arities level 0 + get_or digits level 0) (drop (level + 1) digits)) (spare_taken qs (begin + place) c e within one)
      ∙ subst (λ (z : List ℕ). array_take z (map node.spare qs) begin width place (get_or digits level 0 ∷ drop (level + 1) digits) ≡ array_take arities (map node.spare old) 0 1 0 digits) (drop_more arities level 0 (omega (arith, l, leaf_length arities digits leaf)))
      (subst (λ (z : List ℕ). array_take (drop level arities) (map node.spare qs) begin width place z ≡ array_take arities (map node.spare old) 0 1 0 digits) (drop_more digits level 0 l) s)

  -- the last step, at the leaf
  pub taken_last : (arities digits : List ℕ) (old qs : List Q) (level begin width place : ℕ) (c e : Q) → nodes arities ≡ length old → IsLeafAddress arities digits → length digits ≤ level → IsAt arities (length qs) level begin width place
      → IsTaking arities digits old qs level begin width place → node.spare c + 1 ≡ node.spare (get_or qs (begin + place) e)
      → ArrayTakesRoom arities digits (map node.spare old) (map node.spare (set qs (begin + place) c))
  taken_last arities digits old qs level begin width place c e count leaf l at s one b =
      let within : begin + place < length qs = at_index arities (length qs) level begin width place at in
      let whole : map node.spare (set qs (begin + place) c) ≡ array_take arities (map node.spare old) 0 1 0 digits
      = spare_taken qs (begin + place) c e within one
      ∙ subst (λ (z : List ℕ). array_take z (map node.spare qs) begin width place (drop level digits) ≡ array_take arities (map node.spare old) 0 1 0 digits) (drop_all level arities (omega (arith, l, leaf_length arities digits leaf))) s in
      ap (λ (z : List ℕ). room_at arities z 0 1 0 b) whole
      ∙ array_take-along arities (map node.spare old) 0 1 0 digits b (omega arith) (omega (arith, count, length-spare node old)) leaf
