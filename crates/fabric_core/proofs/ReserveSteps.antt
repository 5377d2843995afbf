-- The loop that makes room.
use Rattle.fabric_core.proofs.Prelude.{ℕ, arith, ◌≡◌, List, ◌+◌, [], length, sym, get_or, subst, ◌<◌, ◌∷◌, ◌*◌, ◌≤◌, map, drop, set, inl, inr, eqb, get_or-set_other, get_or-set_same, cases_Bool, eqb-false, eqb-true, drop_more, drop_all, fun_ext, Address, IsLeafAddress, HasRoomAlong, room_at, Ghosts}
use Rattle.fabric_core.proofs.ArrayReads.{read-below}
use Rattle.fabric_core.proofs.LevelWalks.{leaf_length, digit_below}
use Rattle.fabric_core.proofs.ArrayUpdates.{spare-at, spare-set, length-spare}

-- at least as many free slots in each queue
abbrev pub IsRoomier : List ℕ → List ℕ → Type 0
IsRoomier spare now = (j : ℕ) → get_or spare j 0 ≤ get_or now j 0

-- room on the rest of the path gives room on the whole path, even after free slots are added
abbrev pub HasRoomSoFar : List ℕ → List ℕ → ℕ → List ℕ → ℕ → ℕ → ℕ → Type 0
HasRoomSoFar arities digits level spare begin width place =
    (now : List ℕ) → IsRoomier spare now
    → HasRoomAlong (room_at (drop level arities) now begin width place) (drop level digits) → HasRoomAlong (room_at arities now 0 1 0) digits

roomier_before : (spare now : List ℕ) (n k : ℕ) → n < length spare → get_or spare n 0 ≤ k → IsRoomier (set spare n k) now → IsRoomier spare now
roomier_before spare now n k l m r j =
    elim (cases_Bool (eqb j n)) [
      | inl t ↦ let e : j ≡ n = eqb-true j n t in subst (λ (z : ℕ). get_or spare z 0 ≤ get_or now z 0) (sym e) (omega (arith, m, r n, get_or-set_same spare n k 0 l))
      | inr t ↦ omega (arith, r j, get_or-set_other spare n j k 0 (eqb-false j n t))
    ]

roomy_above : (d : ℕ) (ar now : List ℕ) (begin width place x : ℕ) (a : Address) → x < d → 0 < get_or now (begin + place) 0
    → HasRoomAlong (room_at ar now (begin + width) (width * d) (place * d + x)) a → HasRoomAlong (room_at (d ∷ ar) now begin width place) (x ∷ a)
roomy_above d ar now begin width place x a l m h =
    (m, subst (λ (f : Address → ℕ). HasRoomAlong f a) (sym (fun_ext (λ b. read-below ar now 0 d begin width place x b l))) h)

pub room_next : (arities digits spare : List ℕ) (level begin width place k : ℕ) → IsLeafAddress arities digits → level < length digits → begin + place < length spare
    → HasRoomSoFar arities digits level spare begin width place → get_or spare (begin + place) 0 ≤ k → 1 ≤ k
    → HasRoomSoFar arities digits (level + 1) (set spare (begin + place) k) (begin + width) (width * get_or arities level 0) (place * get_or arities level 0 + get_or digits level 0)
room_next arities digits spare level begin width place k leaf l within s kept some now r h =
    let la : level < length arities = omega (arith, leaf_length arities digits leaf) in
    let m : get_or digits level 0 < get_or arities level 0 = digit_below level arities digits leaf l in
    let here : 0 < get_or now (begin + place) 0 = omega (arith, r (begin + place), get_or-set_same spare (begin + place) k 0 within, some) in
    s now (roomier_before spare now (begin + place) k within kept r)
    (subst (λ (z : List ℕ). HasRoomAlong (room_at z now begin width place) (drop level digits)) (sym (drop_more arities level 0 la))
    (subst (λ (z : List ℕ). HasRoomAlong (room_at (get_or arities level 0 ∷ drop (level + 1) arities) now begin width place) z) (sym (drop_more digits level 0 l))
    (roomy_above (get_or arities level 0) (drop (level + 1) arities) now begin width place (get_or digits level 0) (drop (level + 1) digits) m here h)))

pub room_last : (arities digits spare : List ℕ) (level begin width place k : ℕ) → IsLeafAddress arities digits → length digits ≤ level → begin + place < length spare
    → HasRoomSoFar arities digits level spare begin width place → get_or spare (begin + place) 0 ≤ k → 1 ≤ k
    → HasRoomAlong (room_at arities (set spare (begin + place) k) 0 1 0) digits
room_last arities digits spare level begin width place k leaf l within s kept some =
    s (set spare (begin + place) k) (roomier_before spare (set spare (begin + place) k) (begin + place) k within kept (λ j. omega arith))
    (subst (λ (z : List ℕ). HasRoomAlong (room_at z (set spare (begin + place) k) begin width place) (drop level digits)) (sym (drop_all level arities (omega (arith, l, leaf_length arities digits leaf))))
    (subst (λ (z : List ℕ). HasRoomAlong (room_at [] (set spare (begin + place) k) begin width place) z) (sym (drop_all level digits l))
    (let here : 0 < get_or (set spare (begin + place) k) (begin + place) 0 = omega (arith, get_or-set_same spare (begin + place) k 0 within, some) in here)))

-- ---- the same on the queues
module _ {Q : Type 0} (node : Ghosts Q) where
  pub room_next_queue : (arities digits : List ℕ) (qs : List Q) (level begin width place : ℕ) (c e : Q) → IsLeafAddress arities digits → level < length digits → begin + place < length qs
      → HasRoomSoFar arities digits level (map node.spare qs) begin width place → node.spare (get_or qs (begin + place) e) ≤ node.spare c → 1 ≤ node.spare c
      → HasRoomSoFar arities digits (level + 1) (map node.spare (set qs (begin + place) c)) (begin + width) (width * get_or arities level 0) (place * get_or arities level 0 + get_or digits level 0)
  room_next_queue arities digits qs level begin width place c e leaf l within s kept some =
      subst (λ (z : List ℕ). HasRoomSoFar arities digits (level + 1) z (begin + width) (width * get_or arities level 0) (place * get_or arities level 0 + get_or digits level 0)) (sym (spare-set node qs (begin + place) c))
      (room_next arities digits (map node.spare qs) level begin width place (node.spare c) leaf l (omega (arith, within, length-spare node qs)) s (omega (arith, spare-at node qs (begin + place) e within, kept)) some)

  pub room_last_queue : (arities digits : List ℕ) (qs : List Q) (level begin width place : ℕ) (c e : Q) → IsLeafAddress arities digits → length digits ≤ level → begin + place < length qs
      → HasRoomSoFar arities digits level (map node.spare qs) begin width place → node.spare (get_or qs (begin + place) e) ≤ node.spare c → 1 ≤ node.spare c
      → HasRoomAlong (room_at arities (map node.spare (set qs (begin + place) c)) 0 1 0) digits
  room_last_queue arities digits qs level begin width place c e leaf l within s kept some =
      subst (λ (z : List ℕ). HasRoomAlong (room_at arities z 0 1 0) digits) (sym (spare-set node qs (begin + place) c))
      (room_last arities digits (map node.spare qs) level begin width place (node.spare c) leaf l (omega (arith, within, length-spare node qs)) s (omega (arith, spare-at node qs (begin + place) e within, kept)) some)
