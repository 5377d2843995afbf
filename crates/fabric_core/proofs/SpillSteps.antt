-- The loop of a push counts the nodes at which it spills.
use Rattle.fabric_core.proofs.Prelude.{ℕ, arith, ◌≡◌, List, ◌+◌, [], length, sym, ap, get_or, ◌∙◌, subst, ◌<◌, ◌∷◌, ◌*◌, ◌≤◌, map, refl, drop, set, true, Bool, false, map-set_same, drop_more, drop_all, get_or-map, get_or-drop, map-set, fun_ext, Address, IsLeafAddress, Family, Queue, queues_at, flows_at, IsFlow, NamesBelow, HasFlows, Ghosts}
use Rattle.std.specs.Int.{from_bool}
use Rattle.embed_defs.specs.Spills.{spills_for, spills_at_leaf, spills_along, counted}
use Rattle.fabric_core.proofs.ArrayReads.{read-below}
use Rattle.fabric_core.proofs.PopLaws.{queues-child, flow-child}
use Rattle.fabric_core.proofs.LevelWalks.{IsAt, at_index, leaf_length, digit_below}

counted_byte : (b : Bool) → from_bool b ≡ counted b
counted_byte true = refl
counted_byte false = refl

pub few_byte : (b : Bool) → from_bool b ≤ 1
few_byte true = omega arith
few_byte false = omega arith

-- the spills so far plus those on the rest of the path are the spills on the whole path
pub record IsRest (arities digits ranks : List ℕ) (total : ℕ) (told : List ℕ) (queues : List Queue) (spilled level begin width place : ℕ) : Type 0 where
  pub flows : HasFlows (drop level arities) (flows_at (drop level arities) told begin width place)
  pub flow : IsFlow (drop level arities) (queues_at (drop level arities) queues begin width place)
  pub spills : spilled + spills_along (drop level digits) (drop level ranks) (queues_at (drop level arities) queues begin width place) ≡ total

-- one inner node: its child's part of the flows, of the entries and of the path
rest_below : (d x r : ℕ) (ar a rs : List ℕ) (total : ℕ) (flows : List ℕ) (queues : List Queue) (q : Queue) (spilled begin width place : ℕ) (told : Bool) → place < width → x < d
    → HasFlows (d ∷ ar) (flows_at (d ∷ ar) flows begin width place) → IsFlow (d ∷ ar) (queues_at (d ∷ ar) queues begin width place)
    → spilled + spills_along (x ∷ a) (r ∷ rs) (queues_at (d ∷ ar) queues begin width place) ≡ total
    → (NamesBelow (get_or flows (begin + place) 0) (get_or queues (begin + place) []) → x < get_or flows (begin + place) 0 → told ≡ spills_for r x (get_or queues (begin + place) []))
    → HasFlows ar (flows_at ar flows (begin + width) (width * d) (place * d + x)) × IsFlow ar (queues_at ar (set queues (begin + place) q) (begin + width) (width * d) (place * d + x))
    × ((spilled + from_bool told) + spills_along a rs (queues_at ar (set queues (begin + place) q) (begin + width) (width * d) (place * d + x)) ≡ total)
rest_below d x r ar a rs total flows queues q spilled begin width place told l m f w s says =
    let same : spills_along a rs (λ b. queues_at (d ∷ ar) queues begin width place (x ∷ b)) ≡ spills_along a rs (queues_at ar (set queues (begin + place) q) (begin + width) (width * d) (place * d + x))
    = ap (λ (F : Family). spills_along a rs F) (queues-child d ar queues q begin width place (begin + place) x (omega (arith, l)) m) in
    let here : counted told ≡ counted (spills_for r x (get_or queues (begin + place) []))
    = ap (λ (b : Bool). counted b) (says (subst (λ (z : ℕ). NamesBelow z (get_or queues (begin + place) [])) (sym f.0) w.0) (omega (arith, m, f.0))) in (
      subst (λ (g : Address → ℕ). HasFlows ar g) (fun_ext (λ b. read-below ar flows 0 d begin width place x b m)) (f.1 x m),
      flow-child d ar queues q begin width place (begin + place) x (omega (arith, l)) m w,
      omega (arith, s, same, here, counted_byte told),
    )

rest_next : (arities digits ranks : List ℕ) (total : ℕ) (flows : List ℕ) (queues : List Queue) (q : Queue) (spilled level begin width place : ℕ) (told : Bool)
    → IsLeafAddress arities digits → length ranks ≡ length digits + 1 → level < length digits → place < width → IsRest arities digits ranks total flows queues spilled level begin width place
    → (NamesBelow (get_or flows (begin + place) 0) (get_or queues (begin + place) []) → get_or digits level 0 < get_or flows (begin + place) 0
    → told ≡ spills_for (get_or ranks level 0) (get_or digits level 0) (get_or queues (begin + place) []))
    → IsRest arities digits ranks total flows (set queues (begin + place) q) (spilled + from_bool told) (level + 1) (begin + width) (width * get_or arities level 0) (place * get_or arities level 0 + get_or digits level 0)
rest_next arities digits ranks total flows queues q spilled level begin width place told leaf long l inside s says =
    let la : level < length arities = omega (arith, l, leaf_length arities digits leaf) in
    let lr : level < length ranks = omega (arith, l, long) in
    let spills : spilled + spills_along (get_or digits level 0 ∷ drop (level + 1) digits) (get_or ranks level 0 ∷ drop (level + 1) ranks) (queues_at (get_or arities level 0 ∷ drop (level + 1) arities) queues begin width place) ≡ total
    = subst (λ (z : List ℕ). spilled + spills_along (get_or digits level 0 ∷ drop (level + 1) digits) z (queues_at (get_or arities level 0 ∷ drop (level + 1) arities) queues begin width place) ≡ total) (drop_more ranks level 0 lr)
    (subst (λ (z : List ℕ). spilled + spills_along (get_or digits level 0 ∷ drop (level + 1) digits) (drop level ranks) (queues_at z queues begin width place) ≡ total) (drop_more arities level 0 la)
    (subst (λ (z : List ℕ). spilled + spills_along z (drop level ranks) (queues_at (drop level arities) queues begin width place) ≡ total) (drop_more digits level 0 l) s.spills)) in
    let v = rest_below (get_or arities level 0) (get_or digits level 0) (get_or ranks level 0) (drop (level + 1) arities) (drop (level + 1) digits) (drop (level + 1) ranks) total flows queues q spilled begin width place told inside
    (digit_below level arities digits leaf l)
    (subst (λ (z : List ℕ). HasFlows z (flows_at z flows begin width place)) (drop_more arities level 0 la) s.flows)
    (subst (λ (z : List ℕ). IsFlow z (queues_at z queues begin width place)) (drop_more arities level 0 la) s.flow) spills says in
    record { flows = v.0; flow = v.1; spills = v.2 }

rest_last : (arities digits ranks : List ℕ) (total : ℕ) (flows : List ℕ) (queues : List Queue) (spilled level begin width place rank : ℕ) (told : Bool) → IsLeafAddress arities digits → length digits ≤ level
    → IsRest arities digits ranks total flows queues spilled level begin width place → rank ≡ get_or ranks level 0
    → (get_or flows (begin + place) 0 ≡ 1 → told ≡ spills_at_leaf rank (get_or queues (begin + place) [])) → spilled + from_bool told ≡ total
rest_last arities digits ranks total flows queues spilled level begin width place rank told leaf l s er says =
    let ea : drop level arities ≡ [] = drop_all level arities (omega (arith, l, leaf_length arities digits leaf)) in
    let first : get_or (drop level ranks) 0 0 ≡ rank = get_or-drop level ranks 0 0 ∙ (let n : level + 0 ≡ level = omega arith in ap (λ (z : ℕ). get_or ranks z 0) n) ∙ sym er in
    let one : get_or flows (begin + place) 0 ≡ 1 = subst (λ (z : List ℕ). HasFlows z (flows_at z flows begin width place)) ea s.flows in
    let spills : spilled + counted (spills_at_leaf (get_or (drop level ranks) 0 0) (get_or queues (begin + place) [])) ≡ total
    = subst (λ (z : List ℕ). spilled + spills_along [] (drop level ranks) (queues_at z queues begin width place) ≡ total) ea
    (subst (λ (z : List ℕ). spilled + spills_along z (drop level ranks) (queues_at (drop level arities) queues begin width place) ≡ total) (drop_all level digits l) s.spills) in
    let here : counted told ≡ counted (spills_at_leaf (get_or (drop level ranks) 0 0) (get_or queues (begin + place) []))
    = ap (λ (b : Bool). counted b) (says one ∙ ap (λ (z : ℕ). spills_at_leaf z (get_or queues (begin + place) [])) (sym first)) in
    omega (arith, spills, here, counted_byte told)

-- the count so far, if the queues report spills
pub record IsCounting {Q : Type 0} (node : Ghosts Q) (arities digits ranks : List ℕ) (old now : List Q) (spilled level begin width place : ℕ) : Type 0 where
  pub few : spilled ≤ level
  pub flows : map node.flows now ≡ map node.flows old
  pub rest : HasFlows arities (flows_at arities (map node.flows old) 0 1 0) → IsFlow arities (queues_at arities (map node.entries old) 0 1 0)
      → IsRest arities digits ranks (spills_along digits ranks (queues_at arities (map node.entries old) 0 1 0)) (map node.flows now) (map node.entries now) spilled level begin width place

module _ {Q : Type 0} (node : Ghosts Q) (arities digits ranks : List ℕ) (old : List Q) where
  pub counting_first : IsCounting node arities digits ranks old old 0 0 0 1 0
  counting_first = record {
    few = omega arith;
    flows = refl;
    rest = λ f w. record { flows = f; flow = w; spills = omega arith };
  }

  counting_below : (qs : List Q) (spilled level begin width place : ℕ) (c e : Q) (told : Bool) → IsLeafAddress arities digits → length ranks ≡ length digits + 1 → level < length digits
      → IsAt arities (length qs) level begin width place → IsCounting node arities digits ranks old qs spilled level begin width place
      → (NamesBelow (node.flows (get_or qs (begin + place) e)) (node.entries (get_or qs (begin + place) e)) → get_or digits level 0 < node.flows (get_or qs (begin + place) e)
      → told ≡ spills_for (get_or ranks level 0) (get_or digits level 0) (node.entries (get_or qs (begin + place) e)))
      → node.flows c ≡ node.flows (get_or qs (begin + place) e)
      → IsCounting node arities digits ranks old (set qs (begin + place) c) (spilled + from_bool told) (level + 1) (begin + width) (width * get_or arities level 0) (place * get_or arities level 0 + get_or digits level 0)
  counting_below qs spilled level begin width place c e told leaf long l here s says kept =
      let within : begin + place < length qs = at_index arities (length qs) level begin width place here in
      let same : map node.flows (set qs (begin + place) c) ≡ map node.flows qs = map-set_same node.flows qs (begin + place) c e kept in
      let fl : get_or (map node.flows qs) (begin + place) 0 ≡ node.flows (get_or qs (begin + place) e) = get_or-map node.flows qs (begin + place) e 0 within in
      let en : get_or (map node.entries qs) (begin + place) [] ≡ node.entries (get_or qs (begin + place) e) = get_or-map node.entries qs (begin + place) e [] within in
      record {
        few = omega (arith, s.few, few_byte told);
        flows = same ∙ s.flows;
        rest = λ f w.
            subst (λ (z : List ℕ). IsRest arities digits ranks (spills_along digits ranks (queues_at arities (map node.entries old) 0 1 0)) z (map node.entries (set qs (begin + place) c)) (spilled + from_bool told) (level + 1) (begin + width) (width * get_or arities level 0) (place * get_or arities level 0 + get_or digits level 0)) (sym same)
            (subst (λ (z : List Queue). IsRest arities digits ranks (spills_along digits ranks (queues_at arities (map node.entries old) 0 1 0)) (map node.flows qs) z (spilled + from_bool told) (level + 1) (begin + width) (width * get_or arities level 0) (place * get_or arities level 0 + get_or digits level 0)) (sym (map-set node.entries qs (begin + place) c))
            (rest_next arities digits ranks (spills_along digits ranks (queues_at arities (map node.entries old) 0 1 0)) (map node.flows qs) (map node.entries qs) (node.entries c) spilled level begin width place told leaf long l here.within (s.rest f w)
            (subst (λ (z : ℕ). NamesBelow z (get_or (map node.entries qs) (begin + place) []) → get_or digits level 0 < z → told ≡ spills_for (get_or ranks level 0) (get_or digits level 0) (get_or (map node.entries qs) (begin + place) [])) (sym fl)
            (subst (λ (z : Queue). NamesBelow (node.flows (get_or qs (begin + place) e)) z → get_or digits level 0 < node.flows (get_or qs (begin + place) e) → told ≡ spills_for (get_or ranks level 0) (get_or digits level 0) z) (sym en) says))));
      }

  pub counting_next : (qs : List Q) (spilled more level begin width place v : ℕ) (c e : Q) (told : Bool) → IsLeafAddress arities digits → length ranks ≡ length digits + 1 → level < length digits
      → IsAt arities (length qs) level begin width place → IsCounting node arities digits ranks old qs spilled level begin width place → v ≡ get_or digits level 0
      → (NamesBelow (node.flows (get_or qs (begin + place) e)) (node.entries (get_or qs (begin + place) e)) → v < node.flows (get_or qs (begin + place) e) → told ≡ spills_for (get_or ranks level 0) v (node.entries (get_or qs (begin + place) e)))
      → more ≡ from_bool told → node.flows c ≡ node.flows (get_or qs (begin + place) e)
      → IsCounting node arities digits ranks old (set qs (begin + place) c) (spilled + more) (level + 1) (begin + width) (width * get_or arities level 0) (place * get_or arities level 0 + get_or digits level 0)
  counting_next qs spilled more level begin width place v c e told leaf long l here s ev says em kept =
      subst (λ (n : ℕ). IsCounting node arities digits ranks old (set qs (begin + place) c) (spilled + n) (level + 1) (begin + width) (width * get_or arities level 0) (place * get_or arities level 0 + get_or digits level 0)) (sym em)
      (counting_below qs spilled level begin width place c e told leaf long l here s
      (subst (λ (z : ℕ). NamesBelow (node.flows (get_or qs (begin + place) e)) (node.entries (get_or qs (begin + place) e)) → z < node.flows (get_or qs (begin + place) e) → told ≡ spills_for (get_or ranks level 0) z (node.entries (get_or qs (begin + place) e))) ev says) kept)

  -- the last step, at the leaf
  pub counted_last : (qs : List Q) (spilled more level begin width place rank : ℕ) (e : Q) (told : Bool) → IsLeafAddress arities digits → length digits ≤ level
      → IsAt arities (length qs) level begin width place → IsCounting node arities digits ranks old qs spilled level begin width place → rank ≡ get_or ranks level 0
      → (node.flows (get_or qs (begin + place) e) ≡ 1 → told ≡ spills_at_leaf rank (node.entries (get_or qs (begin + place) e))) → more ≡ from_bool told
      → HasFlows arities (flows_at arities (map node.flows old) 0 1 0) → IsFlow arities (queues_at arities (map node.entries old) 0 1 0)
      → spilled + more ≡ spills_along digits ranks (queues_at arities (map node.entries old) 0 1 0)
  counted_last qs spilled more level begin width place rank e told leaf l here s er says em f w =
      let within : begin + place < length qs = at_index arities (length qs) level begin width place here in
      let fl : get_or (map node.flows qs) (begin + place) 0 ≡ node.flows (get_or qs (begin + place) e) = get_or-map node.flows qs (begin + place) e 0 within in
      let en : get_or (map node.entries qs) (begin + place) [] ≡ node.entries (get_or qs (begin + place) e) = get_or-map node.entries qs (begin + place) e [] within in
      ap (λ (n : ℕ). spilled + n) em
      ∙ rest_last arities digits ranks (spills_along digits ranks (queues_at arities (map node.entries old) 0 1 0)) (map node.flows qs) (map node.entries qs) spilled level begin width place rank told leaf l (s.rest f w) er
      (subst (λ (z : ℕ). z ≡ 1 → told ≡ spills_at_leaf rank (get_or (map node.entries qs) (begin + place) [])) (sym fl)
      (subst (λ (z : Queue). node.flows (get_or qs (begin + place) e) ≡ 1 → told ≡ spills_at_leaf rank z) (sym en) says))
