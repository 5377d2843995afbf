-- A fabric's invariants hold after each call. They are about its queues in one array and the number
-- of pushes of each.
use Rattle.fabric_core.proofs.Prelude.{ℕ, arith, ◌≡◌, List, ◌+◌, ◌*◌, [], length, sym, ap, get_or, ◌∙◌, subst, ◌<◌, ◌∷◌, ◌≤◌, map, refl, suc, Some, zero, ◌^◌, length-map, AllByRecursion, fun_ext, IsLeafAddress, Family, below, push_along, Pops, IsEmpty, SameQueues, Queue, times, nodes, queues_at, array_pop, array_push, ArrayPops, of_last, of_digit, take_least, Popping, option_bind, option_map, Option, None, set, ◌≢◌, IsFlow, NamesBelow, IsSound}
use Rattle.fabric_core.proofs.ArrayReads.{read-none}
use Rattle.std.specs.Prelude.{IsNone, IfNone, IfSome, ◌↔◌}
use Rattle.fabric_core.specs.Paths.{PopsNothing, IsUnchanged}
use Rattle.fabric_core.proofs.PushLaws.{array_push-along, length-array_push}
use Rattle.fabric_core.proofs.PopLaws.{array_pop-along, length-array_pop}
use Rattle.fabric_core.proofs.FlowLaws.{flow-push, flow-pop}
use Rattle.fabric_core.proofs.ArrayUpdates.{bound-more}

-- ---- empty queues
new_at : (qs : List Queue) (j : ℕ) → AllByRecursion (λ q. q ≡ []) qs → get_or qs j [] ≡ []
new_at [] j n = refl
new_at (q ∷ qs) zero n = n.0
new_at (q ∷ qs) (suc j) n = new_at qs j n.1

flow_empty : (ar : List ℕ) (F : Family) → IsEmpty F → IsFlow ar F
flow_empty [] F e = tt
flow_empty (d ∷ ar) F e = (
  subst (λ (q : Queue). NamesBelow d q) (sym (e [])) tt,
  λ x l. (ap (λ (q : Queue). times x q) (e []) ∙ ap (λ (q : Queue). length q) (sym (e (x ∷ []))), flow_empty ar (below F x) (λ b. e (x ∷ b))),
)

pub new_empty : (ar : List ℕ) (qs : List Queue) → AllByRecursion (λ q. q ≡ []) qs → IsEmpty (queues_at ar qs 0 1 0)
new_empty ar qs n b = read-none ar qs [] 0 1 0 b (λ j. new_at qs j n)

pub new_sound : (ar : List ℕ) (qs : List Queue) (counts : List ℕ) (pushed : ℕ) → nodes ar ≡ length qs → length qs < 2 ^ 32 → AllByRecursion (λ q. q ≡ []) qs → AllByRecursion (λ n. n ≡ 0) counts → IsSound ar qs counts pushed
new_sound ar qs counts pushed count small n p = record {
  nodes = count;
  small = small;
  pushes = bound-more (λ n. n ≡ 0) (λ n. n ≤ pushed) counts (λ k e. omega (arith, e)) p;
  flow = flow_empty ar (queues_at ar qs 0 1 0) (new_empty ar qs n);
}

-- ---- pushes
pub pushed_queues : (ar : List ℕ) (old new : List Queue) (before : List ℕ) (pushed : ℕ) (digits ranks : List ℕ) (item : ℕ) → IsSound ar old before pushed → IsLeafAddress ar digits
    → new ≡ array_push ar old 0 1 0 digits ranks item → SameQueues (queues_at ar new 0 1 0) (push_along digits ranks item (queues_at ar old 0 1 0))
pushed_queues ar old new before pushed digits ranks item s leaf e b =
    ap (λ (z : List Queue). queues_at ar z 0 1 0 b) e ∙ array_push-along ar old 0 1 0 digits ranks item b (omega arith) (omega (arith, s.nodes)) leaf

pub pushed_sound : (ar : List ℕ) (old new : List Queue) (before after : List ℕ) (pushed : ℕ) (digits ranks : List ℕ) (item : ℕ) → IsSound ar old before pushed → IsLeafAddress ar digits
    → new ≡ array_push ar old 0 1 0 digits ranks item
    → ((n : ℕ) → AllByRecursion (λ k. k ≤ n) before → AllByRecursion (λ k. k ≤ n + 1) after) → IsSound ar new after (pushed + 1)
pushed_sound ar old new before after pushed digits ranks item s leaf e p =
    let long : length new ≡ length old = ap (λ (z : List Queue). length z) e ∙ length-array_push ar old 0 1 0 digits ranks item leaf in record {
      nodes = s.nodes ∙ sym long;
      small = omega (arith, s.small, long);
      pushes = p pushed s.pushes;
      flow = subst (λ (F : Family). IsFlow ar F) (sym (fun_ext (pushed_queues ar old new before pushed digits ranks item s leaf e)))
          (flow-push ar (queues_at ar old 0 1 0) digits ranks item s.flow leaf);
    }

-- ---- pops
popped_queues : (ar : List ℕ) (old new : List Queue) (before : List ℕ) (pushed item : ℕ) (digits ranks : List ℕ) → IsSound ar old before pushed
    → array_pop ar old 0 1 0 ≡ Some (record { value = item; digits = digits; ranks = ranks; left = new })
    → Pops (length ar) (queues_at ar old 0 1 0) item digits ranks (queues_at ar new 0 1 0)
popped_queues ar old new before pushed item digits ranks s e =
    array_pop-along ar old 0 1 0 (record { value = item; digits = digits; ranks = ranks; left = new }) (omega arith) (omega (arith, s.nodes)) s.flow e

popped_sound : (ar : List ℕ) (old new : List Queue) (before after : List ℕ) (pushed item : ℕ) (digits ranks : List ℕ) → IsSound ar old before pushed
    → array_pop ar old 0 1 0 ≡ Some (record { value = item; digits = digits; ranks = ranks; left = new }) → after ≡ before → IsSound ar new after pushed
popped_sound ar old new before after pushed item digits ranks s e p =
    let long : length new ≡ length old = length-array_pop ar old 0 1 0 (record { value = item; digits = digits; ranks = ranks; left = new }) e in
    let pops : Pops (length ar) (queues_at ar old 0 1 0) item digits ranks (queues_at ar new 0 1 0) = popped_queues ar old new before pushed item digits ranks s e in record {
      nodes = s.nodes ∙ sym long;
      small = omega (arith, s.small, long);
      pushes = subst (λ (z : List ℕ). AllByRecursion (λ n. n ≤ pushed) z) (sym p) s.pushes;
      flow = subst (λ (F : Family). IsFlow ar F) (sym (fun_ext pops.left)) (flow-pop ar (queues_at ar old 0 1 0) pops.taken s.flow pops.popped);
    }

pops_something : (ar : List ℕ) (qs : List Queue) (p : Popping (List Queue)) → array_pop ar qs 0 1 0 ≡ Some p → queues_at ar qs 0 1 0 [] ≢ []
pops_something [] qs p e none = let other : None ≡ Some p = sym (ap (λ (q : Queue). option_map (of_last qs 0) (take_least q)) none) ∙ e in cc
pops_something (d ∷ ar) qs p e none =
    let other : None ≡ Some p = sym (ap (λ (q : Queue). option_bind (take_least q) (λ t. option_map (of_digit t) (array_pop ar (set qs 0 t.rest) (0 + 1) (1 * d) (0 * d + t.value)))) none) ∙ e in cc

-- what the walk of a pop says of the queues
pub record Popped (ar : List ℕ) (old new : List Queue) (result : Option ℕ) (ds ds' rs rs' : List ℕ) : Type 0 where
  pub none : IfNone result (PopsNothing ar old new ds ds' rs rs')
  pub some : IfSome result (λ item. ArrayPops ar old item ds' rs' new)

pub popped_none : (ar : List ℕ) (old new : List Queue) (result : Option ℕ) (ds ds' rs rs' : List ℕ) → Popped ar old new result ds ds' rs rs' → IsNone result ↔ (queues_at ar old 0 1 0 [] ≡ [])
popped_none ar old new None ds ds' rs rs' p = (λ _. p.none.empty, λ _. refl)
popped_none ar old new (Some item) ds ds' rs rs' p = (
  λ no. cc,
  λ none. absurd (pops_something ar old (record { value = item; digits = ds'; ranks = rs'; left = new }) p.some none),
)

pub popped_taken : (ar : List ℕ) (old new : List Queue) (before : List ℕ) (pushed : ℕ) (result : Option ℕ) (ds ds' rs rs' : List ℕ) → IsSound ar old before pushed → Popped ar old new result ds ds' rs rs'
    → IfSome result (λ item. Pops (length ar) (queues_at ar old 0 1 0) item ds' rs' (queues_at ar new 0 1 0))
popped_taken ar old new before pushed None ds ds' rs rs' s p = tt
popped_taken ar old new before pushed (Some item) ds ds' rs rs' s p = popped_queues ar old new before pushed item ds' rs' s p.some

pub popped_stays : (ar : List ℕ) (old new : List Queue) (result : Option ℕ) (ds ds' rs rs' : List ℕ) → Popped ar old new result ds ds' rs rs'
    → IfNone result (IsUnchanged (queues_at ar old 0 1 0) (queues_at ar new 0 1 0) ds ds' rs rs')
popped_stays ar old new None ds ds' rs rs' p = record { queues = λ b. ap (λ (z : List Queue). queues_at ar z 0 1 0 b) p.none.entries; digits = p.none.digits; ranks = p.none.ranks }
popped_stays ar old new (Some item) ds ds' rs rs' p = tt

pub popped_kept : (ar : List ℕ) (old new : List Queue) (before after : List ℕ) (pushed : ℕ) (result : Option ℕ) (ds ds' rs rs' : List ℕ) → IsSound ar old before pushed → Popped ar old new result ds ds' rs rs' → after ≡ before → IsSound ar new after pushed
popped_kept ar old new before after pushed None ds ds' rs rs' s p same = rw (p.none.entries, same) s
popped_kept ar old new before after pushed (Some item) ds ds' rs rs' s p same = popped_sound ar old new before after pushed item ds' rs' s p.some same

-- ---- the queues as the code stores them
module _ {Q : Type 0} (entries : Q → Queue) where
  pub nodes_kept : (ar : List ℕ) (qs : List Q) (counts : List ℕ) (pushed : ℕ) → IsSound ar (map entries qs) counts pushed → nodes ar ≡ length qs
  nodes_kept ar qs counts pushed s = s.nodes ∙ length-map qs entries

  pub few_kept : (ar : List ℕ) (qs : List Q) (counts : List ℕ) (pushed : ℕ) → IsSound ar (map entries qs) counts pushed → length qs < 2 ^ 32
  few_kept ar qs counts pushed s = omega (arith, s.small, length-map qs entries)
