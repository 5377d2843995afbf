-- First-in first-out queues, one for each flow: an entry is added or removed.
use Rattle.block_core.proofs.Prelude.{arith, ◌≡◌, sym, length, ℕ, ◌∙◌, ap, [], refl, List, ◌+◌, ◌<◌, ◌∷◌, get_or, suc, set, zero, ◌++◌, ◌≤◌, inl, inr, ◌-◌, cases_lt, AllByRecursion, weight, Precedes, last_rank, flow_of, heads_of, waiting_in, IsFifo, IsStored, Follows, Waiting}
use Rattle.block_core.proofs.ArrivalLaws.{All-append, All-weaker, same, same-is}

-- ---- one flow
pub last_rank-pushed : (s : List Waiting) (x : Waiting) → last_rank (s ++ x ∷ []) ≡ x.rank
last_rank-pushed [] x = refl
last_rank-pushed (w ∷ []) x = refl
last_rank-pushed (w ∷ v ∷ s) x = last_rank-pushed (v ∷ s) x

-- the rank of the last entry
pub last_is : (s : List Waiting) (d : Waiting) → 0 < length s → (get_or s (length s - 1) d).rank ≡ last_rank s
last_is [] d l = absurd (omega (arith, l))
last_is (w ∷ []) d l = refl
last_is (w ∷ v ∷ s) d l =
    let n : length (w ∷ v ∷ s) - 1 ≡ suc (length (v ∷ s) - 1) = omega arith in
    ap (λ (z : ℕ). (get_or (w ∷ v ∷ s) z d).rank) n ∙ last_is (v ∷ s) d (omega arith)

pub ranks_up_to : (s : List Waiting) → IsFifo s → AllByRecursion (λ (w : Waiting). w.rank ≤ last_rank s) s
ranks_up_to [] h = tt
ranks_up_to (w ∷ []) h = (omega arith, tt)
ranks_up_to (w ∷ v ∷ s) h = let ih = ranks_up_to (v ∷ s) h.1 in (omega (arith, h.0.0.rank, ih.0), ih)

pub fifo-pushed : (s : List Waiting) (x : Waiting) → IsFifo s → AllByRecursion (λ w. Follows w x) s → IsFifo (s ++ x ∷ [])
fifo-pushed [] x h k = (tt, tt)
fifo-pushed (w ∷ s) x h k = (All-append (Follows w) s (x ∷ []) h.0 (k.0, tt), fifo-pushed s x h.1 k.1)

-- an entry that may follow all entries of a flow
pub behind_all : (s : List Waiting) (x : Waiting) → AllByRecursion (λ (w : Waiting). w.rank ≤ last_rank s) s → last_rank s ≤ x.rank → AllByRecursion (λ (w : Waiting). w.arrival < x.arrival) s → AllByRecursion (λ w. Follows w x) s
behind_all s x low l early = go s low early
  where
    go : (r : List Waiting) → AllByRecursion (λ (w : Waiting). w.rank ≤ last_rank s) r → AllByRecursion (λ (w : Waiting). w.arrival < x.arrival) r → AllByRecursion (λ w. Follows w x) r
    go [] h k = tt
    go (w ∷ r) h k = (record { rank = omega (arith, h.0, l); arrival = k.0 }, go r h.1 k.1)

-- an entry that doesn't depart before the head and ranks below the last entry still does so after
-- the head has departed
pub last_rank-popped : (h w : Waiting) (rest : List Waiting) → h.rank ≤ w.rank → w.rank < last_rank (h ∷ rest) → w.rank < last_rank rest
last_rank-popped h w [] l m = absurd (omega (arith, l, m))
last_rank-popped h w (v ∷ rest) l m = m

-- ---- all flows
pub stored_at : (flows k : ℕ) (ss : List (List Waiting)) (j : ℕ) → j < length ss → IsStored flows k ss → AllByRecursion (λ (w : Waiting). flow_of flows w.value ≡ k + j) (get_or ss j []) × IsFifo (get_or ss j [])
stored_at flows k [] j l h = absurd (omega (arith, l))
stored_at flows k (s ∷ ss) zero l h = (All-weaker (λ (w : Waiting). flow_of flows w.value ≡ k) (λ (w : Waiting). flow_of flows w.value ≡ k + 0) (λ w e. omega (arith, e)) s h.0, h.1)
stored_at flows k (s ∷ ss) (suc j) l h =
    let ih = stored_at flows (k + 1) ss j (omega (arith, l)) h.2 in
    (All-weaker (λ (w : Waiting). flow_of flows w.value ≡ (k + 1) + j) (λ (w : Waiting). flow_of flows w.value ≡ k + suc j) (λ w e. omega (arith, e)) (get_or ss j []) ih.0, ih.1)

pub stored-set : (flows k : ℕ) (ss : List (List Waiting)) (j : ℕ) (s : List Waiting) → IsStored flows k ss → AllByRecursion (λ (w : Waiting). flow_of flows w.value ≡ k + j) s → IsFifo s → IsStored flows k (set ss j s)
stored-set flows k [] j s h a f = tt
stored-set flows k (r ∷ ss) zero s h a f = (All-weaker (λ (w : Waiting). flow_of flows w.value ≡ k + 0) (λ (w : Waiting). flow_of flows w.value ≡ k) (λ w e. omega (arith, e)) s a, f, h.2)
stored-set flows k (r ∷ ss) (suc j) s h a f =
    (h.0, h.1, stored-set flows (k + 1) ss j s h.2 (All-weaker (λ (w : Waiting). flow_of flows w.value ≡ k + suc j) (λ (w : Waiting). flow_of flows w.value ≡ (k + 1) + j) (λ w e. omega (arith, e)) s a) f)

-- each head among the heads of all flows is the head of its own flow
pub record IsHeadAt (flows k : ℕ) (ss : List (List Waiting)) (h : Waiting) : Type 0 where
  pub place : ℕ
  pub flow : flow_of flows h.value ≡ k + place
  pub within : place < length ss
  pub rest : List Waiting
  pub first : get_or ss place [] ≡ h ∷ rest

pub head_found : (flows k : ℕ) (ss : List (List Waiting)) (h : Waiting) → IsStored flows k ss → 1 ≤ weight (same h) (heads_of ss) → IsHeadAt flows k ss h
head_found flows k [] h i l = absurd (omega (arith, l))
head_found flows k ([] ∷ ss) h i l =
    let ih = head_found flows (k + 1) ss h i.2 l in
    record { place = suc ih.place; flow = omega (arith, ih.flow); within = omega (arith, ih.within); rest = ih.rest; first = ih.first }
head_found flows k ((w ∷ s) ∷ ss) h i l =
    elim (cases_lt 0 (same h w)) [
      | inl one ↦ (
          let e : h ≡ w = same-is h w one in record {
            place = 0;
            flow = ap (λ (z : Waiting). flow_of flows z.value) e ∙ (let f : flow_of flows w.value ≡ k + 0 = omega (arith, i.0.0) in f);
            within = omega arith;
            rest = s;
            first = ap (λ z. z ∷ s) (sym e);
          })
      | inr none ↦ (
          let ih = head_found flows (k + 1) ss h i.2 (omega (arith, l, none)) in
          record { place = suc ih.place; flow = omega (arith, ih.flow); within = omega (arith, ih.within); rest = ih.rest; first = ih.first })
    ]

-- an entry that departs before a head departs before all entries of its flow
follows_precedes : (x w : Waiting) (s : List Waiting) → Precedes x w → AllByRecursion (Follows w) s → AllByRecursion (Precedes x) s
follows_precedes x w [] p h = tt
follows_precedes x w (v ∷ s) p h = (
  record { rank = omega (arith, p.rank, h.0.rank); tie = λ e. omega (arith, p.tie (omega (arith, e, p.rank, h.0.rank)), h.0.arrival) },
  follows_precedes x w s p h.1,
)

pub heads_precede : (flows k : ℕ) (ss : List (List Waiting)) (x : Waiting) → IsStored flows k ss → AllByRecursion (Precedes x) (heads_of ss) → AllByRecursion (Precedes x) (waiting_in ss)
heads_precede flows k [] x i h = tt
heads_precede flows k ([] ∷ ss) x i h = heads_precede flows (k + 1) ss x i.2 h
heads_precede flows k ((w ∷ s) ∷ ss) x i h =
    (h.0, All-append (Precedes x) s (waiting_in ss) (follows_precedes x w s h.0 i.1.0) (heads_precede flows (k + 1) ss x i.2 h.1))
