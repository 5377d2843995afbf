-- The use of a queue, push by push and pop by pop.
use Rattle.size_core.proofs.Prelude.{◌≡◌, ◌∙◌, ℕ, length, sym, ap, arith, subst, ◌≤◌, Some, [], refl, ◌∷◌, Option, None, Bool, false, true, ◌-◌, get_or, inl, inr, if◌then◌else◌, set, drop, ◌==◌, max, min, cases_lt, ne_eqb, option_map, Queue, Taking, put, take_least, take_from, figures_of, flow_of, store_popped, Stores, leads, Use, popped, spread, highest, lowest_from, taken, Has, IsCrest}
use Rattle.tree_defs.proofs.TakeLeast.{NoneBelow, NoneBelow-le, take_from-front, take_from-behind, take_from-least}
use Rattle.size_core.specs.declared.node.Node.{Node}

-- ---- pushes
highest-put : (q : Queue) (rank value : ℕ) → highest (put q rank value) ≡ max (highest q) rank
highest-put [] rank value = omega arith
highest-put (e ∷ q) rank value = omega (arith, highest-put q rank value)

lowest-put : (r : ℕ) (q : Queue) (rank value : ℕ) → lowest_from r (put q rank value) ≡ min (lowest_from r q) rank
lowest-put r [] rank value = omega arith
lowest-put r (e ∷ q) rank value = omega (arith, lowest-put e.0 q rank value)

-- a push doesn't lower the greatest difference
pub spread-put : (q : Queue) (rank value : ℕ) → spread q ≤ spread (put q rank value)
spread-put [] rank value = omega arith
spread-put (e ∷ q) rank value = omega (arith, highest-put q rank value, lowest-put e.0 q rank value)

pub crest-put : (q : Queue) (rank value crest : ℕ) → IsCrest q crest → IsCrest (put q rank value) (if length q == 0 then rank else max crest rank)
crest-put [] rank value crest is = omega arith
crest-put (e ∷ q) rank value crest is =
    let no : (length (e ∷ q) == 0) ≡ false = ne_eqb (length (e ∷ q)) 0 (λ z. omega (arith, z)) in
    let h : max e.0 (highest (put q rank value)) ≡ max crest rank = omega (arith, highest-put q rank value, is) in
    h ∙ ap (λ (b : Bool). if b then rank else max crest rank) (sym no)

-- ---- pops
-- a pop takes the least rank
taken-lowest : (r v : ℕ) (q : Queue) → (take_from r v q).rank ≡ lowest_from r q
taken-lowest r v [] = refl
taken-lowest r v (e ∷ q) =
    let ih : (take_from e.0 e.1 q).rank ≡ lowest_from e.0 q = taken-lowest e.0 e.1 q in
    let P : Taking → Type 0 = λ t. t.rank ≡ min r (lowest_from e.0 q) in
    elim (cases_lt (take_from e.0 e.1 q).rank r) [
      | inl l ↦ subst P (sym (take_from-behind r v e q l)) (omega (arith, l, ih))
      | inr l ↦ subst P (sym (take_from-front r v e q l)) (omega (arith, l, ih))
    ]

-- the popped entry and the others have the ranks of the queue
taken-highest : (r v : ℕ) (q : Queue) → max (take_from r v q).rank (highest (take_from r v q).rest) ≡ max r (highest q)
taken-highest r v [] = refl
taken-highest r v (e ∷ q) =
    let ih = taken-highest e.0 e.1 q in
    let P : Taking → Type 0 = λ t. max t.rank (highest t.rest) ≡ max r (highest (e ∷ q)) in
    elim (cases_lt (take_from e.0 e.1 q).rank r) [
      | inl l ↦ subst P (sym (take_from-behind r v e q l)) (omega (arith, l, ih))
      | inr l ↦ subst P (sym (take_from-front r v e q l)) refl
    ]

rest-above : (r v : ℕ) (q : Queue) → NoneBelow (take_from r v q).rank (take_from r v q).rest
rest-above r v [] = tt
rest-above r v (e ∷ q) =
    let ih = rest-above e.0 e.1 q in
    let least = take_from-least e.0 e.1 q in
    let P : Taking → Type 0 = λ t. NoneBelow t.rank t.rest in
    elim (cases_lt (take_from e.0 e.1 q).rank r) [
      | inl l ↦ subst P (sym (take_from-behind r v e q l)) (omega (arith, l), ih)
      | inr l ↦ subst P (sym (take_from-front r v e q l)) (NoneBelow-le r (take_from e.0 e.1 q).rank (e ∷ q) l least)
    ]

lowest-above : (m r : ℕ) (q : Queue) → m ≤ r → NoneBelow m q → m ≤ lowest_from r q
lowest-above m r [] l h = l
lowest-above m r (e ∷ q) l h = omega (arith, l, lowest-above m e.0 q h.0 h.1)

-- the greatest rank of the others is that of the queue
rest-crest : (m top : ℕ) (q : Queue) → NoneBelow m q → max m (highest q) ≡ top → IsCrest q top
rest-crest m top [] h e = tt
rest-crest m top (x ∷ q) h e = omega (arith, h.0, e)

rest-spread : (m top : ℕ) (q : Queue) → NoneBelow m q → max m (highest q) ≡ top → spread q ≤ top - m
rest-spread m top [] h e = omega arith
rest-spread m top (x ∷ q) h e = omega (arith, h.0, e, lowest-above m x.0 q h.0 h.1)

-- the span and the crest after a pop
pub record Popped (crest span total : ℕ) (t : Taking) : Type 0 where
  pub crest_stays : IsCrest t.rest crest
  pub whole : max span (crest - t.rank) ≡ total
  pub span_is : max (max span (crest - t.rank)) (spread t.rest) ≡ total

pub after_pop : (q : Queue) (t : Taking) (crest span total : ℕ) → take_least q ≡ Some t → IsCrest q crest → max span (spread q) ≡ total → Popped crest span total t
after_pop [] t crest span total e is h = absurd (let n : None ≡ Some t = e in cc)
after_pop (x ∷ q) t crest span total e is h =
    let same : take_from x.0 x.1 q ≡ t = let n : Some (take_from x.0 x.1 q) ≡ Some t = e in cc in
    let above = rest-above x.0 x.1 q in
    let top : max (take_from x.0 x.1 q).rank (highest (take_from x.0 x.1 q).rest) ≡ crest = taken-highest x.0 x.1 q ∙ is in
    subst (Popped crest span total) same (record {
      crest_stays = rest-crest (take_from x.0 x.1 q).rank crest (take_from x.0 x.1 q).rest above top;
      whole = omega (arith, h, is, taken-lowest x.0 x.1 q);
      span_is = omega (arith, h, is, taken-lowest x.0 x.1 q, rest-spread (take_from x.0 x.1 q).rank crest (take_from x.0 x.1 q).rest above top);
    })

-- the span after a push
pub span-pushed : (q : Queue) (rank value span total : ℕ) → max span (spread q) ≡ total → max span (spread (put q rank value)) ≡ max total (spread (put q rank value))
span-pushed q rank value span total h = omega (arith, h, spread-put q rank value)

-- a node has a use after a pop
pub has_taken : (n : Node) (u : Use) (o : Option Taking) → take_least u.queue ≡ o → Has n (taken o u) → Has n (popped u)
has_taken n u o at has = subst (λ (o : Option Taking). Has n (taken o u)) (sym at) has

-- a pop changes no figure
most-popped : (rank value : ℕ) (s : Option Stores) → option_map (λ s. s.most) (option_map (store_popped rank value) s) ≡ option_map (λ s. s.most) s
most-popped rank value None = refl
most-popped rank value (Some s) =
    let flow = flow_of (length s.flows) value in
    let ranks = get_or s.flows flow [] in
    ap (λ m. Some m) (by (leads rank ranks))
  where
    by : (b : Bool) → (if b then record s { flows = set s.flows (flow_of (length s.flows) value) (drop 1 (get_or s.flows (flow_of (length s.flows) value) [])) } else record s { spilled = s.spilled - 1 }).most ≡ s.most
    by true = refl
    by false = refl

pub figures-popped : (u : Use) → figures_of (popped u) ≡ figures_of u
figures-popped u = by (take_least u.queue)
  where
    by : (o : Option Taking) → figures_of (taken o u) ≡ figures_of u
    by None = refl
    by (Some t) = ap (λ stores. record { pushes = u.pushes; most = u.most; top = u.top; span = u.span; stores = stores }) (most-popped t.rank t.value u.stores)
