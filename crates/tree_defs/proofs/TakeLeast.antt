-- The pair that a queue dequeues.
use Rattle.tree_defs.proofs.Prelude.{◌≡◌, Some, [], ap, arith, refl, subst, ℕ, ◌∙◌, ◌∷◌, suc, length, sym, ◌+◌, None, ◌++◌, inl, inr, ◌<◌, ◌≤◌, cases_lt, le-leb, lt-leb, AllByRecursion, Queue, Taking, take_least, put, Entry, take_from, sooner, LeavesFrom, EarliestOfTheLeastLeaves, NothingLeavesAnEmptyQueue}

-- every rank is at least m
abbrev pub NoneBelow : ℕ → Queue → Type 0
NoneBelow m [] = Unit {0}
NoneBelow m (e ∷ q) = (m ≤ e.0) × NoneBelow m q

pub NoneBelow-le : (m n : ℕ) (q : Queue) → m ≤ n → NoneBelow n q → NoneBelow m q
NoneBelow-le m n [] l h = tt
NoneBelow-le m n (e ∷ q) l h = (omega (arith, h.0), NoneBelow-le m n q l h.1)

-- either the front pair is dequeued, or the one that would be dequeued without it
pub take_from-front : (r v : ℕ) (e : Entry) (q : Queue) → r ≤ (take_from e.0 e.1 q).rank → take_from r v (e ∷ q) ≡ record { rank = r; value = v; rest = e ∷ q }
take_from-front r v e q l = rw (le-leb r (take_from e.0 e.1 q).rank l) refl

pub take_from-behind : (r v : ℕ) (e : Entry) (q : Queue) → (take_from e.0 e.1 q).rank < r
    → take_from r v (e ∷ q) ≡ record { rank = (take_from e.0 e.1 q).rank; value = (take_from e.0 e.1 q).value; rest = (r, v) ∷ (take_from e.0 e.1 q).rest }
take_from-behind r v e q l = rw (lt-leb r (take_from e.0 e.1 q).rank l) refl

-- no rank is below that of the dequeued pair
pub take_from-least : (r v : ℕ) (q : Queue) → NoneBelow (take_from r v q).rank ((r, v) ∷ q)
take_from-least r v [] = (omega arith, tt)
take_from-least r v (e ∷ q) =
    let ih : NoneBelow (take_from e.0 e.1 q).rank (e ∷ q) = take_from-least e.0 e.1 q in
    let P : Taking → Type 0 = λ t. NoneBelow t.rank ((r, v) ∷ e ∷ q) in
    elim (cases_lt (take_from e.0 e.1 q).rank r) [
      | inl l ↦ subst P (sym (take_from-behind r v e q l)) (omega arith, ih)
      | inr l ↦ subst P (sym (take_from-front r v e q l)) (omega arith, NoneBelow-le r (take_from e.0 e.1 q).rank (e ∷ q) l ih)
    ]

-- a lower bound of all ranks is a lower bound of the dequeued rank
pub take_from-above : (m r v : ℕ) (q : Queue) → m ≤ r → NoneBelow m q → m ≤ (take_from r v q).rank
take_from-above m r v [] l h = l
take_from-above m r v (e ∷ q) l h =
    let P : Taking → Type 0 = λ t. m ≤ t.rank in
    elim (cases_lt (take_from e.0 e.1 q).rank r) [
      | inl k ↦ subst P (sym (take_from-behind r v e q k)) (take_from-above m e.0 e.1 q h.0 h.1)
      | inr k ↦ subst P (sym (take_from-front r v e q k)) l
    ]

-- if no rank is below the first, the first pair is dequeued
pub take_from-first : (r v : ℕ) (q : Queue) → NoneBelow r q → take_from r v q ≡ record { rank = r; value = v; rest = q }
take_from-first r v [] h = refl
take_from-first r v (e ∷ q) h = take_from-front r v e q (take_from-above r e.0 e.1 q h.0 h.1)

pub take_from-sooner : (r v : ℕ) (q : Queue) (m : Taking) → take_least q ≡ Some m → take_from r v q ≡ sooner r v q m
take_from-sooner r v [] m p = cc
take_from-sooner r v (e ∷ q) m p = let k : take_from e.0 e.1 q ≡ m = cc in ap (sooner r v (e ∷ q)) k

-- `AllAbove`: every rank is above this one; `AllFrom`: every rank is at least this one
abbrev pub AllAbove : ℕ → Queue → Type 0
AllAbove rank q = AllByRecursion (λ (e : Entry). rank < e.0) q

abbrev pub AllFrom : ℕ → Queue → Type 0
AllFrom rank q = AllByRecursion (λ (e : Entry). rank ≤ e.0) q

none_below : (m : ℕ) (q : Queue) → AllFrom m q → NoneBelow m q
none_below m [] h = tt
none_below m (e ∷ q) h = (h.0, none_below m q h.1)

all_from : (m : ℕ) (q : Queue) → NoneBelow m q → AllFrom m q
all_from m [] h = tt
all_from m (e ∷ q) h = (h.0, all_from m q h.1)

-- a pair with only higher ranks before it, and no lower rank after it, is dequeued
pub take_least-split : (r v : ℕ) (before after : Queue) → AllAbove r before → AllFrom r after → take_least (before ++ (r, v) ∷ after) ≡ Some (record { rank = r; value = v; rest = before ++ after })
take_least-split r v [] after above from = ap Some (take_from-first r v after (none_below r after from))
take_least-split r v (e ∷ before) after above from =
    ap Some (take_from-sooner e.0 e.1 (before ++ (r, v) ∷ after) (record { rank = r; value = v; rest = before ++ after }) (take_least-split r v before after above.1 from)
    ∙ rw (lt-leb e.0 r above.0) refl)

-- the dequeued pair splits the queue
pub take_from-splits : (r v : ℕ) (q : Queue) → LeavesFrom ((r, v) ∷ q) (take_from r v q)
take_from-splits r v [] = record { before = []; after = []; stands = refl; above = tt; from = tt; rest = refl }
take_from-splits r v (e ∷ q) =
    let ih : LeavesFrom (e ∷ q) (take_from e.0 e.1 q) = take_from-splits e.0 e.1 q in
    elim (cases_lt (take_from e.0 e.1 q).rank r) [
      | inl l ↦ subst (LeavesFrom ((r, v) ∷ e ∷ q)) (sym (take_from-behind r v e q l)) (record {
        before = (r, v) ∷ ih.before;
        after = ih.after;
        stands = ap (λ (z : Queue). (r, v) ∷ z) ih.stands;
        above = (l, ih.above);
        from = ih.from;
        rest = ap (λ (z : Queue). (r, v) ∷ z) ih.rest;
      })
      | inr l ↦ subst (LeavesFrom ((r, v) ∷ e ∷ q)) (sym (take_from-front r v e q l)) (record {
        before = [];
        after = e ∷ q;
        stands = refl;
        above = tt;
        from = all_from r (e ∷ q) (NoneBelow-le r (take_from e.0 e.1 q).rank (e ∷ q) l (take_from-least e.0 e.1 q));
        rest = refl;
      })
    ]

pub take_least-splits : (q : Queue) (t : Taking) → take_least q ≡ Some t → LeavesFrom q t
take_least-splits [] t p = cc
take_least-splits (e ∷ q) t p = let k : take_from e.0 e.1 q ≡ t = cc in subst (LeavesFrom (e ∷ q)) k (take_from-splits e.0 e.1 q)

pub take_least-of_split : (q : Queue) (t : Taking) → LeavesFrom q t → take_least q ≡ Some t
take_least-of_split q t l =
    ap take_least l.stands ∙ take_least-split t.rank t.value l.before l.after l.above l.from
    ∙ ap (λ (z : Queue). Some (record { rank = t.rank; value = t.value; rest = z })) (sym l.rest)

pub earliest_of_the_least : EarliestOfTheLeastLeaves
earliest_of_the_least q t = (take_least-splits q t, take_least-of_split q t)

pub take_least-empty : (q : Queue) → take_least q ≡ None → q ≡ []
take_least-empty [] p = refl
take_least-empty (e ∷ q) p = cc

pub nothing_leaves : NothingLeavesAnEmptyQueue
nothing_leaves q = (take_least-empty q, λ p. ap take_least p)

pub length-put : (q : Queue) (r v : ℕ) → length (put q r v) ≡ length q + 1
length-put [] r v = refl
length-put (e ∷ q) r v = omega (arith, length-put q r v)

-- one pair fewer remains
pub length-rest : (r v : ℕ) (q : Queue) → length (take_from r v q).rest ≡ length q
length-rest r v [] = refl
length-rest r v (e ∷ q) =
    let P : Taking → Type 0 = λ t. length t.rest ≡ length (e ∷ q) in
    elim (cases_lt (take_from e.0 e.1 q).rank r) [
      | inl k ↦ subst P (sym (take_from-behind r v e q k)) (ap suc (length-rest e.0 e.1 q))
      | inr k ↦ subst P (sym (take_from-front r v e q k)) refl
    ]
