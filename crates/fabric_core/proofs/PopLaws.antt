-- A pop in the array is a pop of the family of its queues.
use Rattle.fabric_core.proofs.Prelude.{ℕ, arith, ◌≡◌, List, ◌+◌, [], length, sym, ap, get_or, ◌∙◌, subst, ◌<◌, ◌∷◌, ◌*◌, ◌≤◌, refl, set, inl, inr, suc, Some, eqb, get_or-set_other, get_or-set_same, length-set, ◌≢◌, Option, cases_Bool, eqb-false, eqb-true, cases_lt, same_from_place, option_map, fun_ext, Address, Family, below, Pops, pop_along, popped_digit, popped_last, with_branch, with_root, option_bind-some, option_map-some, Queue, Taking, take_least, Popping, option_bind, nodes, queues_at, array_pop, of_digit, of_last, IsFlow}
use Rattle.fabric_core.proofs.ArrayReads.{read-below, read-outside, read-same, child_place, next_nodes, place_within}
use Rattle.fabric_core.proofs.FlowLaws.{names-taken, branch-same, branch-other}

-- a pop of an inner node: the entry popped there, and the pop below
record Steps (d : ℕ) (ar : List ℕ) (qs : List Queue) (begin width place : ℕ) (r : Popping (List Queue)) : Type 0 where
  pub taken : Taking
  pub least : take_least (get_or qs (begin + place) []) ≡ Some taken
  pub rest : Popping (List Queue)
  pub popped : array_pop ar (set qs (begin + place) taken.rest) (begin + width) (width * d) (place * d + taken.value) ≡ Some rest
  pub joined : of_digit taken rest ≡ r

steps : (d : ℕ) (ar : List ℕ) (qs : List Queue) (begin width place : ℕ) (r : Popping (List Queue)) → array_pop (d ∷ ar) qs begin width place ≡ Some r → Steps d ar qs begin width place r
steps d ar qs begin width place r p =
    let v : (t : Taking) × (take_least (get_or qs (begin + place) []) ≡ Some t) × (option_map (of_digit t) (array_pop ar (set qs (begin + place) t.rest) (begin + width) (width * d) (place * d + t.value)) ≡ Some r)
    = option_bind-some (λ e. option_map (of_digit e) (array_pop ar (set qs (begin + place) e.rest) (begin + width) (width * d) (place * d + e.value))) (take_least (get_or qs (begin + place) [])) r p in
    let y : (s : Popping (List Queue)) × (array_pop ar (set qs (begin + place) v.0.rest) (begin + width) (width * d) (place * d + v.0.value) ≡ Some s) × (of_digit v.0 s ≡ r)
    = option_map-some (of_digit v.0) (array_pop ar (set qs (begin + place) v.0.rest) (begin + width) (width * d) (place * d + v.0.value)) r v.2 in
    record { taken = v.0; least = v.1; rest = y.0; popped = y.1; joined = y.2 }

-- the queues after a pop of a leaf
last_left : (qs : List Queue) (n : ℕ) (r : Popping (List Queue)) → option_map (of_last qs n) (take_least (get_or qs n [])) ≡ Some r
    → (t : Taking) × (take_least (get_or qs n []) ≡ Some t) × (of_last qs n t ≡ r)
last_left qs n r p = option_map-some (of_last qs n) (take_least (get_or qs n [])) r p

-- items before the level are unchanged
pub pop-before : (ar : List ℕ) (qs : List Queue) (begin width place : ℕ) (r : Popping (List Queue)) (j : ℕ) → j < begin → array_pop ar qs begin width place ≡ Some r
    → get_or r.left j [] ≡ get_or qs j []
pop-before [] qs begin width place r j l p =
    let v : (t : Taking) × (take_least (get_or qs (begin + place) []) ≡ Some t) × (of_last qs (begin + place) t ≡ r) = last_left qs (begin + place) r p in
    subst (λ (z : Popping (List Queue)). get_or z.left j [] ≡ get_or qs j []) v.2 (get_or-set_other qs (begin + place) j v.0.rest [] (omega arith))
pop-before (d ∷ ar) qs begin width place r j l p =
    let s : Steps d ar qs begin width place r = steps d ar qs begin width place r p in
    subst (λ (z : Popping (List Queue)). get_or z.left j [] ≡ get_or qs j []) s.joined
    (pop-before ar (set qs (begin + place) s.taken.rest) (begin + width) (width * d) (place * d + s.taken.value) s.rest j (omega arith) s.popped
    ∙ get_or-set_other qs (begin + place) j s.taken.rest [] (omega arith))

-- the queues below a child, before the pop has changed any of them
pub queues-child : (d : ℕ) (ar : List ℕ) (qs : List Queue) (q : Queue) (begin width place n x : ℕ) → n < begin + width → x < d
    → below (queues_at (d ∷ ar) qs begin width place) x ≡ queues_at ar (set qs n q) (begin + width) (width * d) (place * d + x)
queues-child d ar qs q begin width place n x m l =
    fun_ext (λ b. read-below ar qs [] d begin width place x b l
    ∙ sym (read-same ar (set qs n q) qs [] (begin + width) (width * d) (place * d + x) b (λ j k. get_or-set_other qs n j q [] (omega arith))))

pub flow-child : (d : ℕ) (ar : List ℕ) (qs : List Queue) (q : Queue) (begin width place n x : ℕ) → n < begin + width → x < d → IsFlow (d ∷ ar) (queues_at (d ∷ ar) qs begin width place)
    → IsFlow ar (queues_at ar (set qs n q) (begin + width) (width * d) (place * d + x))
flow-child d ar qs q begin width place n x m l w = subst (λ (F : Family). IsFlow ar F) (queues-child d ar qs q begin width place n x m l) (w.1 x l).1

-- items below another node of the level are unchanged
pub pop-beside : (ar : List ℕ) (qs : List Queue) (begin width p q : ℕ) (r : Popping (List Queue)) (b : Address) → p < width → q < width → p ≢ q → IsFlow ar (queues_at ar qs begin width p)
    → array_pop ar qs begin width p ≡ Some r → queues_at ar r.left begin width q b ≡ queues_at ar qs begin width q b
pop-beside [] qs begin width p q r [] l m n w e =
    let v : (t : Taking) × (take_least (get_or qs (begin + p) []) ≡ Some t) × (of_last qs (begin + p) t ≡ r) = last_left qs (begin + p) r e in
    subst (λ (z : Popping (List Queue)). get_or z.left (begin + q) [] ≡ get_or qs (begin + q) []) v.2 (get_or-set_other qs (begin + p) (begin + q) v.0.rest [] (λ c. n (omega (arith, c))))
pop-beside [] qs begin width p q r (y ∷ b) l m n w e = refl
pop-beside (d ∷ ar) qs begin width p q r [] l m n w e =
    let s : Steps d ar qs begin width p r = steps d ar qs begin width p r e in
    subst (λ (z : Popping (List Queue)). get_or z.left (begin + q) [] ≡ get_or qs (begin + q) []) s.joined
    (pop-before ar (set qs (begin + p) s.taken.rest) (begin + width) (width * d) (p * d + s.taken.value) s.rest (begin + q) (omega arith) s.popped
    ∙ get_or-set_other qs (begin + p) (begin + q) s.taken.rest [] (λ c. n (omega (arith, c))))
pop-beside (d ∷ ar) qs begin width p q r (y ∷ b) l m n w e =
    let s : Steps d ar qs begin width p r = steps d ar qs begin width p r e in
    let x : s.taken.value < d = names-taken d (get_or qs (begin + p) []) s.taken w.0 s.least in
    elim (cases_lt y d) [
      | inl t ↦ subst (λ (z : Popping (List Queue)). queues_at (d ∷ ar) z.left begin width q (y ∷ b) ≡ queues_at (d ∷ ar) qs begin width q (y ∷ b)) s.joined
          (read-below ar s.rest.left [] d begin width q y b t
          ∙ pop-beside ar (set qs (begin + p) s.taken.rest) (begin + width) (width * d) (p * d + s.taken.value) (q * d + y) s.rest b
          (child_place p d s.taken.value width l x) (child_place q d y width m t) (λ c. n ((same_from_place p s.taken.value q y d x t c).0))
          (flow-child d ar qs s.taken.rest begin width p (begin + p) s.taken.value (omega arith) x w) s.popped
          ∙ read-same ar (set qs (begin + p) s.taken.rest) qs [] (begin + width) (width * d) (q * d + y) b (λ j k. get_or-set_other qs (begin + p) j s.taken.rest [] (omega arith))
          ∙ sym (read-below ar qs [] d begin width q y b t))
      | inr t ↦ read-outside ar r.left [] d begin width q y b t ∙ sym (read-outside ar qs [] d begin width q y b t)
    ]

pub length-array_pop : (ar : List ℕ) (qs : List Queue) (begin width place : ℕ) (r : Popping (List Queue)) → array_pop ar qs begin width place ≡ Some r → length r.left ≡ length qs
length-array_pop [] qs begin width place r p =
    let v : (t : Taking) × (take_least (get_or qs (begin + place) []) ≡ Some t) × (of_last qs (begin + place) t ≡ r) = last_left qs (begin + place) r p in
    subst (λ (z : Popping (List Queue)). length z.left ≡ length qs) v.2 (length-set qs (begin + place) v.0.rest)
length-array_pop (d ∷ ar) qs begin width place r p =
    let s : Steps d ar qs begin width place r = steps d ar qs begin width place r p in
    subst (λ (z : Popping (List Queue)). length z.left ≡ length qs) s.joined
    (length-array_pop ar (set qs (begin + place) s.taken.rest) (begin + width) (width * d) (place * d + s.taken.value) s.rest s.popped ∙ length-set qs (begin + place) s.taken.rest)

last-left : (qs : List Queue) (begin width place : ℕ) (q : Queue) (b : Address) → begin + place < length qs
    → queues_at [] (set qs (begin + place) q) begin width place b ≡ with_root (queues_at [] qs begin width place) q b
last-left qs begin width place q [] l = get_or-set_same qs (begin + place) q [] l
last-left qs begin width place q (y ∷ b) l = refl

child-left : (d : ℕ) (ar : List ℕ) (qs : List Queue) (begin width place : ℕ) (t : Taking) (r : Popping (List Queue)) (z : ℕ) (b : Address) → place < width
    → t.value < d → IsFlow ar (queues_at ar (set qs (begin + place) t.rest) (begin + width) (width * d) (place * d + t.value))
    → array_pop ar (set qs (begin + place) t.rest) (begin + width) (width * d) (place * d + t.value) ≡ Some r → t.value ≢ z
    → queues_at (d ∷ ar) r.left begin width place (z ∷ b) ≡ queues_at (d ∷ ar) qs begin width place (z ∷ b)
child-left d ar qs begin width place t r z b l x w p n =
    elim (cases_lt z d) [
      | inl k ↦
          read-below ar r.left [] d begin width place z b k
          ∙ pop-beside ar (set qs (begin + place) t.rest) (begin + width) (width * d) (place * d + t.value) (place * d + z) r b
          (child_place place d t.value width l x) (child_place place d z width l k) (λ c. n (omega (arith, c))) w p
          ∙ read-same ar (set qs (begin + place) t.rest) qs [] (begin + width) (width * d) (place * d + z) b (λ j i. get_or-set_other qs (begin + place) j t.rest [] (omega arith))
          ∙ sym (read-below ar qs [] d begin width place z b k)
      | inr k ↦ read-outside ar r.left [] d begin width place z b k ∙ sym (read-outside ar qs [] d begin width place z b k)
    ]

-- the queues after a pop of an inner node, given the queues left below the child
digit-left : (d : ℕ) (ar : List ℕ) (qs : List Queue) (begin width place : ℕ) (t : Taking) (r : Popping (List Queue)) (G : Family) (b : Address) → place < width → begin + width * nodes (d ∷ ar) ≤ length qs
    → t.value < d → IsFlow ar (queues_at ar (set qs (begin + place) t.rest) (begin + width) (width * d) (place * d + t.value))
    → array_pop ar (set qs (begin + place) t.rest) (begin + width) (width * d) (place * d + t.value) ≡ Some r
    → ((c : Address) → queues_at ar r.left (begin + width) (width * d) (place * d + t.value) c ≡ G c)
    → queues_at (d ∷ ar) r.left begin width place b ≡ with_branch (queues_at (d ∷ ar) qs begin width place) t.rest t.value G b
digit-left d ar qs begin width place t r G [] l m x w p g =
    pop-before ar (set qs (begin + place) t.rest) (begin + width) (width * d) (place * d + t.value) r (begin + place) (omega arith) p
    ∙ get_or-set_same qs (begin + place) t.rest [] (place_within (d ∷ ar) begin width place (length qs) l m)
digit-left d ar qs begin width place t r G (z ∷ b) l m x w p g =
    elim (cases_Bool (eqb t.value z)) [
      | inl c ↦ subst (λ (n : ℕ). queues_at (d ∷ ar) r.left begin width place (n ∷ b) ≡ with_branch (queues_at (d ∷ ar) qs begin width place) t.rest t.value G (n ∷ b)) (eqb-true t.value z c)
          (read-below ar r.left [] d begin width place t.value b x ∙ g b ∙ sym (branch-same (queues_at (d ∷ ar) qs begin width place) t.rest t.value G b))
      | inr c ↦ child-left d ar qs begin width place t r z b l x w p (eqb-false t.value z c) ∙ sym (branch-other (queues_at (d ∷ ar) qs begin width place) t.rest t.value z G b (eqb-false t.value z c))
    ]

-- one step of the law below, given the law for the levels below
joined-pops : (d : ℕ) (ar : List ℕ) (qs : List Queue) (begin width place : ℕ) (t : Taking) (r : Popping (List Queue)) → place < width → begin + width * nodes (d ∷ ar) ≤ length qs
    → IsFlow (d ∷ ar) (queues_at (d ∷ ar) qs begin width place) → take_least (get_or qs (begin + place) []) ≡ Some t
    → array_pop ar (set qs (begin + place) t.rest) (begin + width) (width * d) (place * d + t.value) ≡ Some r
    → Pops (length ar) (queues_at ar (set qs (begin + place) t.rest) (begin + width) (width * d) (place * d + t.value)) r.value r.digits r.ranks (queues_at ar r.left (begin + width) (width * d) (place * d + t.value))
    → Pops (suc (length ar)) (queues_at (d ∷ ar) qs begin width place) r.value (t.value ∷ r.digits) (t.rank ∷ r.ranks) (queues_at (d ∷ ar) r.left begin width place)
joined-pops d ar qs begin width place t r l m w e p ih =
    let x : t.value < d = names-taken d (get_or qs (begin + place) []) t w.0 e in
    let same : below (queues_at (d ∷ ar) qs begin width place) t.value ≡ queues_at ar (set qs (begin + place) t.rest) (begin + width) (width * d) (place * d + t.value)
    = queues-child d ar qs t.rest begin width place (begin + place) t.value (omega arith) x in
    record {
      taken = popped_digit (queues_at (d ∷ ar) qs begin width place) t ih.taken;
      popped =
          ap (λ (o : Option Taking). option_bind o (λ u. option_map (popped_digit (queues_at (d ∷ ar) qs begin width place) u) (pop_along (length ar) (below (queues_at (d ∷ ar) qs begin width place) u.value)))) e
          ∙ ap (option_map (popped_digit (queues_at (d ∷ ar) qs begin width place) t)) (ap (pop_along (length ar)) same ∙ ih.popped);
      value = ih.value;
      digits_are = ap (λ (ds : List ℕ). t.value ∷ ds) ih.digits_are;
      ranks_are = ap (λ (rs : List ℕ). t.rank ∷ rs) ih.ranks_are;
      left = λ b. digit-left d ar qs begin width place t r ih.taken.left b l m x (flow-child d ar qs t.rest begin width place (begin + place) t.value (omega arith) x w) p ih.left;
    }

pub array_pop-along : (ar : List ℕ) (qs : List Queue) (begin width place : ℕ) (r : Popping (List Queue)) → place < width → begin + width * nodes ar ≤ length qs → IsFlow ar (queues_at ar qs begin width place)
    → array_pop ar qs begin width place ≡ Some r → Pops (length ar) (queues_at ar qs begin width place) r.value r.digits r.ranks (queues_at ar r.left begin width place)
array_pop-along [] qs begin width place r l m w p =
    let v : (t : Taking) × (take_least (get_or qs (begin + place) []) ≡ Some t) × (of_last qs (begin + place) t ≡ r) = last_left qs (begin + place) r p in
    subst (λ (z : Popping (List Queue)). Pops 0 (queues_at [] qs begin width place) z.value z.digits z.ranks (queues_at [] z.left begin width place)) v.2 (record {
      taken = popped_last (queues_at [] qs begin width place) v.0;
      popped = ap (option_map (popped_last (queues_at [] qs begin width place))) v.1;
      value = refl;
      digits_are = refl;
      ranks_are = refl;
      left = λ b. last-left qs begin width place v.0.rest b (place_within [] begin width place (length qs) l m);
    })
array_pop-along (d ∷ ar) qs begin width place r l m w p =
    let s : Steps d ar qs begin width place r = steps d ar qs begin width place r p in
    subst (λ (z : Popping (List Queue)). Pops (suc (length ar)) (queues_at (d ∷ ar) qs begin width place) z.value z.digits z.ranks (queues_at (d ∷ ar) z.left begin width place)) s.joined
    (joined-pops d ar qs begin width place s.taken s.rest l m w s.least s.popped
    (array_pop-along ar (set qs (begin + place) s.taken.rest) (begin + width) (width * d) (place * d + s.taken.value) s.rest
    (child_place place d s.taken.value width l (names-taken d (get_or qs (begin + place) []) s.taken w.0 s.least))
    (omega (arith, m, length-set qs (begin + place) s.taken.rest, next_nodes ar d begin width))
    (flow-child d ar qs s.taken.rest begin width place (begin + place) s.taken.value (omega arith) (names-taken d (get_or qs (begin + place) []) s.taken w.0 s.least) w) s.popped))
