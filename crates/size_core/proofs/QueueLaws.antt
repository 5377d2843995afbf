-- Uses of nodes, hop by hop.
use Rattle.size_core.proofs.Prelude.{◌≡◌, ◌∙◌, ℕ, length, sym, ap, List, arith, subst, ◌<◌, ◌≤◌, IfSome, [], refl, ◌∷◌, Option, suc, zero, Bool, ◌-◌, get_or, ◌≢◌, if◌then◌else◌, set, drop, ◌==◌, take, eq-eqb, ne_eqb, take_all, slice_get, Queue, Uses, Watched, passed_at, popped_along, pushed_along, rank_on, value_on, popped_at, pushed_at, first_of, Use, pushed, Has, Follows, Hop, Limits, Passed}
use Rattle.size_core.specs.declared.node.Node.{Node}
use Rattle.size_core.specs.declared.queues.Queues.{Queues}

-- a list with an item is its first item and the others
first-more : {A : Type 0} (xs : List A) (d : A) → 1 ≤ length xs → xs ≡ get_or xs 0 d ∷ take (length xs - 1) (drop 1 xs)
first-more [] d l = absurd (omega (arith, l))
first-more (x ∷ xs) d l = let all : take (length (x ∷ xs) - 1) xs ≡ xs = take_all (length (x ∷ xs) - 1) xs (omega arith) in cc

pub along_push : (limits later : Limits) (event packet : ℕ) (ranks : List ℕ) (hops : List Hop) (d : Hop) (s : Watched) (q : Queues) → later ≡ limits → 1 ≤ length hops
    → Follows q (pushed_along later event packet ranks (take (length hops - 1) (drop 1 hops)) (pushed_at limits event packet ranks (get_or hops 0 d) s))
    → Follows q (pushed_along limits event packet ranks hops s)
along_push limits later event packet ranks hops d s q same l h =
    subst (λ (hs : List Hop). Follows q (pushed_along limits event packet ranks hs s)) (sym (first-more hops d l))
    (subst (λ (z : Limits). Follows q (pushed_along z event packet ranks (take (length hops - 1) (drop 1 hops)) (pushed_at limits event packet ranks (get_or hops 0 d) s))) same h)

pub along_pop : (hops : List Hop) (d : Hop) (s : Watched) (q : Queues) → 1 ≤ length hops
    → Follows q (popped_along (take (length hops - 1) (drop 1 hops)) (popped_at (get_or hops 0 d) s)) → Follows q (popped_along hops s)
along_pop hops d s q l h = subst (λ (hs : List Hop). Follows q (popped_along hs s)) (sym (first-more hops d l)) h

-- one node changes
get-set : {A : Type 0} (xs : List A) (i j : ℕ) (x : A) (P : A → Type 0) → i < length xs → (j ≡ i → P x) → (j ≢ i → IfSome (slice_get xs j) P) → IfSome (slice_get (set xs i x) j) P
get-set [] i j x P l here other = absurd (omega (arith, l))
get-set (y ∷ xs) zero zero x P l here other = here refl
get-set (y ∷ xs) zero (suc j) x P l here other = other (λ e. omega (arith, e))
get-set (y ∷ xs) (suc i) zero x P l here other = other (λ e. omega (arith, e))
get-set (y ∷ xs) (suc i) (suc j) x P l here other = get-set xs i j x P (omega (arith, l)) (λ e. here (ap suc e)) (λ n. other (λ e. n (omega (arith, e))))

node_changes : (nodes : List Node) (i : ℕ) (n : Node) (uses : Uses) (f : Use → Use) → i < length nodes → Has n (f (uses i)) → ((j : ℕ) → IfSome (slice_get nodes j) (λ m. Has m (uses j)))
    → (j : ℕ) → IfSome (slice_get (set nodes i n) j) (λ m. Has m (if j == i then f (uses j) else uses j))
node_changes nodes i n uses f l has each j =
    get-set nodes i j n (λ m. Has m (if j == i then f (uses j) else uses j)) l
    (λ e. subst (λ (b : Bool). Has n (if b then f (uses j) else uses j)) (sym (eq-eqb j i e)) (subst (λ (k : ℕ). Has n (f (uses k))) (sym e) has))
    (λ ne. subst (λ (b : Bool). IfSome (slice_get nodes j) (λ m. Has m (if b then f (uses j) else uses j))) (sym (ne_eqb j i ne)) (each j))

at_index : (nodes : List Node) (i : ℕ) (n : Node) (P : Node → Type 0) → i < length nodes → n ≡ get_or nodes i n → IfSome (slice_get nodes i) P → P n
at_index [] i n P l e h = absurd (omega (arith, l))
at_index (m ∷ nodes) zero n P l e h = subst P (sym e) h
at_index (m ∷ nodes) (suc i) n P l e h = at_index nodes i n P (omega (arith, l)) e h

-- queues after a push at a node
pub after_push : (q v : Queues) (s : Watched) (event packet : ℕ) (ranks : List ℕ) (h : Hop) (read old new : Node) → Follows q s → h.node < length q.nodes.items
    → read ≡ get_or q.nodes.items h.node read → old ≡ get_or q.nodes.items h.node old → v.nodes.items ≡ set q.nodes.items h.node new
    → v.passed ≡ first_of q.passed (passed_at q.limits event packet h.node (length read.queue.entries) (rank_on ranks h))
    → ((u : Use) → Has old u → Has new (pushed (rank_on ranks h) (value_on packet h) u)) → Follows v (pushed_at q.limits event packet ranks h s)
after_push q v s event packet ranks h read old new follows l is_read is changed passed push =
    let has : (n : Node) → n ≡ get_or q.nodes.items h.node n → Has n (s.uses h.node) = λ n e. at_index q.nodes.items h.node n (λ n. Has n (s.uses h.node)) l e (follows.nodes h.node) in
    let f : Use → Use = pushed (rank_on ranks h) (value_on packet h) in
    record {
      nodes = subst (λ (nodes : List Node). (j : ℕ) → IfSome (slice_get nodes j) (λ m. Has m (if j == h.node then f (s.uses j) else s.uses j))) (sym changed)
          (node_changes q.nodes.items h.node new s.uses f l (push (s.uses h.node) (has old is)) follows.nodes);
      passed = passed
          ∙ ap (λ (n : ℕ). first_of q.passed (passed_at q.limits event packet h.node n (rank_on ranks h))) (ap (λ (z : Queue). length z) (has read is_read).queue)
          ∙ ap (λ (o : Option Passed). first_of o (passed_at q.limits event packet h.node (length (s.uses h.node).queue) (rank_on ranks h))) follows.passed;
    }
