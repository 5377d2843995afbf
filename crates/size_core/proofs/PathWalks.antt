-- A packet's path by index and by address.
use Rattle.size_core.proofs.Prelude.{◌≡◌, ◌∙◌, ℕ, length, sym, ap, List, arith, subst, ◌+◌, IfSome, Some, [], refl, ◌∷◌, Option, ◌++◌, suc, None, map, Bool, false, true, append_assoc, ◌≢◌, if◌then◌else◌, drop, ◌==◌, take, append-nil, eq-eqb, ne_eqb, eqb-true, option_map_or, slice_get, option_map, unwrap_or, slice_index, nat_eq, after-append, after-is, Entry, after, Address, option_bind, Watched, passed_at, popped_along, pushed_along, rank_on, value_on, popped_at, pushed_at, first_of, passes, address_in, Keys, IsOnce, IsHop, IsPath, crossing_in, Crossing, crossing_along, entry_at, is_on, crossing_at, Use, pushed, popped, Hop, Limits}
use Rattle.size_core.specs.declared.limits.Limit.{Limit}

-- ---- paths from a node down
-- the nodes from one at b down along the digits a, with the ranks there
abbrev pub Leads : Keys → List ℕ → Address → Address → List ℕ → List Hop → Type 0
Leads known ranks b a rs [] = ⊥
Leads known ranks b [] rs (h ∷ hops) = (address_in known h.node ≡ Some b) × (rank_on ranks h ≡ slice_index rs 0) × (h.digit ≡ None) × (hops ≡ [])
Leads known ranks b (x ∷ a) rs (h ∷ hops) = (address_in known h.node ≡ Some b) × (rank_on ranks h ≡ slice_index rs 0) × (h.digit ≡ Some x) × Leads known ranks (b ++ x ∷ []) a (drop 1 rs) hops

-- ---- steps down an address
abbrev strip : ℕ → Address → Option Address
strip x [] = None
strip x (y ∷ c) = if nat_eq x y then Some c else None

after-snoc : (b : Address) (x : ℕ) (c : Address) → after (b ++ x ∷ []) c ≡ option_bind (after b c) (strip x)
after-snoc [] x [] = refl
after-snoc [] x (y ∷ c) = by (nat_eq x y)
  where
    by : (t : Bool) → (if t then after [] c else None) ≡ (if t then Some c else None)
    by true = refl
    by false = refl
after-snoc (z ∷ b) x [] = refl
after-snoc (z ∷ b) x (y ∷ c) = by (nat_eq z y) (after-snoc b x c)
  where
    by : (t : Bool) → after (b ++ x ∷ []) c ≡ option_bind (after b c) (strip x) → (if t then after (b ++ x ∷ []) c else None) ≡ option_bind (if t then after b c else None) (strip x)
    by true h = h
    by false h = refl

after-self : (b : Address) → after b b ≡ Some []
after-self b = subst (λ (z : Address). after b z ≡ Some []) (append-nil b) (after-append b [])

-- the address is b, or not at or below it, or below it
pub data Place (b c : Address) : Type 0 where
  here : after b c ≡ Some [] → c ≡ b → Place b c
  off : after b c ≡ None → c ≢ b → Place b c
  below : (y : ℕ) (rest : Address) → after b c ≡ Some (y ∷ rest) → c ≢ b → Place b c

place : (b c : Address) → Place b c
place b c = by (after b c) refl
  where
    by : (o : Option Address) → after b c ≡ o → Place b c
    by None e = off e (λ same. let n : None ≡ Some [] = sym e ∙ ap (after b) same ∙ after-self b in cc)
    by (Some []) e = here e (after-is b c [] e ∙ append-nil b)
    by (Some (y ∷ rest)) e = below y rest e (λ same. let n : Some (y ∷ rest) ≡ Some [] = sym e ∙ ap (after b) same ∙ after-self b in cc)

-- ---- one node
module _ (known : Keys) (once : IsOnce known) (b c : Address) (i n : ℕ) (at : address_in known n ≡ Some b) (is : address_in known i ≡ Some c) where
  test-here : c ≡ b → (i == n) ≡ true
  test-here same = eq-eqb i n (once i n b (is ∙ ap (λ z. Some z) same) at)

  test-other : c ≢ b → (i == n) ≡ false
  test-other other = ne_eqb i n (λ e. other (let q : Some c ≡ Some b = sym is ∙ ap (address_in known) e ∙ at in cc))

-- ---- pushes
abbrev pub entry_below : Address → Address → List ℕ → ℕ → Address → Option Entry
entry_below b a rs packet c = option_bind (after b c) (entry_at a rs packet)

abbrev pub Push : Option Entry → Use → Use
Push e u = option_map_or (λ x. pushed x.0 x.1 u) e u

module _ (known : Keys) (once : IsOnce known) (limits : Limits) (event packet : ℕ) (ranks : List ℕ) (c : Address) (i : ℕ) (is : address_in known i ≡ Some c) where
  pushed-here : (h : Hop) (s : Watched) (b : Address) → address_in known h.node ≡ Some b → c ≡ b → (pushed_at limits event packet ranks h s).uses i ≡ pushed (rank_on ranks h) (value_on packet h) (s.uses i)
  pushed-here h s b at same = ap (λ (t : Bool). if t then pushed (rank_on ranks h) (value_on packet h) (s.uses i) else s.uses i) (test-here known once b c i h.node at is same)

  pushed-other : (h : Hop) (s : Watched) (b : Address) → address_in known h.node ≡ Some b → c ≢ b → (pushed_at limits event packet ranks h s).uses i ≡ s.uses i
  pushed-other h s b at other = ap (λ (t : Bool). if t then pushed (rank_on ranks h) (value_on packet h) (s.uses i) else s.uses i) (test-other known once b c i h.node at is other)

  pub uses_pushed : (b a : Address) (rs : List ℕ) (hops : List Hop) (s : Watched) → Leads known ranks b a rs hops
      → (pushed_along limits event packet ranks hops s).uses i ≡ Push (entry_below b a rs packet c) (s.uses i)
  uses_pushed b a rs [] s leads = absurd leads
  uses_pushed b [] rs (h ∷ hops) s leads =
      ap (λ (hs : List Hop). (pushed_along limits event packet ranks hs (pushed_at limits event packet ranks h s)).uses i) leads.3 ∙ by (place b c)
    where
      by : Place b c → (pushed_at limits event packet ranks h s).uses i ≡ Push (entry_below b [] rs packet c) (s.uses i)
      by (here e same) =
          pushed-here h s b leads.0 same
          ∙ ap (λ (r : ℕ). pushed r (value_on packet h) (s.uses i)) leads.1
          ∙ ap (λ o. pushed (slice_index rs 0) (unwrap_or o packet) (s.uses i)) leads.2
          ∙ ap (λ (o : Option Address). Push (option_bind o (entry_at [] rs packet)) (s.uses i)) (sym e)
      by (off e other) = pushed-other h s b leads.0 other ∙ ap (λ (o : Option Address). Push (option_bind o (entry_at [] rs packet)) (s.uses i)) (sym e)
      by (below y rest e other) = pushed-other h s b leads.0 other ∙ ap (λ (o : Option Address). Push (option_bind o (entry_at [] rs packet)) (s.uses i)) (sym e)
  uses_pushed b (x ∷ a) rs (h ∷ hops) s leads =
      uses_pushed (b ++ x ∷ []) a (drop 1 rs) hops (pushed_at limits event packet ranks h s) leads.3
      ∙ ap (λ (o : Option Address). Push (option_bind o (entry_at a (drop 1 rs) packet)) ((pushed_at limits event packet ranks h s).uses i)) (after-snoc b x c) ∙ by (place b c)
    where
      later : Option Address → Use → Use
      later o u = Push (option_bind (option_bind o (strip x)) (entry_at a (drop 1 rs) packet)) u

      whole : Option Address → Use → Use
      whole o u = Push (option_bind o (entry_at (x ∷ a) rs packet)) u

      stripped : (t : Bool) (rest : Address) → Push (option_bind (if t then Some rest else None) (entry_at a (drop 1 rs) packet)) (s.uses i) ≡ Push (if t then entry_at a (drop 1 rs) packet rest else None) (s.uses i)
      stripped true rest = refl
      stripped false rest = refl

      by : Place b c → later (after b c) ((pushed_at limits event packet ranks h s).uses i) ≡ whole (after b c) (s.uses i)
      by (here e same) =
          ap (λ (o : Option Address). later o ((pushed_at limits event packet ranks h s).uses i)) e
          ∙ pushed-here h s b leads.0 same
          ∙ ap (λ (r : ℕ). pushed r (value_on packet h) (s.uses i)) leads.1
          ∙ ap (λ o. pushed (slice_index rs 0) (unwrap_or o packet) (s.uses i)) leads.2
          ∙ ap (λ (o : Option Address). whole o (s.uses i)) (sym e)
      by (off e other) =
          ap (λ (o : Option Address). later o ((pushed_at limits event packet ranks h s).uses i)) e ∙ pushed-other h s b leads.0 other ∙ ap (λ (o : Option Address). whole o (s.uses i)) (sym e)
      by (below y rest e other) =
          ap (λ (o : Option Address). later o ((pushed_at limits event packet ranks h s).uses i)) e
          ∙ ap (λ (u : Use). later (Some (y ∷ rest)) u) (pushed-other h s b leads.0 other)
          ∙ stripped (nat_eq x y) rest
          ∙ ap (λ (o : Option Address). whole o (s.uses i)) (sym e)

-- ---- pops
abbrev pub on_below : Address → Address → Address → Bool
on_below b a c = option_map_or (is_on a) (after b c) false

module _ (known : Keys) (once : IsOnce known) (ranks : List ℕ) (c : Address) (i : ℕ) (is : address_in known i ≡ Some c) where
  popped-here : (h : Hop) (s : Watched) (b : Address) → address_in known h.node ≡ Some b → c ≡ b → (popped_at h s).uses i ≡ popped (s.uses i)
  popped-here h s b at same = ap (λ (t : Bool). if t then popped (s.uses i) else s.uses i) (test-here known once b c i h.node at is same)

  popped-other : (h : Hop) (s : Watched) (b : Address) → address_in known h.node ≡ Some b → c ≢ b → (popped_at h s).uses i ≡ s.uses i
  popped-other h s b at other = ap (λ (t : Bool). if t then popped (s.uses i) else s.uses i) (test-other known once b c i h.node at is other)

  pub uses_popped : (b a : Address) (rs : List ℕ) (hops : List Hop) (s : Watched) → Leads known ranks b a rs hops
      → (popped_along hops s).uses i ≡ (if on_below b a c then popped (s.uses i) else s.uses i)
  uses_popped b a rs [] s leads = absurd leads
  uses_popped b [] rs (h ∷ hops) s leads = ap (λ (hs : List Hop). (popped_along hs (popped_at h s)).uses i) leads.3 ∙ by (place b c)
    where
      by : Place b c → (popped_at h s).uses i ≡ (if on_below b [] c then popped (s.uses i) else s.uses i)
      by (here e same) = popped-here h s b leads.0 same ∙ ap (λ (o : Option Address). if option_map_or (is_on []) o false then popped (s.uses i) else s.uses i) (sym e)
      by (off e other) = popped-other h s b leads.0 other ∙ ap (λ (o : Option Address). if option_map_or (is_on []) o false then popped (s.uses i) else s.uses i) (sym e)
      by (below y rest e other) = popped-other h s b leads.0 other ∙ ap (λ (o : Option Address). if option_map_or (is_on []) o false then popped (s.uses i) else s.uses i) (sym e)
  uses_popped b (x ∷ a) rs (h ∷ hops) s leads =
      uses_popped (b ++ x ∷ []) a (drop 1 rs) hops (popped_at h s) leads.3
      ∙ ap (λ (o : Option Address). if option_map_or (is_on a) o false then popped ((popped_at h s).uses i) else (popped_at h s).uses i) (after-snoc b x c) ∙ by (place b c)
    where
      later : Option Address → Use → Use
      later o u = if option_map_or (is_on a) (option_bind o (strip x)) false then popped u else u

      whole : Option Address → Use → Use
      whole o u = if option_map_or (is_on (x ∷ a)) o false then popped u else u

      stripped : (t : Bool) (rest : Address) (u : Use) → (if option_map_or (is_on a) (if t then Some rest else None) false then popped u else u) ≡ (if (if t then is_on a rest else false) then popped u else u)
      stripped true rest u = refl
      stripped false rest u = refl

      by : Place b c → later (after b c) ((popped_at h s).uses i) ≡ whole (after b c) (s.uses i)
      by (here e same) = ap (λ (o : Option Address). later o ((popped_at h s).uses i)) e ∙ popped-here h s b leads.0 same ∙ ap (λ (o : Option Address). whole o (s.uses i)) (sym e)
      by (off e other) = ap (λ (o : Option Address). later o ((popped_at h s).uses i)) e ∙ popped-other h s b leads.0 other ∙ ap (λ (o : Option Address). whole o (s.uses i)) (sym e)
      by (below y rest e other) =
          ap (λ (o : Option Address). later o ((popped_at h s).uses i)) e
          ∙ ap (λ (u : Use). later (Some (y ∷ rest)) u) (popped-other h s b leads.0 other)
          ∙ stripped (nat_eq x y) rest (s.uses i)
          ∙ ap (λ (o : Option Address). whole o (s.uses i)) (sym e)

pub passed_popped : (hops : List Hop) (s : Watched) → (popped_along hops s).passed ≡ s.passed
passed_popped [] s = refl
passed_popped (h ∷ hops) s = passed_popped hops (popped_at h s)

-- ---- limits
first-map : {A B : Type 0} (f : A → B) (x y : Option A) → option_map f (first_of x y) ≡ first_of (option_map f x) (option_map f y)
first-map f None y = refl
first-map f (Some x) y = refl

first-assoc : {A : Type 0} (x y z : Option A) → first_of (first_of x y) z ≡ first_of x (first_of y z)
first-assoc None y z = refl
first-assoc (Some x) y z = refl

module _ (known : Keys) (once : IsOnce known) (limits : Limits) (event packet : ℕ) (ranks : List ℕ) (uses : Address → Use) where
  -- the uses at and below b are these
  abbrev pub AgreeBelow : Address → Watched → Type 0
  AgreeBelow b s = (i : ℕ) (c d : Address) → address_in known i ≡ Some c → after b c ≡ Some d → s.uses i ≡ uses c

  told-passed : (n : ℕ) (b : Address) (r len rank : ℕ) (u : Use) → address_in known n ≡ Some b → len ≡ length u.queue → r ≡ rank
      → option_map (crossing_in known) (passed_at limits event packet n len r) ≡ crossing_at limits event packet b u rank
  told-passed n b r len rank u at same is =
      ap (λ (k : ℕ). option_map (crossing_in known) (passed_at limits event packet n k r)) same
      ∙ ap (λ (k : ℕ). option_map (crossing_in known) (passed_at limits event packet n (length u.queue) k)) is
      ∙ by (passes limits (length u.queue) rank)
    where
      by : (o : Option Limit) → option_map (crossing_in known) (option_map (λ l. record { event = event; packet = packet; node = n; limit = l }) o) ≡ option_map (λ l. record { event = event; packet = packet; address = b; limit = l }) o
      by None = refl
      by (Some l) = ap (λ o. Some (record { event = event; packet = packet; address = unwrap_or o []; limit = l })) at

  agree-below : (b : Address) (x : ℕ) (h : Hop) (s : Watched) → address_in known h.node ≡ Some b → AgreeBelow b s → AgreeBelow (b ++ x ∷ []) (pushed_at limits event packet ranks h s)
  agree-below b x h s at agree i c d is e = by (place b c)
    where
      deeper : option_bind (after b c) (strip x) ≡ Some d
      deeper = sym (after-snoc b x c) ∙ e

      by : Place b c → (pushed_at limits event packet ranks h s).uses i ≡ uses c
      by (here f same) = absurd (let n : None ≡ Some d = ap (λ (o : Option Address). option_bind o (strip x)) (sym f) ∙ deeper in cc)
      by (off f other) = absurd (let n : None ≡ Some d = ap (λ (o : Option Address). option_bind o (strip x)) (sym f) ∙ deeper in cc)
      by (below y rest f other) = pushed-other known once limits event packet ranks c i is h s b at other ∙ agree i c (y ∷ rest) is f

  pub passed_pushed : (b a : Address) (rs : List ℕ) (hops : List Hop) (s : Watched) → Leads known ranks b a rs hops → AgreeBelow b s
      → option_map (crossing_in known) (pushed_along limits event packet ranks hops s).passed ≡ first_of (option_map (crossing_in known) s.passed) (crossing_along limits event packet b a rs uses)
  passed_pushed b a rs [] s leads agree = absurd leads
  passed_pushed b [] rs (h ∷ hops) s leads agree =
      let len = length (s.uses h.node).queue in
      ap (λ (hs : List Hop). option_map (crossing_in known) (pushed_along limits event packet ranks hs (pushed_at limits event packet ranks h s)).passed) leads.3
      ∙ first-map (crossing_in known) s.passed (passed_at limits event packet h.node len (rank_on ranks h))
      ∙ ap (λ (o : Option Crossing). first_of (option_map (crossing_in known) s.passed) o)
      (told-passed h.node b (rank_on ranks h) len (slice_index rs 0) (uses b) leads.0 (ap (λ (u : Use). length u.queue) (agree h.node b [] leads.0 (after-self b))) leads.1)
  passed_pushed b (x ∷ a) rs (h ∷ hops) s leads agree =
      let len = length (s.uses h.node).queue in
      let own = crossing_at limits event packet b (uses b) (slice_index rs 0) in
      let rest = crossing_along limits event packet (b ++ x ∷ []) a (drop 1 rs) uses in
      passed_pushed (b ++ x ∷ []) a (drop 1 rs) hops (pushed_at limits event packet ranks h s) leads.3 (agree-below b x h s leads.0 agree)
      ∙ ap (λ (o : Option Crossing). first_of o rest)
      (first-map (crossing_in known) s.passed (passed_at limits event packet h.node len (rank_on ranks h))
      ∙ ap (λ (o : Option Crossing). first_of (option_map (crossing_in known) s.passed) o)
      (told-passed h.node b (rank_on ranks h) len (slice_index rs 0) (uses b) leads.0 (ap (λ (u : Use). length u.queue) (agree h.node b [] leads.0 (after-self b))) leads.1))
      ∙ first-assoc (option_map (crossing_in known) s.passed) own rest

-- ---- the addresses on a path are known
pub on_path : (known : Keys) (ranks : List ℕ) (b a : Address) (rs : List ℕ) (hops : List Hop) → Leads known ranks b a rs hops → (c : Address) → is_on a c ≡ true → (i : ℕ) × (address_in known i ≡ Some (b ++ c))
on_path known ranks b a rs [] leads c on = absurd leads
on_path known ranks b [] rs (h ∷ hops) leads [] on = (h.node, leads.0 ∙ ap (λ z. Some z) (sym (append-nil b)))
on_path known ranks b [] rs (h ∷ hops) leads (y ∷ c) on = absurd (let n : false ≡ true = on in cc)
on_path known ranks b (x ∷ a) rs (h ∷ hops) leads [] on = (h.node, leads.0 ∙ ap (λ z. Some z) (sym (append-nil b)))
on_path known ranks b (x ∷ a) rs (h ∷ hops) leads (y ∷ c) on = by (nat_eq x y) refl (on_path known ranks (b ++ x ∷ []) a (drop 1 rs) hops leads.3 c) on
  where
    by : (t : Bool) → nat_eq x y ≡ t → (is_on a c ≡ true → (i : ℕ) × (address_in known i ≡ Some ((b ++ x ∷ []) ++ c))) → (if t then is_on a c else false) ≡ true → (i : ℕ) × (address_in known i ≡ Some (b ++ y ∷ c))
    by false e later on = absurd (let n : false ≡ true = on in cc)
    by true e later on =
        let found = later on in
        (found.0, found.1 ∙ ap (λ z. Some z) (append_assoc b (x ∷ []) c ∙ ap (λ (z : ℕ). b ++ z ∷ c) (eqb-true x y e)))

-- off a path there is no entry
pub off_path : (a : Address) (rs : List ℕ) (packet : ℕ) (c : Address) → is_on a c ≡ false → entry_at a rs packet c ≡ None
off_path a rs packet [] not = absurd (let n : true ≡ false = not in cc)
off_path [] rs packet (y ∷ c) not = refl
off_path (x ∷ a) rs packet (y ∷ c) not = by (nat_eq x y) (off_path a (drop 1 rs) packet c) not
  where
    by : (t : Bool) → (is_on a c ≡ false → entry_at a (drop 1 rs) packet c ≡ None) → (if t then is_on a c else false) ≡ false → (if t then entry_at a (drop 1 rs) packet c else None) ≡ None
    by true later not = later not
    by false later not = refl

-- ---- a path by index is a path from the root down
module _ (known : Keys) (ranks : List ℕ) where
  record IsPathFrom (b a : Address) (steps : List ℕ) (hops : List Hop) : Type 0 where
    long : length hops ≡ length a + 1
    each : (k : ℕ) → IfSome (slice_get hops k) (λ h. (address_in known h.node ≡ Some (b ++ take k a)) × (slice_get steps k ≡ Some h.step) × (slice_get a k ≡ h.digit))

  rank-is : (steps : List ℕ) (h : Hop) → slice_get steps 0 ≡ Some h.step → rank_on ranks h ≡ slice_index (map (slice_index ranks) steps) 0
  rank-is [] h e = absurd (let n : None ≡ Some h.step = e in cc)
  rank-is (s ∷ steps) h e = let same : s ≡ h.step = cc in ap (slice_index ranks) (sym same)

  map-drop : (steps : List ℕ) → map (slice_index ranks) (drop 1 steps) ≡ drop 1 (map (slice_index ranks) steps)
  map-drop [] = refl
  map-drop (s ∷ steps) = refl

  steps-later : (steps : List ℕ) (k : ℕ) → slice_get (drop 1 steps) k ≡ slice_get steps (suc k)
  steps-later [] k = refl
  steps-later (s ∷ steps) k = refl

  leads_from : (b a : Address) (steps : List ℕ) (hops : List Hop) → IsPathFrom b a steps hops → Leads known ranks b a (map (slice_index ranks) steps) hops
  leads_from b a steps [] is = absurd (omega (arith, is.long))
  leads_from b [] steps (h ∷ []) is = ((is.each 0).0 ∙ ap (λ z. Some z) (append-nil b), rank-is steps h (is.each 0).1, sym (is.each 0).2, refl)
  leads_from b [] steps (h ∷ g ∷ hops) is = absurd (omega (arith, is.long))
  leads_from b (x ∷ a) steps (h ∷ hops) is = (
    (is.each 0).0 ∙ ap (λ z. Some z) (append-nil b),
    rank-is steps h (is.each 0).1,
    sym (is.each 0).2,
    subst (λ (rs : List ℕ). Leads known ranks (b ++ x ∷ []) a rs hops) (map-drop steps)
        (leads_from (b ++ x ∷ []) a (drop 1 steps) hops (record {
          long = omega (arith, is.long);
          each = λ k. later k (slice_get hops k) (is.each (suc k));
        })),
  )
    where
      later : (k : ℕ) (o : Option Hop) → IfSome o (λ h. (address_in known h.node ≡ Some (b ++ take (suc k) (x ∷ a))) × (slice_get steps (suc k) ≡ Some h.step) × (slice_get a k ≡ h.digit))
          → IfSome o (λ h. (address_in known h.node ≡ Some ((b ++ x ∷ []) ++ take k a)) × (slice_get (drop 1 steps) k ≡ Some h.step) × (slice_get a k ≡ h.digit))
      later k None t = tt
      later k (Some g) t = (t.0 ∙ ap (λ z. Some z) (sym (append_assoc b (x ∷ []) (take k a))), steps-later steps k ∙ t.1, t.2)

  pub leads : (a : Address) (steps : List ℕ) (hops : List Hop) → IsPath known a steps hops → Leads known ranks [] a (map (slice_index ranks) steps) hops
  leads a steps hops is = leads_from [] a steps hops (record { long = is.long; each = λ k. one k (slice_get hops k) (is.each k) })
    where
      one : (k : ℕ) (o : Option Hop) → IfSome o (IsHop known a steps k) → IfSome o (λ h. (address_in known h.node ≡ Some (take k a)) × (slice_get steps k ≡ Some h.step) × (slice_get a k ≡ h.digit))
      one k None t = tt
      one k (Some h) t = (t.node, t.step, t.digit)
