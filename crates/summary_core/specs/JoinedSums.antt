-- Summing outcomes in two calls gives the same sums as in one call.
use Rattle.std.proofs.Common.{◌≡◌, ℕ, ◌==◌, Bool, IsTrue, if◌then◌else◌, Option, None, Some, List, [], ◌∷◌, ◌++◌, slice_get, refl, sym, ap, ◌∙◌, subst, append_assoc, append-nil}
use Rattle.std.specs.Prelude.{option_map}
use Rattle.sched_defs.specs.Events as run
use Rattle.sched_defs.specs.Events.{Outcome}
use Rattle.sched_defs.specs.declared.rate.LinkRate.{LinkRate}
use Rattle.summary_core.specs.Counting.{with_event}
use Rattle.summary_core.specs.Summing.{ClassEvent, of_class, times_of, Timestamps, stamps_after, stamps_behind, event_by, events_by, counted, any_class, is_class, is_at_leaf, items_at, delays_at, delays_in}
use Rattle.summary_core.specs.declared.counts.Counts.{Counts}
use Rattle.summary_core.specs.declared.event.PacketEvent.TheVariants.{Departed}
use Rattle.summary_core.specs.declared.summary.Summary.{Summary}
use Rattle.summary_core.specs.Summary.{timestamp_at, AddsEvents, Sums}

-- ---- events in sequence
pub counted-append : (member : ℕ → Bool) (c : Counts) (es fs : List ClassEvent) → counted member c (es ++ fs) ≡ counted member (counted member c es) fs
counted-append member c [] fs = refl
counted-append member c (e ∷ es) fs = counted-append member (if member e.class then with_event e.event c else c) es fs

pub delays_in-append : (k : ℕ) (es fs : List ClassEvent) → delays_in k (es ++ fs) ≡ delays_in k es ++ delays_in k fs
delays_in-append k [] fs = refl
delays_in-append k (e ∷ es) fs = ap (λ (l : List ℕ). delays_at k e.class e.event ++ l) (delays_in-append k es fs) ∙ sym (append_assoc (delays_at k e.class e.event) (delays_in k es) (delays_in k fs))

-- ---- equal timestamps
same_after : (j k : Timestamps) (o : Outcome) → ((n : ℕ) → j n ≡ k n) → (n : ℕ) → stamps_after j o n ≡ stamps_after k o n
same_after j k (run.Arrived p a ranks) same n = ap (λ (x : Option ℕ). if n == p.number then Some p.moment else x) (same n)
same_after j k (run.Departed p a ranks start) same n = ap (λ (x : Option ℕ). if n == p.number then None else x) (same n)
same_after j k (run.Dropped p a) same n = same n
same_after j k run.Empty same n = same n

same_event : (rate : LinkRate) (j k : Timestamps) (o : Outcome) → ((n : ℕ) → j n ≡ k n) → event_by rate j o ≡ event_by rate k o
same_event rate j k (run.Arrived p a ranks) same = refl
same_event rate j k (run.Departed p a ranks start) same = ap (λ (x : Option ℕ). of_class p.class (Departed p.len (times_of rate p.len start x)) ∷ []) (same p.number)
same_event rate j k (run.Dropped p a) same = refl
same_event rate j k run.Empty same = refl

pub same_behind : (j k : Timestamps) (os : List Outcome) → ((n : ℕ) → j n ≡ k n) → (n : ℕ) → stamps_behind j os n ≡ stamps_behind k os n
same_behind j k [] same n = same n
same_behind j k (o ∷ os) same n = same_behind (stamps_after j o) (stamps_after k o) os (same_after j k o same) n

pub same_events : (rate : LinkRate) (j k : Timestamps) (os : List Outcome) → ((n : ℕ) → j n ≡ k n) → events_by rate j os ≡ events_by rate k os
same_events rate j k [] same = refl
same_events rate j k (o ∷ os) same =
    ap (λ (es : List ClassEvent). es ++ events_by rate (stamps_after j o) os) (same_event rate j k o same)
    ∙ ap (λ (es : List ClassEvent). event_by rate k o ++ es) (same_events rate (stamps_after j o) (stamps_after k o) os (same_after j k o same))

-- ---- outcomes in sequence
stamps-append : (k : Timestamps) (os ps : List Outcome) (n : ℕ) → stamps_behind k (os ++ ps) n ≡ stamps_behind (stamps_behind k os) ps n
stamps-append k [] ps n = refl
stamps-append k (o ∷ os) ps n = stamps-append (stamps_after k o) os ps n

pub events_by-append : (rate : LinkRate) (k : Timestamps) (os ps : List Outcome) → events_by rate k (os ++ ps) ≡ events_by rate k os ++ events_by rate (stamps_behind k os) ps
events_by-append rate k [] ps = refl
events_by-append rate k (o ∷ os) ps =
    ap (λ (es : List ClassEvent). event_by rate k o ++ es) (events_by-append rate (stamps_after k o) os ps)
    ∙ sym (append_assoc (event_by rate k o) (events_by rate (stamps_after k o) os) (events_by rate (stamps_behind (stamps_after k o) os) ps))

-- ---- sums
twice : {X : Type 0} (f g h : X → X) (o : Option X) → ((x : X) → g (f x) ≡ h x) → option_map g (option_map f o) ≡ option_map h o
twice f g h None same = refl
twice f g h (Some x) same = ap (λ y. Some y) (same x)

once : {X : Type 0} (f : X → X) (o : Option X) → ((x : X) → x ≡ f x) → o ≡ option_map f o
once f None same = refl
once f (Some x) same = ap (λ y. Some y) (same x)

in_turn : (w v x : Summary) (es fs : List ClassEvent) → AddsEvents w v es → AddsEvents v x fs → AddsEvents w x (es ++ fs)
in_turn w v x es fs first second = record {
  whole = first.whole;
  table = second.table ∙ first.table;
  all = second.all ∙ ap (λ (c : Counts). counted any_class c fs) first.all ∙ sym (counted-append any_class w.all es fs);
  leaves = λ l.
      let at = is_at_leaf w.table.items l in
      second.leaves l
      ∙ ap (λ t. option_map (λ c. counted (is_at_leaf t.items l) c fs) (slice_get v.leaves.items l)) first.table
      ∙ ap (λ (o : Option Counts). option_map (λ c. counted at c fs) o) (first.leaves l)
      ∙ twice (λ c. counted at c es) (λ c. counted at c fs) (λ c. counted at c (es ++ fs)) (slice_get w.leaves.items l) (λ c. sym (counted-append at c es fs));
  classes = λ k.
      second.classes k
      ∙ ap (λ (o : Option Counts). option_map (λ c. counted (is_class k) c fs) o) (first.classes k)
      ∙ twice (λ c. counted (is_class k) c es) (λ c. counted (is_class k) c fs) (λ c. counted (is_class k) c (es ++ fs)) (slice_get w.classes.items k) (λ c. sym (counted-append (is_class k) c es fs));
  delays = λ k.
      second.delays k
      ∙ ap (λ (o : Option (List ℕ)). option_map (λ l. l ++ delays_in k fs) o) (first.delays k)
      ∙ twice (λ (l : List ℕ). l ++ delays_in k es) (λ l. l ++ delays_in k fs) (λ l. l ++ delays_in k (es ++ fs)) (items_at w.delays.items k)
      (λ l. append_assoc l (delays_in k es) (delays_in k fs) ∙ ap (λ (m : List ℕ). l ++ m) (sym (delays_in-append k es fs)));
}

pub sums_nothing : (w : Summary) → Sums w w []
sums_nothing w = record {
  rate = refl;
  table = refl;
  timestamps = λ whole n. refl;
  sums = λ whole. record {
    whole = whole;
    table = refl;
    all = refl;
    leaves = λ l. once (λ c. c) (slice_get w.leaves.items l) (λ c. refl);
    classes = λ k. once (λ c. c) (slice_get w.classes.items k) (λ c. refl);
    delays = λ k. once (λ (l : List ℕ). l ++ []) (items_at w.delays.items k) (λ l. sym (append-nil l));
  };
}

pub sums_in_turn : (w v x : Summary) (os ps : List Outcome) → Sums w v os → Sums v x ps → Sums w x (os ++ ps)
sums_in_turn w v x os ps first second =
    let es = events_by w.rate (timestamp_at w) os in
    let behind = stamps_behind (timestamp_at w) os in
    let kept : IsTrue x.whole → (n : ℕ) → timestamp_at v n ≡ behind n = λ whole. first.timestamps (second.sums whole).whole in
    let later : IsTrue x.whole → events_by v.rate (timestamp_at v) ps ≡ events_by w.rate behind ps =
    λ whole. ap (λ rate. events_by rate (timestamp_at v) ps) first.rate ∙ same_events w.rate (timestamp_at v) behind ps (kept whole) in
    record {
      rate = second.rate ∙ first.rate;
      table = second.table ∙ first.table;
      timestamps = λ whole n. second.timestamps whole n ∙ same_behind (timestamp_at v) behind ps (kept whole) n ∙ sym (stamps-append (timestamp_at w) os ps n);
      sums = λ whole.
          let last = second.sums whole in
          subst (AddsEvents w x) (ap (λ (fs : List ClassEvent). es ++ fs) (later whole) ∙ sym (events_by-append w.rate (timestamp_at w) os ps))
          (in_turn w v x es (events_by v.rate (timestamp_at v) ps) (first.sums last.whole) last);
    }
