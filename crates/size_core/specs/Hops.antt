-- The use of nodes by index. The path of each class's packets is a list of nodes.
use Rattle.std.specs.Prelude.{ℕ, ◌+◌, ◌<◌, ◌==◌, Vec, if◌then◌else◌, Option, option_map, unwrap_or, List, [], ◌∷◌, length, slice_get, slice_index_or}
use Rattle.std.specs.declared.alloc.Global.{Global}
use Rattle.std.specs.Option.{ForSome}
use Rattle.sched_defs.specs.Events as run
use Rattle.size_core.specs.declared.limits.Limits.{Limits}
use Rattle.size_core.specs.declared.limits.Passed.{Passed}
use Rattle.size_core.specs.declared.hop.Hop.{Hop}
use Rattle.size_core.specs.Use.{Use, pushed, popped}
use Rattle.size_core.specs.Limits.{passes, first_of}

-- the use of each node, by index
abbrev pub Uses : Type 0
Uses = ℕ → Use

-- the use of each node, and the first push that passed a limit
pub record Watched : Type 0 where
  pub uses : Uses
  pub passed : Option Passed

abbrev pub rank_on : List ℕ → Hop → ℕ
rank_on ranks h = slice_index_or ranks h.step 0

abbrev pub value_on : ℕ → Hop → ℕ
value_on packet h = unwrap_or h.digit packet

-- the packet with this number is pushed at a node with a rank, in the event with this number
abbrev pub passed_at : Limits → ℕ → ℕ → ℕ → ℕ → ℕ → Option Passed
passed_at limits event packet node len rank = option_map (λ l. record { event = event; packet = packet; node = node; limit = l }) (passes limits len rank)

abbrev pub pushed_at : Limits → ℕ → ℕ → List ℕ → Hop → Watched → Watched
pushed_at limits event packet ranks h s = record {
  uses = λ n. if n == h.node then pushed (rank_on ranks h) (value_on packet h) (s.uses n) else s.uses n;
  passed = first_of s.passed (passed_at limits event packet h.node (length (s.uses h.node).queue) (rank_on ranks h));
}

abbrev pub pushed_along : Limits → ℕ → ℕ → List ℕ → List Hop → Watched → Watched
pushed_along limits event packet ranks [] s = s
pushed_along limits event packet ranks (h ∷ hops) s = pushed_along limits event packet ranks hops (pushed_at limits event packet ranks h s)

abbrev pub popped_at : Hop → Watched → Watched
popped_at h s = record { uses = λ n. if n == h.node then popped (s.uses n) else s.uses n; passed = s.passed }

abbrev pub popped_along : List Hop → Watched → Watched
popped_along [] s = s
popped_along (h ∷ hops) s = popped_along hops (popped_at h s)

-- the path of each class's packets
abbrev pub ClassHops : Type 0
ClassHops = ℕ → List Hop

abbrev pub watched : Limits → ClassHops → ℕ → run.Outcome → Watched → Watched
watched limits class_hops event (run.Arrived p a ranks) s = pushed_along limits event p.number ranks (class_hops p.class) s
watched limits class_hops event (run.Departed p a ranks start) s = popped_along (class_hops p.class) s
watched limits class_hops event (run.Dropped p a) s = s
watched limits class_hops event run.Empty s = s

-- the path of each class's packets, from a list
abbrev pub class_hops_in : List (Vec Hop Global) → ClassHops
class_hops_in class_hops class = unwrap_or (option_map (λ v. v.items) (slice_get class_hops class)) []

-- each hop has a node
abbrev pub AreInside : ℕ → List Hop → Type 0
AreInside count hops = (k : ℕ) → ForSome (slice_get hops k) (λ h. h.node < count)

-- the hops of each path have a node
abbrev pub ArePathsInside : ℕ → List (Vec Hop Global) → Type 0
ArePathsInside count class_hops = (c : ℕ) → ForSome (slice_get class_hops c) (λ v. AreInside count v.items)

-- the first outcome has this event number
abbrev pub watched_all : Limits → ClassHops → ℕ → List run.Outcome → Watched → Watched
watched_all limits class_hops event [] s = s
watched_all limits class_hops event (o ∷ os) s = watched_all limits class_hops (event + 1) os (watched limits class_hops event o s)
