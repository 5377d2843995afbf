-- What a sizing stands for.
use Rattle.std.specs.Prelude.{◌≡◌, ℕ, max, IfSome, List, [], ◌∷◌, length, slice_get}
use Rattle.tree_defs.specs.Queue.{Queue}
use Rattle.sched_defs.specs.Events.{Outcome}
use Rattle.size_core.specs.declared.node.Node.{Node}
use Rattle.size_core.specs.declared.queues.Queues.{Queues}
use Rattle.size_core.specs.declared.sizing.Sizing.{Sizing}
use Rattle.size_core.specs.Use.{Use, highest, spread}
use Rattle.size_core.specs.Hops.{ClassHops, Uses, Watched, class_hops_in, watched_all}

-- the greatest rank of a queue with an entry
abbrev pub IsCrest : Queue → ℕ → Type 0
IsCrest [] crest = Unit {0}
IsCrest (e ∷ q) crest = highest (e ∷ q) ≡ crest

-- a node has this use
pub record Has (n : Node) (u : Use) : Type 0 where
  pub queue : n.queue.entries ≡ u.queue
  pub pushes : n.queue.pushes ≡ u.pushes
  pub most : n.most ≡ u.most
  pub top : n.top ≡ u.top
  pub crest : IsCrest u.queue n.crest
  pub span : max n.span (spread u.queue) ≡ u.span
  pub stores : n.stores ≡ u.stores

-- nodes have these uses, by index
abbrev pub HaveUses : List Node → Uses → Type 0
HaveUses nodes uses = (i : ℕ) → IfSome (slice_get nodes i) (λ n. Has n (uses i))

-- queues have these uses
pub record Follows (q : Queues) (s : Watched) : Type 0 where
  pub nodes : HaveUses q.nodes.items s.uses
  pub passed : q.passed ≡ s.passed

-- the path of each class's packets
abbrev pub class_hops_of : Sizing → ClassHops
class_hops_of w = class_hops_in w.class_hops.items

-- a sizing has these uses
abbrev pub Watches : Sizing → Watched → Type 0
Watches w s = Follows w.queues s

-- all but the uses stays
pub record Stays (w v : Sizing) : Type 0 where
  pub class_hops : v.class_hops ≡ w.class_hops
  pub known : v.known ≡ w.known
  pub names : v.names ≡ w.names
  pub count : length v.queues.nodes.items ≡ length w.queues.nodes.items
  pub limits : v.queues.limits ≡ w.queues.limits
  pub height : v.height ≡ w.height

-- The outcomes change the uses. The first outcome has this event number.
pub record WatchesAll (w : Sizing) (event : ℕ) (os : List Outcome) (v : Sizing) : Type 0 where
  pub stays : Stays w v
  pub uses : (s : Watched) → Watches w s → Watches v (watched_all w.queues.limits (class_hops_of w) event os s)
