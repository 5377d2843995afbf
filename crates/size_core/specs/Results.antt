-- The nodes of a new sizing, and the results of one.
use Rattle.std.specs.Prelude.{◌≡◌, ℕ, zero, suc, ◌+◌, ◌*◌, ◌<◌, nat_lt, Bool, true, false, Option, None, Some, option_map, unwrap_or, IfSome, IsTrue, List, [], ◌∷◌, ◌++◌, map, length, slice_get}
use Rattle.tree_defs.specs.Tree.{Address}
use Rattle.policy_defs.specs.Policy.{Policy}
use Rattle.sched_embedded.specs.Laid.{Laid, leaf_of}
use Rattle.size_core.specs.declared.limits.Limits.{Limits}
use Rattle.size_core.specs.declared.limits.Passed.{Passed}
use Rattle.size_core.specs.declared.size.Sizes as size
use Rattle.size_core.specs.declared.node.Figures.{Figures}
use Rattle.size_core.specs.declared.node.Node.{Node}
use Rattle.size_core.specs.declared.sizing.Sizing.{Sizing}
use Rattle.size_core.specs.Use.{Use}
use Rattle.size_core.specs.Hops.{Uses, Watched}
use Rattle.size_core.specs.Watching.{Has}
use Rattle.size_core.specs.Paths.{Keys, address_in, IsOnce, IsPathTo}
use Rattle.size_core.specs.Places.{addresses, places}
use Rattle.size_core.specs.Sizes.{Crossing, Line, IsNameAt, unused_at, crossing_of, line_of}

-- the name that the node at an index serves, if it serves one
abbrev pub name_in : List (Option (List ℕ)) → ℕ → Option (List ℕ)
name_in names i = unwrap_or (slice_get names i) None

-- nodes at these addresses are unused
abbrev pub AreUnused : List ℕ → Bool → Keys → List Node → Type 0
AreUnused arities stores known nodes = (i : ℕ) (b : Address) → address_in known i ≡ Some b → IfSome (slice_get nodes i) (λ n. Has n (unused_at arities stores b))

-- a sizing of no event
pub record IsUnused (l : Laid) (policy : Policy) (limits : Limits) (stores : Bool) (w : Sizing) : Type 0 where
  pub class_hops : length w.class_hops.items ≡ length policy.classes
  pub paths : (n : ℕ) → IfSome (slice_get w.class_hops.items n) (λ v. IsPathTo w.known.keys l.images (leaf_of policy n) v.items)
  pub once : IsOnce w.known.keys
  pub root : address_in w.known.keys 0 ≡ Some []
  pub places : addresses w.known.keys ≡ places l policy
  pub names : (i : ℕ) (b : Address) → address_in w.known.keys i ≡ Some b → IsNameAt l policy b (name_in w.names.items i)
  pub nodes : AreUnused l.arities stores w.known.keys w.queues.nodes.items
  pub count : length w.queues.nodes.items ≡ length w.known.keys
  pub limits_are : w.queues.limits ≡ limits
  pub passed : w.queues.passed ≡ None
  pub height : w.height ≡ length l.arities
  pub live : IsTrue w.live

-- ---- results
-- the figures of the node at an index
abbrev pub line_with : Keys → List (Option (List ℕ)) → ℕ → Figures → Line
line_with known names i f = record {
  address = unwrap_or (address_in known i) [];
  name = name_in names i;
  pushes = f.pushes;
  most = f.most;
  top = f.top;
  span = f.span;
  stores = f.stores;
}

-- the figures of a use
abbrev pub figures_of : Use → Figures
figures_of u = record { pushes = u.pushes; most = u.most; top = u.top; span = u.span; stores = option_map (λ s. s.most) u.stores }

-- the line of a node if it has a push
abbrev pub line_if : Bool → Line → List Line
line_if false line = []
line_if true line = line ∷ []

-- the lines of the first nodes
abbrev pub lines_of : Keys → List (Option (List ℕ)) → Uses → ℕ → List Line
lines_of known names uses zero = []
lines_of known names uses (suc i) = lines_of known names uses i ++ line_if (nat_lt 0 (uses i).pushes) (line_with known names i (figures_of (uses i)))

abbrev pub crossing_in : Keys → Passed → Crossing
crossing_in known x = record { event = x.event; packet = x.packet; address = unwrap_or (address_in known x.node) []; limit = x.limit }

-- the results of a sizing with these uses
pub record HasSizes (w : Sizing) (s : Watched) (r : size.Sizes) : Type 0 where
  pub nodes : map line_of r.nodes.items ≡ lines_of w.known.keys w.names.items s.uses (length w.queues.nodes.items)
  pub entries : 0 < length w.queues.nodes.items → r.entries ≡ (s.uses 0).most * (w.height + 1)
  pub overflow : option_map crossing_of r.overflow ≡ option_map (crossing_in w.known.keys) s.passed
