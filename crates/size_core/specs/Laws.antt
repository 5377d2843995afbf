-- The laws that follow from the definitions of sizes.
use Rattle.std.specs.Prelude.{◌≡◌, ℕ, Bool, List, length, map, option_map}
use Rattle.tree_defs.specs.Tree.{SameShape}
use Rattle.tree_defs.specs.Topology.{topology_of}
use Rattle.policy_defs.specs.Policy.{Policy}
use Rattle.policy_defs.specs.Accepted.{IsAccepted}
use Rattle.sched_defs.specs.SourceState.{start}
use Rattle.sched_defs.specs.Events.{Event, outcomes, CanMake}
use Rattle.embed_defs.specs.GoodMaps.{IsGoodMap}
use Rattle.sched_embedded.specs.Laid.{Laid}
use Rattle.size_core.specs.declared.limits.Limits.{Limits}
use Rattle.size_core.specs.declared.size.Sizes as size
use Rattle.size_core.specs.declared.sizing.Sizing.{Sizing}
use Rattle.size_core.specs.Hops.{Watched}
use Rattle.size_core.specs.Watching.{Watches, WatchesAll}
use Rattle.size_core.specs.Results.{IsUnused, HasSizes}
use Rattle.size_core.specs.Sizes.{Sized, sizes_after, line_of, crossing_of, AreSizesOf}

-- a good map for a policy's tree
pub record Fits (l : Laid) (policy : Policy) : Type 0 where
  pub good : IsGoodMap (length l.arities) l.images
  pub shape : SameShape (topology_of policy.tree) l.images

-- The results of a sizing of a whole run are the sizes of its outcomes.
abbrev pub SizesAreOfTheRun : Type 0
SizesAreOfTheRun = (l : Laid) (policy : Policy) (limits : Limits) (stores : Bool) (event : ℕ) (events : List Event) (before after : Sizing) (r : size.Sizes)
    → IsAccepted policy → CanMake policy events (start policy) → Fits l policy
    → IsUnused l policy limits stores before → WatchesAll before event (outcomes policy events (start policy)) after
    → ((s : Watched) → Watches after s → HasSizes after s r)
    → AreSizesOf l policy (sizes_after l policy limits stores event (outcomes policy events (start policy))) r

-- the same lines, entries and overflow
pub record AreSame (r q : size.Sizes) : Type 0 where
  pub nodes : map line_of r.nodes.items ≡ map line_of q.nodes.items
  pub entries : r.entries ≡ q.entries
  pub overflow : option_map crossing_of r.overflow ≡ option_map crossing_of q.overflow

-- A run has one result.
abbrev pub SizesAreDetermined : Type 0
SizesAreDetermined = (l : Laid) (policy : Policy) (s : Sized) (r q : size.Sizes) → Fits l policy → AreSizesOf l policy s r → AreSizesOf l policy s q → AreSame r q
