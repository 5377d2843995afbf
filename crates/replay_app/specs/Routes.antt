-- Reading given maps, which must be embeddings.
use Rattle.std.specs.Prelude.{◌≡◌, ◌⊎◌, ℕ, None, Some, List, Result, Ok, Err}
use Rattle.policy_defs.specs.Policy.{Policy}
use Rattle.tree_defs.specs.Topology.{Topology}
use Rattle.mapcheck_core.specs.declared.given.Given.{Given}
use Rattle.mapcheck_core.specs.declared.fault.MapFault.{MapFault}
use Rattle.replay_app.specs.Decided.{rejected}
use Rattle.replay_app.specs.Via.{IsMapRefused, IsMapFile, names_of, map_refusal}
use Rattle.replay_app.specs.declared.not_run.NotRun.{NotRun}
use Rattle.replay_app.specs.declared.not_run.NotRun.TheVariants.{Rejected, Stopped}
use Rattle.replay_app.specs.declared.not_run.Rejection.{Rejection}

-- the text gives a map that breaks a clause of an embedding, and the output says so
pub record IsBroken (policy : Policy) (middle : Topology) (text : List ℕ) (r : Rejection) : Type 0 where
  pub given : Given
  pub fault : MapFault
  pub map_file : IsMapFile policy middle text (record { given = given; fault = Some fault })
  pub is : rejected r ≡ map_refusal (names_of policy) fault

-- the text gives a map that is an embedding; or the text or its map is rejected
abbrev pub IsRouteRead : Policy → Topology → List ℕ → Result Given NotRun → Type 0
IsRouteRead policy middle text (Ok given) = IsMapFile policy middle text (record { given = given; fault = None })
IsRouteRead policy middle text (Err (Rejected r)) = (IsMapRefused policy text r.cause.code r.cause.place × (r.before ≡ None)) ⊎ IsBroken policy middle text r
IsRouteRead policy middle text (Err (Stopped stop)) = Unit {0}
