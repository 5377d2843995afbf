-- Given maps that are read, and must be embeddings.
use Rattle.replay_app.proofs.Prelude.{subst, sym, ℕ, List, ◌≡◌, inl, inr, Option, None, Some, Err, Ok, Result, Answer, stops, Given, MapFault, Policy, Topology, IsMapFile, names_of, Unbroken}
use Rattle.report_core.specs.declared.fault.FaultKind.TheVariants as kind
use Rattle.replay_app.specs.declared.not_run.NotRun.{NotRun}
use Rattle.replay_app.specs.declared.not_run.NotRun.TheVariants.{Rejected, Stopped}
use Rattle.replay_app.specs.Decided.{rejected, AreSame, IsOfKind, IsDecided}
use Rattle.replay_app.specs.Routes.{IsRouteRead}
use Rattle.replay_app.specs.Via.{ForMap}
use Rattle.replay_app.proofs.FollowLaws.{refused-each}
use Rattle.replay_app.proofs.DecidedLaws.{input_same, alone}
use Rattle.replay_app.proofs.ViaInputs.{maps_are_one}

module _ (policy : Policy) (middle : Topology) where
  -- ---- outputs
  module _ (text : List ℕ) (after : Given → Answer → Type 0) where
    through : (given : Given) (fault : Option MapFault) → IsMapFile policy middle text (record { given = given; fault = fault })
        → AreSame (ForMap policy middle text after) (Unbroken (names_of policy) fault (after given))
    through given fault is = input_same kind.Map _ _ _ (maps_are_one policy middle text) (record { given = given; fault = fault }) is

    -- the map is an embedding
    pub route_same : (given : Given) → IsRouteRead policy middle text (Ok given) → AreSame (ForMap policy middle text after) (after given)
    route_same given is = through given None is

    -- the text or its map is rejected, or can't be read
    pub route_ends : {J : Type 0} (run : J → Answer → Type 0) (e : NotRun) → IsRouteRead policy middle text (Err e) → IsOfKind {T = Given} kind.Map (Err e)
        → (r : Result J NotRun) → r ≡ Err e → IsDecided (ForMap policy middle text after) run r
    route_ends run e is same r left = subst (IsDecided (ForMap policy middle text after) run) (sym left) (by e is same)
      where
        by : (e : NotRun) → IsRouteRead policy middle text (Err e) → IsOfKind {T = Given} kind.Map (Err e) → IsDecided (ForMap policy middle text after) run (Err e)
        by (Rejected x) (inl h) same = record {
          to = refused-each kind.Map _ _ _ (maps_are_one policy middle text) (λ a. a ≡ rejected x) x.cause.code x.cause.place h.0 (sym (alone kind.Map x same h.1));
          from = λ a e. rw (e, alone kind.Map x same h.1) (stops x.cause.code x.cause.place h.0);
        }
        by (Rejected x) (inr b) same =
            let s = through b.given (Some b.fault) b.map_file in
            record { to = λ a h. rw b.is (s.to a h); from = λ a h. s.from a (rw (← b.is) h) }
        by (Stopped stop) is same = tt
