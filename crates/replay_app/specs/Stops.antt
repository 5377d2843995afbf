-- The exit statuses of a program that is stopped.
use Rattle.std.specs.Prelude.{◌≡◌, refl, ℕ, [], ◌∷◌, map}
use Rattle.outside_core.specs.declared.stop.Stop.{Stop}
use Rattle.outside_core.specs.declared.stop.Stop.TheVariants.{Source, Sink, Memory}

abbrev pub stop_status : Stop → ℕ
stop_status Source = 8
stop_status Sink = 9
stop_status Memory = 10

statuses_of_stops : map stop_status (Source ∷ Sink ∷ Memory ∷ []) ≡ 8 ∷ 9 ∷ 10 ∷ []
statuses_of_stops = refl
