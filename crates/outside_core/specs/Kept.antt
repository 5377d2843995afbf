-- What calls on a shelf and on a sink leave unchanged, and why work that uses both stops.
use Rattle.std.specs.Prelude.{◌≡◌, refl, ◌≤◌, ℕ, Bool, Option, None, Some, List, [], ◌∷◌, ◌++◌, ⊤}
use Rattle.outside_core.specs.Faults.{Rose}
use Rattle.outside_core.specs.Files.{KeepsFiles}
use Rattle.outside_core.specs.declared.stop.Stop.{Stop}
use Rattle.outside_core.specs.declared.stop.Stop.TheVariants.{Source, Sink, Memory}

-- the whole is the front and a rest
pub record IsFront (front whole : List ℕ) : Type 0 where
  pub rest : List ℕ
  pub joined : whole ≡ front ++ rest

-- a text that is observable now was observable before, and begins with what it was then
abbrev pub Begins : Option (List ℕ) → Option (List ℕ) → Type 0
Begins before None = ⊤
Begins None (Some now) = ⊥
Begins (Some before) (Some now) = IsFront before now

-- the same names may be opened, their contents are unchanged, and the fault count doesn't fall
pub record KeepsShelf {S : Type 0} (lends : S → List ℕ → Bool) (content : S → List ℕ → Option (List ℕ)) (faults : S → ℕ) (old new : S) : Type 0 where
  pub files : KeepsFiles lends content old new
  pub later : faults old ≤ faults new

-- the text written now begins with the text written before, and the fault count doesn't fall
pub record KeepsSink {K : Type 0} (written : K → Option (List ℕ)) (faults : K → ℕ) (old new : K) : Type 0 where
  pub begins : Begins (written old) (written new)
  pub later : faults old ≤ faults new

-- work stops at the source only if the source's fault count rose, and at the sink only if the
-- sink's did
abbrev pub HasCause : {S K : Type 0} → Stop → (S → ℕ) → S → S → (K → ℕ) → K → K → Type 0
HasCause Source source_faults source source' sink_faults sink sink' = Rose (source_faults source) (source_faults source')
HasCause Sink source_faults source source' sink_faults sink sink' = Rose (sink_faults sink) (sink_faults sink')
HasCause Memory source_faults source source' sink_faults sink sink' = ⊤

-- the same for work that reads no source
abbrev pub HasSinkCause : {K : Type 0} → Stop → (K → ℕ) → K → K → Type 0
HasSinkCause Source faults sink sink' = ⊥
HasSinkCause Sink faults sink sink' = Rose (faults sink) (faults sink')
HasSinkCause Memory faults sink sink' = ⊤

-- the same for work that writes no sink
abbrev pub HasSourceCause : {S : Type 0} → Stop → (S → ℕ) → S → S → Type 0
HasSourceCause Source faults source source' = Rose (faults source) (faults source')
HasSourceCause Sink faults source source' = ⊥
HasSourceCause Memory faults source source' = ⊤

Begins-one_more : Begins (Some (1 ∷ [])) (Some (1 ∷ 2 ∷ []))
Begins-one_more = record { rest = 2 ∷ []; joined = refl }
