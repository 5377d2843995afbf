-- A report as contracts see it.
use Rattle.std.specs.Prelude.{ℕ, ◌≡◌, ◌+◌, ◌≤◌, Bool, Option, Result, List, length, is_ok, OnErr}
use Rattle.outside_core.specs.Faults.{Rose}
use Rattle.outside_core.specs.Written.{Appended}
use Rattle.outside_core.specs.Text.{appended, IsCut}

-- the bytes held but not yet written, and whether each write so far succeeded
pub record Gathered : Type 0 where
  pub unwritten : List ℕ
  pub live : Bool

-- the text of a report with its sink: the bytes written, then the bytes held
abbrev pub text_of : Option (List ℕ) → Gathered → Option (List ℕ)
text_of written report = appended written report.unwritten

-- the text grew by these bytes
abbrev pub Tells : {K : Type 0} → (K → Option (List ℕ)) → K → Gathered → K → Gathered → List ℕ → Type 0
Tells written sink report sink' report' bytes = Appended (text_of (written sink) report) (text_of (written sink') report') bytes

-- a prefix of the text and the bytes after it was written
abbrev pub CutsOff : {K : Type 0} → (K → Option (List ℕ)) → K → Gathered → K → List ℕ → Type 0
CutsOff written sink report sink' bytes = IsCut (text_of (written sink) report) bytes (written sink')

-- A call fails only if the sink does. More can be reported after it exactly if it didn't fail.
pub record FailsAtSink {K X E : Type 0} (faults : K → ℕ) (result : Result X E) (sink sink' : K) (report : Gathered) : Type 0 where
  pub cause : OnErr result (Rose (faults sink) (faults sink'))
  pub live : report.live ≡ is_ok result

-- the greatest number of bytes held between two calls
abbrev pub limit : ℕ
limit = 65536

-- room for the longest line, in bytes
abbrev pub line_room : ℕ
line_room = 2048

-- the first `held` bytes are in use, and after them there is room for a line
abbrev pub HasRoom : ℕ → List ℕ → Type 0
HasRoom held bytes = (held ≤ limit) × (length bytes ≡ limit + line_room)
