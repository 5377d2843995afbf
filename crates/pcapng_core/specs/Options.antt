-- The reading of an interface's options.
use Rattle.std.specs.Prelude.{◌≡◌, ◌<◌, ◌≤◌, ◌+◌, ◌-◌, ℕ, Bool, Option, Some, None, List, ◌++◌, length, take, drop, IfSome, ⊤}
use Rattle.pcapng_defs.specs.declared.interface.Unit.{Unit}
use Rattle.pcapng_defs.specs.Interface.{OptionFront, ends, gives, passes, option_front, unit_of, unit_by, option_len}
use Rattle.pcap_defs.specs.Number.{number_at}
use Rattle.pcapng_core.specs.declared.options.Front.{Front}
use Rattle.pcapng_core.specs.declared.options.Front.TheVariants as front
use Rattle.pcapng_core.specs.declared.options.Step.{Step}
use Rattle.pcapng_core.specs.declared.options.Step.TheVariants.{Ends, Gives, Passes}

-- the front of these options, of which the first four bytes were read
abbrev pub front_said : Bool → List ℕ → Front → OptionFront
front_said big options front.Ends = ends
front_said big options front.Unit = gives (unit_by (number_at big 1 option_len options))
front_said big options (front.Other filled) = passes (drop (option_len + filled) options)

-- These four bytes, with `behind` bytes after them, have this front.
abbrev pub FrontOf : Bool → List ℕ → ℕ → Front → Type 0
FrontOf big bytes behind front = (others : List ℕ) → length others ≡ behind → option_front big (bytes ++ others) ≡ front_said big (bytes ++ others) front

-- unless the options end, the option fits in the `behind` bytes after its first four
abbrev pub FitsIn : ℕ → Front → Type 0
FitsIn behind front.Ends = ⊤
FitsIn behind front.Unit = 1 ≤ behind
FitsIn behind (front.Other filled) = filled ≤ behind

-- how many bytes of the options are left
abbrev pub step_rest : Step → ℕ
step_rest (Ends rest) = rest
step_rest (Gives unit rest) = rest
step_rest (Passes rest) = rest

-- at most `count` bytes are left, and fewer after another option
abbrev pub GoesDown : ℕ → Step → Type 0
GoesDown count (Ends rest) = rest ≤ count
GoesDown count (Gives unit rest) = rest ≤ count
GoesDown count (Passes rest) = rest < count

-- the front of these options in this step
abbrev pub step_front : List ℕ → Step → OptionFront
step_front options (Ends rest) = ends
step_front options (Gives unit rest) = gives unit
step_front options (Passes rest) = passes (drop (length options - rest) options)

-- if `count` bytes of options are left, their front is that of the step
abbrev pub StandsAt : Bool → ℕ → Option (List ℕ) → Step → Type 0
StandsAt big count old step = IfSome old (λ left. count ≤ length left → option_front big (take count left) ≡ step_front (take count left) step)

-- if `count` bytes of options are left, they give the unit
abbrev pub IsUnitOf : Bool → ℕ → Option (List ℕ) → Unit → Type 0
IsUnitOf big count old unit = IfSome old (λ left. count ≤ length left → unit_of big (take count left) ≡ unit)

-- if `count` bytes of options were left, they give the same unit as `rest` of the bytes left now
abbrev pub SameUnit : Bool → ℕ → ℕ → Option (List ℕ) → Option (List ℕ) → Type 0
SameUnit big count rest None new = ⊤
SameUnit big count rest (Some old) None = ⊥
SameUnit big count rest (Some old) (Some new) = count ≤ length old → (rest ≤ length new) × (unit_of big (take count old) ≡ unit_of big (take rest new))
