-- The fault of a script is the cause of its rejection.
use Rattle.std.proofs.Common.{◌≡◌, ◌≢◌, ◌<◌, ℕ, List, length, refl}
use Rattle.events_core.specs.Script.{IsFirstFault, most_bytes, code_of, place_of}
use Rattle.events_core.specs.declared.fault.ScriptFault.{ScriptFault}
use Rattle.events_core.specs.declared.fault.ScriptFault.TheVariants.{Line, TooMany, TooLong, NoMemory}
use Rattle.replay_app.specs.Scripts.{IsScriptRefused, too_long, at_fault}

pub refused_for : (text : List ℕ) (f : ScriptFault) → f ≢ NoMemory → (f ≡ TooLong → most_bytes < length text) → ((n : ℕ) → f ≡ Line n → IsFirstFault text (Line n))
    → ((n : ℕ) → f ≡ TooMany n → IsFirstFault text (TooMany n)) → IsScriptRefused text (code_of f) (place_of f)
refused_for text (Line n) some long line many = at_fault (Line n) (line n refl)
refused_for text (TooMany n) some long line many = at_fault (TooMany n) (many n refl)
refused_for text TooLong some long line many = too_long (long refl)
refused_for text NoMemory some long line many = absurd (some refl)
