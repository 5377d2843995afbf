-- Properties of accepted statements.
use Rattle.policy_core.proofs.Prelude.{List, ◌≡◌, ℕ, length, ◌<◌, refl, get_or, true, false, Bool, not, AreAccepted, HaveRoot, AreKnown, NoLine, IsUnknown, is_known, IsNotListedOnce, has_catch_all, has_root, before, programs, Entry}
use Rattle.rank_defs.specs.Checks.{AreChecked}

-- a test holds if its failure is rejected
pub holds : (b : Bool) → (not b ≡ true → ⊥) → b ≡ true
holds true h = refl
holds false h = absurd (h refl)

pub root-there : (es : List Entry) → AreAccepted es → has_root es ≡ true
root-there es accepted = (let r : HaveRoot es = accepted.0.0.0.0.0 in r.1)

pub checked-there : (es : List Entry) → AreAccepted es → AreChecked (programs es)
checked-there es accepted = (let r : HaveRoot es = accepted.0.0.0.0.0 in r.0.0.1)

pub known-there : (es : List Entry) → AreAccepted es → NoLine (IsUnknown es) es
known-there es accepted = (let r : HaveRoot es = accepted.0.0.0.0.0 in let known : AreKnown es = r.0.0.0.0 in known.1)

pub strays-none : (es : List Entry) → AreAccepted es → NoLine (IsNotListedOnce es) es
strays-none es accepted = accepted.0.0.1

pub catch_all-there : (es : List Entry) → AreAccepted es → has_catch_all es ≡ true
catch_all-there es accepted = accepted.0.1

-- the names that the statement at an index uses are declared
pub known-at : (es : List Entry) (k : ℕ) (d : Entry) → NoLine (IsUnknown es) es → k < length es → is_known es (before (get_or es k d).0 es) (get_or es k d).1 ≡ true
known-at es k d known l = holds _ (known k d l)
