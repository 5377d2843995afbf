-- What taps are shown of consecutive events.
use Rattle.sched_run.proofs.Prelude.{ℕ, Option, None, Some, option_map, Depart, Departed, departed_packet, next_departed, departure, leaver, Leaver, ◌∙◌, ◌≡◌, refl, sym, List, subst, [], ap, ◌++◌, ◌∷◌, append_assoc, Policy, outcomes-append, Event, outcomes, after, Outcome, SourceState, shows_both, Sight, Shows, shown_in, shown_of}
use Rattle.tap_core.specs.Lists.{Shown, departed}

shown_in-append : (policy : Policy) (os qs : List Outcome) → shown_in policy (os ++ qs) ≡ shown_in policy os ++ shown_in policy qs
shown_in-append policy [] qs = refl
shown_in-append policy (o ∷ os) qs =
    ap (λ (l : List Shown). shown_of policy o ++ l) (shown_in-append policy os qs) ∙ sym (append_assoc (shown_of policy o) (shown_in policy os) (shown_in policy qs))

-- events, and then some more
pub shown_both : (policy : Policy) (es fs : List Event) (s : SourceState) (a b c : Sight) → Shows (shown_in policy (outcomes policy es s)) a b
    → Shows (shown_in policy (outcomes policy fs (after policy es s))) b c → Shows (shown_in policy (outcomes policy (es ++ fs) s)) a c
shown_both policy es fs s a b c first second =
    let all = ap (shown_in policy) (outcomes-append policy es fs s) ∙ shown_in-append policy (outcomes policy es s) (outcomes policy fs (after policy es s)) in
    subst (λ (l : List Shown). Shows l a c) (sym all) (shows_both _ _ a b c first second)

-- a departure that found a packet shows it, and one that found none shows nothing
abbrev pub shown_departure : Option Departed → List Shown
shown_departure None = []
shown_departure (Some d) = departed d ∷ []

left_shown : (policy : Policy) (start : Option ℕ) (o : Option Leaver) → shown_departure (option_map (departed_packet policy) o) ≡ shown_in policy (departure start o ∷ [])
left_shown policy start None = refl
left_shown policy start (Some l) = refl

pub shows_departure : (policy : Policy) (s : SourceState) (start : Option ℕ) (d : Option Departed) (a b : Sight) → d ≡ next_departed policy s → Shows (shown_departure d) a b
    → Shows (shown_in policy (outcomes policy (Depart start ∷ []) s)) a b
shows_departure policy s start d a b is shows =
    subst (λ (l : List Shown). Shows l a b) (ap shown_departure is ∙ left_shown policy start (leaver s)) shows
