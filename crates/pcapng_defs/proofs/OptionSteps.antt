-- The unit that options give, read option by option.
use Rattle.pcapng_defs.proofs.Prelude.{List, refl, ℕ, ◌≡◌, ap, arith, length, ◌∙◌, ◌≤◌, Bool, sym, ◌+◌, eqb, ltb, ◌&&◌, ◌<◌, length-drop, suc, zero, cond_both, ltb-false, cond-true, lt-ltb, ⊤, short_at, UnitsGoOptionByOption}
use Rattle.pcapng_defs.specs.Interface.{usual_unit, OptionFront, ends, gives, passes, option_front, at_option, unit_from, unit_of, filled, option_len, unit_code, unit_len}

-- fewer bytes are left after an option
abbrev Shrinks : List ℕ → OptionFront → Type 0
Shrinks bytes (passes others) = length others < length bytes
Shrinks bytes _ = ⊤

option_front-shrinks : (big : Bool) (bytes : List ℕ) → Shrinks bytes (option_front big bytes)
unfolding option_front
option_front-shrinks big bytes =
    cond_both (ltb (length bytes) option_len) _ _ (Shrinks bytes) (λ e. tt) (λ long.
    cond_both (eqb (short_at big 0 bytes) 0) _ _ (Shrinks bytes) (λ e. tt) (λ more.
    cond_both (ltb (length bytes) (option_len + filled (short_at big 2 bytes))) _ _ (Shrinks bytes) (λ e. tt) (λ whole.
    cond_both (eqb (short_at big 0 bytes) unit_code && eqb (short_at big 2 bytes) unit_len) _ _ (Shrinks bytes) (λ e. tt) (λ other.
    omega (arith, ltb-false _ _ whole, length-drop (option_len + filled (short_at big 2 bytes)) bytes)))))

at_option-same : (n m : ℕ) (big : Bool) (bytes : List ℕ) (front : OptionFront) → Shrinks bytes front → length bytes ≤ suc n → length bytes ≤ suc m
    → ((others : List ℕ) → length others ≤ n → length others ≤ m → unit_from n big others ≡ unit_from m big others)
    → at_option (λ others. unit_from n big others) front ≡ at_option (λ others. unit_from m big others) front
at_option-same n m big bytes ends less l k next = refl
at_option-same n m big bytes (gives unit) less l k next = refl
at_option-same n m big bytes (passes others) less l k next = next others (omega arith) (omega arith)

-- after an option, as many steps as there are bytes are enough
at_option-whole : (big : Bool) (bytes : List ℕ) (front : OptionFront) → Shrinks bytes front
    → ((others : List ℕ) → length others ≤ length bytes → unit_from (length bytes) big others ≡ unit_of big others)
    → at_option (λ others. unit_from (length bytes) big others) front ≡ at_option (unit_of big) front
at_option-whole big bytes ends less next = refl
at_option-whole big bytes (gives unit) less next = refl
at_option-whole big bytes (passes others) less next = next others (omega arith)

-- without bytes there are no options
unit_from-nothing : (more : ℕ) (big : Bool) (bytes : List ℕ) → length bytes ≤ 0 → unit_from more big bytes ≡ usual_unit
unfolding unit_from option_front
unit_from-nothing zero big bytes none = refl
unit_from-nothing (suc more) big bytes none =
    ap (at_option (λ others. unit_from more big others)) (cond-true _ _ _ (lt-ltb (length bytes) option_len (omega (arith, none))))

-- more steps than bytes find the same unit
unit_from-same : (n m : ℕ) (big : Bool) (bytes : List ℕ) → length bytes ≤ n → length bytes ≤ m → unit_from n big bytes ≡ unit_from m big bytes
unfolding unit_from
unit_from-same zero m big bytes l k = sym (unit_from-nothing m big bytes l)
unit_from-same (suc n) zero big bytes l k = unit_from-nothing (suc n) big bytes k
unit_from-same (suc n) (suc m) big bytes l k =
    at_option-same n m big bytes (option_front big bytes) (option_front-shrinks big bytes) l k (λ others x y. unit_from-same n m big others x y)

pub units_go_option_by_option : UnitsGoOptionByOption
unfolding unit_from
units_go_option_by_option big bytes =
    unit_from-same (length bytes) (suc (length bytes)) big bytes (omega arith) (omega arith)
    ∙ at_option-whole big bytes (option_front big bytes) (option_front-shrinks big bytes)
    (λ others x. unit_from-same (length bytes) (length others) big others x (omega arith))
