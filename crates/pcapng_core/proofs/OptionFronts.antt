-- The first four bytes of an option.
use Rattle.pcapng_core.proofs.Prelude.{◌≡◌, ℕ, List, sym, ◌∙◌, ap, arith, length, ◌+◌, ◌<◌, ◌≤◌, ◌++◌, drop, refl, Bool, ◌≢◌, eqb, length-append, ◌&&◌, if◌then◌else◌, ltb, cond-true, lt-ltb, and_parts, cond-false, cond_both, eq-eqb, eqb-true, le-ltb, ne_eqb, and_from, false_from_ne_true, number_at-append, short_at, number_at, option_len, ends, gives, passes, unit_by, OptionFront, filled, unit_code, unit_len, FrontOf}
use Rattle.pcapng_defs.specs.Interface.{option_front}
use Rattle.pcapng_core.specs.declared.options.Front.TheVariants as front

-- the front of options with this code and length in their first four bytes, and `behind` bytes
-- after them
abbrev Said : Bool → List ℕ → ℕ → ℕ → ℕ → OptionFront
Said big options behind code len =
    if eqb code 0 then ends
    else if ltb (option_len + behind) (option_len + filled len) then ends
    else if eqb code unit_code && eqb len unit_len then gives (unit_by (number_at big 1 option_len options))
    else passes (drop (option_len + filled len) options)

front-said : (big : Bool) (bytes others : List ℕ) (behind code len : ℕ) → length bytes ≡ option_len → code ≡ short_at big 0 bytes → len ≡ short_at big 2 bytes → length others ≡ behind
    → option_front big (bytes ++ others) ≡ Said big (bytes ++ others) behind code len
unfolding option_front
front-said big bytes others behind code len four code_is len_is size =
    let xs = bytes ++ others in
    let whole : length (bytes ++ others) ≡ option_len + behind = omega (arith, four, size, length-append bytes others) in
    let code_same : short_at big 0 (bytes ++ others) ≡ code = number_at-append big 2 0 bytes others (omega (arith, four)) ∙ sym code_is in
    let len_same : short_at big 2 (bytes ++ others) ≡ len = number_at-append big 2 2 bytes others (omega (arith, four)) ∙ sym len_is in
    let at : ℕ → ℕ → ℕ → OptionFront = λ n code len.
    if eqb code 0 then ends
    else if ltb n (option_len + filled len) then ends
    else if eqb code unit_code && eqb len unit_len then gives (unit_by (number_at big 1 option_len xs))
    else passes (drop (option_len + filled len) xs) in
    cond-false _ _ _ (le-ltb (length xs) option_len (omega (arith, whole)))
    ∙ ap (λ n. at n (short_at big 0 xs) (short_at big 2 xs)) whole
    ∙ ap (λ m. at (option_len + behind) m (short_at big 2 xs)) code_same
    ∙ ap (λ m. at (option_len + behind) code m) len_same

module _ (big : Bool) (bytes : List ℕ) (behind code len : ℕ) (four : length bytes ≡ option_len) (code_is : code ≡ short_at big 0 bytes) (len_is : len ≡ short_at big 2 bytes) where
  -- options end at code 0
  pub front-last : code ≡ 0 → FrontOf big bytes behind front.Ends
  front-last e = λ others size. front-said big bytes others behind code len four code_is len_is size ∙ cond-true _ _ _ (eq-eqb code 0 e)

  -- and at an option that doesn't fit
  pub front-long : behind < filled len → FrontOf big bytes behind front.Ends
  front-long long = λ others size.
      front-said big bytes others behind code len four code_is len_is size
      ∙ cond_both (eqb code 0) _ _ (λ (o : OptionFront). o ≡ ends) (λ e. refl) (λ e. cond-true _ _ _ (lt-ltb (option_len + behind) (option_len + filled len) (omega (arith, long))))

  -- an option that gives the unit
  pub front-unit : filled len ≤ behind → code ≡ unit_code → len ≡ unit_len → FrontOf big bytes behind front.Unit
  front-unit short unit one = λ others size.
      front-said big bytes others behind code len four code_is len_is size
      ∙ cond-false _ _ _ (ne_eqb code 0 (λ e. omega (arith, unit, e)))
      ∙ cond-false _ _ _ (le-ltb (option_len + behind) (option_len + filled len) (omega (arith, short)))
      ∙ cond-true _ _ _ (and_from (eqb code unit_code) (eqb len unit_len) (eq-eqb code unit_code unit) (eq-eqb len unit_len one))

  -- another option
  pub front-other : filled len ≤ behind → code ≢ 0 → (code ≡ unit_code → len ≡ unit_len → ⊥) → FrontOf big bytes behind (front.Other (filled len))
  front-other short more other = λ others size.
      front-said big bytes others behind code len four code_is len_is size
      ∙ cond-false _ _ _ (ne_eqb code 0 more)
      ∙ cond-false _ _ _ (le-ltb (option_len + behind) (option_len + filled len) (omega (arith, short)))
      ∙ cond-false _ _ _ (false_from_ne_true (eqb code unit_code && eqb len unit_len) (λ e.
      let both = and_parts (eqb code unit_code) (eqb len unit_len) e in
      other (eqb-true code unit_code both.0) (eqb-true len unit_len both.1)))
