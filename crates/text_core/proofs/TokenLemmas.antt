-- The extent of the longest token, and one more token after others.
use Rattle.text_core.proofs.Prelude.{length, ◌≡◌, arith, ◌+◌, List, [], ap, drop, sym, ◌∷◌, subst, take, ◌≤◌, Some, refl, ℕ, ◌-◌, true, ◌++◌, ◌<◌, Bool, cond, false, get_or, length-drop, inl, ◌||◌, inr, ◌⊎◌, take_all, prefix_len, StandIn, begun, token_in, is_run_start, is_run_byte, after_blanks, Token, TokenKind, Dialect}

-- the token has at least one byte, and lies in the bytes
pub record Fits (n : ℕ) (bs : List ℕ) : Type 0 where
  pub some : 0 < n
  pub inside : n ≤ length bs

-- the outcome of a test
pub chosen : {A : Type 0} (b : Bool) (x y z : A) → cond b x y ≡ z → ((b ≡ true) × (x ≡ z)) ⊎ ((b ≡ false) × (y ≡ z))
chosen true x y z e = inl (refl, e)
chosen false x y z e = inr (refl, e)

-- a run whose first byte passes has at least one byte
pub prefix_len-some : (p : ℕ → Bool) (bs : List ℕ) → 0 < length bs → p (get_or bs 0 0) ≡ true → 0 < prefix_len p bs
prefix_len-some p [] some first = absurd (omega arith)
prefix_len-some p (b ∷ bs) some first = rw first (omega arith)

-- the rest from an offset on
pub rest-from : (i : ℕ) (line : List ℕ) → take (length line - i) (drop i line) ≡ drop i line
rest-from i line = take_all _ (drop i line) (omega (arith, length-drop i line))

pub either : (a b : Bool) → true ≡ a → a || b ≡ true
either a b e = ap (λ v. v || b) (sym e)

-- one more token follows the others
pub Stand-push : (d : Dialect) (line : List ℕ) (from : ℕ) (ts : List Token) (k : TokenKind) (at n : ℕ) → StandIn d line from ts at → token_in d (drop at line) ≡ Some (begun k n) → 0 < n → at + n ≤ length line → StandIn d line from (ts ++ record { kind = k; start = at; end = at + n } ∷ []) (after_blanks line (at + n))
Stand-push d line from [] k at n stand token some inside =
    let same : n ≡ at + n - at = omega arith in
    (stand, omega arith, inside, subst (λ m. token_in d (drop at line) ≡ Some (begun k m)) same token, refl)
Stand-push d line from (t ∷ ts) k at n stand token some inside =
    (stand.0, stand.1, stand.2, stand.3, Stand-push d line t.end ts k at n stand.4 token some inside)

pub run_byte : (b : ℕ) → is_run_start b ≡ true → is_run_byte b ≡ true
run_byte b start = rw start refl
