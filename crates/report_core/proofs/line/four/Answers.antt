use Rattle.std.proofs.Common.{◌≡◌, ◌/◌, ◌%◌, ◌∷◌, [], ℕ, arith, refl}
use Rattle.report_core.proofs.DigitLaws.{pairs_at}
use Rattle.report_core.proofs.line.four.Goals as goal

-- four bytes that are equal one by one
equal : (a a' b b' x x' y y' : ℕ) → a ≡ a' → b ≡ b' → x ≡ x' → y ≡ y' → (a ∷ b ∷ x ∷ y ∷ []) ≡ (a' ∷ b' ∷ x' ∷ y' ∷ [])
equal a a' b b' x x' y y' p q r s = rw (p, q, r, s) refl

pub returns : goal.returns
returns c =
    let p = pairs_at (c.args.value / 100) (omega (arith, c.requires.few)) in
    let q = pairs_at (c.args.value % 100) (omega arith) in
    equal _ _ _ _ _ _ _ _ p.0 p.1 q.0 q.1
