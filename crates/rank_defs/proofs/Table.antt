-- The built-in transactions are well-shaped and checked.
use Rattle.rank_defs.proofs.Prelude.{refl, ℕ, arith, ◌≡◌, false, true, [], ◌∷◌, List, ◌≤◌, Bool, ◌^◌, rules, lit≤, ◌&&◌, ints, pos, ◌==◌, fifo, rr, counter, lstf, same_name, shortest, stfq, strict, IsCheckedAssignment, IsChecked, depth_of, Program, Assignment, max_rank, ArePartsNarrow, declared, range, IsNarrow, counts, sort_of, parts_divide, IsShaped, IsSpan, AreDeclared, IsAim, IsShapedAssignment}
use Rattle.rank_defs.specs.Laws.{BuiltinsAreChecked}

counter-span : IsSpan counter
counter-span = record { low = omega arith; high = omega arith; most = omega arith }

-- an interval of natural numbers up to 2^100
pub narrow_to : (a b : ℕ) → b ≤ 2 ^ 100 → IsNarrow (range (pos a) (pos b))
narrow_to a b h = record { low = omega (arith, ints); high = omega (arith, ints) }

to_max : IsNarrow (range (pos 0) (pos max_rank))
to_max = narrow_to 0 max_rank (lit≤ tt)

shallow : (p : Program) (a : Assignment) → IsAim p a.aim → AreDeclared p a.formula → depth_of a.formula ≤ 64 → IsShapedAssignment p a
shallow p a aim variables depth = record { aim = aim; variables = variables; depth = depth }

sound_one : (p : Program) (a : Assignment) → sort_of a.formula ≡ counts → ArePartsNarrow (declared p) a.formula → parts_divide (declared p) a.formula ≡ true → IsCheckedAssignment p a
sound_one p a typed narrow divides = record { typed = typed; narrow = narrow; divides = divides }

fifo-shaped : IsShaped fifo
fifo-shaped = record { keeps = tt; eaches = tt; push = tt; pop = tt; leaves_rank = tt }

fifo-checked : IsChecked fifo
fifo-checked = record { push = tt; pop = tt }

strict-shaped : IsShaped strict
strict-shaped =
    record { keeps = tt; eaches = tt; push = (shallow _ _ tt tt (lit≤ tt), tt); pop = tt; leaves_rank = tt }

strict-checked : IsChecked strict
strict-checked = record { push = (sound_one _ _ refl (narrow_to 0 65535 (lit≤ tt)) refl, tt); pop = tt }

shortest-shaped : IsShaped shortest
shortest-shaped =
    record { keeps = tt; eaches = tt; push = (shallow _ _ tt tt (lit≤ tt), tt); pop = tt; leaves_rank = tt }

shortest-checked : IsChecked shortest
shortest-checked =
    record { push = (sound_one _ _ refl (narrow_to 0 4294967295 (lit≤ tt)) refl, tt); pop = tt }

lstf-shaped : IsShaped lstf
lstf-shaped =
    record { keeps = tt; eaches = tt; push = (shallow _ _ tt (tt, tt) (lit≤ tt), tt); pop = tt; leaves_rank = tt }

lstf-checked : IsChecked lstf
lstf-checked =
    record { push = (sound_one _ _ refl (to_max, narrow_to 0 1000000000000 (lit≤ tt), narrow_to 0 4611687018427387903 (lit≤ tt)) refl, tt); pop = tt }

rr-shaped : IsShaped rr
rr-shaped =
    record { keeps = (counter-span, tt); eaches = (counter-span, tt); push = (shallow _ _ tt (omega arith, omega arith) (lit≤ tt), (shallow _ _ (omega arith) (tt, tt) (lit≤ tt), tt)); pop = (shallow _ _ (omega arith) tt (lit≤ tt), tt); leaves_rank = (λ e. cc, tt) }

rr-checked : IsChecked rr
rr-checked =
    record { push = (sound_one _ _ refl (to_max, to_max, to_max) refl, (sound_one _ _ refl (to_max, narrow_to 1 1 (lit≤ tt), narrow_to 1 4611686018427387904 (lit≤ tt)) refl, tt)); pop = (sound_one _ _ refl to_max refl, tt) }

stfq-shaped : IsShaped stfq
stfq-shaped =
    record { keeps = (counter-span, tt); eaches = (counter-span, tt); push = (shallow _ _ tt (omega arith, omega arith) (lit≤ tt), (shallow _ _ (omega arith) (tt, ((tt, tt), tt)) (lit≤ tt), tt)); pop = (shallow _ _ (omega arith) tt (lit≤ tt), tt); leaves_rank = (λ e. cc, tt) }

stfq-checked : IsChecked stfq
stfq-checked =
    record { push = (sound_one _ _ refl (to_max, to_max, to_max) refl, (sound_one _ _ refl (to_max, ((narrow_to 0 4294967295 (lit≤ tt), narrow_to 1000 1000 (lit≤ tt), narrow_to 0 4294967295000 (lit≤ tt)), narrow_to 1 65535 (lit≤ tt), narrow_to 0 4294967295000 (lit≤ tt)), narrow_to 0 4611690313394682903 (lit≤ tt)) refl, tt)); pop = (sound_one _ _ refl to_max refl, tt) }

pub builtins-checked : BuiltinsAreChecked
builtins-checked =
    ((fifo-shaped, fifo-checked), ((strict-shaped, strict-checked), ((shortest-shaped, shortest-checked), ((lstf-shaped, lstf-checked), ((rr-shaped, rr-checked), ((stfq-shaped, stfq-checked), tt))))))

pub same_name-refl : (name : List ℕ) → same_name name name ≡ true
same_name-refl [] = refl
same_name-refl (a ∷ xs) = grind (arith, rules, same_name-refl xs)

both : (a b : Bool) → (a && b) ≡ true → (a ≡ true) × (b ≡ true)
both true b h = (refl, h)
both false b h = cc

pub same_name-is : (a b : List ℕ) → same_name a b ≡ true → a ≡ b
same_name-is [] [] h = refl
same_name-is (a ∷ xs) (b ∷ ys) h =
    let parts = both (a == b) (same_name xs ys) h
    in let rest : xs ≡ ys = same_name-is xs ys parts.1
    in let first : a ≡ b = grind (arith, rules, parts.0)
    in rw (first, rest) refl
same_name-is [] (b ∷ ys) h = cc
same_name-is (a ∷ xs) [] h = cc
