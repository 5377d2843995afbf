-- The least lines at fault in lists, from those in their parts.
use Rattle.range_core.proofs.Prelude.{map, ◌≡◌, subst, take, List, arith, sym, ℕ, [], ap, refl, ◌++◌, ◌∷◌, get_or, length, suc, zero, ◌<◌, ◌∙◌, map-append, append-nil, append_assoc, AllByRecursion, always-tame, entry, entries, Entry, IsWide, MayDivideByZero, AreChecked, Clashes, lesser_line, program_of, assignments, Program, Transaction, AreLeast}
use Rattle.std.proofs.Math.Seq.{take-suc}
use Rattle.rank_defs.specs.Tame.{IsAlwaysTame}
use Rattle.rank_defs.proofs.Faults.{SomeAt-left, SomeAt-right}
use Rattle.rank_defs.proofs.LeastFaults.{least-append}
use Rattle.range_core.specs.declared.lines.Lines.{Lines}

-- the lesser lines of two, error by error
abbrev pub lesser_lines : Lines → Lines → Lines
lesser_lines a b =
    record { clash = lesser_line a.clash b.clash; wide = lesser_line a.wide b.wide; zero = lesser_line a.zero b.zero }

pub AreLeast-append : (xs ys : List Entry) (a b : Lines) → AreLeast xs a → AreLeast ys b → AreLeast (xs ++ ys) (lesser_lines a b)
AreLeast-append xs ys a b h k =
    record { clash = least-append Clashes xs ys a.clash b.clash h.clash k.clash; wide = least-append IsWide xs ys a.wide b.wide h.wide k.wide; zero = λ n. least-append MayDivideByZero xs ys a.zero b.zero (h.zero (λ line f. n line (SomeAt-left IsWide xs ys line f))) (k.zero (λ line f. n line (SomeAt-right IsWide xs ys line f))) }

entries-append : (ps qs : List Program) → entries (ps ++ qs) ≡ entries ps ++ entries qs
entries-append [] qs = refl
entries-append (p ∷ ps) qs = rw (entries-append ps qs) (sym (append_assoc (map (entry p) (assignments p)) (entries ps) (entries qs)))

-- a prefix and the next element
pub map-next : {A B : Type 0} (f : A → B) (xs : List A) (i : ℕ) (x : A) → x ≡ get_or xs i x → i < length xs → map f (take (suc i) xs) ≡ map f (take i xs) ++ f x ∷ []
map-next f xs i x e h = rw (take-suc xs i x h, ← e) (map-append f (take i xs) (x ∷ []))

pub entries-next : (xs : List Transaction) (i : ℕ) (x : Transaction) → x ≡ get_or xs i x → i < length xs → entries (map program_of (take (suc i) xs)) ≡ entries (map program_of (take i xs)) ++ map (entry (program_of x)) (assignments (program_of x))
entries-next xs i x e h =
    let p = program_of x
    in rw (map-next program_of xs i x e h) (entries-append (map program_of (take i xs)) (p ∷ []) ∙ ap (λ (es : List Entry). entries (map program_of (take i xs)) ++ es) (append-nil (map (entry p) (assignments p))))

-- a fact about all transactions holds for each one
pub all-at : (P : Program → Type 0) (xs : List Transaction) (i : ℕ) (x : Transaction) → x ≡ get_or xs i x → i < length xs → AllByRecursion P (map program_of xs) → P (program_of x)
all-at P [] i x e h a = absurd (omega (arith, h))
all-at P (y ∷ ys) zero x e h a = subst (λ (z : Transaction). P (program_of z)) (sym e) a.0
all-at P (y ∷ ys) (suc i) x e h a = all-at P ys i x e (omega (arith, h)) a.1

-- checked transactions are tame
pub all-tame : (ps : List Program) → AreChecked ps → AllByRecursion IsAlwaysTame ps
all-tame [] h = tt
all-tame (p ∷ ps) h = (always-tame p h.0, all-tame ps h.1)
