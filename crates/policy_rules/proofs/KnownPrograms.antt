-- All programs that names denote: they are shaped, and they are rejected if the written ones are.
use Rattle.policy_rules.proofs.Prelude.{◌∙◌, ap, List, ◌≡◌, sym, ℕ, [], ◌∷◌, refl, ◌++◌, subst, inl, inr, map, append_assoc, AllByRecursion, All, Err, IfErr, IsErrAnd, MatchResult, Ok, Result, Entry, IsValid, checked-faultless, SomeAt-append, SomeAt-right, builtins, Builtin, AreChecked, Clashes, ClashesFirstAt, DividesByZeroFirstAt, IsWide, IsWideFirstAt, MayDivideByZero, IsChecked, IsLeastAt, NoneAt, SomeAt, entries, Program, assignments, IsShaped, AreFew, IsFault, bodies, Body, IsSoundBody, AreRising, known_programs, fault_of, programs, program_in, PolicyFault}
use Rattle.rank_defs.specs.Checks.{Entry as Checkable, entry}
use Rattle.rank_defs.specs.Laws.{IsFaultless}
use Rattle.rank_defs.proofs.Table.{builtins-checked}
use Rattle.range_core.specs.declared.fault.RangeFault.{RangeFault}
use Rattle.range_core.specs.declared.fault.RangeFault.TheVariants as range
use Rattle.policy_rules.proofs.Lists.{all-append}
use Rattle.policy_rules.proofs.StatementBodies.{all_sound}
use Rattle.policy_rules.proofs.ShapedPrograms.{shaped}

over_map : {X Y : Type 0} (f : X → Y) (P : X → Type 0) (Q : Y → Type 0) → ((x : X) → P x → Q (f x)) → (xs : List X) → AllByRecursion P xs → AllByRecursion Q (map f xs)
over_map f P Q each [] all = tt
over_map f P Q each (x ∷ xs) all = (each x all.0, over_map f P Q each xs all.1)

abbrev built_in : List Program
built_in = map (λ b. b.program) builtins

shaped_built_in : AllByRecursion IsShaped built_in
shaped_built_in = over_map (λ (b : Builtin). b.program) (λ b. IsShaped b.program × IsChecked b.program) IsShaped (λ b both. both.0) builtins builtins-checked

checked_built_in : AreChecked built_in
checked_built_in = over_map (λ (b : Builtin). b.program) (λ b. IsShaped b.program × IsChecked b.program) IsChecked (λ b both. both.1) builtins builtins-checked

pub shaped_known : (es : List Entry) → AreRising es → AreFew es → All (λ e. IsValid e.1) es → AllByRecursion IsShaped (known_programs es)
shaped_known es rising few valid =
    all-append IsShaped built_in (programs es) shaped_built_in
    (over_map (λ (b : Body). program_in b.lines) (λ b. IsSoundBody b.lines) IsShaped (λ b sound. shaped b.lines sound) (bodies es) (all_sound es rising few valid))

pub checked_known : (es : List Entry) → AreChecked (programs es) → AreChecked (known_programs es)
checked_known es written = all-append IsChecked built_in (programs es) checked_built_in written

-- ---- errors

entries-append : (ps qs : List Program) → entries (ps ++ qs) ≡ entries ps ++ entries qs
entries-append [] qs = refl
entries-append (p ∷ ps) qs = ap (λ (l : List Checkable). map (entry p) (assignments p) ++ l) (entries-append ps qs) ∙ sym (append_assoc (map (entry p) (assignments p)) (entries ps) (entries qs))

module _ (Fault : Checkable → Type 0) (ps qs : List Program) (none : NoneAt Fault (entries ps)) where
  none_right : NoneAt Fault (entries (ps ++ qs)) → NoneAt Fault (entries qs)
  none_right clear = λ line some. clear line (subst (λ (l : List Checkable). SomeAt Fault l line) (sym (entries-append ps qs)) (SomeAt-right Fault (entries ps) (entries qs) line some))

  least_right : (line : ℕ) → IsLeastAt Fault (entries (ps ++ qs)) line → IsLeastAt Fault (entries qs) line
  least_right line least =
      record {
        here = elim (SomeAt-append Fault (entries ps) (entries qs) line (subst (λ (l : List Checkable). SomeAt Fault l line) (entries-append ps qs) least.here)) [
          | inl left ↦ absurd (none line left)
          | inr right ↦ right
        ];
        least = λ other some. least.least other (subst (λ (l : List Checkable). SomeAt Fault l other) (sym (entries-append ps qs)) (SomeAt-right Fault (entries ps) (entries qs) other some));
      }

faultless : IsFaultless built_in
faultless = checked-faultless built_in checked_built_in

clash_written : (es : List Entry) (line : ℕ) → ClashesFirstAt (known_programs es) line → ClashesFirstAt (programs es) line
clash_written es line at = least_right Clashes built_in (programs es) faultless.typed line at

wide_written : (es : List Entry) (line : ℕ) → IsWideFirstAt (known_programs es) line → IsWideFirstAt (programs es) line
wide_written es line at = record {
  typed = none_right Clashes built_in (programs es) faultless.typed at.typed;
  wide = least_right IsWide built_in (programs es) faultless.narrow line at.wide;
}

zero_written : (es : List Entry) (line : ℕ) → DividesByZeroFirstAt (known_programs es) line → DividesByZeroFirstAt (programs es) line
zero_written es line at = record {
  typed = none_right Clashes built_in (programs es) faultless.typed at.typed;
  narrow = none_right IsWide built_in (programs es) faultless.narrow at.narrow;
  zero = least_right MayDivideByZero built_in (programs es) faultless.divides line at.zero;
}

-- an error of all programs is one of the policy
pub fault_written : (es : List Entry) (ps : List Program) → ps ≡ known_programs es → AreFew es → (fault : RangeFault)
    → ((line : ℕ) → fault ≡ range.TypeClash line → ClashesFirstAt ps line) → ((line : ℕ) → fault ≡ range.Wide line → IsWideFirstAt ps line) → ((line : ℕ) → fault ≡ range.DivZero line → DividesByZeroFirstAt ps line) → IsFault es (fault_of fault)
fault_written es ps are few (range.TypeClash n) clash wide zero = (few, clash_written es n (subst (λ (l : List Program). ClashesFirstAt l n) are (clash n refl)))
fault_written es ps are few (range.Wide n) clash wide zero = (few, wide_written es n (subst (λ (l : List Program). IsWideFirstAt l n) are (wide n refl)))
fault_written es ps are few (range.DivZero n) clash wide zero = (few, zero_written es n (subst (λ (l : List Program). DividesByZeroFirstAt l n) are (zero n refl)))
fault_written es ps are few range.NoMemory clash wide zero = tt

-- the same for results
pub fault_answered : {X : Type 0} (es : List Entry) (ps : List Program) → ps ≡ known_programs es → AreFew es → (checked : Result X RangeFault) (result : Result X PolicyFault)
    → MatchResult checked (λ x. result ≡ Ok x) (λ e. IsErrAnd result (λ f. f ≡ fault_of e))
    → ((line : ℕ) → checked ≡ Err (range.TypeClash line) → ClashesFirstAt ps line) → ((line : ℕ) → checked ≡ Err (range.Wide line) → IsWideFirstAt ps line) → ((line : ℕ) → checked ≡ Err (range.DivZero line) → DividesByZeroFirstAt ps line) → IfErr result (IsFault es)
fault_answered es ps are few (Ok x) result cases clash wide zero = subst (λ r. IfErr r (IsFault es)) (sym cases) tt
fault_answered es ps are few (Err e) (Ok x) cases clash wide zero = tt
fault_answered es ps are few (Err e) (Err f) cases clash wide zero =
    subst (IsFault es) (sym cases) (fault_written es ps are few e (λ line is. clash line (ap Err is)) (λ line is. wide line (ap Err is)) (λ line is. zero line (ap Err is)))
