-- Classes built from statements, one by one.
use Rattle.policy_core.proofs.Prelude.{List, ◌≡◌, ℕ, ap, sym, [], ◌∙◌, arith, length, ◌<◌, ◌∷◌, refl, get_or, Some, map, None, ◌++◌, ◌+◌, take, length-append, slice_index, append-nil, map_push, cons_option, given-more, given-within, entries_of, Declared, classes_in, marks_of, sense_of, Attrs, Condition, Test, Statement, Made, made, made_of}
use Rattle.policy_text_defs.specs.declared.statement.Statement.TheVariants as statement
use Rattle.policy_rules.specs.Resolved.{class_in}
use Rattle.policy_core.specs.declared.parts.Class.{Class}

abbrev pub made_with : Declared → ℕ → Made
made_with d n = record { marks = d.marks; conditions = d.conditions; leaf = n }

pub made_of-more : (ds : List Declared) (d : Declared) (leaves : List ℕ) → length ds < length leaves → made_of (ds ++ d ∷ []) leaves ≡ made_of ds leaves ++ made_with d (slice_index leaves (length ds)) ∷ []
made_of-more [] d [] within = absurd (omega arith)
made_of-more [] d (n ∷ leaves) within = refl
made_of-more (e ∷ ds) d [] within = absurd (omega arith)
made_of-more (e ∷ ds) d (n ∷ leaves) within = ap (λ all. made_with e n ∷ all) (made_of-more ds d leaves (omega arith))

-- the classes that the first lines give, each with its leaf
pub record AreMade (lines : List (ℕ × Statement)) (i : ℕ) (leaves : List ℕ) (all : List Class) : Type 0 where
  pub made_so_far : map made all ≡ made_of (classes_in (entries_of (take i lines))) leaves
  pub counted : length all ≡ length (classes_in (entries_of (take i lines)))

pub class-more : (lines : List (ℕ × Statement)) (i : ℕ) (l : ℕ × Statement) (d : Declared) (leaves : List ℕ) (old new : List Class) (c : Class) (k : ℕ)
    → i < length lines → l ≡ get_or lines i l → class_in (sense_of l.1) ≡ Some d → length leaves ≡ length (classes_in (entries_of lines))
    → AreMade lines i leaves old → new ≡ old ++ c ∷ [] → made c ≡ made_with d (slice_index leaves k) → k ≡ length old → AreMade lines (i + 1) leaves new
class-more lines i l d leaves old new c k within is some len before more this at =
    let ds : List Declared = classes_in (entries_of (take i lines)) in
    let given : classes_in (entries_of (take (i + 1) lines)) ≡ ds ++ d ∷ [] = given-more class_in lines i l within is ∙ ap (λ o. ds ++ cons_option o []) some in
    let few : length ds < length (classes_in (entries_of lines)) = given-within class_in lines i l d within is some in
    let place : k ≡ length ds = at ∙ before.counted in
    record {
      made_so_far = ap (map made) more ∙ map_push made old c ∙ ap (λ all. all ++ made c ∷ []) before.made_so_far
          ∙ ap (λ m. made_of ds leaves ++ m ∷ []) (this ∙ ap (λ j. made_with d (slice_index leaves j)) place)
          ∙ sym (made_of-more ds d leaves (omega (arith, few, len)))
          ∙ ap (λ all. made_of all leaves) (sym given);
      counted = ap length more ∙ length-append old (c ∷ []) ∙ ap (λ j. j + 1) before.counted ∙ sym (length-append ds (d ∷ [])) ∙ ap length (sym given);
    }

pub class-same : (lines : List (ℕ × Statement)) (i : ℕ) (l : ℕ × Statement) (leaves : List ℕ) (old new : List Class)
    → i < length lines → l ≡ get_or lines i l → class_in (sense_of l.1) ≡ None → AreMade lines i leaves old → new ≡ old → AreMade lines (i + 1) leaves new
class-same lines i l leaves old new within is none before same =
    let given : classes_in (entries_of (take (i + 1) lines)) ≡ classes_in (entries_of (take i lines)) =
    given-more class_in lines i l within is ∙ ap (λ o. classes_in (entries_of (take i lines)) ++ cons_option o []) none ∙ append-nil (classes_in (entries_of (take i lines))) in
    record {
      made_so_far = ap (map made) same ∙ before.made_so_far ∙ ap (λ all. made_of all leaves) (sym given);
      counted = ap length same ∙ before.counted ∙ ap length (sym given);
    }

pub no-class : (s : Statement) → ((n : List ℕ) (a : Attrs) (cs : List Condition) → s ≡ statement.Class n a cs → ⊥) → ((n : List ℕ) (a : Attrs) (ts : List (List Test)) → s ≡ statement.Filter n a ts → ⊥) → class_in (sense_of s) ≡ None
no-class (statement.Version v) not other = refl
no-class (statement.Transaction n) not other = refl
no-class (statement.Keep n s) not other = refl
no-class (statement.Each n s) not other = refl
no-class (statement.Push n t) not other = refl
no-class (statement.Pop n t) not other = refl
no-class (statement.Class n a cs) not other = absurd (not n a cs refl)
no-class (statement.Filter n a ts) not other = absurd (other n a ts refl)
no-class (statement.Leaf n u a q ns) not other = refl
no-class (statement.Node n u a q ns) not other = refl
