-- The programs that names of transactions denote.
use Rattle.policy_core.proofs.Prelude.{List, ◌≡◌, ap, sym, subst, [], ◌∙◌, ◌∷◌, refl, true, Some, map, None, Option, inl, inr, false, Bool, true≢false, ◌||◌, cond, is_some, unwrap_or, find, option_map, cases_Bool, AllByRecursion, bytes_eq, is_transaction_known, Name, declared, has, transaction_name, programs, body_named, or_written, program_named, program_in, Entry, node, class, filtered, version, each, keep, pop, push, transaction, Builtin, builtin, builtins, fifo, same_name, Program}
use Rattle.policy_text_defs.specs.Sense.{leaf}
use Rattle.policy_rules.specs.Bodies.{Body, bodies}

pub none-some : {X : Type 0} {x : X} → None ≡ Some x → ⊥
none-some e = cc

pub some-same : {X : Type 0} {x y : X} → Some x ≡ Some y → x ≡ y
some-same e = cc

some-unwrapped : {X : Type 0} (o : Option X) (d : X) → is_some o ≡ true → o ≡ Some (unwrap_or o d)
some-unwrapped None d h = absurd (true≢false (sym h))
some-unwrapped (Some x) d h = refl

-- ---- there is a program
-- the transactions in the order of their lines
names-bodies : (es : List Entry) → map (λ (b : Body). b.name) (bodies es) ≡ declared transaction_name es
names-bodies [] = refl
names-bodies ((n, version v) ∷ es) = names-bodies es
names-bodies ((n, transaction t) ∷ es) = ap (λ l. t ∷ l) (names-bodies es)
names-bodies ((n, keep m s) ∷ es) = names-bodies es
names-bodies ((n, each m s) ∷ es) = names-bodies es
names-bodies ((n, push m t) ∷ es) = names-bodies es
names-bodies ((n, pop m t) ∷ es) = names-bodies es
names-bodies ((n, class m a cs) ∷ es) = names-bodies es
names-bodies ((n, filtered m a cs) ∷ es) = names-bodies es
names-bodies ((n, leaf m u a q ns) ∷ es) = names-bodies es
names-bodies ((n, node m u a q ns) ∷ es) = names-bodies es

find-there : (u : Name) (bs : List Body) → has (map (λ (b : Body). b.name) bs) u ≡ true → is_some (find (λ (b : Body). bytes_eq u b.name) bs) ≡ true
find-there u [] h = absurd (true≢false (sym h))
find-there u (b ∷ bs) h = elim (cases_Bool (bytes_eq u b.name)) [
  | inl here ↦ ap (λ t. is_some (cond t (Some b) (find (λ (c : Body). bytes_eq u c.name) bs))) here
  | inr other ↦ ap (λ t. is_some (cond t (Some b) (find (λ (c : Body). bytes_eq u c.name) bs))) other
      ∙ find-there u bs (sym (ap (λ t. t || has (map (λ (c : Body). c.name) bs) u) other) ∙ h)
]

either-some : (own : Option Program) (written : Option Body) (t : Bool) → (is_some own || t) ≡ true → (t ≡ true → is_some written ≡ true) → is_some (or_written own written) ≡ true
either-some (Some p) written t known there = refl
either-some None None t known there = there known
either-some None (Some b) t known there = refl

pub program-there : (es : List Entry) (u : Name) → is_transaction_known es u ≡ true → program_named es u ≡ Some (unwrap_or (program_named es u) fifo)
program-there es u known =
    some-unwrapped (program_named es u) fifo
    (either-some (builtin u) (body_named es u) (has (declared transaction_name es) u) known
    (λ declared. find-there u (bodies es) (ap (λ names. has names u) (names-bodies es) ∙ declared)))

-- ---- a property of all programs is one of this program
found-holds : {X : Type 0} (P : X → Type 0) (test : X → Bool) (xs : List X) (x : X) → AllByRecursion P xs → find test xs ≡ Some x → P x
found-holds P test [] x all e = absurd (none-some e)
found-holds {X} P test (y ∷ ys) x all e = by (test y) e (λ later. found-holds P test ys x all.1 later)
  where
    by : (t : Bool) → cond t (Some y) (find test ys) ≡ Some x → (find test ys ≡ Some x → P x) → P x
    by true e later = subst P (some-same e) all.0
    by false e later = later e

builtin-holds : (P : Program → Type 0) (u : Name) (p : Program) → AllByRecursion (λ (b : Builtin). P b.program) builtins → builtin u ≡ Some p → P p
builtin-holds P u p all e = by (find (λ b. same_name u b.name) builtins) refl e
  where
    by : (o : Option Builtin) → find (λ b. same_name u b.name) builtins ≡ o → option_map (λ (b : Builtin). b.program) o ≡ Some p → P p
    by None is e = absurd (none-some e)
    by (Some b) is e = subst P (some-same e) (found-holds (λ (b : Builtin). P b.program) (λ b. same_name u b.name) builtins b all is)

bodies-hold : (P : Program → Type 0) (bs : List Body) → AllByRecursion P (map (λ (b : Body). program_in b.lines) bs) → AllByRecursion (λ (b : Body). P (program_in b.lines)) bs
bodies-hold P [] all = tt
bodies-hold P (b ∷ bs) all = (all.0, bodies-hold P bs all.1)

written-holds : (P : Program → Type 0) (es : List Entry) (u : Name) (p : Program) → AllByRecursion P (programs es) → option_map (λ (b : Body). program_in b.lines) (body_named es u) ≡ Some p → P p
written-holds P es u p all e = by (body_named es u) refl e
  where
    by : (o : Option Body) → body_named es u ≡ o → option_map (λ (b : Body). program_in b.lines) o ≡ Some p → P p
    by None is e = absurd (none-some e)
    by (Some b) is e = subst P (some-same e) (found-holds (λ (b : Body). P (program_in b.lines)) (λ b. bytes_eq u b.name) (bodies es) b (bodies-hold P (bodies es) all) is)

pub program-holds : (P : Program → Type 0) (es : List Entry) (u : Name) (p : Program) → AllByRecursion (λ (b : Builtin). P b.program) builtins → AllByRecursion P (programs es) → program_named es u ≡ Some p → P p
program-holds P es u p own written e = by (builtin u) refl e
  where
    by : (o : Option Program) → builtin u ≡ o → or_written o (body_named es u) ≡ Some p → P p
    by None is e = written-holds P es u p written e
    by (Some q) is e = subst P (some-same e) (builtin-holds P u q own is)
