-- A text parses as one table, and a table gives one target.
use Rattle.target_core.proofs.Prelude.{arith, ◌≡◌, List, Some, sym, ℕ, ◌∙◌, [], refl, ◌∷◌, pos, ap, codes, subst, leaves, Items, Members, array, get_member, integer, item, no_items, AreArities, each_arity, one_arity, GivesArities, HasNumber, IsRefused, IsToml, first_arity, large, not_toml, off_keys, too_long, IsTargetText, IsOffKeys}
use Rattle.target_core.specs.Laws.{TextsHaveOneAnswer}

same_table : (bytes : List ℕ) (t u : Members) → IsToml bytes t → IsToml bytes u → t ≡ u
same_table bytes t u a b = let e : Some t ≡ Some u = sym a.reads ∙ b.reads in cc

same_number : (t : Members) (key : List ℕ) (low high n m : ℕ) → HasNumber t key low high n → HasNumber t key low high m → n ≡ m
same_number t key low high n m a b = let e : Some (integer (pos n)) ≡ Some (integer (pos m)) = sym a.stands ∙ b.stands in cc

same_arities : (ds : Items) (ns ms : List ℕ) → AreArities ds ns → AreArities ds ms → ns ≡ ms
same_arities no_items [] [] a b = refl
same_arities no_items [] (m ∷ ms) a b = absurd b
same_arities no_items (n ∷ ns) ms a b = absurd a
same_arities (item d ds) [] ms a b = absurd a
same_arities (item d ds) (n ∷ ns) [] a b = absurd b
same_arities (item d ds) (n ∷ ns) (m ∷ ms) a b =
    let number : integer (pos n) ≡ integer (pos m) = sym a.0 ∙ b.0 in
    let rest : ns ≡ ms = same_arities ds ns ms a.3 b.3 in
    cc

same_items : (t : Members) (ds es : Items) (ns ms : List ℕ) → get_member (codes "arities") t ≡ Some (array ds) → get_member (codes "arities") t ≡ Some (array es) → AreArities ds ns → AreArities es ms → ns ≡ ms
same_items t ds es ns ms p q a b =
    let e : Some (array ds) ≡ Some (array es) = sym p ∙ q in
    let same : es ≡ ds = cc in
    same_arities ds ns ms a (subst (λ (x : Items). AreArities x ms) same b)

same_target : (t : Members) (ns ms : List ℕ) (a b : ℕ) → GivesArities t ns a → GivesArities t ms b → (ns ≡ ms) × (a ≡ b)
same_target t ns ms a b (one_arity d h k p q) (one_arity e i l r s) =
    let arity : d ≡ e = same_number t (codes "arity") 2 64 d e p r in
    let height : h ≡ i = same_number t (codes "height") 0 16 h i q s in
    (cc, arity)
same_target t ns ms a b (one_arity d h k p q) (each_arity es ms' l r s f) = absurd (omega (arith, k, l))
same_target t ns ms a b (each_arity ds ns' k p q f) (one_arity e i l r s) = absurd (omega (arith, k, l))
same_target t ns ms a b (each_arity ds ns' k p q f) (each_arity es ms' l r s g) =
    let same : ns' ≡ ms' = same_items t ds es ns' ms' p r q s in
    (same, ap first_arity same)

-- the same for two tables that the bytes parse as
same_answer : (bytes : List ℕ) (t u : Members) (ns ms : List ℕ) (a b : ℕ) → IsToml bytes t → IsToml bytes u → GivesArities t ns a → GivesArities u ms b → (ns ≡ ms) × (a ≡ b)
same_answer bytes t u ns ms a b i j g h =
    same_target t ns ms a b g (subst (λ (x : Members). GivesArities x ms b) (same_table bytes u t j i) h)

-- a table that gives a target has no error of keys
not_off : (bytes : List ℕ) (t : Members) (ns : List ℕ) (a : ℕ) → IsToml bytes t → GivesArities t ns a → IsOffKeys bytes → ⊥
not_off bytes t ns a i g off =
    off.none ns a (subst (λ (x : Members). GivesArities x ns a) (same_table bytes t off.table i off.toml) g)

one_target-holds : (bytes ns ms : List ℕ) (a b : ℕ) → IsTargetText bytes ns a → IsTargetText bytes ms b → (ns ≡ ms) × (a ≡ b)
one_target-holds bytes ns ms a b p q = same_answer bytes p.table q.table ns ms a b p.toml q.toml p.gives q.gives

one_fault-holds : (bytes : List ℕ) (code other : ℕ) → IsRefused bytes code → IsRefused bytes other → code ≡ other
one_fault-holds bytes code other (too_long l) (too_long m) = refl
one_fault-holds bytes code other (too_long l) (not_toml m p) = absurd (omega (arith, l, m))
one_fault-holds bytes code other (too_long l) (off_keys m p) = absurd (omega (arith, l, m))
one_fault-holds bytes code other (too_long l) (large m p) = absurd (omega (arith, l, m))
one_fault-holds bytes code other (not_toml l n) (too_long m) = absurd (omega (arith, l, m))
one_fault-holds bytes code other (not_toml l n) (not_toml m p) = refl
one_fault-holds bytes code other (not_toml l n) (off_keys m p) = absurd (n p.table p.toml)
one_fault-holds bytes code other (not_toml l n) (large m p) = absurd (n p.table p.toml)
one_fault-holds bytes code other (off_keys l o) (too_long m) = absurd (omega (arith, l, m))
one_fault-holds bytes code other (off_keys l o) (not_toml m p) = absurd (p o.table o.toml)
one_fault-holds bytes code other (off_keys l o) (off_keys m p) = refl
one_fault-holds bytes code other (off_keys l o) (large m p) = absurd (not_off bytes p.table p.arities p.above p.toml p.gives o)
one_fault-holds bytes code other (large l g) (too_long m) = absurd (omega (arith, l, m))
one_fault-holds bytes code other (large l g) (not_toml m p) = absurd (p g.table g.toml)
one_fault-holds bytes code other (large l g) (off_keys m p) = absurd (not_off bytes g.table g.arities g.above g.toml g.gives p)
one_fault-holds bytes code other (large l g) (large m p) = refl

no_both-holds : (bytes ns : List ℕ) (a code : ℕ) → IsTargetText bytes ns a → IsRefused bytes code → ⊥
no_both-holds bytes ns a code p (too_long l) = omega (arith, l, p.short)
no_both-holds bytes ns a code p (not_toml l n) = n p.table p.toml
no_both-holds bytes ns a code p (off_keys l o) = not_off bytes p.table ns a p.toml p.gives o
no_both-holds bytes ns a code p (large l g) =
    let same : ns ≡ g.arities = (same_answer bytes p.table g.table ns g.arities a g.above p.toml g.toml p.gives g.gives).0 in
    omega (arith, p.few, g.many, ap leaves same)

pub one_answer-holds : TextsHaveOneAnswer
one_answer-holds = record { one_target = one_target-holds; one_fault = one_fault-holds; no_both = no_both-holds }
