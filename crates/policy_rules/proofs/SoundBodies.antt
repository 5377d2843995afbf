-- The lines of one body.
use Rattle.policy_rules.proofs.Prelude.{◌∙◌, ap, List, ◌≡◌, sym, ℕ, [], ◌∷◌, refl, ◌++◌, take, false, Bool, length, subst, true, Some, ◌+◌, arith, ◌<◌, ◌||◌, None, get_or, true≢false, ◌≤◌, Option, drop, suc, ◌≢◌, nat_eq, zero, and_parts, eqb-false, append-nil, length-append, append_assoc, take-append-drop, take_more, filter_map-append, list_all-append, cons_option, list_any, list_all, bytes_eq, Entry, Sense, class, filtered, pop, push, transaction, version, each, keep, leaf, node, is_transaction, open_body, is_body, IsSoundBody, AreSoundBehind, IsSoundLine, with_names, is_declared, is_one_too_many, most_variables, Name, has, declared, each_name, keep_name, variable_name}
use Rattle.policy_rules.proofs.Lines.{declared-push}

-- ---- the open body after the lines of a body

abbrev pub AreBody : List Entry → Type 0
AreBody lines = list_all (λ e. is_body e.1) lines ≡ true

pub body_line : (e : Entry) → is_body e.1 ≡ true → is_transaction e ≡ false
body_line (n, version v) is = refl
body_line (n, transaction a) is = absurd (true≢false (sym is))
body_line (n, keep a s) is = refl
body_line (n, each a s) is = refl
body_line (n, push a t) is = refl
body_line (n, pop a t) is = refl
body_line (n, class a b cs) is = refl
body_line (n, filtered a b cs) is = refl
body_line (n, leaf a u b q ns) is = refl
body_line (n, node a u b q ns) is = refl

body_lines : (lines : List Entry) → AreBody lines → list_any is_transaction lines ≡ false
body_lines [] all = refl
body_lines (e ∷ es) all =
    let parts = and_parts (is_body e.1) (list_all (λ f. is_body f.1) es) all in
    rw (body_line e parts.0) (body_lines es parts.1)

pub open_own : (lines : List Entry) → AreBody lines → open_body lines ≡ lines
open_own [] all = refl
open_own (e ∷ es) all =
    let parts = and_parts (is_body e.1) (list_all (λ f. is_body f.1) es) all in
    rw (body_lines es parts.1, body_line e parts.0) refl

pub AreBody-push : (lines : List Entry) (e : Entry) → AreBody lines → is_body e.1 ≡ true → AreBody (lines ++ e ∷ [])
AreBody-push lines e all is = list_all-append (λ f. is_body f.1) lines (e ∷ []) ∙ rw (all, is) refl

-- ---- lines by index

pub sound_at : (earlier es : List Entry) (i : ℕ) (d : Entry) → i < length es → AreSoundBehind earlier es → IsSoundLine (earlier ++ take i es) (get_or es i d)
sound_at earlier [] i d within sound = absurd (omega (arith, within))
sound_at earlier (e ∷ es) zero d within sound = subst (λ (l : List Entry). IsSoundLine l e) (sym (append-nil earlier)) sound.0
sound_at earlier (e ∷ es) (suc i) d within sound =
    subst (λ (l : List Entry). IsSoundLine l (get_or es i d)) (append_assoc earlier (e ∷ []) (take i es)) (sound_at (earlier ++ e ∷ []) es i d (omega (arith, within)) sound.1)

pub all_body : (earlier es : List Entry) → AreSoundBehind earlier es → AreBody es
all_body earlier [] sound = refl
all_body earlier (e ∷ es) sound = rw sound.0.body (all_body (earlier ++ e ∷ []) es sound.1)

pub front_body : (es : List Entry) (i : ℕ) → AreBody es → AreBody (take i es)
front_body es zero all = refl
front_body [] (suc i) all = refl
front_body (e ∷ es) (suc i) all =
    let parts = and_parts (is_body e.1) (list_all (λ f. is_body f.1) es) all in
    rw parts.0 (front_body es i parts.1)

-- ---- names of variables

or_right : (a b : Bool) → (a || b) ≡ false → b ≡ false
or_right true b e = absurd (true≢false e)
or_right false b e = e

or_both : (a b c : Bool) → (a || b) ≡ false → (b ≡ false → c ≡ false) → (a || c) ≡ false
or_both true b c e later = e
or_both false b c e later = later e

-- a name that no variable has isn't a variable of the node
pub no_keep : (a : Name) (lines : List Entry) → has (declared variable_name lines) a ≡ false → has (declared keep_name lines) a ≡ false
no_keep a [] none = refl
no_keep a ((n, version v) ∷ es) none = no_keep a es none
no_keep a ((n, transaction b) ∷ es) none = no_keep a es none
no_keep a ((n, keep b s) ∷ es) none = or_both (bytes_eq a b) _ _ none (no_keep a es)
no_keep a ((n, each b s) ∷ es) none = no_keep a es (or_right (bytes_eq a b) _ none)
no_keep a ((n, push b t) ∷ es) none = no_keep a es none
no_keep a ((n, pop b t) ∷ es) none = no_keep a es none
no_keep a ((n, class b c cs) ∷ es) none = no_keep a es none
no_keep a ((n, filtered b c cs) ∷ es) none = no_keep a es none
no_keep a ((n, leaf b u c q ns) ∷ es) none = no_keep a es none
no_keep a ((n, node b u c q ns) ∷ es) none = no_keep a es none

pub no_each : (a : Name) (lines : List Entry) → has (declared variable_name lines) a ≡ false → has (declared each_name lines) a ≡ false
no_each a [] none = refl
no_each a ((n, version v) ∷ es) none = no_each a es none
no_each a ((n, transaction b) ∷ es) none = no_each a es none
no_each a ((n, keep b s) ∷ es) none = no_each a es (or_right (bytes_eq a b) _ none)
no_each a ((n, each b s) ∷ es) none = or_both (bytes_eq a b) _ _ none (no_each a es)
no_each a ((n, push b t) ∷ es) none = no_each a es none
no_each a ((n, pop b t) ∷ es) none = no_each a es none
no_each a ((n, class b c cs) ∷ es) none = no_each a es none
no_each a ((n, filtered b c cs) ∷ es) none = no_each a es none
no_each a ((n, leaf b u c q ns) ∷ es) none = no_each a es none
no_each a ((n, node b u c q ns) ∷ es) none = no_each a es none

added : (names : List Name) (o : Option Name) → ((a : Name) → o ≡ Some a → has names a ≡ false) → with_names names o ≡ names ++ cons_option o []
added names None new = sym (append-nil names)
added names (Some a) new = rw (new a refl) refl

keep_new : (earlier : List Entry) (e : Entry) → AreBody earlier → is_declared earlier e.1 ≡ false → (a : Name) → keep_name e.1 ≡ Some a → has (declared keep_name earlier) a ≡ false
keep_new earlier (n, keep b s) all new a is =
    let same : b ≡ a = cc in
    no_keep a earlier (subst (λ (c : Name). has (declared variable_name earlier) c ≡ false) same (subst (λ (l : List Entry). has (declared variable_name l) b ≡ false) (open_own earlier all) new))
keep_new earlier (n, version v) all new a is = absurd cc
keep_new earlier (n, transaction b) all new a is = absurd cc
keep_new earlier (n, each b s) all new a is = absurd cc
keep_new earlier (n, push b t) all new a is = absurd cc
keep_new earlier (n, pop b t) all new a is = absurd cc
keep_new earlier (n, class b c cs) all new a is = absurd cc
keep_new earlier (n, filtered b c cs) all new a is = absurd cc
keep_new earlier (n, leaf b u c q ns) all new a is = absurd cc
keep_new earlier (n, node b u c q ns) all new a is = absurd cc

each_new : (earlier : List Entry) (e : Entry) → AreBody earlier → is_declared earlier e.1 ≡ false → (a : Name) → each_name e.1 ≡ Some a → has (declared each_name earlier) a ≡ false
each_new earlier (n, each b s) all new a is =
    let same : b ≡ a = cc in
    no_each a earlier (subst (λ (c : Name). has (declared variable_name earlier) c ≡ false) same (subst (λ (l : List Entry). has (declared variable_name l) b ≡ false) (open_own earlier all) new))
each_new earlier (n, version v) all new a is = absurd cc
each_new earlier (n, transaction b) all new a is = absurd cc
each_new earlier (n, keep b s) all new a is = absurd cc
each_new earlier (n, push b t) all new a is = absurd cc
each_new earlier (n, pop b t) all new a is = absurd cc
each_new earlier (n, class b c cs) all new a is = absurd cc
each_new earlier (n, filtered b c cs) all new a is = absurd cc
each_new earlier (n, leaf b u c q ns) all new a is = absurd cc
each_new earlier (n, node b u c q ns) all new a is = absurd cc

-- one more line of a body
pub keeps_more : (es : List Entry) (i : ℕ) (d : Entry) → i < length es → IsSoundBody es → with_names (declared keep_name (take i es)) (keep_name (get_or es i d).1) ≡ declared keep_name (take (i + 1) es)
keeps_more es i d within sound =
    added (declared keep_name (take i es)) (keep_name (get_or es i d).1) (keep_new (take i es) (get_or es i d) (front_body es i (all_body [] es sound)) (sound_at [] es i d within sound).new)
    ∙ sym (declared-push keep_name (take i es) (get_or es i d)) ∙ ap (declared keep_name) (sym (take_more es i d within))

pub eaches_more : (es : List Entry) (i : ℕ) (d : Entry) → i < length es → IsSoundBody es → with_names (declared each_name (take i es)) (each_name (get_or es i d).1) ≡ declared each_name (take (i + 1) es)
eaches_more es i d within sound =
    added (declared each_name (take i es)) (each_name (get_or es i d).1) (each_new (take i es) (get_or es i d) (front_body es i (all_body [] es sound)) (sound_at [] es i d within sound).new)
    ∙ sym (declared-push each_name (take i es) (get_or es i d)) ∙ ap (declared each_name) (sym (take_more es i d within))

-- ---- the number of variables

longer : (m n : ℕ) → m ≤ n → m ≤ suc n
longer m n le = omega (arith, le)

pub few_keeps-variables : (lines : List Entry) → length (declared keep_name lines) ≤ length (declared variable_name lines)
few_keeps-variables [] = omega arith
few_keeps-variables ((n, version v) ∷ es) = few_keeps-variables es
few_keeps-variables ((n, transaction b) ∷ es) = few_keeps-variables es
few_keeps-variables ((n, keep b s) ∷ es) = omega (arith, few_keeps-variables es)
few_keeps-variables ((n, each b s) ∷ es) = longer _ _ (few_keeps-variables es)
few_keeps-variables ((n, push b t) ∷ es) = few_keeps-variables es
few_keeps-variables ((n, pop b t) ∷ es) = few_keeps-variables es
few_keeps-variables ((n, class b c cs) ∷ es) = few_keeps-variables es
few_keeps-variables ((n, filtered b c cs) ∷ es) = few_keeps-variables es
few_keeps-variables ((n, leaf b u c q ns) ∷ es) = few_keeps-variables es
few_keeps-variables ((n, node b u c q ns) ∷ es) = few_keeps-variables es

pub few_eaches-variables : (lines : List Entry) → length (declared each_name lines) ≤ length (declared variable_name lines)
few_eaches-variables [] = omega arith
few_eaches-variables ((n, version v) ∷ es) = few_eaches-variables es
few_eaches-variables ((n, transaction b) ∷ es) = few_eaches-variables es
few_eaches-variables ((n, keep b s) ∷ es) = longer _ _ (few_eaches-variables es)
few_eaches-variables ((n, each b s) ∷ es) = omega (arith, few_eaches-variables es)
few_eaches-variables ((n, push b t) ∷ es) = few_eaches-variables es
few_eaches-variables ((n, pop b t) ∷ es) = few_eaches-variables es
few_eaches-variables ((n, class b c cs) ∷ es) = few_eaches-variables es
few_eaches-variables ((n, filtered b c cs) ∷ es) = few_eaches-variables es
few_eaches-variables ((n, leaf b u c q ns) ∷ es) = few_eaches-variables es
few_eaches-variables ((n, node b u c q ns) ∷ es) = few_eaches-variables es

short : (n m : ℕ) → n ≤ m → n ≢ m → n + 1 ≤ m
short n m le other = omega (arith, le, other)

-- if a line isn't beyond the limit, there is room for its variable
room : (earlier : List Entry) (e : Entry) → AreBody earlier → length (declared variable_name earlier) ≤ most_variables → is_body e.1 ≡ true → is_one_too_many earlier e.1 ≡ false
    → length (declared variable_name earlier ++ cons_option (variable_name e.1) []) ≤ most_variables
room earlier (n, keep b s) all few is beyond =
    let other : length (declared variable_name earlier) ≢ most_variables = eqb-false _ _ (ap (λ (l : List Entry). nat_eq (length (declared variable_name l)) most_variables) (sym (open_own earlier all)) ∙ beyond) in
    subst (λ (k : ℕ). k ≤ most_variables) (sym (length-append (declared variable_name earlier) (b ∷ []))) (short _ most_variables few other)
room earlier (n, each b s) all few is beyond =
    let other : length (declared variable_name earlier) ≢ most_variables = eqb-false _ _ (ap (λ (l : List Entry). nat_eq (length (declared variable_name l)) most_variables) (sym (open_own earlier all)) ∙ beyond) in
    subst (λ (k : ℕ). k ≤ most_variables) (sym (length-append (declared variable_name earlier) (b ∷ []))) (short _ most_variables few other)
room earlier (n, push b t) all few is beyond = subst (λ (l : List Name). length l ≤ most_variables) (sym (append-nil (declared variable_name earlier))) few
room earlier (n, pop b t) all few is beyond = subst (λ (l : List Name). length l ≤ most_variables) (sym (append-nil (declared variable_name earlier))) few
room earlier (n, version v) all few is beyond = absurd (true≢false (sym is))
room earlier (n, transaction b) all few is beyond = absurd (true≢false (sym is))
room earlier (n, class b c cs) all few is beyond = absurd (true≢false (sym is))
room earlier (n, filtered b c cs) all few is beyond = absurd (true≢false (sym is))
room earlier (n, leaf b u c q ns) all few is beyond = absurd (true≢false (sym is))
room earlier (n, node b u c q ns) all few is beyond = absurd (true≢false (sym is))

few_behind : (earlier es : List Entry) → AreBody earlier → length (declared variable_name earlier) ≤ most_variables → AreSoundBehind earlier es → length (declared variable_name (earlier ++ es)) ≤ most_variables
few_behind earlier [] all few sound = subst (λ (l : List Entry). length (declared variable_name l) ≤ most_variables) (sym (append-nil earlier)) few
few_behind earlier (e ∷ es) all few sound =
    let more : length (declared variable_name (earlier ++ e ∷ [])) ≤ most_variables = subst (λ (l : List Name). length l ≤ most_variables) (sym (declared-push variable_name earlier e)) (room earlier e all few sound.0.body sound.0.few) in
    subst (λ (l : List Entry). length (declared variable_name l) ≤ most_variables) (append_assoc earlier (e ∷ []) es) (few_behind (earlier ++ e ∷ []) es (AreBody-push earlier e all sound.0.body) more sound.1)

few_variables : (es : List Entry) → IsSoundBody es → length (declared variable_name es) ≤ most_variables
few_variables es sound = few_behind [] es refl (omega arith) sound

pub few_keeps : (es : List Entry) → IsSoundBody es → length (declared keep_name es) ≤ most_variables
few_keeps es sound = omega (arith, few_keeps-variables es, few_variables es sound)

pub few_eaches : (es : List Entry) → IsSoundBody es → length (declared each_name es) ≤ most_variables
few_eaches es sound = omega (arith, few_eaches-variables es, few_variables es sound)

-- the same for the first lines
shorter : (space : Sense → Option Name) (es : List Entry) (i : ℕ) → length (declared space (take i es)) ≤ length (declared space es)
shorter space es i = subst (λ (l : List Entry). length (declared space (take i es)) ≤ length (declared space l)) (take-append-drop i es)
    (subst (λ (l : List Name). length (declared space (take i es)) ≤ length l) (sym (filter_map-append (λ f. space f.1) (take i es) (drop i es)))
    (omega (arith, length-append (declared space (take i es)) (declared space (drop i es)))))

pub few_keeps_at : (es : List Entry) (i : ℕ) → IsSoundBody es → length (declared keep_name (take i es)) ≤ most_variables
few_keeps_at es i sound = omega (arith, shorter keep_name es i, few_keeps es sound)

pub few_eaches_at : (es : List Entry) (i : ℕ) → IsSoundBody es → length (declared each_name (take i es)) ≤ most_variables
few_eaches_at es i sound = omega (arith, shorter each_name es i, few_eaches es sound)
