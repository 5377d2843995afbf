-- The number of classes that accepted statements declare, and the last of them.
use Rattle.policy_core.proofs.Prelude.{List, ◌≡◌, ap, sym, subst, [], arith, length, ◌∷◌, refl, suc, true, map, ◌++◌, ◌≤◌, false, Bool, true≢false, length-append, append-nil, append_assoc, ◌≢◌, eqb-false, cons_option, declared-few, NoLine, has_catch_all, is_one_too_many, most_classes, IsOneTooMany, has_catch_all_behind, AreRising, declared, class_name, Declared, classes_in, Entry, Sense, node, class, filtered, version, each, keep, pop, push, transaction, Test, HasCatchAll, alternatives_of}
use Rattle.policy_text_defs.specs.Sense.{leaf}

-- ---- the limit on classes
one-more : (earlier : List Entry) (s : Sense) → is_one_too_many earlier s ≡ false → length (declared class_name earlier) ≤ most_classes → length (declared class_name earlier ++ cons_option (class_name s) []) ≤ most_classes
one-more earlier (version v) h few = omega (arith, few, length-append (declared class_name earlier) [])
one-more earlier (transaction n) h few = omega (arith, few, length-append (declared class_name earlier) [])
one-more earlier (keep n s) h few = omega (arith, few, length-append (declared class_name earlier) [])
one-more earlier (each n s) h few = omega (arith, few, length-append (declared class_name earlier) [])
one-more earlier (push n t) h few = omega (arith, few, length-append (declared class_name earlier) [])
one-more earlier (pop n t) h few = omega (arith, few, length-append (declared class_name earlier) [])
one-more earlier (class n a cs) h few = (let ne : length (declared class_name earlier) ≢ most_classes = eqb-false _ _ h in omega (arith, few, ne, length-append (declared class_name earlier) (n ∷ [])))
one-more earlier (filtered n a cs) h few = (let ne : length (declared class_name earlier) ≢ most_classes = eqb-false _ _ h in omega (arith, few, ne, length-append (declared class_name earlier) (n ∷ [])))
one-more earlier (leaf n u a q ns) h few = omega (arith, few, length-append (declared class_name earlier) [])
one-more earlier (node n u a q ns) h few = omega (arith, few, length-append (declared class_name earlier) [])

names-classes : (es : List Entry) → length (classes_in es) ≡ length (declared class_name es)
names-classes [] = refl
names-classes ((n, version v) ∷ es) = names-classes es
names-classes ((n, transaction t) ∷ es) = names-classes es
names-classes ((n, keep k s) ∷ es) = names-classes es
names-classes ((n, each k s) ∷ es) = names-classes es
names-classes ((n, push k t) ∷ es) = names-classes es
names-classes ((n, pop k t) ∷ es) = names-classes es
names-classes ((n, class k a cs) ∷ es) = ap suc (names-classes es)
names-classes ((n, filtered k a cs) ∷ es) = ap suc (names-classes es)
names-classes ((n, leaf k u a q ns) ∷ es) = names-classes es
names-classes ((n, node k u a q ns) ∷ es) = names-classes es

pub few-classes : (es : List Entry) → AreRising es → NoLine (IsOneTooMany es) es → length (classes_in es) ≤ most_classes
few-classes es rising fine =
    (let few : length (declared class_name es) ≤ most_classes = declared-few class_name es rising most_classes one-more fine in
    omega (arith, few, names-classes es))

-- ---- the last class has no condition
abbrev conditions_in : List Entry → List (List (List Test))
conditions_in es = map (λ (d : Declared). d.conditions) (classes_in es)

-- if one was found, the last class seen has no condition
record IsCaught (found : Bool) (seen : List (List (List Test))) : Type 0 where
  caught : found ≡ true → HasCatchAll seen

behind : (seen : List (List (List Test))) (found : Bool) (es : List Entry) → IsCaught found seen → has_catch_all_behind found es ≡ true → HasCatchAll (seen ++ conditions_in es)
behind seen found [] so h = subst (λ (all : List (List (List Test))). HasCatchAll all) (sym (append-nil seen)) (so.caught h)
behind seen found ((n, version v) ∷ es) so h = behind seen found es so h
behind seen found ((n, transaction t) ∷ es) so h = behind seen found es so h
behind seen found ((n, keep k s) ∷ es) so h = behind seen found es so h
behind seen found ((n, each k s) ∷ es) so h = behind seen found es so h
behind seen found ((n, push k t) ∷ es) so h = behind seen found es so h
behind seen found ((n, pop k t) ∷ es) so h = behind seen found es so h
behind seen found ((n, leaf k u a q ns) ∷ es) so h = behind seen found es so h
behind seen found ((n, node k u a q ns) ∷ es) so h = behind seen found es so h
behind seen found ((n, class k a []) ∷ es) so h =
    subst (λ (all : List (List (List Test))). HasCatchAll all) (append_assoc seen ([] ∷ []) (conditions_in es))
    (behind (seen ++ [] ∷ []) true es (record { caught = λ _. (seen, refl) }) h)
behind seen found ((n, class k a (x ∷ cs)) ∷ es) so h =
    subst (λ (all : List (List (List Test))). HasCatchAll all) (append_assoc seen (alternatives_of (x ∷ cs) ∷ []) (conditions_in es))
    (behind (seen ++ alternatives_of (x ∷ cs) ∷ []) false es (record { caught = λ no. absurd (true≢false (sym no)) }) h)
behind seen found ((n, filtered k a []) ∷ es) so h =
    subst (λ (all : List (List (List Test))). HasCatchAll all) (append_assoc seen ([] ∷ []) (conditions_in es))
    (behind (seen ++ [] ∷ []) true es (record { caught = λ _. (seen, refl) }) h)
behind seen found ((n, filtered k a (t ∷ ts)) ∷ es) so h =
    subst (λ (all : List (List (List Test))). HasCatchAll all) (append_assoc seen ((t ∷ ts) ∷ []) (conditions_in es))
    (behind (seen ++ (t ∷ ts) ∷ []) false es (record { caught = λ bad. absurd (true≢false (sym bad)) }) h)

pub catch-all : (es : List Entry) → has_catch_all es ≡ true → HasCatchAll (map (λ (d : Declared). d.conditions) (classes_in es))
catch-all es h = behind [] false es (record { caught = λ no. absurd (true≢false (sym no)) }) h
