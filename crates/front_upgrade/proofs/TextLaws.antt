-- The text of a class with conditions is that of the class with tests.
use Rattle.std.proofs.Common.{◌≡◌, List, [], ◌∷◌, ◌++◌, map, refl, ap, ◌∙◌, codes}
use Rattle.std.proofs.lemmas.List.{append-nil}
use Rattle.std.specs.Fmt.{digits}
use Rattle.policy_text_defs.specs.declared.condition.Condition.{Condition}
use Rattle.policy_text_defs.specs.declared.condition.Condition.TheVariants as condition
use Rattle.policy_text_defs.specs.Canonical.{canonical_text, statement_text, condition_text, more_conditions_text, guard_text, test_text, tests_text, alternatives_text, each_after, attributes_text}
use Rattle.policy_text_defs.specs.Sense.{Sense, version, transaction, keep, each, push, pop, class, filter, leaf, node}
use Rattle.policy_rules.specs.Alternatives.{test_of, alternatives_of}
use Rattle.front_upgrade.specs.Upgraded.{with_tests, upgraded}

test_reads_so : (c : Condition) → test_text (test_of c) ≡ condition_text c
test_reads_so (condition.Field f low high) = refl
test_reads_so (condition.Source a l) = refl
test_reads_so (condition.Dest a l) = refl
test_reads_so condition.Ipv4 = refl
test_reads_so condition.Ipv6 = refl

more_read_so : (cs : List Condition) → each_after (codes " and ") test_text (map test_of cs) ≡ more_conditions_text cs
more_read_so [] = refl
more_read_so (c ∷ cs) =
    ap (λ t. codes " and " ++ (t ++ each_after (codes " and ") test_text (map test_of cs))) (test_reads_so c)
    ∙ ap (λ t. codes " and " ++ (condition_text c ++ t)) (more_read_so cs)

guard_reads_so : (cs : List Condition) → alternatives_text (alternatives_of cs) ≡ guard_text cs
guard_reads_so [] = refl
guard_reads_so (c ∷ cs) =
    ap (λ t. codes " when " ++ t) (append-nil (tests_text (map test_of (c ∷ cs))))
    ∙ ap (λ t. codes " when " ++ (t ++ each_after (codes " and ") test_text (map test_of cs))) (test_reads_so c)
    ∙ ap (λ t. codes " when " ++ (condition_text c ++ t)) (more_read_so cs)

statement_reads_so : (s : Sense) → statement_text (with_tests s) ≡ statement_text s
statement_reads_so (version v) = refl
statement_reads_so (transaction n) = refl
statement_reads_so (keep n s) = refl
statement_reads_so (each n s) = refl
statement_reads_so (push n a) = refl
statement_reads_so (pop n a) = refl
statement_reads_so (class n a cs) = ap (λ t. codes "class " ++ (n ++ (attributes_text a ++ t))) (guard_reads_so cs)
statement_reads_so (filter n a cs) = refl
statement_reads_so (leaf n u a q ns) = refl
statement_reads_so (node n u a q ns) = refl

statements_read_so : (ss : List Sense) → canonical_text (map with_tests ss) ≡ canonical_text ss
statements_read_so [] = refl
statements_read_so (s ∷ ss) =
    ap (λ t. t ++ (codes "\n" ++ canonical_text (map with_tests ss))) (statement_reads_so s)
    ∙ ap (λ t. statement_text s ++ (codes "\n" ++ t)) (statements_read_so ss)

-- only the first line is another one
pub upgraded_reads_so : (s : Sense) (ss : List Sense) → canonical_text (upgraded (s ∷ ss)) ≡ codes "policy 3\n" ++ canonical_text ss
unfolding digits
upgraded_reads_so s ss = ap (λ t. codes "policy 3\n" ++ t) (statements_read_so ss)
