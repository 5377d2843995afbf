-- The names of a statement, by edition.
use Rattle.std.specs.Prelude.{◌≡◌, refl, Bool, true, false, ◌&&◌, [], ◌∷◌, map, codes}
use Rattle.std.specs.List.{list_all}
use Rattle.rank_defs.specs.declared.expression.Op.TheVariants as op
use Rattle.policy_text_defs.specs.declared.edition.Edition.{Edition}
use Rattle.policy_text_defs.specs.declared.edition.Edition.TheVariants.{Classic, Third}
use Rattle.policy_text_defs.specs.Words.{has_name}
use Rattle.policy_text_defs.specs.Phrase.{Phrase, number, word, two, negation, choice}
use Rattle.policy_text_defs.specs.Sense.{Sense, version, transaction, keep, each, push, pop, class, filter, leaf, node}

-- the edition has each word of the expression
abbrev pub has_words : Edition → Phrase → Bool
has_words e (number n) = true
has_words e (word w) = has_name e w
has_words e (negation a) = has_words e a
has_words e (choice a b c) = has_words e a && (has_words e b && has_words e c)
has_words e (two op a b) = has_words e a && has_words e b

-- the edition has each name of the statement
abbrev pub has_names : Edition → Sense → Bool
has_names e (version v) = true
has_names e (transaction n) = has_name e n
has_names e (keep n s) = has_name e n
has_names e (each n s) = has_name e n
has_names e (push n a) = has_name e n && has_words e a
has_names e (pop n a) = has_name e n && has_words e a
has_names e (class n a cs) = has_name e n
has_names e (filter n a cs) = has_name e n
has_names e (leaf n u a q ns) = has_name e n && (has_name e u && list_all (has_name e) ns)
has_names e (node n u a q ns) = has_name e n && (has_name e u && list_all (has_name e) ns)

-- each edition has names that the other doesn't have
names_by_edition : map (λ (e : Edition). has_names e (transaction (codes "a-b"))) (Classic ∷ Third ∷ []) ≡ false ∷ true ∷ []
names_by_edition = refl

words_by_edition : map (λ (e : Edition). has_names e (push (codes "rank") (two op.Add (word (codes "flow")) (word (codes "len"))))) (Classic ∷ Third ∷ []) ≡ true ∷ false ∷ []
words_by_edition = refl
