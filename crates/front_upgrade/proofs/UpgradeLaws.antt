-- The first line of an accepted policy, and the text of version 3.
use Rattle.front_upgrade.proofs.Prelude.{◌≡◌, refl, ap, sym, ◌∙◌, ℕ, suc, zero, arith, List, [], ◌∷◌, ◌++◌, map, drop, codes, false, not}
use Rattle.std.proofs.lemmas.Bool.{false≢true}
use Rattle.std.specs.Fmt.{digits}
use Rattle.policy_text_defs.specs.Canonical.{canonical_text}
use Rattle.policy_text_defs.specs.Sense.{Sense, Entry, version, transaction, keep, each, push, pop, class, filter, leaf, node}
use Rattle.policy_text_defs.specs.Valid.{IsValid}
use Rattle.policy_text.specs.Entries.{sense_at}
use Rattle.policy_text.specs.declared.lines.Lines.{Lines}
use Rattle.policy_rules.proofs.EarlierLines.{passes-at}
use Rattle.policy_rules.specs.Clauses.{is_placed, is_version}
use Rattle.replay_app.proofs.AnswerLaws.{printed}
use Rattle.replay_app.specs.Policies.{entries_in, senses_of}
use Rattle.front_upgrade.specs.Upgraded.{upgraded_text, AreSound}
use Rattle.front_upgrade.proofs.TextLaws.{upgraded_reads_so}

-- the first statement of an accepted policy is its version
opens : (e : Entry) (es : List Entry) → AreSound (e ∷ es) → not (is_version e.1) ≡ false
opens e es sound = passes-at (e ∷ es) sound.rising (λ ls s. not (is_placed ls s)) sound.accepted.0.0.0.0.0.0.0.0.0.0.0 0 e (omega arith)

valid_first : (e : Entry) (es : List Entry) → AreSound (e ∷ es) → IsValid e.1
valid_first e es sound = sound.valid 0 e (omega arith)

-- the line of a version has 9 bytes
behind_version : (s : Sense) (ss : List Sense) → not (is_version s) ≡ false → IsValid s → drop 9 (canonical_text (s ∷ ss)) ≡ canonical_text ss
unfolding digits
behind_version (version zero) ss is valid = absurd (omega (arith, valid.above))
behind_version (version (suc zero)) ss is valid = refl
behind_version (version (suc (suc zero))) ss is valid = refl
behind_version (version (suc (suc (suc zero)))) ss is valid = refl
behind_version (version (suc (suc (suc (suc n))))) ss is valid = absurd (omega (arith, valid.below))
behind_version (transaction n) ss is valid = absurd (false≢true (sym is))
behind_version (keep n s) ss is valid = absurd (false≢true (sym is))
behind_version (each n s) ss is valid = absurd (false≢true (sym is))
behind_version (push n a) ss is valid = absurd (false≢true (sym is))
behind_version (pop n a) ss is valid = absurd (false≢true (sym is))
behind_version (class n a cs) ss is valid = absurd (false≢true (sym is))
behind_version (filter n a cs) ss is valid = absurd (false≢true (sym is))
behind_version (leaf n u a q ns) ss is valid = absurd (false≢true (sym is))
behind_version (node n u a q ns) ss is valid = absurd (false≢true (sym is))

cut_so : (es : List Entry) → AreSound es → codes "policy 3\n" ++ drop 9 (canonical_text (senses_of es)) ≡ upgraded_text es
cut_so [] sound = absurd (let no = sound.accepted.0.0.0.0.0.1 in cc)
cut_so (e ∷ es) sound =
    ap (λ t. codes "policy 3\n" ++ t) (behind_version e.1 (senses_of es) (opens e es sound) (valid_first e es sound))
    ∙ sym (upgraded_reads_so e.1 (senses_of es))

-- the text that two pieces make
pub joined : (empty first printed back begun text canonical : List ℕ) → empty ≡ [] → begun ≡ empty ++ first → text ≡ begun ++ back → back ≡ drop 9 printed → printed ≡ canonical → text ≡ first ++ drop 9 canonical
joined empty first printed back begun text canonical nothing once twice cut is =
    twice ∙ ap (λ t. t ++ back) (once ∙ ap (λ t. t ++ first) nothing) ∙ ap (λ t. first ++ t) (cut ∙ ap (drop 9) is)

-- the lines after the first of the printed text are those of the text of version 3
pub upgraded_so : (lines : Lines) (text : List ℕ) → text ≡ codes "policy 3\n" ++ drop 9 (canonical_text (map sense_at lines.held)) → AreSound (entries_in lines) → text ≡ upgraded_text (entries_in lines)
upgraded_so lines text is sound = is ∙ ap (λ t. codes "policy 3\n" ++ drop 9 t) (printed lines _ refl) ∙ cut_so (entries_in lines) sound
