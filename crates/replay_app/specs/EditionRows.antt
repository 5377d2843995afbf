-- A policy of version 3, which a reader of versions 1 and 2 rejects.
use Rattle.std.proofs.Common.{lit≤, ap, ◌∙◌}
use Rattle.std.specs.Prelude.{◌≡◌, refl, ℕ, List, [], ◌∷◌, codes}
use Rattle.std.specs.Fmt.{digits}
use Rattle.text_core.specs.Glyphs.{text, figure}
use Rattle.text_core.specs.declared.token.TokenKind.TheVariants as k
use Rattle.policy_rules.specs.Accepted.{AreAccepted}
use Rattle.policy_rules.specs.Resolved.{Resolved, IsResolved}
use Rattle.policy_text.specs.declared.fault.TextFault.TheVariants as fault
use Rattle.policy_text_defs.proofs.EditionLaws.{opening_chosen, opening_alike}
use Rattle.policy_text_defs.proofs.TextLaws.{CarriesAt-one}
use Rattle.policy_text_defs.specs.Editions.{chosen}
use Rattle.policy_text_defs.specs.Settings.{no_queueing, settings_of}
use Rattle.policy_text_defs.specs.Sense.{Sense, Entry, entry, version, filter, leaf}
use Rattle.policy_text_defs.specs.Statements.{unset, version_form, filter_form, leaf_settings_form, no_more, settled}
use Rattle.policy_text_defs.specs.Tests.{unconditional}
use Rattle.policy_text_defs.specs.Text.{Carries, CarriesAt, HasEntries, IsFirstFault, carried, over, here, syntax_fault}
use Rattle.policy_text_defs.specs.declared.edition.Edition.TheVariants.{Classic, Third}
use Rattle.policy_text_defs.specs.declared.edition.Mode.TheVariants.{Opening, Within}
use Rattle.replay_app.specs.Answer.{text_alone}
use Rattle.replay_app.specs.Follows.{goes_on, stops}
use Rattle.replay_app.specs.Output.{IsOutput}
use Rattle.replay_app.specs.Policies.{at_fault, text_refused}
use Rattle.replay_app.specs.Words.{check}

abbrev policy_text : List ℕ
policy_text = codes "policy 3\nclass all\nleaf root using fifo classes all\n"

-- ---- its statements
abbrev first_line : List ℕ
first_line = codes "policy 3"

abbrev statements : List Entry
statements =
    entry 1 (version 3)
    ∷ entry 2 (filter (codes "all") unset [])
    ∷ entry 3 (leaf (codes "root") (codes "fifo") unset no_queueing (codes "all" ∷ []))
    ∷ []

first_is_version_3 : CarriesAt (Opening Third) first_line (version 3)
first_is_version_3 = record {
  clean = refl;
  unshaped = refl;
  tokens = text (codes "policy") ∷ figure 3 ∷ [];
  says = (k.Word, 6, refl, refl, (k.Number, 1, refl, refl, refl));
  form = record { form = version_form 3 (record { above = lit≤ tt; below = lit≤ tt }); named = refl };
}

second_is_a_class : Carries Third (codes "class all") (filter (codes "all") unset [])
second_is_a_class = record {
  clean = refl;
  unshaped = refl;
  tokens = text (codes "class") ∷ text (codes "all") ∷ [];
  says = (k.Word, 5, refl, refl, (k.Word, 3, refl, refl, refl));
  form = record { form = filter_form refl (codes "all") [] [] unset [] refl (no_more unset) unconditional; named = refl };
}

third_is_a_leaf : Carries Third (codes "leaf root using fifo classes all") (leaf (codes "root") (codes "fifo") unset no_queueing (codes "all" ∷ []))
third_is_a_leaf = record {
  clean = refl;
  unshaped = refl;
  tokens = text (codes "leaf") ∷ text (codes "root") ∷ text (codes "using") ∷ text (codes "fifo") ∷ text (codes "classes") ∷ text (codes "all") ∷ [];
  says = (k.Word, 4, refl, refl, (k.Word, 4, refl, refl, (k.Word, 5, refl, refl, (k.Word, 4, refl, refl, (k.Word, 7, refl, refl, (k.Word, 3, refl, refl, refl))))));
  form = record { form = leaf_settings_form refl (codes "root") (codes "fifo") [] (settings_of unset no_queueing) (codes "all" ∷ []) refl refl (settled (settings_of unset no_queueing)) (record { some = lit≤ tt; each = (refl, tt) }); named = refl };
}

version_3_is_read : HasEntries Third policy_text statements
version_3_is_read = record {
  short = lit≤ tt;
  entries =
      carried (Opening Third) 1 first_line _ (version 3) _ first_is_version_3
      (carried (Within Third) 2 (codes "class all") _ (filter (codes "all") unset []) _ second_is_a_class
      (carried (Within Third) 3 (codes "leaf root using fifo classes all") [] (leaf (codes "root") (codes "fifo") unset no_queueing (codes "all" ∷ [])) [] third_is_a_leaf
      (over (Within Third) 4)));
}

-- ---- `check` in version 3
-- the canonical text names version 3
version_3_is_printed : (policy : Resolved) → AreAccepted statements → IsResolved statements policy → IsOutput (check Third (codes "p")) (λ name. policy_text) [] (text_alone 0 policy_text)
unfolding digits
version_3_is_printed policy accepted gives =
    goes_on (record { entries = statements; policy = policy }) _ (record { has = version_3_is_read; accepted = accepted; gives = gives }) refl

-- ---- `check` in versions 1 and 2
-- the first line doesn't parse
not_classic : (s : Sense) → CarriesAt (Opening Classic) first_line s → ⊥
not_classic s c =
    let same : Classic ≡ chosen s = opening_chosen Classic first_line s c in
    let is : s ≡ version 3 = CarriesAt-one (Opening Third) first_line s (version 3) (opening_alike first_line s c) first_is_version_3 in
    let wrong : Classic ≡ Third = same ∙ ap chosen is in
    absurd cc

version_3_is_rejected : IsOutput (check Classic (codes "p")) (λ name. policy_text) [] (text_alone 3 (codes "fault policy 23 1\n"))
unfolding digits
version_3_is_rejected =
    let others : List (List ℕ) = codes "class all" ∷ codes "leaf root using fifo classes all" ∷ [] in
    let first : IsFirstFault Classic policy_text 1 syntax_fault = record { short = lit≤ tt; first = here (Opening Classic) 1 first_line others syntax_fault (refl, refl, refl, not_classic) } in
    stops 23 1 (text_refused 23 1 (at_fault (fault.Syntax 1) first))
