-- Printed text reads back.
use Rattle.policy_text.proofs.Prelude.{◌≡◌, length, sym, map, List, subst, ℕ, ◌≤◌, canonical_text, most_text, numbered, HasEntries, IsWritten, ReadsBack, Numbered, AreWritten, sense_at, edition_of}
use Rattle.std.specs.Prelude.{◌↔◌}
use Rattle.std.proofs.lemmas.List.Elements.{All-map}
use Rattle.policy_text_defs.proofs.CanonicalLaws.{canonical_text_has}

pub canonical_reads_back : (held : List Numbered) (text : List ℕ) → AreWritten held → text ≡ canonical_text (map sense_at held) → ReadsBack text (map sense_at held)
canonical_reads_back held text written same latest may short es =
    let P : List ℕ → Type 0 = λ t. HasEntries latest t es ↔ (es ≡ numbered 1 (map sense_at held)) in
    subst P (sym same) (canonical_text_has (map sense_at held) (All-map (IsWritten (edition_of (map sense_at held))) sense_at held written) latest may (subst (λ t. length t ≤ most_text) same short) es)
