-- Consequences of reading all tokens for the grammar.
use Rattle.policy_text_defs.proofs.Prelude.{List, [], refl, ◌≡◌, Some, ◌++◌, subst, sym, ◌∙◌, ap, append-nil, Glyph, Atom, Expression, Spells, Phrase, most_open, expression, atom}
use Rattle.policy_text_defs.proofs.AtomLaws.{all_exact}

pub Spells-read : (gs rest : List Glyph) (a : Phrase) → expression (atom most_open) gs ≡ Some (a, rest) → rest ≡ [] → Spells gs a
Spells-read gs rest a e over =
    let begins = all_exact.sound gs rest a e in
    let whole : gs ≡ begins.front = begins.split ∙ ap (λ l. begins.front ++ l) over ∙ append-nil begins.front in
    record { form = let P : List Glyph → Type 0 = λ l. Expression (Atom most_open) l a in subst P (sym whole) begins.is; low = begins.low }

pub read-Spells : (gs : List Glyph) (a : Phrase) → Spells gs a → expression (atom most_open) gs ≡ Some (a, [])
read-Spells gs a s = ap (expression (atom most_open)) (sym (append-nil gs)) ∙ all_exact.again gs [] a s.form s.low (((tt, refl), refl), refl)
