-- Programs of lines, one after another.
use Rattle.policy_rules.proofs.Prelude.{◌∙◌, ap, List, ◌≡◌, sym, ℕ, [], ◌∷◌, refl, ◌++◌, take, length, ◌+◌, ◌<◌, get_or, filter_map-append, Entry, Program, Assignment, Span, program_over, joined, entries_of, Name, each_span, keep_span, pop_in, push_in}
use Rattle.policy_rules.proofs.Lines.{Line, entry_of, take-line}

abbrev of_parts : List Span → List Span → List Assignment → List Assignment → Program
of_parts ks es push pop = record { keeps = ks; eaches = es; push = push; pop = pop }

same_parts : {a b c d : List Span} {e f g h : List Assignment} → a ≡ b → c ≡ d → e ≡ f → g ≡ h → of_parts a c e g ≡ of_parts b d f h
same_parts p q r s = rw (p, q, r, s) refl

pub program_over-append : (keeps eaches : List Name) (xs ys : List Entry) → program_over keeps eaches (xs ++ ys) ≡ joined (program_over keeps eaches xs) (program_over keeps eaches ys)
program_over-append keeps eaches xs ys = same_parts
    (filter_map-append (λ e. keep_span e.1) xs ys)
    (filter_map-append (λ e. each_span e.1) xs ys)
    (filter_map-append (push_in keeps eaches) xs ys)
    (filter_map-append (pop_in keeps eaches) xs ys)

-- one more line
pub program_line : (keeps eaches : List Name) (lines : List Line) (i : ℕ) (x : Line) (old new : Program) → i < length lines → x ≡ get_or lines i x
    → old ≡ program_over keeps eaches (take i (entries_of lines)) → new ≡ joined old (program_over keeps eaches (entry_of x ∷ [])) → new ≡ program_over keeps eaches (take (i + 1) (entries_of lines))
program_line keeps eaches lines i x old new within is before after =
    after ∙ ap (λ (p : Program). joined p (program_over keeps eaches (entry_of x ∷ []))) before
    ∙ sym (program_over-append keeps eaches (take i (entries_of lines)) (entry_of x ∷ []))
    ∙ ap (program_over keeps eaches) (sym (take-line lines i x within is))
