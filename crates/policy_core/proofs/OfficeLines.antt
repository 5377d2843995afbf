-- Statements in memory that are those of the office.
use Rattle.policy_core.proofs.Prelude.{List, ◌≡◌, ap, subst, [], ◌∙◌, arith, length, ◌<◌, ◌∷◌, refl, get_or, map, ◌++◌, append_assoc, ◌^◌, length-map, sym, All-from_recursion, IsFault, entries_of, PolicyFault, NoMemory, Entry, Sense, sense_of, Statement, office_lines, office_statements}
use Rattle.policy_text_defs.specs.declared.edition.Edition.TheVariants.{Classic}
use Rattle.policy_text_defs.specs.Sense.{numbered}
use Rattle.policy_text_defs.specs.Valid.{IsValidIn}
use Rattle.policy_text_defs.specs.Text.{AreWritten}
use Rattle.policy_text_defs.proofs.CanonicalLaws.{IsValidIn_IsWritten}
use Rattle.policy_text.specs.Entries.{Numbered, entry_of}
use Rattle.policy_rules.proofs.OneFault.{accepted-fault}
use Rattle.policy_core.proofs.OfficeStatements.{office-classic, office-accepted}

office-written : AreWritten office_statements
office-written = λ k d within. IsValidIn_IsWritten Classic (get_or office_statements k d) (All-from_recursion (IsValidIn Classic) office_statements office-classic k d within)

pub written : (ss : List Statement) → map sense_of ss ≡ office_statements → AreWritten (map sense_of ss)
written ss is = subst AreWritten (sym is) office-written

pub few : (ss : List Statement) → map sense_of ss ≡ office_statements → length ss < 2 ^ 32
few ss is = (let twenty : length (map sense_of ss) ≡ 20 = ap length is in omega (arith, twenty, length-map ss sense_of))

pub on-lines : (ls : List Numbered) (ss : List Statement) → map entry_of ls ≡ numbered 1 (map sense_of ss) → map sense_of ss ≡ office_statements → entries_of ls ≡ office_lines
on-lines ls ss numbers is = numbers ∙ ap (numbered 1) is

pub only-want : (es : List Entry) (f : PolicyFault) → es ≡ office_lines → IsFault es f → f ≡ NoMemory
only-want es NoMemory is fault = refl
only-want es f is fault = absurd (accepted-fault office_lines f (λ same. cc) (subst (λ (l : List Entry). IsFault l f) is fault) office-accepted)

-- some statements were appended, and then one more
pub one-more : (old mid all front : List Sense) (s : Sense) → mid ≡ old ++ front → all ≡ mid ++ s ∷ [] → all ≡ old ++ (front ++ s ∷ [])
one-more old mid all front s first last = last ∙ ap (λ l. l ++ s ∷ []) first ∙ append_assoc old front (s ∷ [])
