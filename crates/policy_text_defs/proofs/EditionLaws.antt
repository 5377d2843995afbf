-- The reader of the third edition reads the texts of the classic one alike.
use Rattle.policy_text_defs.proofs.Prelude.{List, ℕ, refl, ◌≡◌, subst, Bool, true, false, sym, arith, ◌≤◌, suc, cond, leb, le-leb, nat_tests, statements_of, Sense, class, filter, each, keep, leaf, node, pop, push, transaction, version, Entry, IsVersion, CarriesAt, IsForm, IsFormAt, has_names, HasParts, Glyph, Mode, Entries, carried, over, Fault, FirstFault, IsFault, blank_line, empty, here, later, not_text, shaping, statement_line, syntax_fault, HasEntries, IsValidIn, chosen, edition_at, after, Edition, Classic, Third, Opening, Within}
use Rattle.policy_text_defs.specs.Text.{IsFirstFault, ChooseThird, at_once, after_blanks}
use Rattle.policy_text_defs.proofs.ValidLaws.{CarriesAt_IsValidIn, CarriesAt_IsValid}

classic_version : (v : ℕ) → IsVersion Classic v → chosen (version v) ≡ Classic
classic_version v is = let low : leb v 2 ≡ true = le-leb v 2 is.below in rw low refl

-- a statement of the classic edition chooses it
classic_chosen : (s : Sense) → IsValidIn Classic s → chosen s ≡ Classic
classic_chosen (version v) is = classic_version v is.0
classic_chosen (transaction n) is = refl
classic_chosen (keep n s) is = refl
classic_chosen (each n s) is = refl
classic_chosen (push n a) is = refl
classic_chosen (pop n a) is = refl
classic_chosen (class n a cs) is = refl
classic_chosen (filter n a cs) is = refl
classic_chosen (leaf n u a q ns) is = refl
classic_chosen (node n u a q ns) is = refl

-- the first statement is read in the edition that it chooses
pub opening_chosen : (latest : Edition) (line : List ℕ) (s : Sense) → CarriesAt (Opening latest) line s → edition_at (Opening latest) s ≡ chosen s
opening_chosen Classic line s c = sym (classic_chosen s (CarriesAt_IsValidIn (Opening Classic) line s c))
opening_chosen Third line s c = refl

-- a form of one edition, in the mode that reads the statement in this edition
form_at : (m : Mode) (e : Edition) (gs : List Glyph) (s : Sense) → e ≡ edition_at m s → IsForm e gs s → has_names e s ≡ true → IsFormAt m gs s
form_at m e gs s same is named = record { form = subst (λ (d : Edition). IsForm d gs s) same is; named = subst (λ (d : Edition). has_names d s ≡ true) same named }

-- the first line is split alike, so only the form says how it is read
pub opening_alike : (line : List ℕ) (s : Sense) → CarriesAt (Opening Classic) line s → CarriesAt (Opening Third) line s
opening_alike line s c = record {
  clean = c.clean;
  unshaped = c.unshaped;
  tokens = c.tokens;
  says = c.says;
  form = form_at (Opening Third) Classic c.tokens s (opening_chosen Classic line s c) c.form.form c.form.named;
}

-- ---- statements

third_entries : (n : ℕ) (lines : List (List ℕ)) (es : List Entry) → Entries (Opening Classic) n lines es → Entries (Opening Third) n lines es
third_entries n lines es (over _ _) = over (Opening Third) n
third_entries n lines es (empty _ _ line rest _ all on) = empty (Opening Third) n line rest es all (third_entries (suc n) rest es on)
third_entries n lines es (carried _ _ line rest s ds c on) =
    let same : Classic ≡ chosen s = opening_chosen Classic line s c in
    carried (Opening Third) n line rest s ds (opening_alike line s c) (subst (λ (e : Edition). Entries (Within e) (suc n) rest ds) same on)

pub third_has_entries : (text : List ℕ) (es : List Entry) → HasEntries Classic text es → HasEntries Third text es
third_has_entries text es has = record { short = has.short; entries = third_entries 1 (statements_of text) es has.entries }

-- ---- errors

above_2 : (v : ℕ) → leb v 2 ≡ false → 3 ≤ v
above_2 v is = grind (arith, nat_tests)

version_by_case : (v : ℕ) (b : Bool) → leb v 2 ≡ b → cond b Classic Third ≡ Third → 3 ≤ v
version_by_case v true is third = absurd cc
version_by_case v false is third = above_2 v is

-- a statement that chooses the third edition is its version
third_version : (line : List ℕ) (s : Sense) → chosen s ≡ Third → CarriesAt (Opening Third) line s → HasParts Third s → CarriesAt (Opening Third) line (version 3)
third_version line (version v) is c valid =
    let low = valid.below in
    let high = version_by_case v (leb v 2) refl is in
    let same : v ≡ 3 = omega arith in
    subst (λ (n : ℕ). CarriesAt (Opening Third) line (version n)) same c
third_version line (transaction n) is c valid = absurd cc
third_version line (keep n s) is c valid = absurd cc
third_version line (each n s) is c valid = absurd cc
third_version line (push n a) is c valid = absurd cc
third_version line (pop n a) is c valid = absurd cc
third_version line (class n a cs) is c valid = absurd cc
third_version line (filter n a cs) is c valid = absurd cc
third_version line (leaf n u a q ns) is c valid = absurd cc
third_version line (node n u a q ns) is c valid = absurd cc

none_carried : (line : List ℕ) (s : Sense) (e : Edition) → chosen s ≡ e → (CarriesAt (Opening Third) line (version 3) → ⊥) → (CarriesAt (Opening Classic) line s → ⊥) → CarriesAt (Opening Third) line s → ⊥
none_carried line s Classic is third classic c = classic (record {
  clean = c.clean;
  unshaped = c.unshaped;
  tokens = c.tokens;
  says = c.says;
  form = form_at (Opening Classic) (chosen s) c.tokens s is c.form.form c.form.named;
})
none_carried line s Third is third classic c = third (third_version line s is c (CarriesAt_IsValid (Opening Third) line s c))

third_fault : (line : List ℕ) (f : Fault) → (CarriesAt (Opening Third) line (version 3) → ⊥) → IsFault (Opening Classic) line f → IsFault (Opening Third) line f
third_fault line not_text none is = is
third_fault line shaping none is = is
third_fault line syntax_fault none is = (is.0, is.1, is.2, λ s c. none_carried line s (chosen s) refl none (is.3 s) c)

third_first : (n : ℕ) (lines : List (List ℕ)) (k : ℕ) (f : Fault) → (ChooseThird lines → ⊥) → FirstFault (Opening Classic) n lines k f → FirstFault (Opening Third) n lines k f
third_first n lines k f none (here _ _ line rest _ is) = here (Opening Third) n line rest f (third_fault line f (λ c. none (at_once line rest c)) is)
third_first n lines k f none (later _ _ _ _ line rest _ (blank_line all) on) = later (Opening Third) (Opening Third) n k line rest f (blank_line all) (third_first (suc n) rest k f (λ c. none (after_blanks line rest all c)) on)
third_first n lines k f none (later _ _ _ _ line rest _ (statement_line s c) on) =
    let same : Classic ≡ chosen s = opening_chosen Classic line s c in
    later (Opening Third) (after (Opening Third) s) n k line rest f (statement_line s (opening_alike line s c)) (subst (λ (e : Edition). FirstFault (Within e) (suc n) rest k f) same on)

pub third_has_fault : (text : List ℕ) (n : ℕ) (f : Fault) → (ChooseThird (statements_of text) → ⊥) → IsFirstFault Classic text n f → IsFirstFault Third text n f
third_has_fault text n f none is = record { short = is.short; first = third_first 1 (statements_of text) n f none is.first }
