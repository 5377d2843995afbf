-- The line numbers and the statements of entries.
use Rattle.policy_text.proofs.Prelude.{◌≡◌, ap, length, sym, ◌++◌, ◌∙◌, refl, [], map, ◌+◌, List, arith, subst, ℕ, ◌∷◌, suc, ◌≤◌, ◌<◌, append_assoc, length-append, Sense, numbered, sense_of, Entry, entry, Entries, IsWritten, over, carried, empty, Statement, Numbered, entry_of, AreWritten, IsRising, Edition, Classic, Mode, Opening, Within, chosen, edition_at, edition_of, after}
use Rattle.std.proofs.lemmas.List.{append-nil}
use Rattle.policy_text_defs.proofs.EditionLaws.{opening_chosen}
use Rattle.policy_text_defs.proofs.CanonicalLaws.{CarriesAt_IsWritten}
use Rattle.std.specs.List.{All, AllByRecursion}
use Rattle.std.proofs.lemmas.List.Elements.{All-nil, All-cons, All-tail}
use Rattle.std.proofs.lemmas.List.Kept.{AllPairs-cons}

-- numbers are strictly increasing, and the first is at least N
abbrev pub Rises : ℕ → List Entry → Type 0
Rises n [] = Unit {0}
Rises n (e ∷ es) = (n ≤ e.0) × Rises (suc e.0) es

rises_from : (m n : ℕ) (es : List Entry) → m ≤ n → Rises n es → Rises m es
rises_from m n [] le r = tt
rises_from m n (e ∷ es) le r = (let first = r.0 in omega arith, r.1)

pub numbered_rises : (n : ℕ) (ss : List Sense) → Rises n (numbered n ss)
numbered_rises n [] = tt
numbered_rises n (s ∷ ss) = (omega arith, numbered_rises (suc n) ss)

pub entries_rise : (m : Mode) (n : ℕ) (lines : List (List ℕ)) (es : List Entry) → Entries m n lines es → Rises n es
entries_rise m n lines es (over _ _) = tt
entries_rise m n lines es (empty _ _ line rest _ all on) = rises_from n (suc n) es (omega arith) (entries_rise m (suc n) rest es on)
entries_rise m n lines es (carried _ _ line rest s ds c on) = (omega arith, entries_rise (after m s) (suc n) rest ds on)

above : (k n : ℕ) (ls : List Numbered) → k < n → Rises n (map entry_of ls) → All (λ l. k < l.0) ls
above k n [] less r = All-nil (λ l. k < l.0)
above k n (l ∷ ls) less r = let first : n ≤ l.0 = r.0 in All-cons (λ l. k < l.0) l ls (omega arith) (above k (suc l.0) ls (omega arith) r.1)

pub rising : (n : ℕ) (ls : List Numbered) → Rises n (map entry_of ls) → IsRising ls
rising n [] r = λ i j d less within. absurd (omega arith)
rising n (l ∷ ls) r = AllPairs-cons (λ a b. a.0 < b.0) l ls (above l.0 (suc l.0) ls (omega arith) r.1) (rising (suc l.0) ls r.1)

-- the statements of entries can be written as lines of the edition
abbrev pub Written : Edition → List Entry → Type 0
Written e es = AllByRecursion (λ x. IsWritten e x.1) es

entries_within : (e : Edition) (n : ℕ) (lines : List (List ℕ)) (es : List Entry) → Entries (Within e) n lines es → Written e es
entries_within e n lines es (over _ _) = tt
entries_within e n lines es (empty _ _ line rest _ all on) = entries_within e (suc n) rest es on
entries_within e n lines es (carried _ _ line rest s ds c on) = (∣ record { line = line; carries = c } ∣₁, entries_within e (suc n) rest ds on)

-- the edition that the first one of entries chooses
abbrev pub edition_in : List Entry → Edition
edition_in [] = Classic
edition_in (e ∷ es) = chosen e.1

pub entries_written : (latest : Edition) (n : ℕ) (lines : List (List ℕ)) (es : List Entry) → Entries (Opening latest) n lines es → Written (edition_in es) es
entries_written latest n lines es (over _ _) = tt
entries_written latest n lines es (empty _ _ line rest _ all on) = entries_written latest (suc n) rest es on
entries_written latest n lines es (carried _ _ line rest s ds c on) =
    let all : Written (edition_at (Opening latest) s) (entry n s ∷ ds) = (CarriesAt_IsWritten (Opening latest) line s c, entries_within (edition_at (Opening latest) s) (suc n) rest ds on) in
    subst (λ (e : Edition). Written e (entry n s ∷ ds)) (opening_chosen latest line s c) all

written : (e : Edition) (ls : List Numbered) → Written e (map entry_of ls) → All (λ l. IsWritten e (sense_of l.1)) ls
written e [] w = All-nil (λ l. IsWritten e (sense_of l.1))
written e (l ∷ ls) w = All-cons (λ l. IsWritten e (sense_of l.1)) l ls w.0 (written e ls w.1)

pub lines_written : (ls : List Numbered) → Written (edition_in (map entry_of ls)) (map entry_of ls) → AreWritten ls
lines_written [] w = All-nil (λ l. IsWritten Classic (sense_of l.1))
lines_written (l ∷ ls) w = written (chosen (sense_of l.1)) (l ∷ ls) w

All-head : {X : Type 0} (P : X → Type 0) (x : X) (xs : List X) → All P (x ∷ xs) → P x
All-head P x xs all = all 0 x (omega arith)

numbered_written : (e : Edition) (n : ℕ) (ss : List Sense) → All (IsWritten e) ss → Written e (numbered n ss)
numbered_written e n [] all = tt
numbered_written e n (s ∷ ss) all = (All-head (IsWritten e) s ss all, numbered_written e (suc n) ss (All-tail (IsWritten e) s ss all))

edition_numbered : (n : ℕ) (ss : List Sense) → edition_of ss ≡ edition_in (numbered n ss)
edition_numbered n [] = refl
edition_numbered n (s ∷ ss) = refl

-- one statement more
pub numbered_more : (n m : ℕ) (ss : List Sense) (s : Sense) → m ≡ n + length ss → numbered n (ss ++ s ∷ []) ≡ numbered n ss ++ entry m s ∷ []
numbered_more n m [] s at = let same : n ≡ m = omega arith in ap (λ k. entry k s ∷ []) same
numbered_more n m (t ∷ ss) s at = ap (λ l. entry n t ∷ l) (numbered_more (suc n) m ss s (omega arith))

map_held : (held : List Numbered) (h : Numbered) → map entry_of (held ++ h ∷ []) ≡ map entry_of held ++ entry_of h ∷ []
map_held [] h = refl
map_held (k ∷ held) h = ap (λ l. entry_of k ∷ l) (map_held held h)

map_senses : (ts : List Statement) (t : Statement) → map sense_of (ts ++ t ∷ []) ≡ map sense_of ts ++ sense_of t ∷ []
map_senses [] t = refl
map_senses (u ∷ ts) t = ap (λ l. sense_of u ∷ l) (map_senses ts t)

senses_length : (ts : List Statement) → length (map sense_of ts) ≡ length ts
senses_length [] = refl
senses_length (t ∷ ts) = ap suc (senses_length ts)

pub of_more : (held new : List Numbered) (ts : List Statement) (t : Statement) (n : ℕ) → new ≡ held ++ (n, t) ∷ [] → n ≡ length ts + 1 → map entry_of held ≡ numbered 1 (map sense_of ts) → map entry_of new ≡ numbered 1 (map sense_of (ts ++ t ∷ []))
of_more held new ts t n grown at before =
    let h : Numbered = (n, t) in
    let many = senses_length ts in
    ap (map entry_of) grown ∙ map_held held h ∙ ap (λ l. l ++ entry n (sense_of t) ∷ []) before ∙ sym (numbered_more 1 n (map sense_of ts) (sense_of t) (omega arith)) ∙ ap (numbered 1) (sym (map_senses ts t))

map_self : {A : Type 0} (xs : List A) → map (λ x. x) xs ≡ xs
map_self [] = refl
map_self (x ∷ xs) = ap (λ l. x ∷ l) (map_self xs)

-- all statements are numbered
pub of_all : (held : List Numbered) (ys ts : List Statement) → map entry_of held ≡ numbered 1 (map sense_of ys) → map (λ t. t) ys ≡ ts → map entry_of held ≡ numbered 1 (map sense_of ts)
of_all held ys ts before all = before ∙ ap (λ l. numbered 1 (map sense_of l)) (sym (map_self ys) ∙ all)

pub of_rising : (held : List Numbered) (ts : List Statement) → map entry_of held ≡ numbered 1 (map sense_of ts) → IsRising held
of_rising held ts is = rising 1 held (subst (Rises 1) (sym is) (numbered_rises 1 (map sense_of ts)))

pub of_written : (held : List Numbered) (ts : List Statement) → map entry_of held ≡ numbered 1 (map sense_of ts) → All (IsWritten (edition_of (map sense_of ts))) (map sense_of ts) → AreWritten held
of_written held ts is all =
    let ss : List Sense = map sense_of ts in
    let every : Written (edition_in (numbered 1 ss)) (numbered 1 ss) = subst (λ (e : Edition). Written e (numbered 1 ss)) (edition_numbered 1 ss) (numbered_written (edition_of ss) 1 ss all) in
    lines_written held (subst (λ (es : List Entry). Written (edition_in es) es) (sym is) every)

-- if none is left, the statements seen are all
pub all_came : (ys rest ts : List Statement) → ys ++ rest ≡ ts → rest ≡ [] → map (λ t. t) ys ≡ ts
all_came ys rest ts whole none = map_self ys ∙ sym (append-nil ys) ∙ ap (λ l. ys ++ l) (sym none) ∙ whole

pub one_came : (ys rest more ts : List Statement) (t : Statement) → ys ++ rest ≡ ts → rest ≡ t ∷ more → (ys ++ t ∷ []) ++ more ≡ ts
one_came ys rest more ts t whole is = append_assoc ys (t ∷ []) more ∙ ap (λ l. ys ++ l) (sym is) ∙ whole

pub still_few : (ys rest more ts : List Statement) (t : Statement) → ys ++ rest ≡ ts → rest ≡ t ∷ more → length ys < length ts
still_few ys rest more ts t whole is = let a = ap length whole in let b = length-append ys rest in let c : length rest ≡ suc (length more) = ap length is in omega arith

pub length_more : (ys : List Statement) (t : Statement) → length ys + 1 ≡ length (ys ++ t ∷ [])
length_more ys t = let b = length-append ys (t ∷ []) in omega arith

pub empty_at : (n : ℕ) (ts : List Statement) → n ≡ length ts → n ≡ 0 → ts ≡ []
empty_at n [] long none = refl
empty_at n (t ∷ ts) long none = absurd (omega arith)

pub one_less : (n m : ℕ) (rest more : List Statement) (t : Statement) → n ≡ length rest → rest ≡ t ∷ more → m + 1 ≡ n → m ≡ length more
one_less n m rest more t long is less = let c : length rest ≡ suc (length more) = ap length is in omega arith
