-- The loop over the lines of a text.
use Rattle.mapcheck_core.proofs.Prelude.{◌≡◌, sym, List, ℕ, subst, ◌∙◌, ap, [], refl, map, arith, ◌∷◌, ◌+◌, ◌<◌, length, ◌≤◌, ◌++◌, take, get_or, drop, suc, zero, drop-cons, take-suc, map-append, length-map, take_all, take-append-drop, statements_of, line_text, Line, Give, IsFirstAtFault}
use Rattle.mapcheck_core.proofs.GiveLaws.{Give-push}

front_size : (i : ℕ) (ls : List Line) → i ≤ length ls → length (take i ls) ≡ i
front_size zero ls le = refl
front_size (suc i) [] le = absurd (omega arith)
front_size (suc i) (l ∷ ls) le = ap suc (front_size i ls (omega arith))

texts_size : (text : List ℕ) (ls : List Line) (i : ℕ) → i < length ls → length (map (line_text text) (take i ls)) ≡ i
texts_size text ls i inside = length-map (take i ls) (line_text text) ∙ front_size i ls (omega arith)

-- with the line at an index, the lines up to the next one are well formed
pub lines_more : {A : Type 0} (Gives : ℕ → List ℕ → List A → Type 0) (text : List ℕ) (ls : List Line) (i : ℕ) (d : Line) (ss s : List A) → i < length ls → Give Gives 1 (map (line_text text) (take i ls)) ss → Gives (i + 1) (line_text text (get_or ls i d)) s → Give Gives 1 (map (line_text text) (take (i + 1) ls)) (ss ++ s)
lines_more Gives text ls i d ss s inside give here =
    let one : suc i ≡ i + 1 = omega arith in
    let size = texts_size text ls i inside in
    let number : i + 1 ≡ 1 + length (map (line_text text) (take i ls)) = omega arith in
    let lines : map (line_text text) (take i ls) ++ line_text text (get_or ls i d) ∷ [] ≡ map (line_text text) (take (i + 1) ls) =
    sym (map-append (line_text text) (take i ls) (get_or ls i d ∷ [])) ∙ ap (map (line_text text)) (sym (take-suc ls i d inside)) ∙ ap (λ n. map (line_text text) (take n ls)) one in
    subst (λ l. Give Gives 1 l (ss ++ s)) lines (Give-push Gives 1 (map (line_text text) (take i ls)) ss (line_text text (get_or ls i d)) s give (subst (λ n. Gives n (line_text text (get_or ls i d)) s) number here))

-- the line at an index is the first with an error, if those before it are well formed
pub fault_here : {A : Type 0} (Gives : ℕ → List ℕ → List A → Type 0) (AtFault : List A → ℕ → List ℕ → Type 0) (text : List ℕ) (ls : List Line) (i : ℕ) (d : Line) (ss : List A) → map (line_text text) ls ≡ statements_of text → i < length ls → Give Gives 1 (map (line_text text) (take i ls)) ss → AtFault ss (i + 1) (line_text text (get_or ls i d)) → IsFirstAtFault Gives AtFault (statements_of text) (i + 1)
fault_here Gives AtFault text ls i d ss texts inside give wrong =
    let front = map (line_text text) (take i ls) in
    let l = line_text text (get_or ls i d) in
    let behind = map (line_text text) (drop (suc i) ls) in
    let whole : map (line_text text) ls ≡ front ++ l ∷ behind =
    ap (map (line_text text)) (sym (take-append-drop i ls)) ∙ map-append (line_text text) (take i ls) (drop i ls) ∙ ap (λ r. front ++ map (line_text text) r) (drop-cons ls i d inside) in
    let size : length front ≡ i = texts_size text ls i inside in
    record {
      before = front;
      line = l;
      after = behind;
      split = sym texts ∙ whole;
      given = ss;
      give = give;
      place = ap (λ n. n + 1) (sym size);
      at_fault = wrong;
    }

-- all lines are well formed
pub all_lines : {A : Type 0} (Gives : ℕ → List ℕ → List A → Type 0) (text : List ℕ) (ls : List Line) (i : ℕ) (ss : List A) → map (line_text text) ls ≡ statements_of text → length ls ≤ i → Give Gives 1 (map (line_text text) (take i ls)) ss → Give Gives 1 (statements_of text) ss
all_lines Gives text ls i ss texts end give =
    let lines : map (line_text text) (take i ls) ≡ statements_of text = ap (map (line_text text)) (take_all i ls end) ∙ texts in
    subst (λ l. Give Gives 1 l ss) lines give
