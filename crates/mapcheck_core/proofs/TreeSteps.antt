-- The only tree of lines that are read one by one.
use Rattle.mapcheck_core.proofs.Prelude.{◌≡◌, sym, List, ℕ, subst, ◌∙◌, ap, [], refl, map, arith, ◌∷◌, inr, ◌+◌, ◌<◌, false, length, true, ◌≤◌, inl, take, get_or, ◌⊎◌, Bool, ◌≢◌, take_all, statements_of, line_text, Line, topology, Topo, Topology, IsBranched, IsWithinLimits, Give, IsFirstAtFault, InNoForm, over, next, IsTreeFault, nothing, TreeGives, TreeLine, one_tree, tree, AreRead, IsTreeLineFault, IsTreeText, at_line, large, most_tree_bytes, no_line, second, AreReadLines, IsRead, TreeFault, Found}
use Rattle.std.specs.Bool.{MatchBool}
use Rattle.mapcheck_core.specs.declared.tree_text.Found.TheVariants as found
use Rattle.mapcheck_core.specs.declared.tree_fault.TreeFault.TheVariants as fault
use Rattle.mapcheck_core.specs.TreeTexts.{no_form}
use Rattle.mapcheck_core.proofs.LineLaws.{lines_more, fault_here}

-- an empty line
pub more_nothing : (text : List ℕ) (ls : List Line) (i : ℕ) (d : Line) (f : Found) (place : ℕ) → i < length ls → AreRead (map (line_text text) (take i ls)) f place → ((n : ℕ) → TreeGives n (line_text text (get_or ls i d)) []) → AreRead (map (line_text text) (take (i + 1) ls)) f place
more_nothing text ls i d found.Nothing place inside r g = (r.0, lines_more TreeGives text ls i d [] [] inside r.1 (g (i + 1)))
more_nothing text ls i d (found.Tree t) place inside r g = (r.0, lines_more TreeGives text ls i d (one_tree place (topology t)) [] inside r.1 (g (i + 1)), r.2)
more_nothing text ls i d found.Large place inside r g = (r.0, (r.1.0, lines_more TreeGives text ls i d (one_tree place r.1.0) [] inside r.1.1 (g (i + 1)), r.1.2))

-- if no tree was found, no entry was given
none_yet : (lines : List (List ℕ)) (f : Found) → AreRead lines f 0 → Give TreeGives 1 lines []
none_yet lines found.Nothing r = r.1
none_yet lines (found.Tree t) r = absurd (let low : 0 < 0 = r.0 in omega arith)
none_yet lines found.Large r = absurd (let low : 0 < 0 = r.0 in omega arith)

-- the first line with a tree
pub more_tree : (text : List ℕ) (ls : List Line) (i : ℕ) (d : Line) (f g : Found) → i < length ls → AreRead (map (line_text text) (take i ls)) f 0 → (g ≡ found.Nothing → ⊥) → IsRead (line_text text (get_or ls i d)) g → AreRead (map (line_text text) (take (i + 1) ls)) g (i + 1)
more_tree text ls i d f found.Nothing inside r some is = absurd (some refl)
more_tree text ls i d f (found.Tree t) inside r some is = (omega arith, lines_more TreeGives text ls i d [] (one_tree (i + 1) (topology t)) inside (none_yet (map (line_text text) (take i ls)) f r) (is.0 (i + 1)), is.1)
more_tree text ls i d f found.Large inside r some is = (omega arith, (is.0, lines_more TreeGives text ls i d [] (one_tree (i + 1) is.0) inside (none_yet (map (line_text text) (take i ls)) f r) (is.1 (i + 1)), is.2))

-- a tree on a line
pub record HasTree (line : List ℕ) : Type 0 where
  pub shape : Topology
  pub gives : (n : ℕ) → TreeGives n line (one_tree n shape)

tree_there : (line : List ℕ) (g : Found) → (g ≡ found.Nothing → ⊥) → IsRead line g → HasTree line
tree_there line found.Nothing some is = absurd (some refl)
tree_there line (found.Tree t) some is = record { shape = topology t; gives = is.0 }
tree_there line found.Large some is = record { shape = is.0; gives = is.1 }

-- the entries of the lines read so far: at most one tree, and exactly one if `place` isn't 0
record HasGiven (lines : List (List ℕ)) (place : ℕ) : Type 0 where
  given : List TreeLine
  give : Give TreeGives 1 lines given
  few : length given ≤ 1
  some : 0 < place → length given ≡ 1

has_given : (lines : List (List ℕ)) (f : Found) (place : ℕ) → AreRead lines f place → HasGiven lines place
has_given lines found.Nothing place r = record { given = []; give = r.1; few = omega arith; some = λ low. absurd (let none : place ≡ 0 = r.0 in omega arith) }
has_given lines (found.Tree t) place r = record { given = one_tree place (topology t); give = r.1; few = omega arith; some = λ low. refl }
has_given lines found.Large place r = record { given = one_tree place r.1.0; give = r.1.1; few = omega arith; some = λ low. refl }

-- a second line with a tree
pub second_tree : (text : List ℕ) (ls : List Line) (i : ℕ) (d : Line) (f g : Found) (place : ℕ) → map (line_text text) ls ≡ statements_of text → i < length ls → AreRead (map (line_text text) (take i ls)) f place → 0 < place → (g ≡ found.Nothing → ⊥) → IsRead (line_text text (get_or ls i d)) g → IsFirstAtFault TreeGives IsTreeLineFault (statements_of text) (i + 1)
second_tree text ls i d f g place texts inside r low some is =
    let h = has_given (map (line_text text) (take i ls)) f place r in
    let there = tree_there (line_text text (get_or ls i d)) g some is in
    fault_here TreeGives IsTreeLineFault text ls i d h.given texts inside h.give (second there.shape (h.some low) (there.gives (i + 1)))

-- a malformed line
pub formless : (text : List ℕ) (ls : List Line) (i : ℕ) (d : Line) (f : Found) (place : ℕ) → map (line_text text) ls ≡ statements_of text → i < length ls → AreRead (map (line_text text) (take i ls)) f place → ((n : ℕ) → InNoForm TreeGives n (line_text text (get_or ls i d))) → IsFirstAtFault TreeGives IsTreeLineFault (statements_of text) (i + 1)
formless text ls i d f place texts inside r none =
    let h = has_given (map (line_text text) (take i ls)) f place r in
    fault_here TreeGives IsTreeLineFault text ls i d h.given texts inside h.give (no_form h.few (none (i + 1)))

pub all_read : (text : List ℕ) (ls : List Line) (i : ℕ) (f : Found) (place : ℕ) → map (line_text text) ls ≡ statements_of text → length ls ≤ i → AreRead (map (line_text text) (take i ls)) f place → AreReadLines text f place
all_read text ls i f place texts end r = subst (λ (lines : List (List ℕ)). AreRead lines f place) (ap (map (line_text text)) (take_all i ls end) ∙ texts) r

-- ---- the answer for the whole text

pub no_tree : (text : List ℕ) (n : ℕ) → length text ≤ most_tree_bytes → AreReadLines text found.Nothing n → IsTreeFault text (fault.Line 0)
no_tree text n short r = no_line short r.1

pub large_tree : (text : List ℕ) (n : ℕ) → length text ≤ most_tree_bytes → AreReadLines text found.Large n → IsTreeFault text (fault.Large n)
large_tree text n short r = large n r.1.0 (record { short = short; give = r.1.1 }) r.1.2

pub tree_text : (text : List ℕ) (t : Topo) (n : ℕ) → length text ≤ most_tree_bytes → AreReadLines text (found.Tree t) n → IsTreeText text (topology t)
tree_text text t n short r = record { line = n; only = record { short = short; give = r.1 }; small = r.2 }

abbrev AreTrees : List TreeLine → Type 0
AreTrees [] = Unit {0}
AreTrees (l ∷ ls) = IsBranched l.tree × AreTrees ls

give_branched : (n : ℕ) (ls : List (List ℕ)) (ts : List TreeLine) → Give TreeGives n ls ts → AreTrees ts
give_branched n [] _ (over _) = tt
give_branched n (l ∷ ls) _ (next _ _ _ _ ts (nothing clean says) rest) = give_branched (n + 1) ls ts rest
give_branched n (l ∷ ls) _ (next _ _ _ _ ts (tree t clean says b) rest) = (b, give_branched (n + 1) ls ts rest)

pub text_within : (text : List ℕ) (t : Topology) → IsTreeText text t → IsWithinLimits t
text_within text t is = record { few = is.small.0; low = is.small.1; branched = (give_branched 1 (statements_of text) (one_tree is.line t) is.only.give).0 }

-- the error of the line at an index
pub told_fault : (text : List ℕ) (ls : List Line) (i : ℕ) (d : Line) (f : Found) (place number : ℕ) (g : TreeFault) → length text ≤ most_tree_bytes → map (line_text text) ls ≡ statements_of text → i < length ls → AreRead (map (line_text text) (take i ls)) f place → number ≡ i + 1 → (g ≡ fault.NoMemory) ⊎ ((g ≡ fault.Line number) × ((n : ℕ) → InNoForm TreeGives n (line_text text (get_or ls i d)))) → (g ≡ fault.NoMemory) ⊎ IsTreeFault text g
told_fault text ls i d f place number g short texts inside r same (inl e) = inl e
told_fault text ls i d f place number g short texts inside r same (inr wrong) =
    let here = formless text ls i d f place texts inside r wrong.1 in
    inr (subst (IsTreeFault text) (ap fault.Line (sym same) ∙ sym wrong.0) (at_line (i + 1) short here))

-- a second tree, at an index
pub told_second : (text : List ℕ) (ls : List Line) (i : ℕ) (d : Line) (f g : Found) (place number : ℕ) → length text ≤ most_tree_bytes → map (line_text text) ls ≡ statements_of text → i < length ls → AreRead (map (line_text text) (take i ls)) f place → number ≡ i + 1 → 0 < place → (g ≡ found.Nothing → ⊥) → IsRead (line_text text (get_or ls i d)) g → IsTreeFault text (fault.Line number)
told_second text ls i d f g place number short texts inside r same low some is =
    subst (λ n. IsTreeFault text (fault.Line n)) (sym same) (at_line (i + 1) short (second_tree text ls i d f g place texts inside r low some is))

-- the next line's tree, if none was found before, or an empty line
pub told_more : (text : List ℕ) (ls : List Line) (i : ℕ) (d : Line) (f g : Found) (place : ℕ) → i < length ls → AreRead (map (line_text text) (take i ls)) f place → IsRead (line_text text (get_or ls i d)) g → g ≡ found.Nothing → AreRead (map (line_text text) (take (i + 1) ls)) f place
told_more text ls i d f g place inside r is e = more_nothing text ls i d f place inside r (subst (IsRead (line_text text (get_or ls i d))) e is)

-- the result of the test of a line
pub is_tree : (f : Found) (b : Bool) → MatchBool b (f ≢ found.Nothing) (f ≡ found.Nothing) → b ≡ true → f ≡ found.Nothing → ⊥
is_tree f true m e n = m n
is_tree f false m e n = cc

pub is_none : (f : Found) (b : Bool) → MatchBool b (f ≢ found.Nothing) (f ≡ found.Nothing) → b ≡ false → f ≡ found.Nothing
is_none f true m e = absurd cc
is_none f false m e = m
