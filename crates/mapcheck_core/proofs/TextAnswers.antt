-- A text is a tree or has an error, and it has an answer as a map. A text without one is
-- impossible.
use Rattle.mapcheck_core.proofs.Prelude.{Edition, ◌≡◌, sym, List, ℕ, subst, ◌∙◌, [], refl, arith, ◌∷◌, inr, ◌+◌, length, ◌≤◌, inl, ◌++◌, Result, append_assoc, length-append, cases_lt, append-nil, statements_of, Topology, nodes, depth, most_levels, most_nodes, MapGives, MapLine, IsInNoForm, IsMapAnswer, most_map_bytes, Give, IsFirstAtFault, over, IsTreeFault, nothing, IsLarge, TreeGives, TreeLine, one_tree, tree, IsSmall, IsTreeLineFault, IsTreeText, at_line, large, most_tree_bytes, no_line, second, MapFault, Given, TreeFault}
use Rattle.mapcheck_core.specs.declared.tree_fault.TreeFault.TheVariants as fault
use Rattle.mapcheck_core.specs.MapTexts as map
use Rattle.mapcheck_core.specs.TreeTexts.{no_form, too_long}
use Rattle.mapcheck_core.proofs.GiveLaws.{Give-push}

-- ---- line by line
-- After right lines, each line is right or has an error. Then it is contradictory that the lines
-- aren't all right and that none is the first with an error.
module _ {A : Type 0} (Gives : ℕ → List ℕ → List A → Type 0) (AtFault : List A → ℕ → List ℕ → Type 0) (Right : List A → Type 0)
    (decides : (before : List A) (n : ℕ) (line : List ℕ) → Right before → ((s : List A) → Gives n line s → Right (before ++ s) → ⊥) → (AtFault before n line → ⊥) → ⊥)
    (lines : List (List ℕ)) (none_right : (ss : List A) → Give Gives 1 lines ss → Right ss → ⊥) (none_wrong : (n : ℕ) → IsFirstAtFault Gives AtFault lines n → ⊥) where
  behind : (after before : List (List ℕ)) (given : List A) → lines ≡ before ++ after → Give Gives 1 before given → Right given → ⊥
  behind [] before given split give right = none_right given (subst (λ ls. Give Gives 1 ls given) (sym (split ∙ append-nil before)) give) right
  behind (line ∷ after) before given split give right =
      let here : length before + 1 ≡ 1 + length before = omega arith in
      decides given (length before + 1) line right
      (λ s gives so_far. behind after (before ++ line ∷ []) (given ++ s) (split ∙ sym (append_assoc before (line ∷ []) after))
      (Give-push Gives 1 before given line s give (subst (λ k. Gives k line s) here gives)) so_far)
      (λ wrong. none_wrong (length before + 1) (record { before = before; line = line; after = after; split = split; given = given; give = give; place = refl; at_fault = wrong }))

  pub some_lines : Right [] → ⊥
  some_lines right = behind lines [] [] refl (over 1) right

-- ---- maps
abbrev Any : List MapLine → Type 0
Any ms = Unit {0}

module _ (ed : Edition) where
  map_decides : (before : List MapLine) (n : ℕ) (line : List ℕ) → Any before → ((s : List MapLine) → MapGives ed n line s → Any (before ++ s) → ⊥) → (IsInNoForm ed before n line → ⊥) → ⊥
  map_decides before n line any none no_fault = no_fault (λ s gives. none s gives tt)

  pub some_map : (text : List ℕ) (names : List (List ℕ)) → ((r : Result Given MapFault) → IsMapAnswer ed text names r → ⊥) → ⊥
  some_map text names none = elim (cases_lt most_map_bytes (length text)) [
    | inl long ↦ none _ (map.too_long long)
    | inr short ↦ some_lines (MapGives ed) (IsInNoForm ed) Any map_decides (statements_of text)
        (λ ms give any. none _ (map.in_form ms (record { short = short; give = give }))) (λ n first. none _ (map.no_form n short first)) tt
  ]

-- ---- trees
abbrev AtMostOne : List TreeLine → Type 0
AtMostOne ts = length ts ≤ 1

module _ (before : List TreeLine) (n : ℕ) (line : List ℕ) (few : AtMostOne before) (none : (s : List TreeLine) → TreeGives n line s → AtMostOne (before ++ s) → ⊥) (no_fault : IsTreeLineFault before n line → ⊥) where
  gives_nothing : (s : List TreeLine) → TreeGives n line s → ⊥
  gives_nothing _ (nothing clean says) = none [] (nothing clean says) (subst AtMostOne (sym (append-nil before)) few)
  gives_nothing _ (tree t clean says branched) = elim (cases_lt 0 (length before)) [
    | inl some ↦ no_fault (second t (omega (arith, few, some)) (tree t clean says branched))
    | inr first ↦ none (one_tree n t) (tree t clean says branched) (omega (arith, first, length-append before (one_tree n t)))
  ]

  tree_decides : ⊥
  tree_decides = no_fault (no_form few gives_nothing)

sized : (t : Topology) → (IsSmall t → ⊥) → (IsLarge t → ⊥) → ⊥
sized t small big = elim (cases_lt most_nodes (nodes t)) [
  | inl many ↦ big (inl many)
  | inr few ↦ elim (cases_lt most_levels (depth t)) [
    | inl deep ↦ big (inr deep)
    | inr low ↦ small (few, low)
  ]
]

-- well-formed lines with at most one tree
module _ (text : List ℕ) (short : length text ≤ most_tree_bytes) (none : (t : Topology) → IsTreeText text t → ⊥) (no_fault : (f : TreeFault) → IsTreeFault text f → ⊥) where
  of_lines : (ss : List TreeLine) → Give TreeGives 1 (statements_of text) ss → AtMostOne ss → ⊥
  of_lines [] give few = no_fault (fault.Line 0) (no_line short give)
  of_lines (l ∷ []) give few =
      sized l.tree
      (λ small. none l.tree (record { line = l.line; only = record { short = short; give = give }; small = small }))
      (λ big. no_fault (fault.Large l.line) (large l.line l.tree (record { short = short; give = give }) big))
  of_lines (l ∷ k ∷ ss) give few = omega (arith, few)

pub some_tree : (text : List ℕ) → ((t : Topology) → IsTreeText text t → ⊥) → ((f : TreeFault) → IsTreeFault text f → ⊥) → ⊥
some_tree text none no_fault = elim (cases_lt most_tree_bytes (length text)) [
  | inl long ↦ no_fault fault.TooLong (too_long long)
  | inr short ↦ some_lines TreeGives IsTreeLineFault AtMostOne tree_decides (statements_of text)
      (of_lines text short none no_fault) (λ n first. no_fault (fault.Line n) (at_line n short first)) (omega arith)
]
