-- Each text gives a target or has an error.
use Rattle.target_core.proofs.Prelude.{arith, ◌≡◌, ◌≤◌, List, Some, length, sym, ℕ, ◌∙◌, [], refl, ◌∷◌, pos, codes, subst, None, Option, replicate, ◌≢◌, Bool, false, inl, inr, negsuc, true, ◌⊎◌, leaves, Items, Members, array, get_member, integer, item, no_items, Data, boolean, datetime, float, string, table, AreArities, each_arity, one_arity, GivesArities, HasNumber, IsRefused, IsToml, first_arity, keys, large, not_toml, off_keys, too_long, IsTargetText}
use Rattle.std.proofs.lemmas.Bool.{cases_lt, cases_order}
use Rattle.std.proofs.lemmas.Str.{IsUtf8-from_is_utf8, is_utf8-from_IsUtf8}
use Rattle.std.specs.Str.{is_utf8}
use Rattle.toml.specs.Parse.{parse_document}
use Rattle.target_core.specs.Laws.{TextsHaveAnAnswer}

-- ---- values
abbrev Number : Data → Type 0
Number d = ((n : ℕ) × (d ≡ integer (pos n))) ⊎ ((n : ℕ) → d ≡ integer (pos n) → ⊥)

number : (d : Data) → Number d
number (integer (pos n)) = inl (n, refl)
number (integer (negsuc n)) = inr (λ m e. cc)
number (string s) = inr (λ m e. cc)
number (float x) = inr (λ m e. cc)
number (boolean b) = inr (λ m e. cc)
number (datetime x) = inr (λ m e. cc)
number (array ds) = inr (λ m e. cc)
number (table ms) = inr (λ m e. cc)

abbrev NumberIn : Data → ℕ → ℕ → Type 0
NumberIn d low high = ((n : ℕ) × ((d ≡ integer (pos n)) × ((low ≤ n) × (n ≤ high)))) ⊎ ((n : ℕ) → d ≡ integer (pos n) → low ≤ n → n ≤ high → ⊥)

same_number : (d : Data) (n m : ℕ) → d ≡ integer (pos n) → d ≡ integer (pos m) → n ≡ m
same_number d n m p q = let e : integer (pos n) ≡ integer (pos m) = sym p ∙ q in cc

number_in : (d : Data) (low high : ℕ) → NumberIn d low high
number_in d low high = elim (number d) [
  | inr none ↦ inr (λ n e l m. none n e)
  | inl (n, is) ↦ elim (cases_lt n low) [
    | inl below ↦ inr (λ m e l h. omega (arith, same_number d n m is e))
    | inr least ↦ elim (cases_lt high n) [
      | inl beyond ↦ inr (λ m e l h. omega (arith, same_number d n m is e))
      | inr most ↦ inl (n, (is, (least, most)))
    ]
  ]
]

abbrev HasNumberOrNot : Members → List ℕ → ℕ → ℕ → Type 0
HasNumberOrNot t key low high = ((n : ℕ) × HasNumber t key low high n) ⊎ ((n : ℕ) → HasNumber t key low high n → ⊥)

number_at : (t : Members) (key : List ℕ) (low high : ℕ) (o : Option Data) → get_member key t ≡ o → HasNumberOrNot t key low high
number_at t key low high None at = inr (λ n h. let e : None ≡ Some (integer (pos n)) = sym at ∙ h.stands in cc)
number_at t key low high (Some d) at = elim (number_in d low high) [
  | inl (n, (is, (least, most))) ↦ inl (n, record { stands = at ∙ (let e : Some d ≡ Some (integer (pos n)) = cc in e); least = least; most = most })
  | inr none ↦ inr (λ n h. let e : Some d ≡ Some (integer (pos n)) = sym at ∙ h.stands in let same : d ≡ integer (pos n) = cc in none n same h.least h.most)
]

-- ---- arrays
abbrev Arities : Items → Type 0
Arities ds = ((ns : List ℕ) × AreArities ds ns) ⊎ ((ns : List ℕ) → AreArities ds ns → ⊥)

none_first : (d : Data) (ds : Items) → ((n : ℕ) → d ≡ integer (pos n) → 2 ≤ n → n ≤ 64 → ⊥) → (ns : List ℕ) → AreArities (item d ds) ns → ⊥
none_first d ds none [] a = a
none_first d ds none (n ∷ ns) a = none n a.0 a.1 a.2

none_later : (d : Data) (ds : Items) → ((ns : List ℕ) → AreArities ds ns → ⊥) → (ns : List ℕ) → AreArities (item d ds) ns → ⊥
none_later d ds none [] a = a
none_later d ds none (n ∷ ns) a = none ns a.3

arities : (ds : Items) → Arities ds
arities no_items = inl ([], tt)
arities (item d ds) = elim (number_in d 2 64) [
  | inr none ↦ inr (none_first d ds none)
  | inl (n, (is, (least, most))) ↦ elim (arities ds) [
    | inl (ns, are) ↦ inl (n ∷ ns, (is, least, most, are))
    | inr none ↦ inr (none_later d ds none)
  ]
]

-- ---- tables
abbrev Gives : Members → Type 0
Gives t = ((ns : List ℕ) × ((above : ℕ) × GivesArities t ns above)) ⊎ ((ns : List ℕ) (above : ℕ) → GivesArities t ns above → ⊥)

no_arity : (t : Members) → keys t ≡ 2 → ((d h : ℕ) → HasNumber t (codes "arity") 2 64 d → HasNumber t (codes "height") 0 16 h → ⊥) → (ns : List ℕ) (above : ℕ) → GivesArities t ns above → ⊥
no_arity t two none ns above (one_arity d h k p q) = none d h p q
no_arity t two none ns above (each_arity ds ms k p q f) = omega (arith, two, k)

two_keys : (t : Members) → keys t ≡ 2 → Gives t
two_keys t two = elim (number_at t (codes "arity") 2 64 (get_member (codes "arity") t) refl) [
  | inr none ↦ inr (no_arity t two (λ d h p q. none d p))
  | inl (d, p) ↦ elim (number_at t (codes "height") 0 16 (get_member (codes "height") t) refl) [
    | inr none ↦ inr (no_arity t two (λ d h p q. none h q))
    | inl (h, q) ↦ inl (replicate h d, (d, one_arity d h two p q))
  ]
]

no_arities : (t : Members) → keys t ≡ 1 → ((ds : Items) (ns : List ℕ) → get_member (codes "arities") t ≡ Some (array ds) → AreArities ds ns → length ns ≤ 16 → ⊥) → (ns : List ℕ) (above : ℕ) → GivesArities t ns above → ⊥
no_arities t one none ns above (one_arity d h k p q) = omega (arith, one, k)
no_arities t one none ns above (each_arity ds ms k p q f) = none ds ms p q f

abbrev Array : Option Data → Type 0
Array o = ((ds : Items) × (o ≡ Some (array ds))) ⊎ ((ds : Items) → o ≡ Some (array ds) → ⊥)

array_in : (o : Option Data) → Array o
array_in None = inr (λ ds e. cc)
array_in (Some (integer z)) = inr (λ ds e. cc)
array_in (Some (string s)) = inr (λ ds e. cc)
array_in (Some (float x)) = inr (λ ds e. cc)
array_in (Some (boolean b)) = inr (λ ds e. cc)
array_in (Some (datetime x)) = inr (λ ds e. cc)
array_in (Some (array ds)) = inl (ds, refl)
array_in (Some (table ms)) = inr (λ ds e. cc)

same_items : (o : Option Data) (ds es : Items) → o ≡ Some (array ds) → o ≡ Some (array es) → ds ≡ es
same_items o ds es p q = let e : Some (array ds) ≡ Some (array es) = sym p ∙ q in cc

same_arities : (ds : Items) (ns ms : List ℕ) → AreArities ds ns → AreArities ds ms → length ns ≡ length ms
same_arities no_items [] [] a b = refl
same_arities no_items [] (m ∷ ms) a b = absurd b
same_arities no_items (n ∷ ns) ms a b = absurd a
same_arities (item d ds) [] ms a b = absurd a
same_arities (item d ds) (n ∷ ns) [] a b = absurd b
same_arities (item d ds) (n ∷ ns) (m ∷ ms) a b = omega (arith, same_arities ds ns ms a.3 b.3)

-- two lists of arities of the table's array have the same length
as_many : (t : Members) (ds es : Items) (ns ms : List ℕ) → get_member (codes "arities") t ≡ Some (array ds) → get_member (codes "arities") t ≡ Some (array es) → AreArities ds ns → AreArities es ms → length ns ≡ length ms
as_many t ds es ns ms p q a b =
    let same : es ≡ ds = same_items (get_member (codes "arities") t) es ds q p in
    same_arities ds ns ms a (subst (λ (x : Items). AreArities x ms) same b)

one_key : (t : Members) → keys t ≡ 1 → Gives t
one_key t one = elim (array_in (get_member (codes "arities") t)) [
  | inr none ↦ inr (no_arities t one (λ ds ns p q f. none ds p))
  | inl (ds, p) ↦ elim (arities ds) [
    | inr none ↦ inr (no_arities t one (λ es ns q a f. none ns (subst (λ (x : Items). AreArities x ns) (same_items (get_member (codes "arities") t) es ds q p) a)))
    | inl (ns, a) ↦ elim (cases_lt 16 (length ns)) [
      | inl long ↦ inr (no_arities t one (λ es ms q b f. omega (arith, as_many t ds es ns ms p q a b)))
      | inr short ↦ inl (ns, (first_arity ns, each_arity ds ns one p a short))
    ]
  ]
]

other_keys : (t : Members) → keys t ≢ 1 → keys t ≢ 2 → (ns : List ℕ) (above : ℕ) → GivesArities t ns above → ⊥
other_keys t not_one not_two ns above (one_arity d h k p q) = not_two k
other_keys t not_one not_two ns above (each_arity ds ms k p q f) = not_one k

gives : (t : Members) → Gives t
gives t = elim (cases_order (keys t) 1) [
  | inl one ↦ one_key t one
  | inr (inl below) ↦ inr (other_keys t (omega arith) (omega arith))
  | inr (inr above) ↦ elim (cases_order (keys t) 2) [
    | inl two ↦ two_keys t two
    | inr (inl below) ↦ inr (other_keys t (omega arith) (omega arith))
    | inr (inr beyond) ↦ inr (other_keys t (omega arith) (omega arith))
  ]
]

-- ---- texts
abbrev Answer : List ℕ → Type 0
Answer bytes = ((ns : List ℕ) × ((above : ℕ) × IsTargetText bytes ns above)) ⊎ ((code : ℕ) × IsRefused bytes code)

of_table : (bytes : List ℕ) (t : Members) → length bytes ≤ 65536 → IsToml bytes t → Answer bytes
of_table bytes t short toml = elim (gives t) [
  | inr none ↦ inr (2, off_keys short (record { table = t; toml = toml; none = none }))
  | inl (ns, (above, g)) ↦ elim (cases_lt 65536 (leaves ns)) [
    | inl many ↦ inr (3, large short (record { table = t; arities = ns; above = above; toml = toml; gives = g; many = many }))
    | inr few ↦ inl (ns, (above, record { short = short; table = t; toml = toml; gives = g; few = few }))
  ]
]

of_read : (bytes : List ℕ) (o : Option Members) → parse_document bytes ≡ o → length bytes ≤ 65536 → is_utf8 bytes ≡ true → Answer bytes
of_read bytes None is short text = inr (1, not_toml short (λ t toml. let e : None ≡ Some t = sym is ∙ toml.reads in cc))
of_read bytes (Some t) is short text = of_table bytes t short (record { text = IsUtf8-from_is_utf8 bytes text; reads = is })

of_short : (bytes : List ℕ) (b : Bool) → is_utf8 bytes ≡ b → length bytes ≤ 65536 → Answer bytes
of_short bytes true is short = of_read bytes (parse_document bytes) refl short is
of_short bytes false is short = inr (1, not_toml short (λ t toml. let e : false ≡ true = sym is ∙ is_utf8-from_IsUtf8 bytes toml.text in cc))

pub an_answer-holds : TextsHaveAnAnswer
an_answer-holds bytes = elim (cases_lt 65536 (length bytes)) [
  | inl long ↦ inr (4, too_long long)
  | inr short ↦ of_short bytes (is_utf8 bytes) refl short
]
