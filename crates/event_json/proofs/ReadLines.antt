-- The values of a JSON line are read back from its bytes.
use Rattle.event_json.proofs.Prelude.{[], ◌∙◌, ◌∷◌, ap, sym, ◌≡◌, List, arith, ℕ, ◌++◌, ◌+◌, decimal, drop, ◌<◌, ◌^◌, codes, refl, ◌%◌, Bool, false, if◌then◌else◌, map, not, true, ◌&&◌, ◌==◌, decimal_by_steps_wide, is_ascii_digit, line_of, ranks_text, Is64, numbers_text, after_colons, leading, number_at, past_colon, text_at, is_no_bracket, is_no_quote, slash_for_comma}
use Rattle.std.proofs.lemmas.Bool.{eqb-true}
use Rattle.std.proofs.lemmas.List.{map-append}
use Rattle.std.proofs.lemmas.List.Folds.{list_all-append}
use Rattle.std.specs.List.{list_all, AllByRecursion}
use Rattle.text_core.specs.Tokens.{is_word_byte}

-- ---- tests of bytes
and_left : (s t : Bool) → (s && t) ≡ true → s ≡ true
and_left true t e = refl
and_left false t e = e

and_right : (s t : Bool) → (s && t) ≡ true → t ≡ true
and_right true t e = e
and_right false t e = cc

both : (s t : Bool) → s ≡ true → t ≡ true → (s && t) ≡ true
both s t e f = ap (λ x. x && t) e ∙ f

list_all-weaker : (p q : ℕ → Bool) → ((b : ℕ) → p b ≡ true → q b ≡ true) → (bs : List ℕ) → list_all p bs ≡ true → list_all q bs ≡ true
list_all-weaker p q weaker [] all = refl
list_all-weaker p q weaker (b ∷ bs) all =
    both (q b) (list_all q bs) (weaker b (and_left (p b) (list_all p bs) all)) (list_all-weaker p q weaker bs (and_right (p b) (list_all p bs) all))

-- a byte that passes a test isn't one that fails it
is_other : (p : ℕ → Bool) (c : ℕ) → p c ≡ false → (b : ℕ) → p b ≡ true → not (b == c) ≡ true
is_other p c fails b passes = by_test (b == c) refl
  where
    by_test : (t : Bool) → (b == c) ≡ t → not t ≡ true
    by_test true e = let same : b ≡ c = eqb-true b c e in let n : p c ≡ true = ap p (sym same) ∙ passes in cc
    by_test false e = refl

-- ---- reading over a value
pub leading_over : (test : ℕ → Bool) (v ws : List ℕ) → list_all test v ≡ true → leading test ws ≡ [] → leading test (v ++ ws) ≡ v
leading_over test [] ws all stops = stops
leading_over test (b ∷ bs) ws all stops =
    ap (λ t. if t then b ∷ leading test (bs ++ ws) else []) (and_left (test b) (list_all test bs) all)
    ∙ ap (λ l. b ∷ l) (leading_over test bs ws (and_right (test b) (list_all test bs) all) stops)

pub past_over : (v ws : List ℕ) → list_all (λ b. not (b == 58)) v ≡ true → past_colon (v ++ ws) ≡ past_colon ws
past_over [] ws all = refl
past_over (b ∷ bs) ws all = by_test (b == 58) (and_left (not (b == 58)) (list_all (λ b. not (b == 58)) bs) all) ∙ past_over bs ws (and_right (not (b == 58)) (list_all (λ b. not (b == 58)) bs) all)
  where
    by_test : (t : Bool) → not t ≡ true → (if t then bs ++ ws else past_colon (bs ++ ws)) ≡ past_colon (bs ++ ws)
    by_test true e = cc
    by_test false e = refl

-- ---- digits
digit_passes : (d : ℕ) → d < 10 → is_ascii_digit (48 + d) ≡ true
digit_passes d low = search (arith)

pub digits_pass : (n : ℕ) → n < 10 ^ 64 → list_all is_ascii_digit (decimal n) ≡ true
digits_pass n small = decimal_by_steps_wide (λ n ds. list_all is_ascii_digit ds ≡ true)
    (λ n low. both (is_ascii_digit (48 + n)) true (digit_passes n low) refl)
    (λ n ds high so_far. list_all-append is_ascii_digit ds ((48 + n % 10) ∷ [])
    ∙ both (list_all is_ascii_digit ds) (list_all is_ascii_digit ((48 + n % 10) ∷ [])) so_far (both (is_ascii_digit (48 + n % 10)) true (digit_passes (n % 10) (omega arith)) refl))
    n small

pub digits_of_64 : (n : ℕ) → n < 2 ^ 64 → list_all is_ascii_digit (decimal n) ≡ true
digits_of_64 n small = digits_pass n (omega arith)

pub no_colons : (v : List ℕ) → list_all is_ascii_digit v ≡ true → list_all (λ b. not (b == 58)) v ≡ true
no_colons = list_all-weaker is_ascii_digit (λ b. not (b == 58)) (is_other is_ascii_digit 58 refl)

-- ---- ranks
numbers_pass : (p : ℕ → Bool) → p 44 ≡ true → ((b : ℕ) → is_ascii_digit b ≡ true → p b ≡ true) → (ranks : List ℕ) → AllByRecursion Is64 ranks → list_all p (numbers_text ranks) ≡ true
numbers_pass p comma digit [] small = refl
numbers_pass p comma digit (n ∷ []) small = list_all-weaker is_ascii_digit p digit (decimal n) (digits_of_64 n small.0)
numbers_pass p comma digit (n ∷ m ∷ ns) small =
    list_all-append p (decimal n) (44 ∷ numbers_text (m ∷ ns))
    ∙ both (list_all p (decimal n)) (p 44 && list_all p (numbers_text (m ∷ ns))) (list_all-weaker is_ascii_digit p digit (decimal n) (digits_of_64 n small.0))
    (both (p 44) (list_all p (numbers_text (m ∷ ns))) comma (numbers_pass p comma digit (m ∷ ns) small.1))

slash_word : (v : List ℕ) → list_all is_ascii_digit v ≡ true → map slash_for_comma v ≡ v
slash_word [] all = refl
slash_word (b ∷ bs) all =
    ap (λ c. c ∷ map slash_for_comma bs) (by_test (b == 44) (is_other is_ascii_digit 44 refl b (and_left (is_ascii_digit b) (list_all is_ascii_digit bs) all)))
    ∙ ap (λ cs. b ∷ cs) (slash_word bs (and_right (is_ascii_digit b) (list_all is_ascii_digit bs) all))
  where
    by_test : (t : Bool) → not t ≡ true → (if t then 47 else b) ≡ b
    by_test true e = cc
    by_test false e = refl

slash_ranks : (ranks : List ℕ) → AllByRecursion Is64 ranks → map slash_for_comma (numbers_text ranks) ≡ ranks_text ranks
slash_ranks [] small = refl
slash_ranks (n ∷ []) small = slash_word (decimal n) (digits_of_64 n small.0)
slash_ranks (n ∷ m ∷ ns) small =
    map-append slash_for_comma (decimal n) (44 ∷ numbers_text (m ∷ ns))
    ∙ ap (λ l. l ++ (47 ∷ map slash_for_comma (numbers_text (m ∷ ns)))) (slash_word (decimal n) (digits_of_64 n small.0))
    ∙ ap (λ l. decimal n ++ (47 ∷ l)) (slash_ranks (m ∷ ns) small.1)

pub no_colons_in_ranks : (ranks : List ℕ) → AllByRecursion Is64 ranks → list_all (λ b. not (b == 58)) (91 ∷ numbers_text ranks) ≡ true
no_colons_in_ranks ranks small = numbers_pass (λ b. not (b == 58)) refl (is_other is_ascii_digit 58 refl) ranks small

-- an array of ranks at the bytes after a colon
pub ranks_read : (bs ws ranks : List ℕ) → AllByRecursion Is64 ranks → bs ≡ 91 ∷ (numbers_text ranks ++ (93 ∷ ws)) → map slash_for_comma (leading is_no_bracket (drop 1 bs)) ≡ ranks_text ranks
ranks_read bs ws ranks small is =
    ap (λ l. map slash_for_comma (leading is_no_bracket (drop 1 l))) is
    ∙ ap (map slash_for_comma) (leading_over is_no_bracket (numbers_text ranks) (93 ∷ ws) (numbers_pass is_no_bracket refl (is_other is_ascii_digit 93 refl) ranks small) refl)
    ∙ slash_ranks ranks small

-- ---- the members of a packet
-- the event number and what follows it
abbrev pub packet_from : List ℕ → List ℕ → List ℕ → List ℕ → List ℕ → List ℕ → List ℕ
packet_from E P L C B rest =
    E ++ (codes ",\"packet\":" ++ (P ++ (codes ",\"leaf\":\"" ++ (L ++ (codes "\",\"class\":" ++ (C ++ (codes ",\"bytes\":" ++ (B ++ rest))))))))

pub record Reads (line E P L rest : List ℕ) : Type 0 where
  pub event : number_at 2 line ≡ E
  pub packet : number_at 3 line ≡ P
  pub leaf : text_at 4 line ≡ L
  pub after : after_colons 7 line ≡ past_colon rest

pub reads : (line E P L C B rest : List ℕ) → after_colons 2 line ≡ packet_from E P L C B rest → list_all is_ascii_digit E ≡ true → list_all is_ascii_digit P ≡ true
    → list_all is_word_byte L ≡ true → list_all is_ascii_digit C ≡ true → list_all is_ascii_digit B ≡ true → Reads line E P L rest
reads line E P L C B rest two e p l c b =
    let end : List ℕ = codes ",\"bytes\":" ++ (B ++ rest) in
    let classes : List ℕ = codes "\",\"class\":" ++ (C ++ end) in
    let leaves : List ℕ = codes ",\"leaf\":\"" ++ (L ++ classes) in
    let packets : List ℕ = codes ",\"packet\":" ++ (P ++ leaves) in
    let plain : list_all (λ b. not (b == 58)) (34 ∷ L) ≡ true = list_all-weaker is_word_byte (λ b. not (b == 58)) (is_other is_word_byte 58 refl) L l in
    let three : after_colons 3 line ≡ P ++ leaves = ap past_colon two ∙ past_over E packets (no_colons E e) in
    let four : after_colons 4 line ≡ 34 ∷ (L ++ classes) = ap past_colon three ∙ past_over P leaves (no_colons P p) in
    let five : after_colons 5 line ≡ C ++ end = ap past_colon four ∙ past_over (34 ∷ L) classes plain in
    let six : after_colons 6 line ≡ B ++ rest = ap past_colon five ∙ past_over C end (no_colons C c) in
    record {
      event = ap (leading is_ascii_digit) two ∙ leading_over is_ascii_digit E packets e refl;
      packet = ap (leading is_ascii_digit) three ∙ leading_over is_ascii_digit P leaves p refl;
      leaf = ap (λ bs. leading is_no_quote (drop 1 bs)) four ∙ leading_over is_no_quote L classes (list_all-weaker is_word_byte is_no_quote (is_other is_word_byte 34 refl) L l) refl;
      after = ap past_colon six ∙ past_over B rest (no_colons B b);
    }

-- words that are equal make equal lines
pub same_line : (w a b c x y z : List ℕ) (ds es : List (List ℕ)) → a ≡ x → b ≡ y → c ≡ z → ds ≡ es → line_of (w ∷ a ∷ b ∷ c ∷ ds) ≡ line_of (w ∷ x ∷ y ∷ z ∷ es)
same_line w a b c x y z ds es e f g h =
    ap (λ v. line_of (w ∷ v ∷ b ∷ c ∷ ds)) e ∙ ap (λ v. line_of (w ∷ x ∷ v ∷ c ∷ ds)) f ∙ ap (λ v. line_of (w ∷ x ∷ y ∷ v ∷ ds)) g ∙ ap (λ vs. line_of (w ∷ x ∷ y ∷ z ∷ vs)) h
