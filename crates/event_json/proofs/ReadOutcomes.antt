-- The line of a report is read back from the JSON line of each outcome.
use Rattle.event_json.proofs.Prelude.{[], ◌∙◌, ◌∷◌, ap, ◌≡◌, List, arith, ℕ, ◌++◌, ◌+◌, Option, decimal, ◌<◌, ◌^◌, append_assoc, codes, refl, ◌%◌, None, Some, decimal_by_steps_wide, is_ascii_digit, line_of, ranks_text, start_words, Packet, Policy, name_at, Arrived, Departed, Dropped, Empty, LinkRate, Address, times_of, Is64, IsPlain, JsonSaysTheReport, ShowsStart, numbers_text, arrive_line, depart_line, drop_line, empty_line, times_members, after_colons, leading, number_at, past_colon, text_at, report_line_by, report_line_of, word_of}
use Rattle.event_json.proofs.ReadLines.{leading_over, past_over, digits_pass, digits_of_64, no_colons, no_colons_in_ranks, ranks_read, packet_from, Reads, reads, same_line}

-- ---- arrivals and drops
ranks_grouped : (R ws : List ℕ) → (codes ",\"ranks\":[" ++ R ++ codes "]") ++ ws ≡ codes ",\"ranks\":[" ++ (R ++ (codes "]" ++ ws))
ranks_grouped R ws = ap (λ l. codes ",\"ranks\":[" ++ l) (append_assoc R (codes "]") ws)

arrive_members : (E P L C B T M : List ℕ) → codes "{\"kind\":\"arrive\"" ++ (codes ",\"event\":" ++ E ++ codes ",\"packet\":" ++ P ++ codes ",\"leaf\":\"" ++ L ++ codes "\",\"class\":" ++ C ++ codes ",\"bytes\":" ++ B)
    ++ codes ",\"timestamp\":" ++ T ++ M ++ codes "}\n"
    ≡ codes "{\"kind\":\"arrive\",\"event\":" ++ packet_from E P L C B (codes ",\"timestamp\":" ++ (T ++ (M ++ codes "}\n")))
arrive_members E P L C B T M = simp append_assoc

arrive_grouped : (E P L C B T R : List ℕ) → codes "{\"kind\":\"arrive\"" ++ (codes ",\"event\":" ++ E ++ codes ",\"packet\":" ++ P ++ codes ",\"leaf\":\"" ++ L ++ codes "\",\"class\":" ++ C ++ codes ",\"bytes\":" ++ B)
    ++ codes ",\"timestamp\":" ++ T ++ (codes ",\"ranks\":[" ++ R ++ codes "]") ++ codes "}\n"
    ≡ codes "{\"kind\":\"arrive\",\"event\":" ++ packet_from E P L C B (codes ",\"timestamp\":" ++ (T ++ (codes ",\"ranks\":[" ++ (R ++ codes "]}\n"))))
arrive_grouped E P L C B T R =
    arrive_members E P L C B T (codes ",\"ranks\":[" ++ R ++ codes "]")
    ∙ ap (λ l. codes "{\"kind\":\"arrive\",\"event\":" ++ packet_from E P L C B (codes ",\"timestamp\":" ++ (T ++ l))) (ranks_grouped R (codes "}\n"))

arrival_read : (policy : Policy) (event : ℕ) (p : Packet) (a : Address) (ranks : List ℕ) → Is64 event → IsPlain policy p a ranks
    → report_line_of (arrive_line event p.number (name_at policy a) p.class p.len p.moment ranks) ≡ line_of (codes "a" ∷ decimal event ∷ decimal p.number ∷ name_at policy a ∷ ranks_text ranks ∷ [])
arrival_read policy event p a ranks small plain =
    let line : List ℕ = arrive_line event p.number (name_at policy a) p.class p.len p.moment ranks in
    let after_ranks : List ℕ = codes "}\n" in
    let array : List ℕ = codes ",\"ranks\":[" ++ (numbers_text ranks ++ codes "]}\n") in
    let rest : List ℕ = codes ",\"timestamp\":" ++ (decimal p.moment ++ array) in
    let grouped : line ≡ codes "{\"kind\":\"arrive\",\"event\":" ++ packet_from (decimal event) (decimal p.number) (name_at policy a) (decimal (p.class + 1)) (decimal p.len) rest =
    arrive_grouped (decimal event) (decimal p.number) (name_at policy a) (decimal (p.class + 1)) (decimal p.len) (decimal p.moment) (numbers_text ranks) in
    let r : Reads line (decimal event) (decimal p.number) (name_at policy a) rest =
    reads line (decimal event) (decimal p.number) (name_at policy a) (decimal (p.class + 1)) (decimal p.len) rest (ap (after_colons 2) grouped)
    (digits_of_64 event small) (digits_of_64 p.number plain.number) plain.name (digits_of_64 (p.class + 1) plain.class) (digits_of_64 p.len plain.len) in
    let eight : after_colons 8 line ≡ past_colon array = ap past_colon r.after ∙ past_over (decimal p.moment) array (no_colons (decimal p.moment) (digits_of_64 p.moment plain.moment)) in
    ap (λ kind. report_line_by kind line) (ap (text_at 1) grouped)
    ∙ same_line (codes "a") _ _ _ _ _ _ _ _ r.event r.packet r.leaf (ap (λ (w : List ℕ). w ∷ []) (ranks_read (after_colons 8 line) after_ranks ranks plain.ranks eight))

drop_grouped : (E P L C B T : List ℕ) → codes "{\"kind\":\"drop\"" ++ (codes ",\"event\":" ++ E ++ codes ",\"packet\":" ++ P ++ codes ",\"leaf\":\"" ++ L ++ codes "\",\"class\":" ++ C ++ codes ",\"bytes\":" ++ B)
    ++ codes ",\"timestamp\":" ++ T ++ codes "}\n"
    ≡ codes "{\"kind\":\"drop\",\"event\":" ++ packet_from E P L C B (codes ",\"timestamp\":" ++ (T ++ codes "}\n"))
drop_grouped E P L C B T = simp append_assoc

drop_read : (policy : Policy) (event : ℕ) (p : Packet) (a : Address) → Is64 event → IsPlain policy p a []
    → report_line_of (drop_line event p.number (name_at policy a) p.class p.len p.moment) ≡ line_of (codes "x" ∷ decimal event ∷ decimal p.number ∷ name_at policy a ∷ [])
drop_read policy event p a small plain =
    let line : List ℕ = drop_line event p.number (name_at policy a) p.class p.len p.moment in
    let rest : List ℕ = codes ",\"timestamp\":" ++ (decimal p.moment ++ codes "}\n") in
    let grouped : line ≡ codes "{\"kind\":\"drop\",\"event\":" ++ packet_from (decimal event) (decimal p.number) (name_at policy a) (decimal (p.class + 1)) (decimal p.len) rest =
    drop_grouped (decimal event) (decimal p.number) (name_at policy a) (decimal (p.class + 1)) (decimal p.len) (decimal p.moment) in
    let r : Reads line (decimal event) (decimal p.number) (name_at policy a) rest =
    reads line (decimal event) (decimal p.number) (name_at policy a) (decimal (p.class + 1)) (decimal p.len) rest (ap (after_colons 2) grouped)
    (digits_of_64 event small) (digits_of_64 p.number plain.number) plain.name (digits_of_64 (p.class + 1) plain.class) (digits_of_64 p.len plain.len) in
    ap (λ kind. report_line_by kind line) (ap (text_at 1) grouped)
    ∙ same_line (codes "x") _ _ _ _ _ _ [] [] r.event r.packet r.leaf refl

-- ---- departures
depart_members : (E P L C B R M : List ℕ) → codes "{\"kind\":\"depart\"" ++ (codes ",\"event\":" ++ E ++ codes ",\"packet\":" ++ P ++ codes ",\"leaf\":\"" ++ L ++ codes "\",\"class\":" ++ C ++ codes ",\"bytes\":" ++ B)
    ++ R ++ M ++ codes "}\n"
    ≡ codes "{\"kind\":\"depart\",\"event\":" ++ packet_from E P L C B (R ++ (M ++ codes "}\n"))
depart_members E P L C B R M = simp append_assoc

depart_grouped : (E P L C B R M : List ℕ) → codes "{\"kind\":\"depart\"" ++ (codes ",\"event\":" ++ E ++ codes ",\"packet\":" ++ P ++ codes ",\"leaf\":\"" ++ L ++ codes "\",\"class\":" ++ C ++ codes ",\"bytes\":" ++ B)
    ++ (codes ",\"ranks\":[" ++ R ++ codes "]") ++ M ++ codes "}\n"
    ≡ codes "{\"kind\":\"depart\",\"event\":" ++ packet_from E P L C B (codes ",\"ranks\":[" ++ (R ++ (codes "]" ++ (M ++ codes "}\n"))))
depart_grouped E P L C B R M =
    depart_members E P L C B (codes ",\"ranks\":[" ++ R ++ codes "]") M
    ∙ ap (λ l. codes "{\"kind\":\"depart\",\"event\":" ++ packet_from E P L C B l) (ranks_grouped R (M ++ codes "}\n"))

some_word : (n : ℕ) → n < 10 ^ 64 → word_of (decimal n) ≡ decimal n ∷ []
some_word n small = decimal_by_steps_wide (λ n ds. word_of ds ≡ ds ∷ []) (λ n low. refl) (λ n ds high so_far. longer ds (48 + n % 10)) n small
  where
    longer : (ds : List ℕ) (d : ℕ) → word_of (ds ++ d ∷ []) ≡ (ds ++ d ∷ []) ∷ []
    longer [] d = refl
    longer (b ∷ bs) d = refl

times_grouped : (S F : List ℕ) → codes ",\"start\":" ++ S ++ codes ",\"finish\":" ++ F ++ codes "}\n" ≡ codes ",\"start\":" ++ (S ++ (codes ",\"finish\":" ++ (F ++ codes "}\n")))
times_grouped S F = simp append_assoc

-- the start, if there is one, after the ranks
start_read : (rate : Option LinkRate) (len : ℕ) (start : Option ℕ) → ShowsStart rate start
    → word_of (leading is_ascii_digit (past_colon (times_members (times_of rate len start) ++ codes "}\n"))) ≡ start_words start
start_read None len None shows = refl
start_read None len (Some start) shows = absurd shows
start_read (Some rate) len None shows = refl
start_read (Some rate) len (Some start) shows =
    by_finish _
  where
    by_finish : (finish : ℕ) → word_of (leading is_ascii_digit (past_colon (times_members (Some (record { start = start; finish = finish })) ++ codes "}\n"))) ≡ decimal start ∷ []
    by_finish finish =
        let rest : List ℕ = codes ",\"finish\":" ++ (decimal finish ++ codes "}\n") in
        ap (λ bs. word_of (leading is_ascii_digit (past_colon bs))) (times_grouped (decimal start) (decimal finish))
        ∙ ap word_of (leading_over is_ascii_digit (decimal start) rest (digits_pass start (omega arith)) refl)
        ∙ some_word start (omega arith)

departure_read : (rate : Option LinkRate) (policy : Policy) (event : ℕ) (p : Packet) (a : Address) (ranks : List ℕ) (start : Option ℕ) → Is64 event → IsPlain policy p a ranks → ShowsStart rate start
    → report_line_of (depart_line event p.number (name_at policy a) p.class p.len ranks (times_of rate p.len start)) ≡ line_of (codes "d" ∷ decimal event ∷ decimal p.number ∷ name_at policy a ∷ ranks_text ranks ∷ start_words start)
departure_read rate policy event p a ranks start small plain shows =
    let line : List ℕ = depart_line event p.number (name_at policy a) p.class p.len ranks (times_of rate p.len start) in
    let after_ranks : List ℕ = times_members (times_of rate p.len start) ++ codes "}\n" in
    let rest : List ℕ = codes ",\"ranks\":[" ++ (numbers_text ranks ++ (codes "]" ++ after_ranks)) in
    let grouped : line ≡ codes "{\"kind\":\"depart\",\"event\":" ++ packet_from (decimal event) (decimal p.number) (name_at policy a) (decimal (p.class + 1)) (decimal p.len) rest =
    depart_grouped (decimal event) (decimal p.number) (name_at policy a) (decimal (p.class + 1)) (decimal p.len) (numbers_text ranks) (times_members (times_of rate p.len start)) in
    let r : Reads line (decimal event) (decimal p.number) (name_at policy a) rest =
    reads line (decimal event) (decimal p.number) (name_at policy a) (decimal (p.class + 1)) (decimal p.len) rest (ap (after_colons 2) grouped)
    (digits_of_64 event small) (digits_of_64 p.number plain.number) plain.name (digits_of_64 (p.class + 1) plain.class) (digits_of_64 p.len plain.len) in
    let eight : after_colons 8 line ≡ past_colon after_ranks = ap past_colon r.after ∙ past_over (91 ∷ numbers_text ranks) (codes "]" ++ after_ranks) (no_colons_in_ranks ranks plain.ranks) in
    ap (λ kind. report_line_by kind line) (ap (text_at 1) grouped)
    ∙ same_line (codes "d") _ _ _ _ _ _ _ _ r.event r.packet r.leaf
    (ap (λ (w : List ℕ). w ∷ word_of (number_at 8 line)) (ranks_read (after_colons 7 line) after_ranks ranks plain.ranks r.after)
    ∙ ap (λ (ws : List (List ℕ)). ranks_text ranks ∷ ws) (ap (λ bs. word_of (leading is_ascii_digit bs)) eight ∙ start_read rate p.len start shows))

-- ---- departures that found nothing
empty_grouped : (E : List ℕ) → codes "{\"kind\":\"empty\",\"event\":" ++ E ++ codes "}\n" ≡ codes "{\"kind\":\"empty\",\"event\":" ++ (E ++ codes "}\n")
empty_grouped E = simp append_assoc

empty_read : (event : ℕ) → Is64 event → report_line_of (empty_line event) ≡ line_of (codes "e" ∷ decimal event ∷ [])
empty_read event small =
    let line : List ℕ = empty_line event in
    let grouped = empty_grouped (decimal event) in
    ap (λ kind. report_line_by kind line) (ap (text_at 1) grouped)
    ∙ ap (λ w. line_of (codes "e" ∷ w ∷ [])) (ap (number_at 2) grouped ∙ leading_over is_ascii_digit (decimal event) (codes "}\n") (digits_of_64 event small) refl)

pub json_says_the_report : JsonSaysTheReport
json_says_the_report rate policy event (Arrived p a ranks) readable = arrival_read policy event p a ranks readable.0 readable.1
json_says_the_report rate policy event (Departed p a ranks start) readable = departure_read rate policy event p a ranks start readable.0 readable.1 readable.2
json_says_the_report rate policy event (Dropped p a) readable = drop_read policy event p a readable.0 readable.1
json_says_the_report rate policy event Empty readable = empty_read event readable
