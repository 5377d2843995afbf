-- The lines of a report. Words are separated by one space, and each line ends with a line feed.
use Rattle.std.specs.Prelude.{◌≡◌, refl, ℕ, Option, None, Some, List, [], ◌∷◌, ◌++◌, map, decimal, codes}
use Rattle.std.specs.List.{join_with_byte}
use Rattle.std.specs.Fmt.{digits}

-- words as a line
abbrev pub line_of : List (List ℕ) → List ℕ
line_of words = join_with_byte 32 words ++ 10 ∷ []

-- ranks from the root to the leaf, joined by `/`
abbrev pub ranks_text : List ℕ → List ℕ
ranks_text ranks = join_with_byte 47 (map decimal ranks)

-- a packet arrived at a leaf, with the ranks pushed
abbrev pub arrival_line : ℕ → ℕ → List ℕ → List ℕ → List ℕ
arrival_line event packet leaf ranks =
    line_of (codes "a" ∷ decimal event ∷ decimal packet ∷ leaf ∷ ranks_text ranks ∷ [])

-- the timestamp at which a departure starts, in nanoseconds, if it is shown
abbrev pub start_words : Option ℕ → List (List ℕ)
start_words None = []
start_words (Some start) = decimal start ∷ []

-- a packet departed from a leaf, with the ranks popped
abbrev pub departure_line : ℕ → ℕ → List ℕ → List ℕ → Option ℕ → List ℕ
departure_line event packet leaf ranks start =
    line_of (codes "d" ∷ decimal event ∷ decimal packet ∷ leaf ∷ ranks_text ranks ∷ start_words start)

-- a packet was dropped at a full leaf
abbrev pub drop_line : ℕ → ℕ → List ℕ → List ℕ
drop_line event packet leaf = line_of (codes "x" ∷ decimal event ∷ decimal packet ∷ leaf ∷ [])

-- a departure found nothing to send
abbrev pub empty_line : ℕ → List ℕ
empty_line event = line_of (codes "e" ∷ decimal event ∷ [])

-- the count of dropped packets, if it is shown
abbrev pub drop_words : Option ℕ → List (List ℕ)
drop_words None = []
drop_words (Some dropped) = codes "dropped" ∷ decimal dropped ∷ []

-- a run ended: how many packets were pushed and popped, how many departures found none, how many
-- packets are queued and unsent, and how many were dropped
abbrev pub end_line : ℕ → ℕ → ℕ → ℕ → ℕ → Option ℕ → List ℕ
end_line pushed popped empty held unsent dropped =
    line_of (codes "end" ∷ codes "pushed" ∷ decimal pushed ∷ codes "popped" ∷ decimal popped ∷ codes "empty" ∷ decimal empty
    ∷ codes "held" ∷ decimal held ∷ codes "unsent" ∷ decimal unsent ∷ drop_words dropped)

-- an input was rejected: its kind, the error code and the position
abbrev pub fault_line : List ℕ → ℕ → ℕ → List ℕ
fault_line kind code place = line_of (codes "fault" ∷ kind ∷ decimal code ∷ decimal place ∷ [])

pub arrival_line-first : arrival_line 1 1 (codes "root") (0 ∷ []) ≡ codes "a 1 1 root 0\n"
unfolding digits
arrival_line-first = refl

pub arrival_line-later : arrival_line 7 3 (codes "web") (1 ∷ 0 ∷ []) ≡ codes "a 7 3 web 1/0\n"
unfolding digits
arrival_line-later = refl

pub departure_line-first : departure_line 15 4 (codes "web") (1 ∷ 375000 ∷ 0 ∷ []) None ≡ codes "d 15 4 web 1/375000/0\n"
unfolding digits
departure_line-first = refl

pub departure_line-paced : departure_line 2 1 (codes "root") (0 ∷ []) (Some 1000000000) ≡ codes "d 2 1 root 0 1000000000\n"
unfolding digits
departure_line-paced = refl

pub empty_line-fifth : empty_line 5 ≡ codes "e 5\n"
unfolding digits
empty_line-fifth = refl

pub end_line-two_packets : end_line 2 2 1 0 0 None ≡ codes "end pushed 2 popped 2 empty 1 held 0 unsent 0\n"
unfolding digits
end_line-two_packets = refl

pub end_line-some_held : end_line 9 6 5 3 1 None ≡ codes "end pushed 9 popped 6 empty 5 held 3 unsent 1\n"
unfolding digits
end_line-some_held = refl

pub end_line-one_dropped : end_line 1 1 2 0 0 (Some 1) ≡ codes "end pushed 1 popped 1 empty 2 held 0 unsent 0 dropped 1\n"
unfolding digits
end_line-one_dropped = refl

pub departure_line-at_0 : departure_line 2 1 (codes "root") (7 ∷ 5 ∷ []) (Some 0) ≡ codes "d 2 1 root 7/5 0\n"
unfolding digits
departure_line-at_0 = refl

-- without ranks, two spaces remain around their empty word
pub arrival_line-no_ranks : arrival_line 12 3 (codes "q") [] ≡ codes "a 12 3 q \n"
unfolding digits
arrival_line-no_ranks = refl

ranks_text-none : ranks_text [] ≡ []
ranks_text-none = refl

pub drop_line-second : drop_line 2 2 (codes "root") ≡ codes "x 2 2 root\n"
unfolding digits
drop_line-second = refl

pub fault_line-words : fault_line (codes "words") 0 0 ≡ codes "fault words 0 0\n"
unfolding digits
fault_line-words = refl

pub fault_line-policy : fault_line (codes "policy") 5 12 ≡ codes "fault policy 5 12\n"
unfolding digits
fault_line-policy = refl

-- the event's number comes first, then the packet's
pub drop_line-event_first : drop_line 9 4 (codes "web") ≡ codes "x 9 4 web\n"
unfolding digits
drop_line-event_first = refl

pub end_line-all_differ : end_line 9 6 5 3 1 (Some 2) ≡ codes "end pushed 9 popped 6 empty 5 held 3 unsent 1 dropped 2\n"
unfolding digits
end_line-all_differ = refl

-- a count of 0 is shown if drops are counted
pub end_line-none_dropped : end_line 0 0 0 0 0 (Some 0) ≡ codes "end pushed 0 popped 0 empty 0 held 0 unsent 0 dropped 0\n"
unfolding digits
end_line-none_dropped = refl

line_of-no_words : line_of [] ≡ 10 ∷ []
line_of-no_words = refl
