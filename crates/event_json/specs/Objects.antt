-- The JSON lines of a run, by their values. A line is one object without spaces, and a line feed
-- after it. The name of a leaf has only letters, digits and `_`, so it is written as it is.
use Rattle.std.specs.Prelude.{◌≡◌, refl, ℕ, ◌+◌, Option, None, Some, List, [], ◌∷◌, ◌++◌, map, decimal, codes}
use Rattle.std.specs.List.{join_with_byte}
use Rattle.std.specs.Fmt.{digits}
use Rattle.event_json.specs.declared.times.Times.{Times}

-- numbers separated by commas
abbrev pub numbers_text : List ℕ → List ℕ
numbers_text values = join_with_byte 44 (map decimal values)

-- the event number, and the packet: its number, its leaf, its class counted from 1, and its
-- original length in bytes
abbrev pub packet_members : ℕ → ℕ → List ℕ → ℕ → ℕ → List ℕ
packet_members event packet leaf class len =
    codes ",\"event\":" ++ decimal event ++ codes ",\"packet\":" ++ decimal packet ++ codes ",\"leaf\":\"" ++ leaf
    ++ codes "\",\"class\":" ++ decimal (class + 1) ++ codes ",\"bytes\":" ++ decimal len

-- the ranks, from the root to the leaf
abbrev pub ranks_member : List ℕ → List ℕ
ranks_member ranks = codes ",\"ranks\":[" ++ numbers_text ranks ++ codes "]"

-- the start and the finish on a link in nanoseconds, if a link paces the run
abbrev pub times_members : Option Times → List ℕ
times_members None = []
times_members (Some t) = codes ",\"start\":" ++ decimal t.start ++ codes ",\"finish\":" ++ decimal t.finish

-- a packet arrived at a leaf, with its timestamp in nanoseconds and the ranks pushed
abbrev pub arrive_line : ℕ → ℕ → List ℕ → ℕ → ℕ → ℕ → List ℕ → List ℕ
arrive_line event packet leaf class len moment ranks =
    codes "{\"kind\":\"arrive\"" ++ packet_members event packet leaf class len ++ codes ",\"timestamp\":" ++ decimal moment
    ++ ranks_member ranks ++ codes "}\n"

-- a packet departed from a leaf, with the ranks popped
abbrev pub depart_line : ℕ → ℕ → List ℕ → ℕ → ℕ → List ℕ → Option Times → List ℕ
depart_line event packet leaf class len ranks times =
    codes "{\"kind\":\"depart\"" ++ packet_members event packet leaf class len ++ ranks_member ranks ++ times_members times ++ codes "}\n"

-- a packet was dropped at a full leaf
abbrev pub drop_line : ℕ → ℕ → List ℕ → ℕ → ℕ → ℕ → List ℕ
drop_line event packet leaf class len moment =
    codes "{\"kind\":\"drop\"" ++ packet_members event packet leaf class len ++ codes ",\"timestamp\":" ++ decimal moment ++ codes "}\n"

-- a departure found nothing to send
abbrev pub empty_line : ℕ → List ℕ
empty_line event = codes "{\"kind\":\"empty\",\"event\":" ++ decimal event ++ codes "}\n"

-- a run ended: how many packets arrived at their leaves, departed and were dropped, how many
-- departures found none, and how many packets are queued and unread
abbrev pub end_line : ℕ → ℕ → ℕ → ℕ → ℕ → ℕ → List ℕ
end_line arrived departed dropped empty queued unread =
    codes "{\"kind\":\"end\",\"arrived\":" ++ decimal arrived ++ codes ",\"departed\":" ++ decimal departed
    ++ codes ",\"dropped\":" ++ decimal dropped ++ codes ",\"empty\":" ++ decimal empty
    ++ codes ",\"queued\":" ++ decimal queued ++ codes ",\"unread\":" ++ decimal unread ++ codes "}\n"

-- an input was rejected: its kind, the error code and the position
abbrev pub fault_line : List ℕ → ℕ → ℕ → List ℕ
fault_line input code place =
    codes "{\"kind\":\"fault\",\"input\":\"" ++ input ++ codes "\",\"code\":" ++ decimal code ++ codes ",\"place\":" ++ decimal place ++ codes "}\n"

-- the first class is number 0, and its packets are shown with class 1
arrive_line-first : arrive_line 1 1 (codes "web") 0 100 123 (0 ∷ 3 ∷ [])
    ≡ codes "{\"kind\":\"arrive\",\"event\":1,\"packet\":1,\"leaf\":\"web\",\"class\":1,\"bytes\":100,\"timestamp\":123,\"ranks\":[0,3]}\n"
unfolding digits
arrive_line-first = refl

-- a script has no link, so there are no times
depart_line-script : depart_line 2 1 (codes "web") 0 100 (0 ∷ 3 ∷ []) None
    ≡ codes "{\"kind\":\"depart\",\"event\":2,\"packet\":1,\"leaf\":\"web\",\"class\":1,\"bytes\":100,\"ranks\":[0,3]}\n"
unfolding digits
depart_line-script = refl

depart_line-link : depart_line 2 1 (codes "web") 0 100 (0 ∷ 3 ∷ []) (Some (record { start = 500; finish = 700 }))
    ≡ codes "{\"kind\":\"depart\",\"event\":2,\"packet\":1,\"leaf\":\"web\",\"class\":1,\"bytes\":100,\"ranks\":[0,3],\"start\":500,\"finish\":700}\n"
unfolding digits
depart_line-link = refl

drop_line-second_class : drop_line 3 2 (codes "mail") 1 60 130
    ≡ codes "{\"kind\":\"drop\",\"event\":3,\"packet\":2,\"leaf\":\"mail\",\"class\":2,\"bytes\":60,\"timestamp\":130}\n"
unfolding digits
drop_line-second_class = refl

empty_line-fourth : empty_line 4 ≡ codes "{\"kind\":\"empty\",\"event\":4}\n"
unfolding digits
empty_line-fourth = refl

end_line-all_differ : end_line 9 6 2 5 3 1
    ≡ codes "{\"kind\":\"end\",\"arrived\":9,\"departed\":6,\"dropped\":2,\"empty\":5,\"queued\":3,\"unread\":1}\n"
unfolding digits
end_line-all_differ = refl

fault_line-capture : fault_line (codes "capture") 6 3 ≡ codes "{\"kind\":\"fault\",\"input\":\"capture\",\"code\":6,\"place\":3}\n"
unfolding digits
fault_line-capture = refl

-- without ranks and with one
ranks_member-few : ranks_member [] ++ ranks_member (7 ∷ []) ≡ codes ",\"ranks\":[],\"ranks\":[7]"
unfolding digits
ranks_member-few = refl
