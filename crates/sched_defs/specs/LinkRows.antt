-- Worked examples of runs of a link.
use Rattle.std.specs.Prelude.{◌≡◌, refl, None, Some, [], ◌∷◌, codes}
use Rattle.std.specs.Fmt.{digits}
use Rattle.policy_defs.specs.Policy.{one_leaf}
use Rattle.sched_defs.specs.Pace.{Link, paced_report}
use Rattle.sched_defs.specs.SendTime.{plain_rate}
use Rattle.sched_defs.specs.Rows.{packet, two_packets, data_cut, one_leaf_limited}

-- the first packet starts at once, and the second when the first has been sent
pub report-three_bytes_a_second : paced_report one_leaf (Link (plain_rate 3)) (packet 1 4 1000000000 ∷ packet 2 4 1000001000 ∷ []) None
    ≡ codes "a 1 1 root 0\nd 2 1 root 0 1000000000\na 3 2 root 0\nd 4 2 root 0 2333333334\nend pushed 2 popped 2 empty 0 held 0 unsent 0\n"
unfolding digits
report-three_bytes_a_second = refl

-- the same with two more bytes for each packet on the link
pub report-two_bytes_more : paced_report one_leaf (Link (record { bytes = 3; overhead = 2 })) (packet 1 4 1000000000 ∷ packet 2 4 1000001000 ∷ []) None
    ≡ codes "a 1 1 root 0\nd 2 1 root 0 1000000000\na 3 2 root 0\nd 4 2 root 0 3000000000\nend pushed 2 popped 2 empty 0 held 0 unsent 0\n"
unfolding digits
report-two_bytes_more = refl

-- a fault of the capture ends the run where it is met: queued packets aren't sent
pub report-link_meets_the_fault : paced_report one_leaf (Link (plain_rate 1000000000)) two_packets (Some data_cut)
    ≡ codes "a 1 1 root 0\nd 2 1 root 0 1000000000\na 3 2 root 0\nfault capture 6 3\n"
unfolding digits
report-link_meets_the_fault = refl

-- a packet that arrives at a full leaf is dropped, and takes no time on the link
pub report-link_drops : paced_report one_leaf_limited (Link (plain_rate 1)) (packet 1 4 0 ∷ packet 2 4 0 ∷ packet 3 4 1 ∷ []) None
    ≡ codes "a 1 1 root 0\nx 2 2 root\nd 3 1 root 0 0\na 4 3 root 0\nd 5 3 root 0 4000000000\nend pushed 2 popped 2 empty 0 held 0 unsent 0 dropped 1\n"
unfolding digits
report-link_drops = refl
