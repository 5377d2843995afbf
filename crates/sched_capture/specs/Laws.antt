-- Laws of equal captures in both formats, and of written departures that are read back.
use Rattle.std.specs.Prelude.{◌≡◌, ◌<◌, ℕ, List, slice_index, ⊤}
use Rattle.pcap_defs.specs.Contents.{FileContents, no_capture, holds}
use Rattle.pcapng_defs.specs.Laws.{AreAlike}
use Rattle.pcapng_defs.specs.NgContents.{in_file}
use Rattle.policy_text_defs.specs.Sense.{Entry}
use Rattle.policy_text_defs.specs.declared.edition.Edition.TheVariants.{Classic}
use Rattle.policy_text_defs.specs.Text.{HasEntries}
use Rattle.policy_defs.specs.Policy.{Policy}
use Rattle.policy_rules.specs.Accepted.{AreAccepted}
use Rattle.policy_rules.specs.Resolved.{Resolved, IsResolved}
use Rattle.sched_defs.specs.SourceState.{start}
use Rattle.sched_defs.specs.Events.{outcomes}
use Rattle.sched_defs.specs.Packets.{Left, captured_from}
use Rattle.sched_defs.specs.Pace.{Pace}
use Rattle.sched_defs.specs.declared.rate.LinkRate.{LinkRate}
use Rattle.forward_defs.specs.Sendings.{Sending, sendings}
use Rattle.forward_defs.specs.Laws.{holds_sendings}
use Rattle.sched_capture.specs.Arrivals.{left_in}
use Rattle.sched_capture.specs.SingleLinkType.{one_link_in, link_in}
use Rattle.sched_capture.specs.Answers.{paced_answer}
use Rattle.sched_capture.specs.Forwards.{forward_events, forward_answer}

-- A classic and a pcapng file without faults have equal answers if their packets are equal. This
-- holds for a script and for a link.
abbrev pub AlikeFilesHaveEqualAnswers : Type 0
AlikeFilesHaveEqualAnswers =
    (policy : Resolved) (pace : Pace) (file ng_file : List ℕ) → AreAlike file ng_file →
    paced_answer policy pace file ≡ paced_answer policy pace ng_file

-- a file is a list of bytes
abbrev pub AreBytes : List ℕ → Type 0
AreBytes file = (k : ℕ) → slice_index file k < 256

-- the departures of a link's run over the packets left, up to the first late one, which no capture
-- can hold
abbrev pub sent_over : Policy → LinkRate → Left → List Sending
sent_over policy rate l = sendings (outcomes policy (forward_events policy rate l) (start policy))

-- Read as a capture, these bytes are exactly the departures of the run over the file's contents.
-- Each has this link type, its start, and the original length and the captured bytes of its packet.
-- Nothing is claimed if there is no run.
abbrev pub AreReadBack : Resolved → LinkRate → ℕ → FileContents → List ℕ → Type 0
AreReadBack policy rate link (no_capture fault) bytes = ⊤
AreReadBack policy rate link (holds contents) bytes =
    in_file bytes ≡ holds_sendings link (captured_from 1 contents.packets) (sent_over policy.policy rate (left_in policy 0 contents))

-- This holds for the bytes that `forward` writes of a file, for the policy of any accepted text, at
-- any rate and for any ending.
abbrev pub ForwardsAreReadBack : Type 0
ForwardsAreReadBack =
    (text : List ℕ) (entries : List Entry) (policy : Resolved) (rate : LinkRate) (file : List ℕ)
    → HasEntries Classic text entries → AreAccepted entries → IsResolved entries policy → AreBytes file
    → AreReadBack policy rate (link_in (in_file file)) (one_link_in (in_file file)) (forward_answer policy rate file).text
