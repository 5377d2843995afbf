-- Worked examples of output.
use Rattle.std.proofs.Common.{lit≤, sym, subst}
use Rattle.std.specs.Prelude.{◌≡◌, ◌↔◌, refl, ℕ, true, false, if◌then◌else◌, List, [], ◌∷◌, ◌++◌, Ok, Some, None, codes}
use Rattle.std.specs.Fmt.{digits}
use Rattle.std.specs.Str.{bytes_eq}
use Rattle.text_core.specs.declared.token.TokenKind.TheVariants as k
use Rattle.text_core.specs.declared.mark.Mark.TheVariants as m
use Rattle.text_core.specs.Glyphs.{text, sign}
use Rattle.pcap_defs.specs.Reading.{capture_of, head_of, front_of, records_from}
use Rattle.tree_defs.specs.Tree.{leaf, Address, IsAddressOf, LeadsToLeaf}
use Rattle.tree_defs.specs.Topology.{Topology, IsPrefixOf}
use Rattle.packet_defs.specs.declared.packet.Packet.{Packet}
use Rattle.policy_defs.specs.Policy.{one_leaf}
use Rattle.policy_rules.specs.Resolved.{Resolved}
use Rattle.policy_text_defs.specs.Sense as sense
use Rattle.policy_text_defs.specs.declared.edition.Edition.TheVariants.{Classic}
use Rattle.embed_defs.specs.Embedding.{IsEmbedding}
use Rattle.embed_defs.specs.Images.{image_map}
use Rattle.target_core.specs.Rows.{no_height, IsTargetText-no_height}
use Rattle.mapcheck_core.specs.NumberedLines as lines
use Rattle.mapcheck_core.specs.declared.given.Given.{Given}
use Rattle.mapcheck_core.specs.GivenMaps.{image_of}
use Rattle.mapcheck_core.specs.MapLines.{one_line}
use Rattle.mapcheck_core.specs.MapTexts.{IsMapAnswer, in_form}
use Rattle.mapcheck_core.specs.TreeTexts.{IsTreeText, tree, one_tree}
use Rattle.events_core.specs.Script.{IsScript, next, over}
use Rattle.events_core.specs.declared.step.Step.TheVariants as line
use Rattle.sched_defs.specs.Events.{Arrive, Depart}
use Rattle.sched_defs.specs.SendTime.{plain_rate}
use Rattle.sched_defs.specs.Pace.{Link}
use Rattle.sched_embedded.specs.Laid.{Laid}
use Rattle.tap_core.specs.Lists.{Entry, departed}
use Rattle.tap_core.specs.declared.kinds.TapKind.TheVariants.{Bytes, First, Drops}
use Rattle.tap_core.specs.declared.watch.Named.{Named}
use Rattle.replay_app.specs.Answer.{text_alone}
use Rattle.replay_app.specs.Behind.{tap_list}
use Rattle.replay_app.specs.Follows.{goes_on}
use Rattle.replay_app.specs.Output.{direct_run, laid_run, forward_run, watchers, IsOutput}
use Rattle.replay_app.specs.Policies.{IsPolicy}
use Rattle.replay_app.specs.Scripts.{script_pace}
use Rattle.replay_app.specs.Targets.{plan_answer}
use Rattle.replay_app.specs.Via.{names_of}
use Rattle.replay_app.specs.Words.{replay, script, link, via}

-- one leaf for all packets, alone in its target
abbrev fifo : Resolved
fifo = record { policy = one_leaf; conditions = [] ∷ [] }

abbrev alone : Laid
alone = record { images = leaf []; arities = [] }

-- a packet of 60 bytes with timestamp 1 s, of which no byte is captured
abbrev record_of_one : List ℕ
record_of_one = 1 ∷ 0 ∷ 0 ∷ 0 ∷ 0 ∷ 0 ∷ 0 ∷ 0 ∷ 0 ∷ 0 ∷ 0 ∷ 0 ∷ 60 ∷ 0 ∷ 0 ∷ 0 ∷ []

-- a header's version, zone, accuracy, snapshot length and link type
abbrev after_magic : List ℕ
after_magic = 2 ∷ 0 ∷ 4 ∷ 0 ∷ 0 ∷ 0 ∷ 0 ∷ 0 ∷ 0 ∷ 0 ∷ 0 ∷ 0 ∷ 0 ∷ 0 ∷ 4 ∷ 0 ∷ 1 ∷ 0 ∷ 0 ∷ 0 ∷ []

-- the packet in a capture with timestamps in microseconds, and in one with nanoseconds
abbrev capture : List ℕ
capture = (0xD4 ∷ 0xC3 ∷ 0xB2 ∷ 0xA1 ∷ []) ++ after_magic ++ record_of_one

abbrev fine_capture : List ℕ
fine_capture = (0x4D ∷ 0x3C ∷ 0xB2 ∷ 0xA1 ∷ []) ++ after_magic ++ record_of_one

abbrev the_packet : Packet
the_packet = record { number = 1; class = 0; len = 60; moment = 1000000000; flow = record { version = 0; source = 0; target = 0; proto = 0; sport = 0; dport = 0 } }

abbrev taps : List Entry
taps = (Bytes, 0 ∷ 0 ∷ []) ∷ (First 1, []) ∷ []

-- the report, followed by the lines of taps in their order; the run through the fabric, and what
-- the taps are shown
replay_with_taps : laid_run fifo alone (script_pace (line.Arrive 1 ∷ line.Depart 2 ∷ [])) capture taps
    ≡ record {
      status = 0;
      text = codes "a 1 1 root 0\nd 2 1 root 0\ne 3\nend pushed 1 popped 1 empty 1 held 0 unsent 0\ntap bytes 1 60\ntap first 1\n";
      run = Some (record { policy = one_leaf; laid = alone; events = Arrive the_packet ∷ Depart None ∷ Depart None ∷ [] });
      shown = Some (departed (record { packet = 1; class = 0; leaf = 0; len = 60 }) ∷ []);
    }
unfolding digits capture_of head_of front_of records_from
replay_with_taps = refl

-- if the script asks for a packet after the last, no tap lines are written
replay_past_the_last : laid_run fifo alone (script_pace (line.Arrive 2 ∷ [])) capture taps
    ≡ record {
      status = 6;
      text = codes "a 1 1 root 0\nfault script 3 2\n";
      run = Some (record { policy = one_leaf; laid = alone; events = Arrive the_packet ∷ [] });
      shown = Some [];
    }
unfolding digits capture_of head_of front_of records_from
replay_past_the_last = refl

-- a file that is no capture is an error of the capture: nothing runs, and taps are shown nothing
replay_without_a_capture : laid_run fifo alone (script_pace (line.Rest ∷ [])) (0xD4 ∷ 0xC3 ∷ 0xB2 ∷ []) taps ≡ text_alone 7 (codes "fault capture 1 0\n")
unfolding digits capture_of head_of
replay_without_a_capture = refl

-- a direct run has no run through a fabric
direct_alone : direct_run fifo (script_pace (line.Rest ∷ line.Drain ∷ [])) capture ≡ text_alone 0 (codes "a 1 1 root 0\nd 2 1 root 0\nend pushed 1 popped 1 empty 0 held 0 unsent 0\n")
unfolding digits capture_of head_of front_of records_from
direct_alone = refl

-- a link reports when each departure starts, in nanoseconds
link_at_60_bytes_a_second : laid_run fifo alone (Link (plain_rate 60)) capture []
    ≡ record {
      status = 0;
      text = codes "a 1 1 root 0\nd 2 1 root 0 1000000000\nend pushed 1 popped 1 empty 0 held 0 unsent 0\n";
      run = Some (record { policy = one_leaf; laid = alone; events = Arrive the_packet ∷ Depart (Some 1000000000) ∷ [] });
      shown = Some (departed (record { packet = 1; class = 0; leaf = 0; len = 60 }) ∷ []);
    }
unfolding digits capture_of head_of front_of records_from
link_at_60_bytes_a_second = refl

-- the departure as a capture with timestamps in nanoseconds; taps are shown nothing
forward_at_60_bytes_a_second : forward_run fifo alone (plain_rate 60) capture
    ≡ record {
      status = 0;
      text = fine_capture;
      run = Some (record { policy = one_leaf; laid = alone; events = Arrive the_packet ∷ Depart (Some 1000000000) ∷ [] });
      shown = None;
    }
unfolding capture_of head_of front_of records_from
forward_at_60_bytes_a_second = refl

-- if there is no room, the least height precedes the error line
plan_without_room : plan_answer false (codes "least 2\n") ≡ text_alone 5 (codes "least 2\nfault size 1 0\n")
unfolding digits
plan_without_room = refl

plan_with_room : plan_answer true (codes "least 0\nmap root - -\n") ≡ text_alone 0 (codes "least 0\nmap root - -\n")
plan_with_room = refl

-- ---- along a map
-- the files of a run along a map: the policy of one leaf, a topology of one leaf, the map of the one
-- to the other, a target of one leaf, the capture, and a script
abbrev policy_text : List ℕ
policy_text = codes "policy 1\nclass all\nleaf root using fifo classes all\n"

abbrev topology_text : List ℕ
topology_text = codes "leaf\n"

abbrev map_text : List ℕ
map_text = codes "map root -\n"

abbrev script_text : List ℕ
script_text = codes "a\nd\n"

abbrev via_files : List ℕ → List ℕ
via_files name =
    if bytes_eq name (codes "p") then policy_text
    else (if bytes_eq name (codes "g") then topology_text
    else (if bytes_eq name (codes "m") then map_text
    else (if bytes_eq name (codes "t") then no_height
    else (if bytes_eq name (codes "c") then capture
    else script_text))))

topology_of_one_leaf : IsTreeText topology_text (leaf tt)
topology_of_one_leaf = record {
  line = 1;
  only = record { short = lit≤ tt; give = lines.next 1 (codes "leaf") [] (one_tree 1 (leaf tt)) [] (tree (leaf tt) refl (k.Word, 4, refl, refl, refl) tt) (lines.over 2) };
  small = (lit≤ tt, lit≤ tt);
}

-- the root's image is the root, and line 1 gives it
abbrev root_to_root : Given
root_to_root = record { images = [] ∷ []; lines = 1 ∷ [] }

map_of_the_root : IsMapAnswer Classic map_text (names_of one_leaf) (Ok root_to_root)
map_of_the_root = in_form (one_line 1 (codes "root") []) (record {
  short = lit≤ tt;
  give = lines.next 1 (codes "map root -") [] (one_line 1 (codes "root") []) [] (record {
    clean = refl;
    glyphs = text (codes "map") ∷ text (codes "root") ∷ sign m.Minus ∷ [];
    says = (k.Word, 3, refl, refl, (k.Word, 4, refl, refl, (k.Mark, 1, refl, refl, refl)));
    form = refl;
  }) (lines.over 2);
})

script_of_two_lines : IsScript script_text (line.Arrive 1 ∷ line.Depart 1 ∷ [])
script_of_two_lines = record {
  short = lit≤ tt;
  lines = next (codes "a") (codes "d" ∷ []) (line.Arrive 1 ∷ []) (line.Depart 1 ∷ []) (record { clean = refl; glyphs = text (codes "a") ∷ []; says = (k.Word, 1, refl, refl, refl); form = refl })
      (next (codes "d") [] (line.Depart 1 ∷ []) [] (record { clean = refl; glyphs = text (codes "d") ∷ []; says = (k.Word, 1, refl, refl, refl); form = refl }) over);
  few = lit≤ tt;
}

abbrev one_node : Topology
one_node = leaf tt

-- a leaf has no other address than the root's, and a map that keeps the root embeds it in a leaf
only_root : (P : Address → Type 0) → P [] → (a : Address) → IsAddressOf one_node a → P a
only_root P root [] at = root
only_root P root (i ∷ a) at = let none : None ≡ Some at.0 = at.1 in absurd (cc)

only_leaf : (P : Address → Type 0) → P [] → (a : Address) → LeadsToLeaf one_node a → P a
only_leaf P root [] at = root
only_leaf P root (i ∷ a) at = absurd at

leaf_in_leaf : (image : Address → Address) → image [] ≡ [] → IsEmbedding one_node one_node image
leaf_in_leaf image root = record {
  root = root;
  inside = only_root (λ a. IsAddressOf one_node (image a)) (subst (λ (b : Address). IsAddressOf one_node b) (sym root) (one_node, refl));
  leaves = only_leaf (λ a. LeadsToLeaf one_node (image a)) (subst (λ (b : Address). LeadsToLeaf one_node b) (sym root) tt);
  prefixes = λ a b at bt. only_root (λ x. IsPrefixOf x b ↔ IsPrefixOf (image x) (image b))
      (only_root (λ y. IsPrefixOf [] y ↔ IsPrefixOf (image []) (image y)) (subst (λ (c : Address). IsPrefixOf [] [] ↔ IsPrefixOf c c) (sym root) (λ p. p, λ p. p)) b bt) a at;
}

-- the inputs are read in order, and the report is that of `replay`; no tap watches
via_one_leaf : (entries : List sense.Entry) → IsPolicy Classic policy_text (record { entries = entries; policy = fifo })
    → IsOutput (via Classic (codes "p") (codes "g") (codes "m") (codes "t") (codes "c") (codes "e")) via_files taps (record {
      status = 0;
      text = codes "a 1 1 root 0\nd 2 1 root 0\nend pushed 1 popped 1 empty 0 held 0 unsent 0\n";
      run = Some (record { policy = one_leaf; laid = alone; events = Arrive the_packet ∷ Depart None ∷ [] });
      shown = Some (departed (record { packet = 1; class = 0; leaf = 0; len = 60 }) ∷ []);
    })
unfolding digits capture_of head_of front_of records_from
via_one_leaf entries is =
    goes_on (record { entries = entries; policy = fifo }) _ is
    (goes_on (leaf tt) _ topology_of_one_leaf
    (goes_on (record { given = root_to_root; fault = None }) _ (record { read = map_of_the_root; verdict = leaf_in_leaf (image_of (leaf tt) root_to_root) refl })
    (goes_on (record { arities = []; above = 64 }) _ IsTargetText-no_height
    (goes_on (leaf []) _ (record {
      placement = leaf [];
      placed = record { canonical = record { all = leaf 0; needs = record { shape = tt; needs = refl }; placed = refl }; embedding = leaf_in_leaf (image_map (leaf [])) refl };
      composed = record { shape = tt; each = only_root (λ a. image_map (leaf []) a ≡ []) refl };
    })
    (goes_on (line.Arrive 1 ∷ line.Depart 1 ∷ []) _ script_of_two_lines refl)))))

-- ---- taps
abbrev first_and_drops : Named
first_and_drops = record { bytes = false; order = false; first = true; drops = true }

abbrev three_taps : List Entry
three_taps = (Drops, 0 ∷ 0 ∷ []) ∷ (Bytes, 0 ∷ 0 ∷ []) ∷ (First 1, []) ∷ []

taps_that_watch : watchers (script (codes "e") first_and_drops) three_taps ≡ (Drops, 0 ∷ 0 ∷ []) ∷ (First 1, []) ∷ []
taps_that_watch = refl

no_tap_watches_a_link : watchers (link 60) three_taps ≡ []
no_tap_watches_a_link = refl

-- of the taps that watched, those that aren't done are left
taps_left_by_a_script : tap_list (replay Classic (codes "p") (codes "t") (codes "c") (script (codes "e") first_and_drops))
    (Some (departed (record { packet = 1; class = 0; leaf = 0; len = 60 }) ∷ [])) three_taps ≡ (Drops, 0 ∷ 0 ∷ []) ∷ []
taps_left_by_a_script = refl

-- if no run begins, or if a link paces it, all taps are left
taps_left_without_a_run : tap_list (replay Classic (codes "p") (codes "t") (codes "c") (script (codes "e") first_and_drops)) None three_taps ≡ three_taps
taps_left_without_a_run = refl

taps_left_by_a_link : tap_list (replay Classic (codes "p") (codes "t") (codes "c") (link 60))
    (Some (departed (record { packet = 1; class = 0; leaf = 0; len = 60 }) ∷ [])) three_taps ≡ three_taps
taps_left_by_a_link = refl
