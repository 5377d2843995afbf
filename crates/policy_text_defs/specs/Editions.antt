-- The editions in which the statements of a text are read. The first statement chooses the edition
-- of the text; the others are read in it.
use Rattle.std.specs.Prelude.{◌≡◌, refl, ℕ, nat_le, Bool, true, false, ◌||◌, List, [], ◌∷◌, map, Some, None, if◌then◌else◌, codes}
use Rattle.text_core.specs.declared.dialect.Dialect.{Dialect}
use Rattle.text_core.specs.declared.dialect.Dialect.TheVariants as dialect
use Rattle.policy_text_defs.specs.declared.edition.Edition.{Edition}
use Rattle.policy_text_defs.specs.declared.edition.Edition.TheVariants.{Classic, Third}
use Rattle.policy_text_defs.specs.declared.edition.Mode.{Mode}
use Rattle.policy_text_defs.specs.declared.edition.Mode.TheVariants.{Opening, Within}
use Rattle.policy_text_defs.specs.Ranges.{last_version}
use Rattle.policy_text_defs.specs.declared.queueing.Bound.TheVariants.{Bytes}
use Rattle.policy_text_defs.specs.Settings.{no_queueing, only_packets, with_bound, has_only_packets, has_nothing}
use Rattle.policy_text_defs.specs.Sense.{Sense, version, transaction, class, filter, leaf, node}

-- the edition that the first statement of a text chooses
abbrev pub chosen : Sense → Edition
chosen (version v) = if nat_le v (last_version Classic) then Classic else Third
chosen _ = Classic

-- the edition in which a statement is read
abbrev pub edition_at : Mode → Sense → Edition
edition_at (Opening Classic) s = Classic
edition_at (Opening Third) s = chosen s
edition_at (Within e) s = e

-- how the statement after it is read
abbrev pub after : Mode → Sense → Mode
after m s = Within (edition_at m s)

-- classes have conditions in the classic edition, and tests in the third one, in which leaves and
-- nodes have settings
abbrev pub has_conditions : Edition → Bool
has_conditions Classic = true
has_conditions Third = false

abbrev pub has_tests : Edition → Bool
has_tests Classic = false
has_tests Third = true

-- the edition has statements of this kind: of limits and flow groups, the classic edition has only
-- the limit of a leaf in packets
abbrev pub is_of : Edition → Sense → Bool
is_of e (class n a cs) = has_conditions e
is_of e (filter n a cs) = has_tests e
is_of e (leaf n u a q ns) = has_only_packets q || has_tests e
is_of e (node n u a q ns) = has_nothing q || has_tests e
is_of e _ = true

-- how a line of the edition is split into tokens
abbrev pub dialect_of : Edition → Dialect
dialect_of Classic = dialect.Classic
dialect_of Third = dialect.Third

-- how the line of a statement is split into tokens: the first statement chooses the edition only
-- after its line was split
abbrev pub dialect_at : Mode → Dialect
dialect_at (Opening e) = dialect.Classic
dialect_at (Within e) = dialect_of e

-- the greatest version that a statement may name
abbrev pub last_at : Mode → ℕ
last_at (Opening e) = last_version e
last_at (Within e) = last_version e

-- the edition of the statements of a text
abbrev pub edition_of : List Sense → Edition
edition_of [] = Classic
edition_of (s ∷ ss) = chosen s

-- whether a reader of the editions up to `latest` reads this edition
abbrev pub is_read : (latest edition : Edition) → Bool
is_read Third e = true
is_read Classic Classic = true
is_read Classic Third = false

-- the third edition is chosen by version 3 alone
versions_choose : map chosen (version 1 ∷ version 2 ∷ version 3 ∷ transaction (codes "t") ∷ []) ≡ Classic ∷ Classic ∷ Third ∷ Classic ∷ []
versions_choose = refl

-- of limits, the classic edition has only those in packets, and these only at leaves
limits_by_edition : map (λ (e : Edition). map (is_of e) (leaf (codes "l") (codes "fifo") (record { prio = None; weight = None; slack = None }) (only_packets (Some 4)) [] ∷ leaf (codes "l") (codes "fifo") (record { prio = None; weight = None; slack = None }) (with_bound Bytes 4 no_queueing) [] ∷ node (codes "n") (codes "wfq") (record { prio = None; weight = None; slack = None }) no_queueing [] ∷ node (codes "n") (codes "wfq") (record { prio = None; weight = None; slack = None }) (only_packets (Some 4)) [] ∷ [])) (Classic ∷ Third ∷ []) ≡ (true ∷ false ∷ true ∷ false ∷ []) ∷ (true ∷ true ∷ true ∷ true ∷ []) ∷ []
limits_by_edition = refl

-- only the first statement chooses, and only where the reader reads the third edition
the_first_one_chooses : map (λ (m : Mode). edition_at m (version 3)) (Opening Third ∷ Opening Classic ∷ Within Third ∷ Within Classic ∷ []) ≡ Third ∷ Classic ∷ Third ∷ Classic ∷ []
the_first_one_chooses = refl

-- an edition is kept to the end of the text
an_edition_is_kept : map (λ (s : Sense). after (after (Opening Third) s) (version 3)) (version 1 ∷ version 3 ∷ []) ≡ Within Classic ∷ Within Third ∷ []
an_edition_is_kept = refl
