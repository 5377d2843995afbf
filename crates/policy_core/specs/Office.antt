-- The policy of an office: eight classes of packets, each with its leaf, and two groups of four
-- leaves below the root.
use Rattle.std.specs.Prelude.{◌≡◌, ℕ, refl, Option, Some, List, [], ◌∷◌, ◌++◌, length, codes}
use Rattle.std.specs.List.{concat}
use Rattle.std.specs.Fmt.{digits}
use Rattle.tree_defs.specs.Topology.{topology_of, complete}
use Rattle.policy_text_defs.specs.declared.attribute.Attrs.{Attrs}
use Rattle.policy_text_defs.specs.declared.condition.Condition.{Condition}
use Rattle.policy_text_defs.specs.declared.condition.Condition.TheVariants.{Field, Dest}
use Rattle.policy_text_defs.specs.declared.condition.FieldName.{FieldName}
use Rattle.policy_text_defs.specs.declared.condition.FieldName.TheVariants.{Dscp, Proto, Dport}
use Rattle.policy_text_defs.specs.Statements.{unset, address_of}
use Rattle.policy_text_defs.specs.Canonical.{canonical_text}
use Rattle.policy_text_defs.specs.Settings.{no_queueing}
use Rattle.policy_text_defs.specs.Sense.{Sense, Entry, numbered, version, class, leaf, node}
use Rattle.policy_rules.specs.Accepted.{AreAccepted}
use Rattle.policy_rules.specs.Resolved.{Resolved, IsResolved}

-- a weight alone, and a priority alone
abbrev pub of_weight : Option ℕ → Attrs
of_weight weight = record unset { weight = weight }

abbrev pub of_prio : Option ℕ → Attrs
of_prio prio = record unset { prio = prio }

-- `FIELD N`
abbrev pub exactly : FieldName → ℕ → Condition
exactly f n = Field f n n

-- `proto tcp` and `proto udp`
abbrev pub tcp : Condition
tcp = exactly Proto 6

abbrev pub udp : Condition
udp = exactly Proto 17

-- 10.9.0.0
abbrev pub backup_network : ℕ
backup_network = address_of (record { first = 10; second = 9; third = 0; fourth = 0 })

abbrev pub office_classes : List Sense
office_classes =
    class (codes "voice") unset (exactly Dscp 46 ∷ []) ∷
    class (codes "video") unset (exactly Dscp 34 ∷ []) ∷
    class (codes "ssh") unset (tcp ∷ exactly Dport 22 ∷ []) ∷
    class (codes "dns") unset (udp ∷ exactly Dport 53 ∷ []) ∷
    class (codes "web") unset (tcp ∷ exactly Dport 443 ∷ []) ∷
    class (codes "mail") unset (tcp ∷ exactly Dport 25 ∷ []) ∷
    class (codes "backup") unset (Dest backup_network 16 ∷ []) ∷
    class (codes "other") unset [] ∷ []

abbrev pub office_leaves : List Sense
office_leaves =
    leaf (codes "voice") (codes "fifo") (of_weight (Some 4)) no_queueing (codes "voice" ∷ []) ∷
    leaf (codes "video") (codes "fifo") (of_weight (Some 2)) no_queueing (codes "video" ∷ []) ∷
    leaf (codes "ssh") (codes "fifo") unset no_queueing (codes "ssh" ∷ []) ∷
    leaf (codes "dns") (codes "fifo") unset no_queueing (codes "dns" ∷ []) ∷
    leaf (codes "web") (codes "stfq") (of_weight (Some 4)) no_queueing (codes "web" ∷ []) ∷
    leaf (codes "mail") (codes "fifo") (of_weight (Some 2)) no_queueing (codes "mail" ∷ []) ∷
    leaf (codes "backup") (codes "fifo") unset no_queueing (codes "backup" ∷ []) ∷
    leaf (codes "other") (codes "fifo") unset no_queueing (codes "other" ∷ []) ∷ []

-- two groups of four leaves; the urgent group is served first
abbrev pub office_nodes : List Sense
office_nodes =
    node (codes "urgent") (codes "stfq") (of_prio (Some 0)) no_queueing (codes "voice" ∷ codes "video" ∷ codes "ssh" ∷ codes "dns" ∷ []) ∷
    node (codes "normal") (codes "stfq") (of_prio (Some 1)) no_queueing (codes "web" ∷ codes "mail" ∷ codes "backup" ∷ codes "other" ∷ []) ∷
    node (codes "root") (codes "strict") unset no_queueing (codes "urgent" ∷ codes "normal" ∷ []) ∷ []

abbrev pub office_statements : List Sense
office_statements = version 1 ∷ office_classes ++ (office_leaves ++ office_nodes)

-- the statements, each on a line of its own
abbrev pub office_lines : List Entry
office_lines = numbered 1 office_statements

abbrev pub OfficeIsAccepted : Type 0
OfficeIsAccepted = AreAccepted office_lines

-- properties of each policy that these statements give: its version, its number of classes, and its
-- tree, a root with two nodes of four leaves each
pub record IsOffice (r : Resolved) : Type 0 where
  pub version : r.policy.version ≡ 1
  pub classes : length r.policy.classes ≡ 8
  pub topology : topology_of r.policy.tree ≡ complete (2 ∷ 4 ∷ [])

abbrev pub OfficesAreAlike : Type 0
OfficesAreAlike = (r : Resolved) → IsResolved office_lines r → IsOffice r

pub office-text : canonical_text office_statements ≡ concat (
    codes "policy 1\n" ∷
    codes "class voice when dscp 46\n" ∷
    codes "class video when dscp 34\n" ∷
    codes "class ssh when proto 6 and dport 22\n" ∷
    codes "class dns when proto 17 and dport 53\n" ∷
    codes "class web when proto 6 and dport 443\n" ∷
    codes "class mail when proto 6 and dport 25\n" ∷
    codes "class backup when dst 10.9.0.0/16\n" ∷
    codes "class other\n" ∷
    codes "leaf voice using fifo weight 4 classes voice\n" ∷
    codes "leaf video using fifo weight 2 classes video\n" ∷
    codes "leaf ssh using fifo classes ssh\n" ∷
    codes "leaf dns using fifo classes dns\n" ∷
    codes "leaf web using stfq weight 4 classes web\n" ∷
    codes "leaf mail using fifo weight 2 classes mail\n" ∷
    codes "leaf backup using fifo classes backup\n" ∷
    codes "leaf other using fifo classes other\n" ∷
    codes "node urgent using stfq prio 0 children voice video ssh dns\n" ∷
    codes "node normal using stfq prio 1 children web mail backup other\n" ∷
    codes "node root using strict children urgent normal\n" ∷ [])
unfolding digits
office-text = refl
