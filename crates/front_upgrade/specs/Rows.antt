-- Statements as those of version 3.
use Rattle.std.specs.Prelude.{◌≡◌, refl, [], ◌∷◌, map, codes, Some}
use Rattle.std.specs.Fmt.{digits}
use Rattle.policy_text_defs.specs.declared.condition.Condition.TheVariants as condition
use Rattle.policy_text_defs.specs.declared.condition.FieldName.TheVariants as field
use Rattle.rank_defs.specs.declared.flow_group.FlowGroup.TheVariants.{Hosts}
use Rattle.policy_text_defs.specs.Settings.{no_queueing, only_packets, with_group}
use Rattle.policy_text_defs.specs.Statements.{unset}
use Rattle.policy_text_defs.specs.Sense.{entry, version, transaction, class, leaf, node}
use Rattle.front_upgrade.specs.Upgraded.{upgraded_text, line_at}

-- conditions are written as they were
a_class_of_version_2 : upgraded_text (entry 1 (version 2) ∷ entry 3 (class (codes "web") (record unset { weight = Some 2 }) (condition.Field field.Proto 6 6 ∷ condition.Field field.Dport 80 81 ∷ condition.Dest 168361984 16 ∷ [])) ∷ entry 4 (leaf (codes "root") (codes "fifo") unset (only_packets (Some 64)) (codes "web" ∷ [])) ∷ [])
    ≡ codes "policy 3\nclass web weight 2 when proto 6 and dport 80..81 and dst 10.9.0.0/16\nleaf root using fifo limit 64 classes web\n"
unfolding digits
a_class_of_version_2 = refl

-- a policy of version 3 keeps its settings
settings_are_kept : upgraded_text (entry 1 (version 3) ∷ entry 2 (node (codes "root") (codes "wfq") unset (with_group Hosts (only_packets (Some 64))) (codes "a" ∷ [])) ∷ entry 3 (leaf (codes "a") (codes "fifo") unset no_queueing (codes "all" ∷ [])) ∷ [])
    ≡ codes "policy 3\nnode root using wfq limit 64 flow by src dst children a\nleaf a using fifo classes all\n"
unfolding digits
settings_are_kept = refl

-- the second statement is on line 3
lines_of_statements : map (line_at (entry 1 (version 1) ∷ entry 3 (transaction (codes "t")) ∷ [])) (0 ∷ 1 ∷ 2 ∷ 3 ∷ []) ≡ 0 ∷ 1 ∷ 3 ∷ 0 ∷ []
lines_of_statements = refl
