-- Written conditions, as tests and as conditions on a packet.
use Rattle.packet_core.proofs.Prelude.{◌∙◌, ◌≡◌, ap, map, refl, List, [], ◌∷◌, test_of, tests_of, classes_of, class_among}
use Rattle.policy_text_defs.specs.declared.condition.Condition.{Condition}
use Rattle.policy_text_defs.specs.declared.condition.Condition.TheVariants.{Field, Source, Dest, Ipv4, Ipv6}
use Rattle.packet_defs.specs.Test.{Test}
use Rattle.packet_defs.specs.ClassicTests as given
use Rattle.packet_defs.proofs.TestLaws as given_laws
use Rattle.policy_rules.specs.Alternatives as written
use Rattle.packet_core.specs.Tests.{condition_of, conditions_of}
use Rattle.packet_core.specs.Laws.{ClassicClassesAreKept}

one-test : (c : Condition) → test_of (written.test_of c) ≡ given.test_of (condition_of c)
one-test (Field f low high) = refl
one-test (Source address bits) = refl
one-test (Dest address bits) = refl
one-test Ipv4 = refl
one-test Ipv6 = refl

all-tests : (cs : List Condition) → map test_of (map written.test_of cs) ≡ map given.test_of (map condition_of cs)
all-tests [] = refl
all-tests (c ∷ cs) = ap (λ (t : Test). t ∷ map test_of (map written.test_of cs)) (one-test c) ∙ ap (λ (ts : List Test). given.test_of (condition_of c) ∷ ts) (all-tests cs)

one-class : (cs : List Condition) → tests_of (written.alternatives_of cs) ≡ given.alternatives_of (map condition_of cs)
one-class [] = refl
one-class (c ∷ cs) = ap (λ (ts : List Test). ts ∷ []) (all-tests (c ∷ cs))

all-classes : (classes : List (List Condition)) → classes_of (map written.alternatives_of classes) ≡ map given.alternatives_of (conditions_of classes)
all-classes [] = refl
all-classes (cs ∷ classes) =
    ap (λ (c : List (List Test)). c ∷ classes_of (map written.alternatives_of classes)) (one-class cs)
    ∙ ap (λ (rest : List (List (List Test))). given.alternatives_of (map condition_of cs) ∷ rest) (all-classes classes)

pub classic-kept : ClassicClassesAreKept
classic-kept classes header n = ap (λ (cs : List (List (List Test))). class_among cs header n) (all-classes classes) ∙ given_laws.classic-kept (conditions_of classes) header n
