-- Reading the texts of a topology and of a map into it, and running along the map.
use Rattle.std.specs.Prelude.{◌≡◌, ◌<◌, refl, ℕ, List, [], ◌∷◌, ◌++◌, map, slice_index_or, Option, None, Some, Ok, Err, codes}
use Rattle.std.specs.Fmt.{digits}
use Rattle.tree_defs.specs.Tree.{Tree, Address}
use Rattle.tree_defs.specs.Topology.{Topology, topology_of}
use Rattle.policy_defs.specs.Policy.{Policy, Node, Class, name_at, one_leaf}
use Rattle.policy_text_defs.specs.Editions.{chosen}
use Rattle.policy_text_defs.specs.Sense as sense
use Rattle.policy_text_defs.specs.declared.edition.Edition.{Edition}
use Rattle.policy_text_defs.specs.declared.edition.Edition.TheVariants.{Classic, Third}
use Rattle.embed_defs.specs.Embedding.{IsEmbedding}
use Rattle.embed_plan.specs.Preorder.{addresses}
use Rattle.mapcheck_core.specs.Composition.{IsComposed}
use Rattle.mapcheck_core.specs.declared.given.Given.{Given}
use Rattle.mapcheck_core.specs.declared.fault.MapFault.{MapFault}
use Rattle.mapcheck_core.specs.declared.fault.MapFault.TheVariants as fault
use Rattle.mapcheck_core.specs.declared.tree_fault.TreeFault.{TreeFault}
use Rattle.mapcheck_core.specs.GivenMaps.{IsWithinLimits, IsGivenFor, image_of, IsVerdict}
use Rattle.mapcheck_core.specs.MapFaults.{code_of, place_of}
use Rattle.mapcheck_core.specs.MapTexts.{IsMapAnswer}
use Rattle.mapcheck_core.specs.TreeTexts.{IsTreeText, IsTreeFault, code_of as tree_code, place_of as tree_place}
use Rattle.report_core.specs.declared.fault.FaultKind.TheVariants as kind
use Rattle.outside_core.specs.Report.{line_of, fault_line}
use Rattle.target_core.specs.declared.target.Target.{Target}
use Rattle.sched_embedded.specs.Laid.{Laid}
use Rattle.replay_app.specs.Answer.{Answer, text_alone}
use Rattle.replay_app.specs.Follows.{Follows}
use Rattle.replay_app.specs.Targets.{HasNoRoom, IsPlacement}
use Rattle.replay_app.specs.declared.maps.MapFile.{MapFile}

-- ---- the topology
-- the code and line number with which the text of a topology is rejected
pub data IsTreeRefused (text : List ℕ) : ℕ → ℕ → Type 0 where
  at_fault : (f : TreeFault) → IsTreeFault text f → IsTreeRefused text (tree_code f) (tree_place f)

-- outputs that depend on the text of a topology
abbrev pub ForTopology : List ℕ → (Topology → Answer → Type 0) → Answer → Type 0
ForTopology text after = Follows kind.Tree (IsTreeRefused text) (IsTreeText text) after

-- ---- the map
-- the names of a policy's nodes and leaves in preorder
abbrev pub names_of : Policy → List (List ℕ)
names_of policy = map (name_at policy) (addresses policy.tree)

-- the edition of a policy, in which its maps are read too: the one that its version chooses
abbrev pub policy_edition : Policy → Edition
policy_edition policy = chosen (sense.version policy.version)

-- the code and position with which the text of a map of a policy's tree is rejected; the position
-- is a line number or the number of a node
pub data IsMapRefused (policy : Policy) (text : List ℕ) : ℕ → ℕ → Type 0 where
  unread : (f : MapFault) → IsMapAnswer (policy_edition policy) text (names_of policy) (Err f) → IsMapRefused policy text (code_of f) (place_of f)

-- the text gives this map, which is an embedding of the policy's tree into the topology, or first
-- breaks this clause of one
pub record IsMapFile (policy : Policy) (middle : Topology) (text : List ℕ) (t : MapFile) : Type 0 where
  pub read : IsMapAnswer (policy_edition policy) text (names_of policy) (Ok t.given)
  pub verdict : IsVerdict (topology_of policy.tree) middle t.given t.fault

-- the line that names two nodes
abbrev pub pair_line : List ℕ → List ℕ → List ℕ
pair_line a b = line_of (codes "pair" ∷ a ∷ b ∷ [])

-- the map has an image for each node, and is an embedding or first breaks this clause of one
pub record HasVerdict (policy : Policy) (middle : Topology) (t : MapFile) : Type 0 where
  pub given_for : IsGivenFor (topology_of policy.tree) t.given
  pub verdict : IsVerdict (topology_of policy.tree) middle t.given t.fault

-- the two nodes that a fault names exist
abbrev pub NamesNodes : ℕ → MapFault → Type 0
NamesNodes n (fault.Prefix a b) = (a < n) × (b < n)
NamesNodes n f = Unit {0}

-- the line of the two nodes that break a map, if the fault names two
abbrev pub pair_text : List (List ℕ) → MapFault → List ℕ
pair_text names (fault.Prefix a b) = pair_line (slice_index_or names a []) (slice_index_or names b [])
pair_text names f = []

-- the output for a map that breaks a clause: the line of the two nodes, if there is one, and the
-- error line
abbrev pub map_refusal : List (List ℕ) → MapFault → Answer
map_refusal names f = text_alone 13 (pair_text names f ++ fault_line (codes "map") (code_of f) (place_of f))

-- outputs that depend on a map: if it breaks a clause, only its error
abbrev pub Unbroken : List (List ℕ) → Option MapFault → (Answer → Type 0) → Answer → Type 0
Unbroken names None after a = after a
Unbroken names (Some f) after a = a ≡ map_refusal names f

-- outputs that depend on the text of a map of a policy's tree into a topology
abbrev pub ForMap : Policy → Topology → List ℕ → (Given → Answer → Type 0) → Answer → Type 0
ForMap policy middle text after =
    Follows kind.Map (IsMapRefused policy text) (IsMapFile policy middle text) (λ t. Unbroken (names_of policy) t.fault (after t.given))

-- ---- along the map
-- a map of a policy's tree into a topology, which is an embedding
pub record IsRoute (policy : Policy) (middle : Topology) (given : Given) : Type 0 where
  pub limits : IsWithinLimits middle
  pub given_for : IsGivenFor (topology_of policy.tree) given
  pub embedding : IsEmbedding (topology_of policy.tree) middle (image_of (topology_of policy.tree) given)

-- the images of a policy's nodes in the target: the map, followed by the canonical placement of the
-- topology
pub record IsCarried (policy : Policy) (given : Given) (middle : Topology) (target : Target) (images : Tree Address) : Type 0 where
  pub placement : Tree Address
  pub placed : IsPlacement middle target placement
  pub composed : IsComposed (topology_of policy.tree) (image_of (topology_of policy.tree) given) placement images

-- outputs that depend on whether the target has room for the topology, into which the map takes the
-- policy's tree
abbrev pub WithRoomAlong : Policy → Given → Topology → Target → (Laid → Answer → Type 0) → Answer → Type 0
WithRoomAlong policy given middle target after =
    Follows kind.Size (HasNoRoom middle target) (IsCarried policy given middle target) (λ images. after (record { images = images; arities = target.arities }))

-- a policy of version 1 or 2 has the classic edition, and one of version 3 the third
editions_of_policies : (tree : Tree Node) (classes : List Class) → map (λ v. policy_edition (record { version = v; tree = tree; classes = classes })) (1 ∷ 2 ∷ 3 ∷ []) ≡ Classic ∷ Classic ∷ Third ∷ []
editions_of_policies tree classes = refl

names_of-one_leaf : names_of one_leaf ≡ codes "root" ∷ []
names_of-one_leaf = refl

pair_text-two : pair_text (codes "root" ∷ codes "a" ∷ codes "b" ∷ []) (fault.Prefix 1 2) ≡ codes "pair a b\n"
pair_text-two = refl

map_refusal-two : (map_refusal (codes "root" ∷ codes "a" ∷ codes "b" ∷ []) (fault.Prefix 1 2)).text ≡ codes "pair a b\nfault map 9 0\n"
unfolding digits
map_refusal-two = refl

map_refusal-leaf : (map_refusal (codes "root" ∷ codes "a" ∷ []) (fault.Leaf 4)).text ≡ codes "fault map 8 4\n"
unfolding digits
map_refusal-leaf = refl
