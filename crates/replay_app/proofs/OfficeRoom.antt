-- A target of three levels of arity 4 has room for the tree of the office policy.
use Rattle.replay_app.proofs.Prelude.{subst, sym, ℕ, ◌≡◌, refl, ◌∙◌, [], ◌∷◌, arith, ◌≤◌, ◌+◌, heights_in_range-holds, HasEmbedding, AreWide, levels, Arities, IsInRange, IsArity, offices-alike, office_lines, Resolved, IsResolved, topology_of, Topology, complete, Tree, SameShape, inner, more, none}
use Rattle.tree_defs.specs.Tree.{leaf}
use Rattle.embed_defs.specs.Need.{AreNeedsOf, HoldsNeeds, FitsBelow, IsLeast}
use Rattle.embed_defs.proofs.EmbeddingLaws.{embeddings_need_room-holds}

pub in-range : IsInRange (4 ∷ 4 ∷ 4 ∷ []) 4
in-range = record {
  target = record { levels = omega arith; narrow = (four, (four, (four, tt))); few = omega arith };
  wide = omega arith;
  narrow = omega arith;
}
  where
    four : IsArity 4
    four = (omega arith, omega arith)

abbrev by_height : Arities
by_height = levels (4 ∷ 4 ∷ 4 ∷ []) 4

wide : AreWide by_height
wide h = (heights_in_range-holds (4 ∷ 4 ∷ 4 ∷ []) 4 in-range h).0

-- the heights that the nodes need: one level below each group, two below the root
abbrev group : Tree ℕ
group = inner 1 (more (leaf 0) (more (leaf 0) (more (leaf 0) (more (leaf 0) none))))

abbrev needs : Tree ℕ
needs = inner 2 (more group (more group none))

four-fit : IsLeast (FitsBelow by_height (0 ∷ 0 ∷ 0 ∷ 0 ∷ [])) 1
four-fit = record { holds = record { below = (lower, (lower, (lower, (lower, tt)))); room = omega arith }; least = λ m fits. omega (arith, fits.below.0) }
  where
    lower : 0 + 1 ≤ 1
    lower = omega arith

two-fit : IsLeast (FitsBelow by_height (1 ∷ 1 ∷ [])) 2
two-fit = record { holds = record { below = (lower, (lower, tt)); room = omega arith }; least = λ m fits. omega (arith, fits.below.0) }
  where
    lower : 1 + 1 ≤ 2
    lower = omega arith

are-needs : AreNeedsOf by_height (complete (2 ∷ 4 ∷ [])) needs
are-needs = record { shape = (leaves, (leaves, tt)); needs = (two-fit, (group-needs, (group-needs, tt))) }
  where
    leaves : SameShape (complete (4 ∷ [])) group
    leaves = (tt, (tt, (tt, (tt, tt))))

    group-needs : HoldsNeeds by_height group
    group-needs = (four-fit, (refl, (refl, (refl, (refl, tt)))))

pub has-room : HasEmbedding (complete (2 ∷ 4 ∷ [])) (complete (4 ∷ 4 ∷ 4 ∷ []))
has-room = (embeddings_need_room-holds by_height (complete (2 ∷ 4 ∷ [])) needs 3 wide are-needs).1 (omega arith)

-- a policy that the office statements give can be embedded into the target
pub office-has-room : (t : Topology) (r : Resolved) → IsResolved office_lines r → t ≡ topology_of r.policy.tree → HasEmbedding t (complete (4 ∷ 4 ∷ 4 ∷ []))
office-has-room t r is same = subst (λ (u : Topology). HasEmbedding u (complete (4 ∷ 4 ∷ 4 ∷ []))) (sym (same ∙ (offices-alike r is).topology)) has-room
