-- A map's leaf addresses and depth are those of its topology.
use Rattle.embed_core.proofs.Prelude.{◌≡◌, sym, ◌∙◌, ap, subst, topology_of-same, LeadsToLeaf-topology, depth-topology, Topology, Address, Tree, LeadsToLeaf, depth, SameShape}

pub leads-alike : {Q R : Type 0} (t : Tree Q) (u : Tree R) (a : Address) → SameShape t u → LeadsToLeaf t a → LeadsToLeaf u a
leads-alike t u a s l =
    subst (λ (A : Type 0). A) (LeadsToLeaf-topology t a ∙ ap (λ (z : Topology). LeadsToLeaf z a) (topology_of-same t u s) ∙ sym (LeadsToLeaf-topology u a)) l

pub depth-alike : {Q R : Type 0} (t : Tree Q) (u : Tree R) → SameShape t u → depth t ≡ depth u
depth-alike t u s = sym (depth-topology t) ∙ ap depth (topology_of-same t u s) ∙ depth-topology u
