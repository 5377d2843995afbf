-- The steps above a level were made, and the steps from there down make up the rest of the path.
use Rattle.sched_core.proofs.Prelude.{◌≡◌, ap, ◌∙◌, sym, ℕ, List, length, subst, ◌<◌, [], refl, ◌∷◌, ◌+◌, get_or, ◌++◌, drop, append_assoc, drop_more, NodeState, after_push, Visit, States, after_pops, after_pushes, ranks_pushed, rank_at, HaveValues, tree_for, class_for, IsReady, stop, way, PacketPath}
use Rattle.sched_core.proofs.WayVisits.{way-next, way-ends, ranks-next}

-- after the push steps above a level, which gave these ranks
pub record HavePushed (e : PacketPath) (values : States) (level : ℕ) (states : List NodeState) (ranks : List ℕ) : Type 0 where
  pub now : States
  pub are : HaveValues (tree_for e) states now
  pub all : ranks ++ ranks_pushed now (way e level) ≡ ranks_pushed values (way e 0)
  pub after : after_pushes (way e level) now ≡ after_pushes (way e 0) values

-- after the pop steps above a level, with the first of these ranks
pub record HavePopped (e : PacketPath) (values : States) (ranks : List ℕ) (level : ℕ) (states : List NodeState) : Type 0 where
  pub now : States
  pub are : HaveValues (tree_for e) states now
  pub after : after_pops (way e level) (drop level ranks) now ≡ after_pops (way e 0) ranks values

module _ (e : PacketPath) (values : States) where
  pub pushed-begun : (states : List NodeState) (ranks : List ℕ) → ranks ≡ [] → HaveValues (tree_for e) states values → HavePushed e values 0 states ranks
  pushed-begun states ranks none h = record { now = values; are = h; all = ap (λ (rs : List ℕ). rs ++ ranks_pushed values (way e 0)) none; after = refl }

  pub popped-begun : (states : List NodeState) (ranks : List ℕ) → HaveValues (tree_for e) states values → HavePopped e values ranks 0 states
  popped-begun states ranks h = record { now = values; are = h; after = refl }

  module _ (ready : IsReady e) (level : ℕ) where
    pub pushed-more : level < length (class_for e).leaf → (states states' : List NodeState) (ranks ranks' : List ℕ) (r : ℕ) → (h : HavePushed e values level states ranks)
        → ranks' ≡ ranks ++ r ∷ [] → r ≡ rank_at h.now (stop e level) → HaveValues (tree_for e) states' (after_pushes (stop e level ∷ []) h.now) → HavePushed e values (level + 1) states' ranks'
    pushed-more l states states' ranks ranks' r h told is are =
        let v : Visit = stop e level in
        let now : States = after_pushes (v ∷ []) h.now in
        record {
          now = now;
          are = are;
          all =
              ap (λ (rs : List ℕ). rs ++ ranks_pushed now (way e (level + 1))) told
              ∙ append_assoc ranks (r ∷ []) (ranks_pushed now (way e (level + 1)))
              ∙ ap (λ (k : ℕ). ranks ++ k ∷ ranks_pushed now (way e (level + 1))) is
              ∙ ap (λ (rs : List ℕ). ranks ++ rs) (sym (ranks-next e ready level l h.now (after_push v.program v.who v.env (h.now v.address))))
              ∙ h.all;
          after = ap (λ (vs : List Visit). after_pushes vs h.now) (sym (way-next e ready level l)) ∙ h.after;
        }

    pub pushed-ranks : level ≡ length (class_for e).leaf → (states : List NodeState) (ranks ranks' : List ℕ) (r : ℕ) → (h : HavePushed e values level states ranks)
        → ranks' ≡ ranks ++ r ∷ [] → r ≡ rank_at h.now (stop e level) → ranks' ≡ ranks_pushed values (way e 0)
    pushed-ranks l states ranks ranks' r h told is =
        told
        ∙ ap (λ (k : ℕ). ranks ++ k ∷ []) is
        ∙ ap (λ (vs : List Visit). ranks ++ ranks_pushed h.now vs) (sym (way-ends e ready level l))
        ∙ h.all

    pub pushed-values : level ≡ length (class_for e).leaf → (states states' : List NodeState) (ranks : List ℕ) → (h : HavePushed e values level states ranks)
        → HaveValues (tree_for e) states' (after_pushes (stop e level ∷ []) h.now) → HaveValues (tree_for e) states' (after_pushes (way e 0) values)
    pushed-values l states states' ranks h are =
        subst (λ (all : States). HaveValues (tree_for e) states' all) (ap (λ (vs : List Visit). after_pushes vs h.now) (sym (way-ends e ready level l)) ∙ h.after) are

    module _ (ranks : List ℕ) (r : ℕ) (some : level < length ranks) (is : r ≡ get_or ranks level 0) where
      rest : r ∷ drop (level + 1) ranks ≡ drop level ranks
      rest = ap (λ (k : ℕ). k ∷ drop (level + 1) ranks) is ∙ sym (drop_more ranks level 0 some)

      pub popped-more : level < length (class_for e).leaf → (states states' : List NodeState) → (h : HavePopped e values ranks level states)
          → HaveValues (tree_for e) states' (after_pops (stop e level ∷ []) (r ∷ []) h.now) → HavePopped e values ranks (level + 1) states'
      popped-more l states states' h are = record {
        now = after_pops (stop e level ∷ []) (r ∷ []) h.now;
        are = are;
        after =
            ap (λ (rs : List ℕ). after_pops (stop e level ∷ way e (level + 1)) rs h.now) rest
            ∙ ap (λ (vs : List Visit). after_pops vs (drop level ranks) h.now) (sym (way-next e ready level l))
            ∙ h.after;
      }

      pub popped-values : level ≡ length (class_for e).leaf → (states states' : List NodeState) → (h : HavePopped e values ranks level states)
          → HaveValues (tree_for e) states' (after_pops (stop e level ∷ []) (r ∷ []) h.now) → HaveValues (tree_for e) states' (after_pops (way e 0) ranks values)
      popped-values l states states' h are = subst (λ (all : States). HaveValues (tree_for e) states' all)
          (ap (λ (rs : List ℕ). after_pops (stop e level ∷ []) rs h.now) rest
          ∙ ap (λ (vs : List Visit). after_pops vs (drop level ranks) h.now) (sym (way-ends e ready level l))
          ∙ h.after) are
