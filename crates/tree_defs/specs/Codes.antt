-- How a tree is stored as a ghost value.
use Rattle.std.specs.Prelude.{◌≡◌}
use Rattle.std.specs.Coded.{Coded}
use Rattle.std.proofs.Common.{ap, refl}
use base.Stored.{Gv, gnil, gnum, gcons}
use Rattle.tree_defs.specs.Queue.{Queue}
use Rattle.tree_defs.specs.QueueCodes.{queue_code}
use Rattle.tree_defs.specs.Tree.{Tree, leaf, inner, Trees, none, more}

module _ {Q : Type 0} (c : Coded Q) where
  abbrev mutual
    pub code_of : Tree Q → Gv
    code_of (leaf q) = gcons (gnum 0) (c.code q)
    code_of (inner q ts) = gcons gnil (gcons (c.code q) (codes_of ts))

    pub codes_of : Trees Q → Gv
    codes_of none = gnil
    codes_of (more t ts) = gcons (code_of t) (codes_of ts)

  mutual
    pub same_tree : (t u : Tree Q) → code_of t ≡ code_of u → t ≡ u
    same_tree (leaf q) (leaf r) p = let e : c.code q ≡ c.code r = cc in ap leaf (c.inj q r e)
    same_tree (leaf q) (inner r us) p = cc
    same_tree (inner q ts) (leaf r) p = cc
    same_tree (inner q ts) (inner r us) p =
        let e : c.code q ≡ c.code r = cc in
        let f : codes_of ts ≡ codes_of us = cc in
        let e' : q ≡ r = c.inj q r e in
        let f' : ts ≡ us = same_trees ts us f in
        cc

    pub same_trees : (ts us : Trees Q) → codes_of ts ≡ codes_of us → ts ≡ us
    same_trees none none p = refl
    same_trees none (more u us) p = cc
    same_trees (more t ts) none p = cc
    same_trees (more t ts) (more u us) p =
        let e : code_of t ≡ code_of u = cc in
        let f : codes_of ts ≡ codes_of us = cc in
        let e' : t ≡ u = same_tree t u e in
        let f' : ts ≡ us = same_trees ts us f in
        cc

  abbrev pub tree_code : Coded (Tree Q)
  tree_code = record { code = code_of; inj = same_tree }

abbrev pub source_tree_code : Coded (Tree Queue)
source_tree_code = tree_code queue_code
