-- Worked examples of texts.
use Rattle.std.proofs.Common.{lit<, lit≤}
use Rattle.std.specs.Prelude.{◌≡◌, refl, ℕ, pos, List, [], ◌∷◌, map, codes}
use Rattle.toml.specs.Data.{integer, array, no_items, item, no_members, member}
use Rattle.toml.proofs.OnLiterals.{toml_on_literals}
use Rattle.target_core.specs.declared.fault.TargetFault.TheVariants.{NotToml, Key, Large, TooLong, NoMemory}
use Rattle.target_core.specs.Codes.{code_of}
use Rattle.target_core.specs.TargetText.{IsTargetText, IsRefused, one_arity, each_arity, large}

pub code_of-each : map code_of (NotToml ∷ Key ∷ Large ∷ TooLong ∷ NoMemory ∷ []) ≡ 1 ∷ 2 ∷ 3 ∷ 4 ∷ 0 ∷ []
code_of-each = refl

-- one arity for all levels, including those above the root
abbrev pub ternary : List ℕ
ternary = codes "height = 2\narity = 3\n"

pub IsTargetText-ternary : IsTargetText ternary (3 ∷ 3 ∷ []) 3
unfolding toml_on_literals
IsTargetText-ternary = record {
  short = lit≤ tt;
  table = member (codes "arity") (integer (pos 3)) (member (codes "height") (integer (pos 2)) no_members);
  toml = record { text = (ternary, (refl, refl)); reads = refl };
  gives = one_arity 3 2 refl (record { stands = refl; least = lit≤ tt; most = lit≤ tt }) (record { stands = refl; least = lit≤ tt; most = lit≤ tt });
  few = lit≤ tt;
}

-- a single leaf
abbrev pub no_height : List ℕ
no_height = codes "arity = 64\nheight = 0\n"

pub IsTargetText-no_height : IsTargetText no_height [] 64
unfolding toml_on_literals
IsTargetText-no_height = record {
  short = lit≤ tt;
  table = member (codes "arity") (integer (pos 64)) (member (codes "height") (integer (pos 0)) no_members);
  toml = record { text = (no_height, (refl, refl)); reads = refl };
  gives = one_arity 64 0 refl (record { stands = refl; least = lit≤ tt; most = lit≤ tt }) (record { stands = refl; least = lit≤ tt; most = lit≤ tt });
  few = lit≤ tt;
}

-- an arity for each level, from the root down; the levels above the root have the first
abbrev pub falling : List ℕ
falling = codes "arities = [4, 3, 2]\n"

pub IsTargetText-falling : IsTargetText falling (4 ∷ 3 ∷ 2 ∷ []) 4
unfolding toml_on_literals
IsTargetText-falling = record {
  short = lit≤ tt;
  table = member (codes "arities") (array (item (integer (pos 4)) (item (integer (pos 3)) (item (integer (pos 2)) no_items)))) no_members;
  toml = record { text = (falling, (refl, refl)); reads = refl };
  gives = each_arity (item (integer (pos 4)) (item (integer (pos 3)) (item (integer (pos 2)) no_items))) (4 ∷ 3 ∷ 2 ∷ []) refl refl
      (refl, lit≤ tt, lit≤ tt, (refl, lit≤ tt, lit≤ tt, (refl, lit≤ tt, lit≤ tt, tt))) (lit≤ tt);
  few = lit≤ tt;
}

-- no levels
abbrev pub no_arities : List ℕ
no_arities = codes "arities = []\n"

pub IsTargetText-no_arities : IsTargetText no_arities [] 2
unfolding toml_on_literals
IsTargetText-no_arities = record {
  short = lit≤ tt;
  table = member (codes "arities") (array no_items) no_members;
  toml = record { text = (no_arities, (refl, refl)); reads = refl };
  gives = each_arity no_items [] refl refl tt (lit≤ tt);
  few = lit≤ tt;
}

-- The limit is 65,536 leaves; this target has 262,144.
abbrev pub too_many : List ℕ
too_many = codes "arity = 64\nheight = 3\n"

pub IsRefused-too_many : IsRefused too_many 3
unfolding toml_on_literals
IsRefused-too_many = large (lit≤ tt) (record {
  table = member (codes "arity") (integer (pos 64)) (member (codes "height") (integer (pos 3)) no_members);
  arities = 64 ∷ 64 ∷ 64 ∷ [];
  above = 64;
  toml = record { text = (too_many, (refl, refl)); reads = refl };
  gives = one_arity 64 3 refl (record { stands = refl; least = lit≤ tt; most = lit≤ tt }) (record { stands = refl; least = lit≤ tt; most = lit≤ tt });
  many = lit< tt;
})
