-- A target's text: a TOML document with the keys `arity` and `height`, or with the key `arities`
-- alone.
use Rattle.std.specs.Prelude.{◌≡◌, ℕ, suc, ◌≤◌, ◌<◌, pos, List, [], ◌∷◌, length, replicate, Some, codes, IsUtf8}
use Rattle.toml.specs.Data.{integer, array, Items, no_items, item, Members, no_members, member, get_member}
use Rattle.toml.specs.Parse.{parse_document}
use Rattle.embed_defs.specs.Target.{leaves, least_arity, most_arity, most_height, most_leaves}
use Rattle.target_core.specs.declared.fault.TargetFault.TheVariants.{NotToml, Key, Large, TooLong}
use Rattle.target_core.specs.Codes.{code_of}

-- the greatest length of a target's text, in bytes
abbrev pub most_bytes : ℕ
most_bytes = 65536

-- the bytes parse as TOML and give this table
pub record IsToml (bytes : List ℕ) (table : Members) : Type 0 where
  pub text : IsUtf8 bytes
  pub reads : parse_document bytes ≡ Some table

abbrev pub keys : Members → ℕ
keys no_members = 0
keys (member k d ms) = suc (keys ms)

-- the table has a whole number in this range at the key
pub record HasNumber (table : Members) (key : List ℕ) (low high n : ℕ) : Type 0 where
  pub stands : get_member key table ≡ Some (integer (pos n))
  pub least : low ≤ n
  pub most : n ≤ high

-- each item is a whole number from 2 to 64
abbrev pub AreArities : Items → List ℕ → Type 0
AreArities no_items [] = Unit {0}
AreArities no_items (n ∷ ns) = ⊥
AreArities (item d ds) [] = ⊥
AreArities (item d ds) (n ∷ ns) = (d ≡ integer (pos n)) × (least_arity ≤ n) × (n ≤ most_arity) × AreArities ds ns

-- the first arity, or 2 if there is none
abbrev pub first_arity : List ℕ → ℕ
first_arity [] = least_arity
first_arity (n ∷ ns) = n

-- the arities that the table gives, from the root down, and the arity of all levels above the root
pub data GivesArities (table : Members) : List ℕ → ℕ → Type 0 where
  one_arity : (arity height : ℕ) → keys table ≡ 2 → HasNumber table (codes "arity") least_arity most_arity arity → HasNumber table (codes "height") 0 most_height height → GivesArities table (replicate height arity) arity
  each_arity : (items : Items) (arities : List ℕ) → keys table ≡ 1 → get_member (codes "arities") table ≡ Some (array items) → AreArities items arities → length arities ≤ most_height → GivesArities table arities (first_arity arities)

-- the text is accepted, with these arities from the root down and this arity above the root
pub record IsTargetText (bytes : List ℕ) (arities : List ℕ) (above : ℕ) : Type 0 where
  pub short : length bytes ≤ most_bytes
  pub table : Members
  pub toml : IsToml bytes table
  pub gives : GivesArities table arities above
  pub few : leaves arities ≤ most_leaves

-- the table's keys aren't exactly those of a target, or a value isn't a whole number in its range
pub record IsOffKeys (bytes : List ℕ) : Type 0 where
  pub table : Members
  pub toml : IsToml bytes table
  pub none : (arities : List ℕ) (above : ℕ) → GivesArities table arities above → ⊥

-- the table gives a target with too many leaves
pub record IsLarge (bytes : List ℕ) : Type 0 where
  pub table : Members
  pub arities : List ℕ
  pub above : ℕ
  pub toml : IsToml bytes table
  pub gives : GivesArities table arities above
  pub many : most_leaves < leaves arities

-- The code of the text's first error. Errors are checked in this order: too long, not TOML, other
-- keys or values, too many leaves.
pub data IsRefused (bytes : List ℕ) : ℕ → Type 0 where
  too_long : most_bytes < length bytes → IsRefused bytes (code_of TooLong)
  not_toml : length bytes ≤ most_bytes → ((table : Members) → IsToml bytes table → ⊥) → IsRefused bytes (code_of NotToml)
  off_keys : length bytes ≤ most_bytes → IsOffKeys bytes → IsRefused bytes (code_of Key)
  large : length bytes ≤ most_bytes → IsLarge bytes → IsRefused bytes (code_of Large)
