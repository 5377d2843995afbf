-- The accepted statements, and the first clause that other statements fail.
use Rattle.std.specs.Prelude.{◌≡◌, true, false, List}
use Rattle.rank_defs.specs.Checks.{ClashesFirstAt, IsWideFirstAt, DividesByZeroFirstAt, AreChecked}
use Rattle.policy_text_defs.specs.Sense.{Entry}
use Rattle.policy_rules.specs.Clauses.{IsLeastLine, NoLine, IsMisplaced, IsRepeated, IsUnknown, IsOneTooMany, IsOrphan, has_root, IsNotListedOnce, has_catch_all, NeedsVersion2}
use Rattle.policy_rules.specs.Families.{IsCyclic, IsTooDeep}
use Rattle.policy_rules.specs.Programs.{programs}
use Rattle.policy_rules.specs.declared.fault.PolicyFault.{PolicyFault}
use Rattle.policy_rules.specs.declared.fault.PolicyFault.TheVariants.{Misplaced, Twice, Unknown, TooMany, TypeClash, Wide, DivZero, Parents, NoRoot, Cycle, Deep, ClassLeaf, NoCatchAll, OldVersion, NoMemory}

-- no line fails this clause or an earlier one
abbrev pub ArePlaced : List Entry → Type 0
ArePlaced entries = NoLine (IsMisplaced entries) entries

abbrev pub AreNew : List Entry → Type 0
AreNew entries = ArePlaced entries × NoLine (IsRepeated entries) entries

abbrev pub AreKnown : List Entry → Type 0
AreKnown entries = AreNew entries × NoLine (IsUnknown entries) entries

abbrev pub AreFew : List Entry → Type 0
AreFew entries = AreKnown entries × NoLine (IsOneTooMany entries) entries

-- the transactions' types agree, their intervals are narrow, and no divisor may be 0
abbrev pub AreComputable : List Entry → Type 0
AreComputable entries = AreFew entries × AreChecked (programs entries)

abbrev pub HaveParents : List Entry → Type 0
HaveParents entries = AreComputable entries × NoLine (IsOrphan entries) entries

abbrev pub HaveRoot : List Entry → Type 0
HaveRoot entries = HaveParents entries × (has_root entries ≡ true)

abbrev pub AreAcyclic : List Entry → Type 0
AreAcyclic entries = HaveRoot entries × NoLine (IsCyclic entries) entries

abbrev pub AreShallow : List Entry → Type 0
AreShallow entries = AreAcyclic entries × NoLine (IsTooDeep entries) entries

abbrev pub HaveLeaves : List Entry → Type 0
HaveLeaves entries = AreShallow entries × NoLine (IsNotListedOnce entries) entries

abbrev pub HaveCatchAll : List Entry → Type 0
HaveCatchAll entries = HaveLeaves entries × (has_catch_all entries ≡ true)

-- no clause fails
abbrev pub AreAccepted : List Entry → Type 0
AreAccepted entries = HaveCatchAll entries × NoLine (NeedsVersion2 entries) entries

-- the first clause to fail, and its first line; memory may run out at any time
abbrev pub IsFault : List Entry → PolicyFault → Type 0
IsFault entries (Misplaced n) = IsLeastLine (IsMisplaced entries) entries n
IsFault entries (Twice n) = ArePlaced entries × IsLeastLine (IsRepeated entries) entries n
IsFault entries (Unknown n) = AreNew entries × IsLeastLine (IsUnknown entries) entries n
IsFault entries (TooMany n) = AreKnown entries × IsLeastLine (IsOneTooMany entries) entries n
IsFault entries (TypeClash n) = AreFew entries × ClashesFirstAt (programs entries) n
IsFault entries (Wide n) = AreFew entries × IsWideFirstAt (programs entries) n
IsFault entries (DivZero n) = AreFew entries × DividesByZeroFirstAt (programs entries) n
IsFault entries (Parents n) = AreComputable entries × IsLeastLine (IsOrphan entries) entries n
IsFault entries NoRoot = HaveParents entries × (has_root entries ≡ false)
IsFault entries (Cycle n) = HaveRoot entries × IsLeastLine (IsCyclic entries) entries n
IsFault entries (Deep n) = AreAcyclic entries × IsLeastLine (IsTooDeep entries) entries n
IsFault entries (ClassLeaf n) = AreShallow entries × IsLeastLine (IsNotListedOnce entries) entries n
IsFault entries NoCatchAll = HaveLeaves entries × (has_catch_all entries ≡ false)
IsFault entries (OldVersion n) = HaveCatchAll entries × IsLeastLine (NeedsVersion2 entries) entries n
IsFault entries NoMemory = Unit {0}
