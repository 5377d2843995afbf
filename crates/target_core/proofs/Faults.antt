-- Why a table gives no target, and the error of a text.
use Rattle.target_core.proofs.Prelude.{arith, ◌≡◌, ◌≤◌, List, Some, length, sym, ℕ, ◌∙◌, codes, subst, ◌<◌, ◌≢◌, leaves, Items, Members, array, get_member, items_view, Value, AreArities, each_arity, one_arity, GivesArities, IsRefused, IsToml, keys, large, not_toml, off_keys}
use Rattle.target_core.specs.Codes.{code_of}
use Rattle.target_core.specs.Faults.{IsNoToml, IsKeyFault}
use Rattle.target_core.specs.declared.fault.TargetFault.{TargetFault}
use Rattle.target_core.proofs.ItemArities.{as_many}

same_items : (t : Members) (ds es : Items) → get_member (codes "arities") t ≡ Some (array ds) → get_member (codes "arities") t ≡ Some (array es) → ds ≡ es
same_items t ds es p q = let e : Some (array ds) ≡ Some (array es) = sym p ∙ q in cc

pub too_many_levels : (t : Members) (vs : List Value) (ns : List ℕ) (above : ℕ) → keys t ≡ 1 → get_member (codes "arities") t ≡ Some (array (items_view vs)) → 16 < length vs → GivesArities t ns above → ⊥
too_many_levels t vs ns above one stands long (one_arity d h k p q) = omega (arith, one, k)
too_many_levels t vs ns above one stands long (each_arity ds ns' k p q short) =
    omega (arith, long, short, as_many vs ns' (subst (λ (x : Items). AreArities x ns') (same_items t ds (items_view vs) p stands) q))

pub other_keys : (t : Members) (ns : List ℕ) (above : ℕ) → keys t ≢ 1 → keys t ≢ 2 → GivesArities t ns above → ⊥
other_keys t ns above not_one not_two (one_arity d h k p q) = not_two k
other_keys t ns above not_one not_two (each_arity ds ns' k p q short) = not_one k

pub refused_toml : (bytes : List ℕ) (fault : TargetFault) → length bytes ≤ 65536 → IsNoToml fault bytes → IsRefused bytes (code_of fault)
refused_toml bytes fault short none = rw none.0 (not_toml short none.1)

pub refused_keys : (bytes : List ℕ) (fault : TargetFault) (t : Members) → length bytes ≤ 65536 → IsToml bytes t → IsKeyFault fault t → IsRefused bytes (code_of fault)
refused_keys bytes fault t short toml off = rw off.key (off_keys short (record { table = t; toml = toml; none = off.none }))

pub refused_leaves : (bytes : List ℕ) (t : Members) (ns : List ℕ) (above : ℕ) → length bytes ≤ 65536 → IsToml bytes t → GivesArities t ns above → 65536 < leaves ns → IsRefused bytes 3
refused_leaves bytes t ns above short toml gives many = large short (record { table = t; arities = ns; above = above; toml = toml; gives = gives; many = many })
