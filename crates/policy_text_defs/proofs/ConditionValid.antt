-- Conditions that are written are valid.
use Rattle.policy_text_defs.proofs.Prelude.{List, ℕ, ◌≡◌, Some, Bool, true, false, None, arith, codes, ◌≤◌, cond, AllByRecursion, bytes_eq, Glyph, Guard, IsCondition, guarded, unguarded, Address, Conditions, Range, also, between, dest, field, ipv4, ipv6, last, prefix, single, source, protocol, whole, IsValidCondition, IsValidAddress, Condition}

range_ordered : (ts : List Glyph) (low high : ℕ) → Range ts low high → low ≤ high
range_ordered ts low high (single n) = omega arith
range_ordered ts low high (between _ _ ordered) = ordered

pub protocol_case : (u v w : Bool) (n : ℕ) → cond u (Some 6) (cond v (Some 17) (cond w (Some 1) None)) ≡ Some n → n ≤ 255
protocol_case true v w n e = let same : 6 ≡ n = cc in omega arith
protocol_case false true w n e = let same : 17 ≡ n = cc in omega arith
protocol_case false false true n e = let same : 1 ≡ n = cc in omega arith
protocol_case false false false n e = absurd cc

pub address_valid : (ts : List Glyph) (a l : ℕ) → Address ts a l → IsValidAddress a l
address_valid ts a l (whole o are) =
    let first = are.first in
    let second = are.second in
    let third = are.third in
    let fourth = are.fourth in
    record { address = omega arith; prefix = omega arith }
address_valid ts a l (prefix o _ are low) =
    let first = are.first in
    let second = are.second in
    let third = are.third in
    let fourth = are.fourth in
    record { address = omega arith; prefix = low }

condition_valid : (ts : List Glyph) (c : Condition) → IsCondition ts c → IsValidCondition c
condition_valid gs c (field f ts low high range below) = record { ordered = range_ordered ts low high range; below = below }
condition_valid gs c (protocol w n is) = record { ordered = omega arith; below = protocol_case (bytes_eq w (codes "tcp")) (bytes_eq w (codes "udp")) (bytes_eq w (codes "icmp")) n is }
condition_valid gs c (source ts a l address) = address_valid ts a l address
condition_valid gs c (dest ts a l address) = address_valid ts a l address
condition_valid gs c ipv4 = tt
condition_valid gs c ipv6 = tt

conditions_valid : (ts : List Glyph) (cs : List Condition) → Conditions ts cs → AllByRecursion IsValidCondition cs
conditions_valid gs cs (last ts c is) = (condition_valid ts c is, tt)
conditions_valid gs cs (also ts us c ds is later) = (condition_valid ts c is, conditions_valid us ds later)

pub guard_valid : (ts : List Glyph) (cs : List Condition) → Guard ts cs → AllByRecursion IsValidCondition cs
guard_valid gs cs unguarded = tt
guard_valid gs cs (guarded ts _ are) = conditions_valid ts cs are
