-- The first twelve bytes of a block, in terms of all remaining bytes.
use Rattle.pcapng_core.proofs.Prelude.{◌≡◌, ℕ, List, sym, ◌∙◌, ap, arith, length, Option, Some, subst, ◌<◌, ◌≤◌, None, IfSome, ◌++◌, ⊎_elim, length-append, cases_lt, IsSomeAnd, TakesFront, IsShort, number_at-append, reads_faults, Carried, kind_of, BlockFault, code, broken, front_of, block_len, IsStart, Start}
use Rattle.pcapng_defs.specs.FaultCauses.{IsBlockFault}
use Rattle.pcapng_defs.proofs.LongerFronts.{order_at-longer, faults_stand}

-- more bytes after those of a start change nothing
start-longer : (c : Carried) (s : Start) (bytes more : List ℕ) → IsStart c s bytes → IsStart c s (bytes ++ more)
start-longer c s bytes more h = record {
  few = h.few;
  enough = omega (arith, h.enough, length-append bytes more);
  order = order_at-longer c bytes more h.enough ∙ h.order;
  kind = ap kind_of (number_at-append s.big 4 0 bytes more (omega (arith, h.enough))) ∙ h.kind;
  total = number_at-append s.big 4 4 bytes more (omega (arith, h.enough)) ∙ h.total;
  fits = h.fits;
}

-- the values in the first bytes, if these were taken from the remaining bytes
pub start-taken : (c : Carried) (s : Start) (bytes : List ℕ) (old new : Option (List ℕ)) → TakesFront old new bytes → IsStart c s bytes → IfSome old (λ left. IsStart c s left)
start-taken c s bytes None new taken h = tt
start-taken c s bytes (Some left) None taken h = absurd taken
start-taken c s bytes (Some left) (Some rest) taken h = subst (λ xs. IsStart c s xs) (sym taken) (start-longer c s bytes rest h)

-- a fault that the first bytes show is a fault of the remaining bytes
start-broken : (c : Carried) (fault : BlockFault) (bytes : List ℕ) (old new : Option (List ℕ)) → TakesFront old new bytes → IsShort old bytes block_len → IsBlockFault c bytes fault
    → (code fault ≡ 11 → length bytes < 12) → IfSome old (λ left. front_of c left ≡ broken fault)
start-broken c fault bytes None new taken short h cut = tt
start-broken c fault bytes (Some left) None taken short h cut = absurd taken
start-broken c fault bytes (Some left) (Some rest) taken short h cut =
    let broke : front_of c bytes ≡ broken fault = (reads_faults.faults c bytes fault).0 h in
    ⊎_elim
    (λ (few : length bytes < block_len). ap (front_of c) (short few) ∙ broke)
    (λ (many : block_len ≤ length bytes). ap (front_of c) taken ∙ faults_stand c fault bytes rest broke (λ e. omega (arith, many, cut (ap code e))))
    (cases_lt (length bytes) block_len)

-- if an error names a fault, the remaining bytes have it
pub starts-broken : (c : Carried) (o : Option BlockFault) (front bytes : List ℕ) (old new : Option (List ℕ)) → TakesFront old new front → IsShort old front block_len → bytes ≡ front
    → IsSomeAnd o (IsBlockFault c bytes) → IfSome o (λ fault. code fault ≡ 11 → length bytes < 12) → IfSome o (λ fault. IfSome old (λ left. front_of c left ≡ broken fault))
starts-broken c None front bytes old new taken short same h cut = tt
starts-broken c (Some fault) front bytes old new taken short same h cut =
    start-broken c fault bytes old new (subst (λ xs. TakesFront old new xs) (sym same) taken) (subst (λ xs. IsShort old xs block_len) (sym same) short) h cut
