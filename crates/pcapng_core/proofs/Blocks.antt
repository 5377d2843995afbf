-- The block at the front of the remaining bytes, as a reader's steps find it.
use Rattle.pcapng_core.proofs.Prelude.{◌≡◌, ℕ, List, sym, ◌∙◌, ap, arith, length, ◌+◌, ◌<◌, ◌≤◌, ◌-◌, drop, take, ◌≢◌, eqb, not, cond-true, lt-ltb, cond-false, eq-eqb, le-ltb, ne_eqb, and_left, not_from_false, not_from_true, long_at, Carried, block_gives, BlockFault, block_cut, block_end, interfaces, ng_version, packet_length, block_length, no_interface, order_magic, too_many_blocks, broken, block_len, fits_kind, front_with, most_blocks, front_at, front_in, IsStart, IsEndFault, kind_said, Start}
use Rattle.pcapng_defs.specs.NgCapture.{front_of}

front-begun : (c : Carried) (s : Start) (rest : List ℕ) → IsStart c s rest → front_of c rest ≡ front_at c s.big rest (kind_said s.kind) s.total
unfolding front_of
front-begun c s rest h =
    cond-false _ _ _ (and_left (eqb (length rest) 0) (not (eqb c.blocks 0)) (ne_eqb (length rest) 0 (λ e. omega (arith, h.enough, e))))
    ∙ cond-false _ _ _ (ne_eqb c.blocks most_blocks h.few)
    ∙ cond-false _ _ _ (le-ltb (length rest) block_len h.enough)
    ∙ ap (front_in c rest) h.order
    ∙ ap (λ k. front_at c s.big rest k (long_at s.big 4 rest)) h.kind
    ∙ ap (front_at c s.big rest (kind_said s.kind)) h.total

-- a whole block
pub front-read : (c : Carried) (s : Start) (rest : List ℕ) → IsStart c s rest → s.total ≤ length rest → long_at s.big (s.total - 4) rest ≡ s.total
    → front_of c rest ≡ front_with (drop s.total rest) (block_gives c s.big (take s.total rest) (kind_said s.kind))
front-read c s rest h whole end =
    front-begun c s rest h
    ∙ cond-false _ _ _ (not_from_true (fits_kind (kind_said s.kind) s.total) h.fits)
    ∙ cond-false _ _ _ (le-ltb (length rest) s.total whole)
    ∙ cond-false _ _ _ (not_from_true (eqb (long_at s.big (s.total - 4) rest) s.total) (eq-eqb _ _ end))

-- a cut block
pub front-cut : (c : Carried) (s : Start) (rest : List ℕ) → IsStart c s rest → length rest < s.total → front_of c rest ≡ broken (block_cut (c.blocks + 1))
front-cut c s rest h less =
    front-begun c s rest h
    ∙ cond-false _ _ _ (not_from_true (fits_kind (kind_said s.kind) s.total) h.fits)
    ∙ cond-true _ _ _ (lt-ltb (length rest) s.total less)

-- a block whose two lengths differ
pub front-differs : (c : Carried) (s : Start) (rest : List ℕ) → IsStart c s rest → s.total ≤ length rest → long_at s.big (s.total - 4) rest ≢ s.total
    → front_of c rest ≡ broken (block_end (c.blocks + 1))
front-differs c s rest h whole differ =
    front-begun c s rest h
    ∙ cond-false _ _ _ (not_from_true (fits_kind (kind_said s.kind) s.total) h.fits)
    ∙ cond-false _ _ _ (le-ltb (length rest) s.total whole)
    ∙ cond-true _ _ _ (not_from_false (eqb (long_at s.big (s.total - 4) rest) s.total) (ne_eqb _ _ differ))

-- a fault at the end of a block
pub end-broken : (c : Carried) (s : Start) (number : ℕ) (rest : List ℕ) (fault : BlockFault) → IsStart c s rest → number ≡ c.blocks + 1 → IsEndFault s number rest fault → front_of c rest ≡ broken fault
end-broken c s number rest (block_cut n) h same e = front-cut c s rest h e.1 ∙ ap (λ m. broken (block_cut m)) (sym (e.0 ∙ same))
end-broken c s number rest (block_end n) h same e = front-differs c s rest h e.1 e.2 ∙ ap (λ m. broken (block_end m)) (sym (e.0 ∙ same))
end-broken c s number rest (block_length n) h same e = absurd e
end-broken c s number rest (order_magic n) h same e = absurd e
end-broken c s number rest (ng_version n) h same e = absurd e
end-broken c s number rest (no_interface n) h same e = absurd e
end-broken c s number rest (packet_length n) h same e = absurd e
end-broken c s number rest (interfaces n) h same e = absurd e
end-broken c s number rest (too_many_blocks n) h same e = absurd e
