-- The packet that departs, if the source tree is known to give it.
use Rattle.sched_embedded.proofs.Prelude.{sym, ℕ, ◌∙◌, ap, ◌≡◌, List, Some, refl, None, IfSome, Family, Packet, Policy, PopsNext, pop_size, IsSound, SourceState, departed, leaver, Way, size, Laid, PopsTo}
use Rattle.sched_core.specs.Departures.{IsTaken}
use Rattle.sched_core.proofs.PoppedPackets.{is_held, leaver-popped, departed-popped, taken}

module _ (policy : Policy) (s : SourceState) (sound : IsSound policy s) (l : Laid) (number : ℕ) (way : Way) (queues : Family) (p : PopsTo l s.tree number way queues) where
  pub next : (digits ranks : List ℕ) → digits ≡ way.digits → ranks ≡ way.ranks → PopsNext s number digits ranks
  next digits ranks d r = record {
    left = p.left;
    popped = p.popped ∙ (λ i. Some (record { value = number; digits = sym d i; ranks = sym r i; left = p.left }));
  }

  abbrev here : PopsNext s number way.digits way.ranks
  here = record { left = p.left; popped = p.popped }

  packet : (q : Packet) × (s.held number ≡ Some q)
  packet = is_held policy s number way.digits way.ranks here sound

  pub departed-tree : (departed policy s).tree ≡ p.left
  departed-tree = ap (λ (z : SourceState). z.tree) (departed-popped policy s number way.digits way.ranks here packet.0 packet.1)

  pub leaver-taken : IfSome (leaver s) (λ t. IsTaken t way)
  leaver-taken = rw (leaver-popped policy s number way.digits way.ranks here packet.0 packet.1) (record { digits = refl; ranks = refl })

  pub not-empty : size s.tree ≡ 0 → ⊥
  not-empty e = let no : None ≡ Some (taken policy s number way.digits way.ranks here) = sym ((pop_size policy s sound).1 e) ∙ p.popped in cc
