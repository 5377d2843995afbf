-- A capture whose packets have one link type.
use Rattle.forward_defs.proofs.Prelude.{List, [], refl, ℕ, ◌∷◌, ◌≡◌, ap, Bool, Option, false, if◌then◌else◌, sym, true, Some, subst, true≢false, ◌+◌, ◌==◌, AllByRecursion, FaultAt, Contents, CapturedPacket}
use Rattle.std.proofs.lemmas.Bool.{eq-eqb}
use Rattle.forward_defs.specs.SingleLinkType.{other_link, of_link, of_one_link, behind_packet}
use Rattle.forward_defs.specs.Laws.{OneLinkIsWhole}

behind_one : (t : Bool) → t ≡ true → (n : ℕ) (p : CapturedPacket) (others whole : Contents) → others ≡ whole
    → (if t then behind_packet p others else record { packets = []; fault = Some (record { code = other_link; place = n }) }) ≡ behind_packet p whole
behind_one true is n p others whole same = ap (behind_packet p) same
behind_one false is n p others whole same = absurd (true≢false (sym is))

of_link-whole : (link n : ℕ) (ps : List CapturedPacket) (fault : Option FaultAt) → AllByRecursion (λ (p : CapturedPacket). p.link ≡ link) ps
    → of_link link n ps fault ≡ record { packets = ps; fault = fault }
of_link-whole link n [] fault one = refl
of_link-whole link n (p ∷ ps) fault one =
    behind_one (p.link == link) (eq-eqb p.link link one.0) n p (of_link link (n + 1) ps fault) (record { packets = ps; fault = fault }) (of_link-whole link (n + 1) ps fault one.1)

whole_at : (link : ℕ) (ps : List CapturedPacket) (fault : Option FaultAt) → AllByRecursion (λ (p : CapturedPacket). p.link ≡ link) ps
    → of_one_link (record { packets = ps; fault = fault }) ≡ record { packets = ps; fault = fault }
whole_at link [] fault one = refl
whole_at link (p ∷ ps) fault one = subst (λ (l : ℕ). of_link l 1 (p ∷ ps) fault ≡ record { packets = p ∷ ps; fault = fault }) (sym one.0) (of_link-whole link 1 (p ∷ ps) fault one)

pub one_link-whole : OneLinkIsWhole
one_link-whole link c one = whole_at link c.packets c.fault one
