use Rattle.packet_core.proofs.Prelude.{◌∙◌, ap, refl, ◌≡◌, Bool, Option, ℕ, has_version, if◌then◌else◌, None}
use Rattle.packet_core.proofs.WithinBounds.{is-version, number-is, address-is}
use Rattle.packet_core.proofs.classifier.numbers_of.Goals.{then-eq, else-eq}
use Rattle.packet_core.proofs.classifier.numbers_of.Goals as goal

pub returns : goal.returns
returns c =
    let f = c.args.fields.now in
    let four = has_version 4 f in
    let addresses : Bool → Option ℕ × Option ℕ = λ b. (if b then f.source else None, if b then f.target else None) in
    let pair : c.if-eq.source ≡ addresses four = elim c.if-eq.branch [
      | then-eq w ↦ w.source-is ∙ ap addresses (w.if-eq.ensures ∙ is-version f.version 4)
      | else-eq w ↦ w.source-is ∙ ap addresses (w.if-eq.ensures ∙ is-version f.version 4)
    ] in
    rw (
      number-is f.vlan _ c.map_or.ensures,
      number-is f.dscp _ c.map_or-2.ensures,
      number-is f.proto _ c.map_or-3.ensures,
      number-is f.sport _ c.map_or-4.ensures,
      number-is f.dport _ c.map_or-5.ensures,
      c.from.ensures,
      number-is f.version _ c.map_or-6.ensures,
      address-is four f.source _ _ _ _ c.min.ensures c.unwrap_or.ensures c.from-most.ensures (ap (λ p. p.0) pair),
      address-is four f.target _ _ _ _ c.min-2.ensures c.unwrap_or-2.ensures c.from-most.ensures (ap (λ p. p.1) pair),
    ) refl
