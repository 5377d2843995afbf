use Rattle.summary_core.proofs.Prelude.{ℕ, length, ◌≡◌, arith, List, ap, ◌∙◌, sym, [], ◌∷◌, ◌+◌, subst, ◌++◌, take, IfSome, map, length-append, slice_get, AreFigures, part_at, Group, Label, Part}
use Rattle.std.proofs.lemmas.List.{map-append, take_more}
use Rattle.summary_core.proofs.GroupLemmas.{each_push}
use Rattle.summary_core.proofs.groups.labelled.Goals as goal

pub loop-index-preserved : goal.loop-index-preserved
loop-index-preserved c =
    let s = c.args.summary.now in
    let kind = c.args.kind in
    let labels = c.args.labels.now in
    let i = c.loop-index.index in
    let gs = c.loop-index.groups.items in
    let own = c.index-labels-index.result in
    let g : Group = record { label = c.in_ok-label.label; figures = c.in_ok-figures.figures } in
    let pushed : c.push.new.self.items ≡ gs ++ g ∷ [] = c.in_ok-push.ensures.items in
    let next : take (i + 1) labels ≡ take i labels ++ own ∷ [] = take_more labels i own c.loop-index-test.true ∙ ap (λ (l : Label). take i labels ++ l ∷ []) (sym c.index-labels-index.is) in
    let part : c.part.result ≡ part_at kind (length gs) = c.part.ensures ∙ ap (λ (n : ℕ). part_at kind n) (sym c.loop-index.invariant.count) in
    record {
      labels = ap (λ (l : List Group). map (λ x. x.label) l) pushed
          ∙ map-append (λ (x : Group). x.label) gs (g ∷ [])
          ∙ ap (λ (l : List Label). l ++ c.in_ok-label.label ∷ []) c.loop-index.invariant.labels
          ∙ ap (λ (l : Label). take i labels ++ l ∷ []) c.in_ok-label.ensures
          ∙ sym next;
      figures = λ k.
          subst (λ (l : List Group). IfSome (slice_get l k) (λ x. AreFigures s (part_at kind k) x.figures)) (sym pushed)
          (each_push (λ (n : ℕ) (x : Group). AreFigures s (part_at kind n) x.figures) gs g c.loop-index.invariant.figures
          (subst (λ (p : Part). AreFigures s p c.in_ok-figures.figures) part c.in_ok-figures.ensures) k);
      count = omega (arith, ap (λ (l : List Group). length l) pushed, length-append gs (g ∷ []), c.loop-index.invariant.count);
    }
