use Rattle.size_core.proofs.Prelude.{◌≡◌, ◌∙◌, ℕ, sym, ap, Some, refl, ◌-◌, max, option_map, Taking, take_least, store_popped, spread}
use Rattle.size_core.proofs.UseLaws.{Popped, after_pop, has_taken}
use Rattle.size_core.proofs.node.Node.pop.Goals as goal

pub returns : goal.returns
returns c =
    let t : Taking = record { rank = c.in-Some.rank; value = c.in-Some.value; rest = c.pop.new.self.entries } in
    let span : c.max-self.result ≡ max c.args.self.now.span (c.args.self.now.crest - c.in-Some.rank) = c.max-self.ensures ∙ ap (λ (n : ℕ). max c.args.self.now.span n) c.saturating_sub.ensures in
    record {
      popped = λ u has.
          let at : take_least u.queue ≡ Some t = ap take_least (sym has.queue) ∙ c.in-Some.ensures.taken in
          let after : Popped c.args.self.now.crest c.args.self.now.span u.span t = after_pop u.queue t c.args.self.now.crest c.args.self.now.span u.span at has.crest has.span in
          has_taken _ u (Some t) at (record {
            queue = refl;
            pushes = c.pop.ensures.pushes ∙ has.pushes;
            most = has.most;
            top = has.top;
            crest = after.crest_stays;
            span = ap (λ (n : ℕ). max n (spread t.rest)) span ∙ after.span_is;
            stores = c.unstore.ensures.popped ∙ ap (λ s. option_map (store_popped c.in-Some.rank c.in-Some.value) s) has.stores;
          });
      span = λ u has.
          let at : take_least u.queue ≡ Some t = ap take_least (sym has.queue) ∙ c.in-Some.ensures.taken in
          span ∙ (after_pop u.queue t c.args.self.now.crest c.args.self.now.span u.span at has.crest has.span).whole;
    }
