use Rattle.size_core.proofs.Prelude.{◌≡◌, ◌∙◌, ℕ, length, sym, ap, subst, ◌+◌, if◌then◌else◌, ◌==◌, max, option_map, Queue, put, store_pushed, IsCrest}
use Rattle.size_core.proofs.UseLaws.{crest-put, span-pushed}
use Rattle.size_core.proofs.node.Node.push.Goals as goal

pub returns : goal.returns
returns c = record {
  pushed = λ u has.
      let rank = c.args.rank in
      let value = c.args.value in
      let before : c.reserve.new.self.entries ≡ u.queue = c.reserve.ensures.entries ∙ has.queue in
      let queue : c.push.new.self.entries ≡ put u.queue rank value = c.push.ensures.entries ∙ ap (λ (q : Queue). put q rank value) before in
      let crest : c.crest-self.result ≡ (if length u.queue == 0 then rank else max c.args.self.now.crest rank) = c.crest-self.ensures ∙ ap (λ (q : Queue). if length q == 0 then rank else max c.args.self.now.crest rank) before in
      record {
        queue = queue;
        pushes = c.push.ensures.pushes ∙ ap (λ (n : ℕ). n + 1) (c.reserve.ensures.pushes ∙ has.pushes);
        most = c.max-self.ensures ∙ ap (λ (n : ℕ). max c.args.self.now.most n) (c.len.ensures.length ∙ ap (λ (q : Queue). length q) queue) ∙ ap (λ (n : ℕ). max n (length (put u.queue rank value))) has.most;
        top = c.max-self-2.ensures ∙ ap (λ (n : ℕ). max n rank) has.top;
        crest = subst (IsCrest (put u.queue rank value)) (sym crest) (crest-put u.queue rank value c.args.self.now.crest has.crest);
        span = span-pushed u.queue rank value c.args.self.now.span u.span has.span;
        stores = c.in_ok-store.ensures.pushed ∙ ap (λ s. option_map (store_pushed rank value) s) has.stores;
      };
}
