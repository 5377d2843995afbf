-- Watching outcomes in two calls gives the same uses as in one call.
use Rattle.std.proofs.Common.{◌≡◌, ℕ, ◌+◌, List, [], ◌∷◌, ◌++◌, length, refl, sym, ap, ◌∙◌, subst, arith}
use Rattle.sched_defs.specs.Events.{Outcome}
use Rattle.size_core.specs.declared.limits.Limits.{Limits}
use Rattle.size_core.specs.declared.sizing.Sizing.{Sizing}
use Rattle.size_core.specs.Hops.{ClassHops, Watched, class_hops_in, watched, watched_all}
use Rattle.size_core.specs.Watching.{class_hops_of, Watches, WatchesAll}

watched-append : (limits : Limits) (class_hops : ClassHops) (event : ℕ) (os ps : List Outcome) (s : Watched)
    → watched_all limits class_hops event (os ++ ps) s ≡ watched_all limits class_hops (event + length os) ps (watched_all limits class_hops event os s)
watched-append limits class_hops event [] ps s = ap (λ (n : ℕ). watched_all limits class_hops n ps s) (omega arith)
watched-append limits class_hops event (o ∷ os) ps s =
    let after = watched_all limits class_hops (event + 1) os (watched limits class_hops event o s) in
    watched-append limits class_hops (event + 1) os ps (watched limits class_hops event o s)
    ∙ ap (λ (n : ℕ). watched_all limits class_hops n ps after) (omega arith)

pub watches_none : (event : ℕ) (w : Sizing) → WatchesAll w event [] w
watches_none event w = record {
  stays = record { class_hops = refl; known = refl; names = refl; count = refl; limits = refl; height = refl };
  uses = λ s h. h;
}

pub watches_in_turn : (event : ℕ) (w v x : Sizing) (os ps : List Outcome) → WatchesAll w event os v → WatchesAll v (event + length os) ps x → WatchesAll w event (os ++ ps) x
watches_in_turn event w v x os ps first second = record {
  stays = record {
    class_hops = second.stays.class_hops ∙ first.stays.class_hops;
    known = second.stays.known ∙ first.stays.known;
    names = second.stays.names ∙ first.stays.names;
    count = second.stays.count ∙ first.stays.count;
    limits = second.stays.limits ∙ first.stays.limits;
    height = second.stays.height ∙ first.stays.height;
  };
  uses = λ s h.
      let middle = watched_all w.queues.limits (class_hops_of w) event os s in
      let last = second.uses middle (first.uses s h) in
      subst (λ t. Watches x t)
      (ap (λ limits. watched_all limits (class_hops_of v) (event + length os) ps middle) first.stays.limits
      ∙ ap (λ (class_hops : ClassHops). watched_all w.queues.limits class_hops (event + length os) ps middle) (ap (λ l. class_hops_in l.items) first.stays.class_hops)
      ∙ sym (watched-append w.queues.limits (class_hops_of w) event os ps s))
      last;
}
