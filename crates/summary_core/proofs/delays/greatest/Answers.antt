use Rattle.summary_core.proofs.Prelude.{ℕ, arith, List, ◌≤◌, sym, subst, take, get_or, All, list_at, listed}
use Rattle.std.proofs.lemmas.List.Elements.{All-append}
use Rattle.summary_core.proofs.Ranks.{listed-more, take_all, count_all}
use Rattle.summary_core.proofs.delays.greatest.Goals as goal

pub loop-place-preserved : goal.loop-place-preserved
loop-place-preserved c =
    let f = list_at c.args.lists.now in
    let ms = c.args.members.now in
    let i = c.loop-place.place in
    let high = c.highest-greatest.result in
    let before : All (λ (x : ℕ). x ≤ high) (listed f (take i ms)) = λ k d within. omega (arith, c.loop-place.invariant k d within, c.highest-greatest.ensures.one) in
    let here : All (λ (x : ℕ). x ≤ high) (f (get_or ms i 0)) =
    subst (λ (l : List ℕ). All (λ (x : ℕ). x ≤ high) l) c.list_of.ensures (λ k d within. omega (arith, c.last_of.ensures k d within, c.highest-greatest.ensures.other)) in
    subst (λ (l : List ℕ). All (λ (x : ℕ). x ≤ high) l) (sym (listed-more f ms i 0 c.loop-place-test.true)) (All-append (λ (x : ℕ). x ≤ high) (listed f (take i ms)) (f (get_or ms i 0)) before here)

pub returns : goal.returns
returns c =
    let high = c.loop-place.greatest in
    count_all high (listed (list_at c.args.lists.now) c.args.members.now)
    (subst (λ (ms : List ℕ). All (λ (x : ℕ). x ≤ high) (listed (list_at c.args.lists.now) ms)) (take_all c.args.members.now c.loop-place.place c.loop-place-test.false) c.loop-place.invariant)
