use Rattle.replay_app.proofs.Prelude.{ℕ, List, [], ◌∷◌, ◌++◌, on_ok_weaker, codes, counted}
use Rattle.replay_app.proofs.SoakLaws.{grown, when_ok}
use Rattle.replay_app.proofs.soak.put_line.Goals as goal

pub returns : goal.returns
returns c =
    let o : List ℕ = c.args.into.now.items in
    let start : List ℕ = codes "soak" in
    let pushed : List ℕ = counted (codes "pushed") c.args.counts.pushed in
    let popped : List ℕ = counted (codes "popped") c.args.counts.popped in
    let empty : List ℕ = counted (codes "empty") c.args.counts.empty in
    let sum : List ℕ = counted (codes "sum") c.args.counts.sum in
    let i : List ℕ = c.extend_from_slice.new.self.items in
    let i1 : List ℕ = c.put_count.new.into.items in
    let i2 : List ℕ = c.put_count-2.new.into.items in
    let i3 : List ℕ = c.put_count-3.new.into.items in
    let i4 : List ℕ = c.put_count-4.new.into.items in
    let e1 = grown o start i pushed i1 c.in_ok-extend_from_slice.ensures.items c.in_ok-put_count.ensures in
    let e2 = grown o (start ++ pushed) i1 popped i2 e1 c.in_ok-put_count-2.ensures in
    let e3 = grown o ((start ++ pushed) ++ popped) i2 empty i3 e2 c.in_ok-put_count-3.ensures in
    let e4 = grown o (((start ++ pushed) ++ popped) ++ empty) i3 sum i4 e3 c.in_ok-put_count-4.ensures in
    let new : List ℕ = c.extend_from_slice-2.new.self.items in
    on_ok_weaker c.extend_from_slice-2.result
    (λ e. grown o ((((start ++ pushed) ++ popped) ++ empty) ++ sum) i4 (10 ∷ []) new e4 e)
    (when_ok c.extend_from_slice-2.result new (i4 ++ 10 ∷ []) i4 c.extend_from_slice-2.ensures.items)
