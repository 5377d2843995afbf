use Rattle.std.proofs.Common.{◌+◌, ◌≤◌, ◌-◌, IsTrue, vec_len}
use Rattle.outside_core.specs.Files.{HasRead}
use Rattle.outside_core.specs.Kept.{KeepsShelf}
use Rattle.outside_core.proofs.loading.load.Given as goal

abbrev pub invariant-loop-chunk : goal.invariant-loop-chunk
invariant-loop-chunk g l =
    let s = g.S.Shelf in
    record {
      begun : IsTrue (s.begun l.shelf);
      kept : KeepsShelf s.lends s.content s.faults l.fn.shelf l.shelf;
      so_far : HasRead (s.content l.fn.shelf l.name) (s.left l.shelf) l.text.items;
      short : vec_len l.text ≤ l.most + 1;
    }

abbrev pub decreases-loop-chunk : goal.decreases-loop-chunk
decreases-loop-chunk g l = l.most + 1 - vec_len l.text
