use Rattle.library_tests.proofs.Prelude.{IsTrue, is_begun}
use Rattle.library_tests.proofs.reading.pass_on.Given as goal

abbrev pub invariant-loop-count : goal.invariant-loop-count
invariant-loop-count g l = record {
  ready : g.R.CaptureReader.ready l.reader;
  begun : IsTrue (is_begun l.shelf);
}
