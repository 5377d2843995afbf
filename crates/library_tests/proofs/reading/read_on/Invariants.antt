use Rattle.library_tests.proofs.Prelude.{IsTrue, is_begun}
use Rattle.library_tests.proofs.reading.read_on.Given as goal

abbrev pub invariant-loop : goal.invariant-loop
invariant-loop g l = record {
  ready : g.R.CaptureReader.ready l.reader;
  begun : IsTrue (is_begun l.shelf);
}
