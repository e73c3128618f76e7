use Rattle.subadd_closure.proofs.WorkedSegments.{endless_part, endless_reads}
use Rattle.curve_tests.proofs.inner_calls.endless.Goals as goal

pub segment_closure-requires-clause-part : goal.segment_closure-requires-clause-part
segment_closure-requires-clause-part c = rw (c.one-2.ensures, c.from_whole.ensures, c.one.ensures) endless_part

pub segment_closure-requires-clause-reads : goal.segment_closure-requires-clause-reads
segment_closure-requires-clause-reads c = rw (c.one-2.ensures, c.from_whole.ensures, c.one.ensures) endless_reads
