use Rattle.subadd_closure.proofs.WorkedSegments.{constant_part, constant_reads}
use Rattle.curve_tests.proofs.inner_calls.segment.Goals as goal

pub segment_closure-requires-clause-part : goal.segment_closure-requires-clause-part
segment_closure-requires-clause-part c =
    rw (c.from_whole-2.ensures, c.from_whole.ensures, c.one.ensures, c.zero.ensures) constant_part

pub segment_closure-requires-clause-reads : goal.segment_closure-requires-clause-reads
segment_closure-requires-clause-reads c = rw (c.from_whole-2.ensures, c.one.ensures, c.zero.ensures) constant_reads
