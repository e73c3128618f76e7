use Rattle.net_draft.proofs.HopParts.{before_colon}
use Rattle.net_draft.proofs.hops.written_hop.Goals as goal

pub range-requires-clause-end_boundary : goal.range-requires-clause-end_boundary
range-requires-clause-end_boundary c = before_colon c.args.text.now c.as_bytes-bytes.result.now c.in-Some.at c.as_bytes-bytes.ensures.value c.in-Some.ensures
