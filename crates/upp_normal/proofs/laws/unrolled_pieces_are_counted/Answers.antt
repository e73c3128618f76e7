use Rattle.upp_normal.proofs.NextStarts.{spans_are_unrolled}
use Rattle.upp_normal.proofs.SamePieces.{pieces_are_counted}
use Rattle.upp_normal.proofs.laws.unrolled_pieces_are_counted.Goals as goal

pub returns-clause-count : goal.returns-clause-count
returns-clause-count c = pieces_are_counted

pub returns-clause-spans : goal.returns-clause-spans
returns-clause-spans c = spans_are_unrolled
