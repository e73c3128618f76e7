use Rattle.subadd_closure.proofs.SegmentAnswers.{made_err}
use Rattle.subadd_closure.proofs.segments.made.Goals as goal

pub returns-in-Err : goal.returns-in-Err
returns-in-Err c =
    made_err c.args.raw.pieces.items c.args.raw.tail c.in-Err.fault c.requires.raw c.requires.turns c.requires.few
    (λ g t. c.in-Err.ensures.inside g t) (λ g. let k = c.in-Err.ensures.wide g in cc)
