use Rattle.std.proofs.Common.{ap, ◌∙◌}
use Rattle.upp_curve.specs.Kinds.{bucket}
use Rattle.cell_numbers.proofs.LinkRates.{only_memory}
use Rattle.cell_numbers.proofs.buckets.link_bucket.Goals as goal

pub returns-in-Ok : goal.returns-in-Ok
returns-in-Ok c = c.in-Ok.ensures.made ∙ ap (λ b. bucket b c.args.rate) c.whole.ensures

pub wanting-requires : goal.wanting-requires
wanting-requires c =
    only_memory c.args.bits c.whole.result c.args.rate c.in-Err.fault c.whole.ensures c.requires c.in-Err.ensures.negative
    c.in-Err.ensures.refused
