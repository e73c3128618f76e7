use Rattle.std.proofs.Common.{Err, ap, refl}
use Rattle.replies.proofs.FileLemmas.{held_by, longer_found}
use Rattle.replies.proofs.fetching.fetch_one.Goals as goal

pub returns-in-Err-TooLong-clause-ended : goal.returns-in-Err-TooLong-clause-ended
returns-in-Err-TooLong-clause-ended g c = (
  refl,
  longer_found c.args.most (g.I.Inputs.content c.args.inputs.now c.args.file.now)
      (c.in-Err-TooLong.ensures.too_long (ap Err c.in-Err-TooLong.field-0-is)),
)

pub returns-in-Ok-clause-held : goal.returns-in-Ok-clause-held
returns-in-Ok-clause-held g c =
    held_by (g.I.Inputs.content c.args.inputs.now c.args.file.now) c.fetch.new.into.items c.in-Ok.ensures.bytes
