use Rattle.std.specs.Prelude.{Ok}
use Rattle.std.proofs.Common.{ap, ◌∙◌}
use Rattle.plain_operators.proofs.running.Meetings.{meets, never_parallel, never_wide}
use Rattle.plain_operators.proofs.running.bend.meeting.Goals as goal

pub returns-in-Ok-Some : goal.returns-in-Ok-Some
returns-in-Ok-Some c = record {
  rises = c.requires.rises;
  is =
      meets c.args.level c.args.line.now c.level_line.result c.in-Ok-Some.t c.cross.result c.level_line.ensures (c.in-Ok-Some.is ∙ ap Ok c.in-Ok-Some.field-0-is)
      c.cross.ensures.meet;
}

pub returns-in-Ok-None : goal.returns-in-Ok-None
returns-in-Ok-None c =
    absurd
    (never_parallel c.args.level c.args.line.now c.level_line.result c.cross.result c.level_line.ensures c.requires.rises
    (c.in-Ok-None.is ∙ ap Ok c.in-Ok-None.field-0-is) c.cross.ensures.parallel)

pub returns-in-Err : goal.returns-in-Err
returns-in-Err c = absurd (never_wide c.args.level c.args.line.now c.level_line.result c.cross.result _ c.level_line.ensures c.requires.fits c.in-Err.is c.cross.ensures.wide)
