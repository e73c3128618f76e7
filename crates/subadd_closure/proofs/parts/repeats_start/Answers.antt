use Rattle.std.proofs.Common.{sym, ap, ◌∙◌}
use Rattle.rational.specs.declared.Extended.TheVariants.{Fin}
use Rattle.subadd_closure.proofs.Risen.{left_of, left_is}
use Rattle.subadd_closure.proofs.parts.repeats_start.Goals as goal

pub returns-in-Fin : goal.returns-in-Fin
returns-in-Fin c =
    let v = c.in-Fin.v in
    let rise = c.args.rise in
    let read = sym c.read.ensures ∙ c.in-Fin.is in (
      (λ e. read ∙ ap Fin (left_of v rise c.args.start (sym c.difference.ensures ∙ c.eq.ensures.same.0 e))),
      (λ e. c.eq.ensures.same.1 (c.difference.ensures ∙ left_is v rise c.args.start (sym read ∙ e))),
    )
