use Rattle.std.specs.Prelude.{codes}
use Rattle.std.proofs.Common.{refl, arith}
use Rattle.std.proofs.lemmas.Result.{IfOk-weaker}
use Rattle.upp_limits.specs.declared.own_limits.OverLimit.TheVariants.{TooMany, TooWide}
use Rattle.measure_curve.specs.Windows.{of_flow}
use Rattle.command_replies.specs.Replies.{over}
use Rattle.command_replies.specs.View.{reply_of, status_of}
use Rattle.command_replies.proofs.Statuses.{refused}
use Rattle.commands.proofs.measure.Answering.{past}
use Rattle.commands.proofs.measure.Counting.{no_burst}
use Rattle.commands.proofs.measure.on_trace.on_flow.Goals as goal

pub on_curve-requires-clause-few : goal.on_curve-requires-clause-few
on_curve-requires-clause-few g c = λ h. let e = c.in-Ok.ensures.many.1 h in cc

pub on_curve-requires-clause-narrow : goal.on_curve-requires-clause-narrow
on_curve-requires-clause-narrow g c = λ h. let e = c.in-Ok.ensures.wide.1 h in cc

pub returns-in-Err-TooMany-clause-reply : goal.returns-in-Err-TooMany-clause-reply
returns-in-Err-TooMany-clause-reply g c =
    let told = rw c.in-Err-TooMany.field-0-is at c.in-Err-TooMany.ensures.many in
    IfOk-weaker c.too_many.result _ _
    (λ r e. past (of_flow c.args.flow c.args.trace.now.packets) c.args.name.now c.args.rate TooMany (reply_of r) (told.0 refl) e) c.too_many.ensures

pub returns-in-Err-TooWide-clause-reply : goal.returns-in-Err-TooWide-clause-reply
returns-in-Err-TooWide-clause-reply g c =
    let told = rw c.in-Err-TooWide.field-0-is at c.in-Err-TooWide.ensures.wide in
    IfOk-weaker c.too_wide.result _ _
    (λ r e. past (of_flow c.args.flow c.args.trace.now.packets) c.args.name.now c.args.rate TooWide (reply_of r) (told.0 refl) e) c.too_wide.ensures

-- ---- what is counted
pub returns-in-Ok-clause-counts : goal.returns-in-Ok-clause-counts
returns-in-Ok-clause-counts g c = c.on_curve.ensures.counts

pub returns-in-Err-TooMany-clause-counts : goal.returns-in-Err-TooMany-clause-counts
returns-in-Err-TooMany-clause-counts g c =
    no_burst (status_of c.too_many.result) _ _ (refused c.too_many.result (over TooMany (codes "measure")) (λ k. cc) c.too_many.ensures)
    (omega arith) (omega arith)

pub returns-in-Err-TooWide-clause-counts : goal.returns-in-Err-TooWide-clause-counts
returns-in-Err-TooWide-clause-counts g c =
    no_burst (status_of c.too_wide.result) _ _ (refused c.too_wide.result (over TooWide (codes "measure")) (λ k. cc) c.too_wide.ensures)
    (omega arith) (omega arith)

pub returns-in-Err-NoMemory-clause-counts : goal.returns-in-Err-NoMemory-clause-counts
returns-in-Err-NoMemory-clause-counts g c = no_burst 5 _ _ (λ k. cc) (omega arith) (omega arith)
