use Rattle.std.specs.Prelude.{codes}
use Rattle.std.proofs.Common.{refl}
use Rattle.std.proofs.lemmas.Result.{IfOk-weaker}
use Rattle.upp_limits.specs.declared.own_limits.OverLimit.TheVariants.{TooMany, TooWide}
use Rattle.outcomes.proofs.Spending.{counts_all}
use Rattle.measure_curve.specs.Windows.{of_flow}
use Rattle.command_replies.specs.Replies.{over}
use Rattle.command_replies.specs.View.{reply_of, status_of}
use Rattle.command_replies.proofs.Statuses.{refused}
use Rattle.commands.proofs.measure.Answering.{measured, reported, shown, steep}
use Rattle.commands.proofs.measure.Counting.{no_burst}
use Rattle.commands.proofs.measure.on_trace.on_curve.Goals as goal

pub returns-in_ok-text-in-Ok-clause-reply : goal.returns-in_ok-text-in-Ok-clause-reply
returns-in_ok-text-in-Ok-clause-reply g c =
    let ps = of_flow c.args.flow c.args.trace.now.packets in
    let is = measured ps c.args.curve.now c.requires.few c.requires.narrow c.keeps.ensures c.requires.least c.requires.rises in
    reported ps c.args.name.now c.args.rate c.args.curve.now c.in-Ok.burst _ is c.in-Ok.ensures.limits c.in-Ok.ensures.least
    (shown ps c.args.name.now c.args.rate c.args.curve.now c.in-Ok.burst c.packets_of-packets.result c.in_ok-text-in-Ok.text.items c.packets_of-packets.ensures c.in_ok-text-in-Ok.ensures)

pub returns-in-Err-TooMany-clause-reply : goal.returns-in-Err-TooMany-clause-reply
returns-in-Err-TooMany-clause-reply g c =
    let ps = of_flow c.args.flow c.args.trace.now.packets in
    let is = measured ps c.args.curve.now c.requires.few c.requires.narrow c.keeps.ensures c.requires.least c.requires.rises in
    let past = rw c.in-Err-TooMany.field-0-is at c.in-Err-TooMany.ensures.limits in
    IfOk-weaker c.too_many.result _ _ (λ r e. steep ps c.args.name.now c.args.rate c.args.curve.now TooMany (reply_of r) is past e) c.too_many.ensures

pub returns-in-Err-TooWide-clause-reply : goal.returns-in-Err-TooWide-clause-reply
returns-in-Err-TooWide-clause-reply g c =
    let ps = of_flow c.args.flow c.args.trace.now.packets in
    let is = measured ps c.args.curve.now c.requires.few c.requires.narrow c.keeps.ensures c.requires.least c.requires.rises in
    let past = rw c.in-Err-TooWide.field-0-is at c.in-Err-TooWide.ensures.limits in
    IfOk-weaker c.too_wide.result _ _ (λ r e. steep ps c.args.name.now c.args.rate c.args.curve.now TooWide (reply_of r) is past e) c.too_wide.ensures

-- ---- what is counted
pub returns-in_ok-text-in-Ok-clause-counts : goal.returns-in_ok-text-in-Ok-clause-counts
returns-in_ok-text-in-Ok-clause-counts g c = counts_all 1 c.args.steps.now _ _ (c.in-Ok.ensures.spends.counts 1 refl).exact

pub returns-in_err-text-in-Ok-clause-counts : goal.returns-in_err-text-in-Ok-clause-counts
returns-in_err-text-in-Ok-clause-counts g c = counts_all 1 c.args.steps.now _ _ (c.in-Ok.ensures.spends.counts 1 refl).exact

pub returns-in-Err-TooMany-clause-counts : goal.returns-in-Err-TooMany-clause-counts
returns-in-Err-TooMany-clause-counts g c =
    no_burst (status_of c.too_many.result) _ _ (refused c.too_many.result (over TooMany (codes "burst")) (λ k. cc) c.too_many.ensures)
    c.least_burst.ensures.spends.rises (c.least_burst.ensures.spends.counts 1 refl).most

pub returns-in-Err-TooWide-clause-counts : goal.returns-in-Err-TooWide-clause-counts
returns-in-Err-TooWide-clause-counts g c =
    no_burst (status_of c.too_wide.result) _ _ (refused c.too_wide.result (over TooWide (codes "burst")) (λ k. cc) c.too_wide.ensures)
    c.least_burst.ensures.spends.rises (c.least_burst.ensures.spends.counts 1 refl).most

pub returns-in-Err-NoMemory-clause-counts : goal.returns-in-Err-NoMemory-clause-counts
returns-in-Err-NoMemory-clause-counts g c =
    no_burst 5 _ _ (λ k. cc) c.least_burst.ensures.spends.rises (c.least_burst.ensures.spends.counts 1 refl).most
