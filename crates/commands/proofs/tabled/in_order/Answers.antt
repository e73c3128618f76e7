use Rattle.std.proofs.Common.{inr, refl}
use Rattle.std.proofs.lemmas.Result.{IfOk-weaker}
use Rattle.upp_limits.specs.declared.own_limits.OverLimit.TheVariants.{TooMany, TooWide}
use Rattle.commands.proofs.Stopped.{table_counts}
use Rattle.commands.proofs.tabled.in_order.Goals as goal

pub returns-in-Ok-clause-table : goal.returns-in-Ok-clause-table
returns-in-Ok-clause-table g c = record {
  order = c.args.order.now;
  ordered = c.requires.order;
  table = record { answers = c.in-Ok.ensures.table.answers; meets = c.in-Ok.ensures.table.meets };
}

pub returns-in-Err-TooMany-clause-stopped : goal.returns-in-Err-TooMany-clause-stopped
returns-in-Err-TooMany-clause-stopped g c =
    let first = rw c.in-Err-TooMany.field-0-is at c.in-Err-TooMany.ensures.refused in
    IfOk-weaker c.cell_too_many.result _ _
    (λ r is. inr (
      c.args.order.now,
      c.requires.order,
      (TooMany, record { cell = c.in-Err-TooMany.cell; first = first; is = is }),
    ))
    c.cell_too_many.ensures

pub returns-in-Err-TooWide-clause-stopped : goal.returns-in-Err-TooWide-clause-stopped
returns-in-Err-TooWide-clause-stopped g c =
    let first = rw c.in-Err-TooWide.field-0-is at c.in-Err-TooWide.ensures.refused in
    IfOk-weaker c.cell_too_wide.result _ _
    (λ r is. inr (
      c.args.order.now,
      c.requires.order,
      (TooWide, record { cell = c.in-Err-TooWide.cell; first = first; is = is }),
    ))
    c.cell_too_wide.ensures

-- ---- what is counted
pub returns-in-Ok-clause-counts : goal.returns-in-Ok-clause-counts
returns-in-Ok-clause-counts g c =
    let all = c.in-Ok.ensures.spends.counts _ refl in
    table_counts c.args.net.now c.args.order.now _ _ _ c.requires.accepted c.requires.order
    (record { exact = all.exact; least = all.least; most = all.most })

pub returns-in-Err-TooMany-clause-counts : goal.returns-in-Err-TooMany-clause-counts
returns-in-Err-TooMany-clause-counts g c =
    let all = c.in-Err-TooMany.ensures.spends.counts _ refl in
    table_counts c.args.net.now c.args.order.now _ _ _ c.requires.accepted c.requires.order
    (record { exact = tt; least = all.least; most = all.most })

pub returns-in-Err-TooWide-clause-counts : goal.returns-in-Err-TooWide-clause-counts
returns-in-Err-TooWide-clause-counts g c =
    let all = c.in-Err-TooWide.ensures.spends.counts _ refl in
    table_counts c.args.net.now c.args.order.now _ _ _ c.requires.accepted c.requires.order
    (record { exact = tt; least = all.least; most = all.most })

pub returns-in-Err-NoMemory-clause-counts : goal.returns-in-Err-NoMemory-clause-counts
returns-in-Err-NoMemory-clause-counts g c =
    let all = c.in-Err-NoMemory.ensures.spends.counts _ refl in
    table_counts c.args.net.now c.args.order.now _ _ _ c.requires.accepted c.requires.order
    (record { exact = tt; least = all.least; most = all.most })
