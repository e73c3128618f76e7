use Rattle.std.proofs.Common.{◌∙◌, sym, true≢false}
use Rattle.rational.proofs.Laws.{le_of_lt, le_of_not_lt}
use Rattle.run_watch.proofs.Reaches.{fits_as}
use Rattle.run_watch.proofs.reach.reach_of.Goals as goal

pub value_at-requires : goal.value_at-requires
value_at-requires c =
    let t = c.in-Periodic in
    let F = fits_as c.args.curve.now t.rank t.period t.rise c.tail.ensures.kept (sym c.tail.ensures.tail ∙ t.is) in
    le_of_lt F.some

pub returns : goal.returns
returns c =
    let t = c.in-Periodic in
    record {
      rank = t.rank;
      period = t.period;
      rise = t.rise;
      value = c.in-Ok-Fin.value;
      tail = sym c.tail.ensures.tail ∙ t.is;
      is = c.in-Ok.ensures.value;
      there = sym c.in-Ok-Fin.ensures.value ∙ c.in-Ok-Fin.field-0-is;
      enough = le_of_not_lt (λ h. true≢false (sym (c.if-is_less.ensures.less.1 h)));
    }
