use Rattle.std.proofs.Common.{get_or}
use Rattle.rational.proofs.Comparison.{cmp_equal}
use Rattle.flow_watch.proofs.step_lines.places.let_in.Goals as goal

pub returns-in-Ok-clause-is_in : goal.returns-in-Ok-clause-is_in
returns-in-Ok-clause-is_in c = λ yes.
    let p = c.args.placed.now in
    let at = c.in-Ok.place in
    record { at = at; in_range = c.in-Ok.ensures.bound; is = cmp_equal (get_or c.args.parts.now at p.before) p.before (c.in-Ok.ensures.ok p.before); covers = c.lower.ensures.covers }
