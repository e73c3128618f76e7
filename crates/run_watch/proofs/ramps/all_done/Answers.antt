use Rattle.std.proofs.Common.{◌∙◌, ap, sym, arith}
use Rattle.run_watch.specs.declared.span.Ramp.{Ramp}
use Rattle.run_watch.proofs.RampLists.{done_none, done_last}
use Rattle.run_watch.proofs.ramps.all_done.Goals as goal

pub returns-then-count-eq0 : goal.returns-then-count-eq0
returns-then-count-eq0 c = c.zero.ensures ∙ done_none c.args.ramps.now (omega arith)

pub returns : goal.returns
returns c = ap (λ (r : Ramp). r.after) (sym c.index-ramps-count.is) ∙ done_last c.args.ramps.now _ c.index-ramps-count.result (omega arith) c.index-ramps-count.is
