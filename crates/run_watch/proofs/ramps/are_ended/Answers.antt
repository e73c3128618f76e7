use Rattle.std.proofs.Common.{arith, sym, ◌∙◌}
use Rattle.run_watch.proofs.RampLists.{first_end_before}
use Rattle.run_watch.proofs.ramps.are_ended.Goals as goal

pub returns-then-count-eq0 : goal.returns-then-count-eq0
returns-then-count-eq0 c = λ yes i d a b. absurd (omega arith)

pub returns : goal.returns
returns c = λ yes.
    first_end_before c.args.ramps.now c.args.t c.args.count c.index-ramps-count.result c.requires.ramps (omega arith) c.requires.few c.index-ramps-count.is (sym c.ends_before.ensures ∙ yes)
