use Rattle.std.proofs.Common.{sym, refl, []}
use Rattle.rational.proofs.Gauges.{den_from_end}
use Rattle.cell_eval.proofs.Tallying.{tallied_some}
use Rattle.cell_eval.proofs.number_sums.no_number.Goals as goal

pub returns : goal.returns
returns c = record {
  infinite = refl;
  tally = tallied_some [] _ record { den = sym (den_from_end 1); sizes = c.zero.ensures; sum = c.zero-2.ensures };
}
