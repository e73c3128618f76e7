use Rattle.curve_deviation.proofs.HorizontalCall.{sizes_to}
use Rattle.curve_deviation.proofs.horizontals.deviation_in.Given as goal

abbrev pub ghost-longest_lag : goal.ghost-longest_lag
ghost-longest_lag a = sizes_to a.f.now a.g.now a.end
