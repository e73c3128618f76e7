use Rattle.std.proofs.Common.{refl}
use Rattle.std.proofs.lemmas.Option.{IfSome_then}
use Rattle.rational.specs.Rational.{◌-ℚ◌, ◌*ℚ◌}
use Rattle.plain_operators.proofs.pointwise.Leanings.{number_enough}
use Rattle.plain_operators.proofs.pointwise.leaning.number_by_lines.Goals as goal

pub returns : goal.returns
returns c =
    let w = c.requires.window in
    let l = c.in_ok-lines.lines in
    let faster = l.high.slope -ℚ l.low.slope in
    let gained = faster *ℚ c.args.from in
    let both = l.low.icept -ℚ l.high.icept in
    IfSome_then c.number_between.result c.number_between.ensures
    (λ k bound.
    number_enough w.0 c.args.from c.args.period faster gained (faster *ℚ c.args.period) both (both -ℚ gained) c.args.slow.now c.args.fast.now l k c.requires.slower w.1 c.in_ok-lines.ensures refl refl refl refl refl bound)
