use Rattle.std.proofs.Common.{◌≡◌, arith, pos, to_z}
use Rattle.std.specs.Int.{w128}
use Rattle.std.proofs.lemmas.Int.{ints}
use Rattle.measure_curve.proofs.Answers.{made_ok}
use Rattle.measure_curve.proofs.ticks.time_of.Goals as goal

pub unwrap-requires : goal.unwrap-requires
unwrap-requires c =
    let n : to_z w128 c.args.ticks ≡ pos c.args.ticks = omega (arith, ints) in
    let g : to_z w128 c.args.grid ≡ pos c.args.grid = omega (arith, ints) in
    made_ok c.new.result (to_z w128 c.args.ticks) (to_z w128 c.args.grid) c.args.ticks c.args.grid n g c.requires.some c.requires.grid c.requires.ticks
    (λ e. c.new.ensures.zero.0 e) (λ e. c.new.ensures.big.0 e)
