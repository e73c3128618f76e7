use Rattle.std.proofs.Common.{arith}
use Rattle.arrival_heights.proofs.Bent.{no_faster, begins_with, goes_over}
use Rattle.arrival_heights.proofs.bends.bend.Goals as goal

pub returns-then-high-low : goal.returns-then-high-low
returns-then-high-low c = no_faster c.args.low c.args.high c.requires (omega arith)

pub returns-then-high-low-2 : goal.returns-then-high-low-2
returns-then-high-low-2 c = begins_with c.args.low c.args.high (omega arith) (omega arith)

pub returns : goal.returns
returns c = goes_over c.args.low c.args.high _ (omega arith) (omega arith) (omega arith) (omega arith)
