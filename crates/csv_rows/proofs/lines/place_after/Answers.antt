use Rattle.std.proofs.Common.{sym, subst, arith}
use Rattle.csv_rows.specs.Places.{Goes, state_of}
use Rattle.csv_rows.proofs.RowEnds.{beyond_goes}
use Rattle.csv_rows.proofs.lines.place_after.Goals as goal

pub returns-then-byte-gt44 : goal.returns-then-byte-gt44
returns-then-byte-gt44 c =
    subst (Goes (state_of c.args.place) c.args.byte) (sym c.place_beyond.ensures) (beyond_goes c.args.place c.args.byte (omega (arith, c.if-byte-gt44.true)))
