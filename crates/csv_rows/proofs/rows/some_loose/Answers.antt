use Rattle.std.proofs.Common.{◌≡◌, ℕ, List, map, subst, arith}
use Rattle.std.proofs.lemmas.List.{take_all}
use Rattle.csv.specs.Records.{fields_of, trimmed}
use Rattle.csv_rows.proofs.Cells.{tight_more}
use Rattle.csv_rows.proofs.rows.some_loose.Goals as goal

pub loop-place-preserved : goal.loop-place-preserved
loop-place-preserved c =
    let len = c.len-place-end.ensures in
    let below = c.loop-place-test.true in
    tight_more (fields_of c.args.row.now) c.loop-place.place (omega (arith, len, below)) c.loop-place.invariant
    (subst (λ (cell : List ℕ). trimmed cell ≡ cell) c.cell.ensures (c.is_loose.ensures c.if-is_loose.false))

pub returns : goal.returns
returns c = λ _.
    let len = c.len-place-end.ensures in
    let past = c.loop-place-test.false in
    let fields = fields_of c.args.row.now in
    subst (λ (cells : List (List ℕ)). map trimmed cells ≡ cells) (take_all c.loop-place.place fields (omega (arith, len, past))) c.loop-place.invariant
