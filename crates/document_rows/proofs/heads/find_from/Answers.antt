use Rattle.std.proofs.Common.{◌≡◌, sym, ap, ◌∙◌, arith}
use Rattle.std.specs.Str.{bytes_eq}
use Rattle.csv.specs.Records.{fields_of}
use Rattle.document_rows.proofs.Rules.{found, passed, nowhere}
use Rattle.document_rows.proofs.heads.find_from.Goals as goal

pub loop-place-preserved : goal.loop-place-preserved
loop-place-preserved c =
    let word = c.args.word.now in
    let len = c.len-place-end.ensures in
    let below = c.loop-place-test.true in
    c.loop-place.invariant ∙ passed word (fields_of c.args.head.now) c.loop-place.place (omega (arith, len, below)) (ap (bytes_eq word) (sym c.cell.ensures) ∙ sym c.if-eq.ensures)

pub returns-then-eq-clause-value : goal.returns-then-eq-clause-value
returns-then-eq-clause-value c =
    let word = c.args.word.now in
    let len = c.len-place-end.ensures in
    let below = c.loop-place-test.true in
    sym (c.loop-place.invariant ∙ found word (fields_of c.args.head.now) c.loop-place.place (omega (arith, len, below)) (ap (bytes_eq word) (sym c.cell.ensures) ∙ sym c.if-eq.ensures))

pub returns-clause-value : goal.returns-clause-value
returns-clause-value c =
    let len = c.len-place-end.ensures in
    let past = c.loop-place-test.false in
    sym (c.loop-place.invariant ∙ nowhere c.args.word.now (fields_of c.args.head.now) c.loop-place.place (omega (arith, len, past)))
