use Rattle.std.proofs.Common.{◌≡◌, ◌∙◌, sym, ap, subst}
use Rattle.rational.specs.Rational.{◌+ℚ◌}
use Rattle.rational.specs.MinMax.{min_q}
use Rattle.rational.specs.declared.Extended.TheVariants.{Fin}
use Rattle.upp_curve.specs.affine_segment.Values.{line_value}
use Rattle.upp_curve.specs.affine_segment.Pieces.{Each}
use Rattle.upp_curve.specs.affine_segment.Fits.{LineFitsAt}
use Rattle.upp_curve.specs.affine_segment.Reading.{read}
use Rattle.upp_curve.specs.Shapes.{IsNumber}
use Rattle.upp_curve.specs.Steady.{last_line}
use Rattle.upp_normal.specs.Ahead.{AnswerValue}
use Rattle.upp_normal.proofs.NormaliseForm.{ok_map}
use Rattle.plain_operators.specs.running.Scans.{ScanFits}
use Rattle.plain_operators.specs.running.Made.{IsInfimumScan}
use Rattle.plain_operators.specs.running.Lowest.{with_level, IsLowestBefore, IsLowest}
use Rattle.plain_operators.proofs.running.LowestCalls.{first_fits, first_lines, first_number, later_fits, last_fits, level_stands, second_window, second_fits, lowest_is}
use Rattle.plain_operators.proofs.running.lowest.lowest_pieces.Goals as goal

pub infimum_scan-requires-clause-fits : goal.infimum_scan-requires-clause-fits
infimum_scan-requires-clause-fits c =
    let w = c.requires in
    subst (ScanFits c.args.end) (sym c.deref.ensures.value) (first_fits w.0 c.args.pieces.items c.args.from c.args.end c.args.far c.args.rise w.1)

pub value_in-requires-clause-fits : goal.value_in-requires-clause-fits
value_in-requires-clause-fits c =
    let w = c.requires in
    let S = subst (λ q. IsInfimumScan q c.args.end c.in_ok-once.once.items) c.deref.ensures.value c.in_ok-once.ensures in
    subst (Each (λ p. LineFitsAt c.args.from p.line)) (sym c.deref-2.ensures.value) (first_lines w.0 c.args.pieces.items c.in_ok-once.once.items c.args.from c.args.end c.args.far c.args.rise w.1 S)

pub value_in-requires-clause-finite : goal.value_in-requires-clause-finite
value_in-requires-clause-finite c =
    let S = subst (λ q. IsInfimumScan q c.args.end c.in_ok-once.once.items) c.deref.ensures.value c.in_ok-once.ensures in
    subst (λ q. IsNumber (read q c.args.from)) (sym c.deref-2.ensures.value) (first_number c.args.pieces.items c.in_ok-once.once.items c.args.from c.args.end S)

pub sum-later-requires : goal.sum-later-requires
sum-later-requires c =
    let w = c.requires in
    let S = subst (λ q. IsInfimumScan q c.args.end c.in_ok-once.once.items) c.deref.ensures.value c.in_ok-once.ensures in
    later_fits w.0 c.args.pieces.items c.in_ok-once.once.items c.args.from c.args.end c.args.far c.args.rise c.value_in.result w.1 S
    (subst (λ q. read q c.args.from ≡ Fin c.value_in.result) c.deref-2.ensures.value c.value_in.ensures)

pub last_limit-requires-clause-fits : goal.last_limit-requires-clause-fits
last_limit-requires-clause-fits c =
    let w = c.requires in
    subst (λ q. LineFitsAt c.args.end (last_line q)) (sym c.deref-3.ensures.value) (last_fits w.0 c.args.pieces.items c.args.from c.args.end c.args.far c.args.rise w.1).0

pub last_limit-requires-clause-finite : goal.last_limit-requires-clause-finite
last_limit-requires-clause-finite c =
    let w = c.requires in
    subst (λ q. IsNumber (line_value (last_line q) c.args.end)) (sym c.deref-3.ensures.value) (last_fits w.0 c.args.pieces.items c.args.from c.args.end c.args.far c.args.rise w.1).1

pub lowest_before-requires : goal.lowest_before-requires
lowest_before-requires c =
    let w = c.requires in
    let a = c.args in
    let ps = a.pieces.items in
    let low = c.value_in.result in
    let limit = c.last_limit.result in
    let S = subst (λ q. IsInfimumScan q a.end c.in_ok-once.once.items) c.deref.ensures.value c.in_ok-once.ensures in
    let e = subst (λ q. read q a.from ≡ Fin low) c.deref-2.ensures.value c.value_in.ensures in
    let k = subst (λ q. line_value (last_line q) a.end ≡ Fin limit) c.deref-3.ensures.value c.last_limit.ensures in
    let level : c.lesser-level.result ≡ min_q (low +ℚ a.rise) limit = c.lesser-level.ensures ∙ ap (λ x. min_q x limit) c.sum-later.ensures in
    let stands = subst (AnswerValue w.0 6) (sym level) (level_stands w.0 ps c.in_ok-once.once.items a.from a.end a.far a.rise low limit w.1 S e k) in
    record {
      window = second_window w.0 ps a.from a.end a.far a.rise c.lesser-level.result w.1 stands;
      fits = second_fits w.0 ps a.from a.end a.far a.rise c.lesser-level.result w.1 stands;
    }

pub returns : goal.returns
returns c =
    let w = c.requires in
    let a = c.args in
    let ps = a.pieces.items in
    let low = c.value_in.result in
    let limit = c.last_limit.result in
    let all = with_level ps a.end c.lesser-level.result in
    let S = subst (λ q. IsInfimumScan q a.end c.in_ok-once.once.items) c.deref.ensures.value c.in_ok-once.ensures in
    let e = subst (λ q. read q a.from ≡ Fin low) c.deref-2.ensures.value c.value_in.ensures in
    let k = subst (λ q. line_value (last_line q) a.end ≡ Fin limit) c.deref-3.ensures.value c.last_limit.ensures in
    let level : c.lesser-level.result ≡ min_q (low +ℚ a.rise) limit = c.lesser-level.ensures ∙ ap (λ x. min_q x limit) c.sum-later.ensures in
    ok_map c.lowest_before.result (λ v. IsLowestBefore all a.end a.far v.items) (λ v. IsLowest ps a.from a.end a.far a.rise v.items)
    (λ v F.
    lowest_is ps c.in_ok-once.once.items all F.scanned v.items a.from a.end a.far a.rise low limit w.1.from_low w.1.from_early S e k
    (ap (λ l. with_level ps a.end l) level) F.scan F.front)
    c.lowest_before.ensures
