use Rattle.std.specs.Prelude.{true}
use Rattle.std.proofs.Common.{◌∙◌, sym, subst}
use Rattle.upp_limits.specs.declared.op_kind.OpKind.TheVariants.{RunSup}
use Rattle.upp_curve.specs.affine_segment.Reading.{read}
use Rattle.upp_curve.specs.Curve.{value_at, repeated}
use Rattle.min_plus.specs.Functions.{IsFinite}
use Rattle.upp_normal.specs.Normalising.{HasValues}
use Rattle.curve_call.specs.Frames.{sizes_at}
use Rattle.upp_normal.proofs.NormaliseForm.{ok_map}
use Rattle.plain_operators.specs.running.Scans.{IsWindow, ScanFits}
use Rattle.plain_operators.specs.running.Runs.{RunsUpTo}
use Rattle.plain_operators.proofs.running.RunFacts.{sup_facts, operand_to, run_window, run_fits, run_rise, difference_fits}
use Rattle.plain_operators.proofs.running.FiniteRuns.{scan_finite}
use Rattle.plain_operators.proofs.running.SupremumRuns.{sup_answer, sup_value}
use Rattle.plain_operators.proofs.running.supremum_curve.supremum_within.Goals as goal

pub unrolled-requires : goal.unrolled-requires
unrolled-requires c =
    let f = c.args.f.now in
    let r = c.args.frame.now in
    operand_to f r.start r.period r.end (sizes_at RunSup f f c.args.k 0) (sup_facts f c.args.k r c.requires.frame)

pub supremum_scan-requires-clause-window : goal.supremum_scan-requires-clause-window
supremum_scan-requires-clause-window c =
    let f = c.args.f.now in
    let r = c.args.frame.now in
    subst (IsWindow r.end) (sym (c.deref.ensures.value ∙ c.in_ok-pieces.ensures))
    (run_window f r.start r.period r.end (sizes_at RunSup f f c.args.k 0) (sup_facts f c.args.k r c.requires.frame) c.requires.finite)

pub supremum_scan-requires-clause-fits : goal.supremum_scan-requires-clause-fits
supremum_scan-requires-clause-fits c =
    let f = c.args.f.now in
    let r = c.args.frame.now in
    subst (ScanFits r.end) (sym (c.deref.ensures.value ∙ c.in_ok-pieces.ensures))
    (run_fits f r.start r.period r.end (sizes_at RunSup f f c.args.k 0) (sup_facts f c.args.k r c.requires.frame))

pub rise_over-rise-requires : goal.rise_over-rise-requires
rise_over-rise-requires c =
    let f = c.args.f.now in
    let r = c.args.frame.now in
    (run_rise f r.start r.period r.end (sizes_at RunSup f f c.args.k 0) (sup_facts f c.args.k r c.requires.frame)).fits

pub difference-from-requires : goal.difference-from-requires
difference-from-requires c =
    let f = c.args.f.now in
    let r = c.args.frame.now in
    difference_fits f r.start r.period r.end (sizes_at RunSup f f c.args.k 0) (sup_facts f c.args.k r c.requires.frame)

pub framed_answer-requires : goal.framed_answer-requires
framed_answer-requires c =
    sup_answer c.args.f.now c.args.k c.args.frame.now c.difference-from.result c.rise_over-rise.result c.deref.result.now c.in_ok-scanned.scanned.items c.requires.frame
    c.difference-from.ensures c.rise_over-rise.ensures (c.deref.ensures.value ∙ c.in_ok-pieces.ensures) c.in_ok-scanned.ensures

pub returns-clause-value : goal.returns-clause-value
returns-clause-value c =
    let f = c.args.f.now in
    let r = c.args.frame.now in
    let qs = c.in_ok-scanned.scanned.items in
    let from = c.difference-from.result in
    let rise = c.rise_over-rise.result in
    ok_map c.framed_answer.result (λ a. HasValues a (repeated (read qs) from r.period rise)) (RunsUpTo f)
    (λ a v.
    sup_value f c.args.k r from rise c.deref.result.now qs a c.requires.finite c.requires.nonneg c.requires.number c.requires.frame c.difference-from.ensures
    c.rise_over-rise.ensures
    (c.deref.ensures.value ∙ c.in_ok-pieces.ensures) c.in_ok-scanned.ensures v) c.framed_answer.ensures

pub returns-clause-finite : goal.returns-clause-finite
returns-clause-finite c =
    let qs = c.in_ok-scanned.scanned.items in
    let d = c.args.frame.now.period in
    let from = c.difference-from.result in
    let rise = c.rise_over-rise.result in
    ok_map c.framed_answer.result (λ a. HasValues a (repeated (read qs) from d rise)) (λ a. IsFinite (value_at a))
    (λ a v. scan_finite true c.deref.result.now qs c.args.frame.now.end from d rise a c.in_ok-scanned.ensures.scan v) c.framed_answer.ensures
