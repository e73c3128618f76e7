use Rattle.std.proofs.Common.{◌∙◌, sym, subst}
use Rattle.upp_limits.specs.declared.op_kind.OpKind.TheVariants.{RunInf}
use Rattle.upp_curve.specs.affine_segment.Reading.{read}
use Rattle.upp_curve.specs.Curve.{repeated}
use Rattle.upp_normal.specs.Normalising.{HasValues}
use Rattle.curve_call.specs.Frames.{sizes_at}
use Rattle.upp_normal.proofs.NormaliseForm.{ok_map}
use Rattle.plain_operators.specs.running.Scans.{IsWindow, ScanFits}
use Rattle.plain_operators.specs.running.Runs.{RunsFrom, IsFrontBefore}
use Rattle.plain_operators.proofs.running.RunFacts.{inf_facts, operand_to, run_window, run_fits, run_rise, sum_fits}
use Rattle.plain_operators.proofs.running.InfimumRuns.{inf_answer, inf_value}
use Rattle.plain_operators.proofs.running.infimum_curve.infimum_within.Goals as goal

pub unrolled-requires : goal.unrolled-requires
unrolled-requires c =
    let f = c.args.f.now in
    let r = c.args.frame.now in
    operand_to f r.start r.period r.end (sizes_at RunInf f f 0 0) (inf_facts f r c.requires.frame)

pub infimum_scan-requires-clause-window : goal.infimum_scan-requires-clause-window
infimum_scan-requires-clause-window c =
    let f = c.args.f.now in
    let r = c.args.frame.now in
    subst (IsWindow r.end) (sym (c.deref.ensures.value ∙ c.in_ok-pieces.ensures))
    (run_window f r.start r.period r.end (sizes_at RunInf f f 0 0) (inf_facts f r c.requires.frame) c.requires.finite)

pub infimum_scan-requires-clause-fits : goal.infimum_scan-requires-clause-fits
infimum_scan-requires-clause-fits c =
    let f = c.args.f.now in
    let r = c.args.frame.now in
    subst (ScanFits r.end) (sym (c.deref.ensures.value ∙ c.in_ok-pieces.ensures)) (run_fits f r.start r.period r.end (sizes_at RunInf f f 0 0) (inf_facts f r c.requires.frame))

pub sum-requires : goal.sum-requires
sum-requires c =
    let f = c.args.f.now in
    let r = c.args.frame.now in
    sum_fits f r.start r.period r.end (sizes_at RunInf f f 0 0) (inf_facts f r c.requires.frame)

pub rise_over-rise-requires : goal.rise_over-rise-requires
rise_over-rise-requires c =
    let f = c.args.f.now in
    let r = c.args.frame.now in
    (run_rise f r.start r.period r.end (sizes_at RunInf f f 0 0) (inf_facts f r c.requires.frame)).fits

pub framed_answer-requires : goal.framed_answer-requires
framed_answer-requires c =
    inf_answer c.args.f.now c.args.frame.now c.sum.result c.rise_over-rise.result c.deref.result.now c.in_ok-scanned.scanned.items c.in_ok-front.front.items
    c.requires.frame
    c.sum.ensures c.rise_over-rise.ensures (c.deref.ensures.value ∙ c.in_ok-pieces.ensures) c.in_ok-scanned.ensures
    (subst (λ q. IsFrontBefore q c.sum.result c.in_ok-front.front.items) c.deref-2.ensures.value c.in_ok-front.ensures)

pub returns : goal.returns
returns c =
    let f = c.args.f.now in
    let r = c.args.frame.now in
    let front = c.in_ok-front.front.items in
    let to = c.sum.result in
    let rise = c.rise_over-rise.result in
    ok_map c.framed_answer.result (λ a. HasValues a (repeated (read front) r.start r.period rise)) (RunsFrom f)
    (λ a v.
    inf_value f r to rise c.deref.result.now c.in_ok-scanned.scanned.items front a c.requires.finite c.requires.nonneg c.requires.frame c.sum.ensures
    c.rise_over-rise.ensures
    (c.deref.ensures.value ∙ c.in_ok-pieces.ensures) c.in_ok-scanned.ensures (subst (λ q. IsFrontBefore q to front) c.deref-2.ensures.value c.in_ok-front.ensures) v)
    c.framed_answer.ensures
