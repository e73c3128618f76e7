use Rattle.upp_limits.specs.declared.op_kind.OpKind.TheVariants.{RunSup}
use Rattle.curve_call.specs.Frames.{sizes_at}
use Rattle.plain_operators.proofs.running.RunFacts.{window_facts, run_rise, run_call}
use Rattle.plain_operators.proofs.running.FirstWindows.{wide_gauge}
use Rattle.plain_operators.proofs.running.supremum_curve.least_number.Goals as goal

pub rise_over-rise-requires : goal.rise_over-rise-requires
rise_over-rise-requires c =
    let f = c.args.f.now in
    let w = c.in-Ok.window in
    (run_rise f w.start w.period w.end (sizes_at RunSup f f 0 0)
    (window_facts f w c.first_window.ensures.kept.0 c.in-Ok.ensures.window.window c.in-Ok.ensures.window.gauge)).fits

pub supremum_periods-requires : goal.supremum_periods-requires
supremum_periods-requires c =
    let f = c.args.f.now in
    let w = c.in-Ok.window in
    run_call f w.start w.period c.rise_over-rise.result w.end (sizes_at RunSup f f 0 0)
    (window_facts f w c.first_window.ensures.kept.0 c.in-Ok.ensures.window.window c.in-Ok.ensures.window.gauge)
    c.requires.finite c.requires.nonneg c.rise_over-rise.ensures

pub returns-in-Err-clause-number : goal.returns-in-Err-clause-number
returns-in-Err-clause-number c = let f = c.args.f.now in wide_gauge RunSup f f c.in-Err.field-0 c.in-Err.ensures.refused
