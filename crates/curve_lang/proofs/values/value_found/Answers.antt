use Rattle.std.proofs.Common.{ap, subst, ◌∙◌}
use Rattle.rational.specs.Rational.{◌≤ℚ◌, ◌<ℚ◌}
use Rattle.rational.specs.MinMax.{max_q}
use Rattle.rational.proofs.Compared.{not_less_out}
use Rattle.curve_lang.specs.Finding.{value_end}
use Rattle.curve_lang.proofs.ValueTimes.{value_sizes, none_is, no_window, window_end, has_window, early_time}
use Rattle.curve_lang.proofs.values.value_found.Goals as goal

pub returns-in_default : goal.returns-in_default
returns-in_default c =
    no_window c.args.f.now c.args.t c.call_window.ensures.kept.0 (λ small. none_is c.call_window.result (c.call_window.ensures.fits small) c.in_default.is)

pub is_narrow-requires : goal.is_narrow-requires
is_narrow-requires c = c.greater.ensures ∙ ap (max_q c.args.t) (window_end c.args.f.now c.in-Some.own c.in-Some.ensures.value)

pub stretch_at-requires : goal.stretch_at-requires
stretch_at-requires c =
    let f = c.args.f.now in
    let t = c.args.t in
    let narrow = c.is_narrow.ensures.0 c.if-not-is_narrow.false in (
      value_sizes f t,
      value_end f t,
      has_window f t c.call_window.ensures.kept.0 c.requires narrow,
      early_time f t c.requires (subst (λ e. t <ℚ e) (window_end f c.in-Some.own c.in-Some.ensures.value) (c.is_less.ensures.less.0 c.if-is_less.true)),
    )

pub late_value-requires-clause-late : goal.late_value-requires-clause-late
late_value-requires-clause-late c =
    let f = c.args.f.now in
    let t = c.args.t in
    record {
      curve = c.call_window.ensures.kept.0;
      late = subst (λ e. e ≤ℚ t) (window_end f c.in-Some.own c.in-Some.ensures.value) (not_less_out c.is_less.result t c.in-Some.own.end c.is_less.ensures.less c.if-is_less.false);
      narrow = c.is_narrow.ensures.0 c.if-not-is_narrow.false;
    }
