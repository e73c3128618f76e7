use Rattle.std.proofs.Common.{sym, refl}
use Rattle.std.proofs.lemmas.Bool.{true≢false}
use Rattle.curve_call.proofs.CallFits.{call_fits, found_fits, found_end}
use Rattle.curve_call.proofs.windows.call_window.Goals as goal

pub returns-in_err-period-clause-fits : goal.returns-in_err-period-clause-fits
returns-in_err-period-clause-fits c = λ h.
    let a = c.args in
    let fits = call_fits a.op.now a.f.now a.g.now a.k a.m c.period.ensures.kept.0 c.period.ensures.kept.1 c.requires h in
    absurd (true≢false (sym (c.in_err-period.ensures.fits fits.period)))

pub returns-in_err-start-clause-fits : goal.returns-in_err-start-clause-fits
returns-in_err-start-clause-fits c = λ h.
    let a = c.args in
    let fits = call_fits a.op.now a.f.now a.g.now a.k a.m c.period.ensures.kept.0 c.period.ensures.kept.1 c.requires h in
    absurd (true≢false (sym (c.in_err-start.ensures.fits fits.start)))

pub returns-in_err-end-clause-fits : goal.returns-in_err-end-clause-fits
returns-in_err-end-clause-fits c = λ h.
    let a = c.args in
    let fits = call_fits a.op.now a.f.now a.g.now a.k a.m c.period.ensures.kept.0 c.period.ensures.kept.1 c.requires h in
    absurd (true≢false (sym (c.in_err-end.ensures.fits
    (found_fits c.in_ok-start.start _ c.in_ok-period.period _ c.number.result _ c.in_ok-start.ensures.value c.in_ok-period.ensures.value c.number.ensures.few fits.end))))

pub returns-clause-value : goal.returns-clause-value
returns-clause-value c =
    let a = c.args in
    record {
      start = c.in_ok-start.ensures.value;
      period = c.in_ok-period.ensures.value;
      end = found_end a.op.now a.f.now a.g.now a.k a.m c.number.result c.in_ok-start.start c.in_ok-period.period c.in_ok-end.end c.in_ok-start.ensures.value c.in_ok-period.ensures.value
          c.number.ensures.few c.number.ensures.many (c.in_ok-end.ensures.few refl) c.in_ok-end.ensures.value;
    }
