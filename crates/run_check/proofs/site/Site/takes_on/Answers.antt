use Rattle.std.proofs.Common.{Some, None, ◌≡◌, sym, ◌∙◌}
use Rattle.run_check.proofs.RowSteps.{goes_on}
use Rattle.run_check.proofs.site.Site.takes_on.Goals as goal

pub returns-in-Some : goal.returns-in-Some
returns-in-Some c = λ d room σ h.
    goes_on d room σ c.args.self.now c.args.packet h (λ e. let f : Some c.in-Some.field-0 ≡ None = sym c.in-Some.is ∙ e in cc)
