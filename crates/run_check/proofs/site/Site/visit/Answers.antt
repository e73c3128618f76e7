use Rattle.std.proofs.Common.{Some, None, ◌≡◌, sym, ◌∙◌}
use Rattle.run_check.proofs.SiteSteps.{not_idle_visit}
use Rattle.run_check.proofs.site.Site.visit.Goals as goal

pub returns-in-Some-clause-turns : goal.returns-in-Some-clause-turns
returns-in-Some-clause-turns c = λ d room σ h. not_idle_visit d room σ c.args.self.now c.args.queue h (λ e. let f : Some c.in-Some.field-0 ≡ None = sym c.in-Some.is ∙ e in cc)
