use Rattle.std.proofs.Common.{subst}
use Rattle.run_check.specs.Sites.{Turns}
use Rattle.run_check.proofs.RowSteps.{in_time}
use Rattle.run_check.proofs.site.Site.visit_at.Goals as goal

pub returns-clause-answer : goal.returns-clause-answer
returns-clause-answer c = λ d room σ h.
    let t = subst (Turns d room σ c.visit.new.self c.args.queue c.args.time) c.if-not-visit.false (c.visit.ensures.turns d room σ h) in
    record {
      timely = in_time d room σ c.args.self.now c.args.end c.args.time c.is_out_of_time.result h c.is_out_of_time.ensures c.if-is_out_of_time.false;
      may = t.0;
      after_it = t.1;
    }
