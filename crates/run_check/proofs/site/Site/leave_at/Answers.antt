use Rattle.run_check.proofs.SiteSteps.{untrue}
use Rattle.run_check.proofs.RowSteps.{in_time, off_go, go_off, going}
use Rattle.run_check.proofs.site.Site.leave_at.Goals as goal

pub returns-then-not-may_leave-clause-answer : goal.returns-then-not-may_leave-clause-answer
returns-then-not-may_leave-clause-answer c = λ d room σ h. (
  in_time d room σ c.args.self.now c.args.end c.args.time c.is_out_of_time.result h c.is_out_of_time.ensures c.if-is_out_of_time.false,
  c.if-not-known.false,
  λ g. untrue c.may_leave.result (c.may_leave.ensures.1 (off_go σ.under c.args.self.now.under c.args.packet c.args.time h.under g)) c.if-not-may_leave.true,
)

pub leave-requires : goal.leave-requires
leave-requires c =
    let k = c.requires in
    let g = going k.state.under c.args.self.now.under c.args.packet c.args.time k.keeps.under (c.may_leave.ensures.0 c.if-not-may_leave.false) in
    record { some = k; under = g.0; is_under = g.1 }

pub returns-clause-answer : goal.returns-clause-answer
returns-clause-answer c = λ d room σ h. record {
  timely = in_time d room σ c.args.self.now c.args.end c.args.time c.is_out_of_time.result h c.is_out_of_time.ensures c.if-is_out_of_time.false;
  is_known = c.if-not-known.false;
  off = go_off σ.under c.args.self.now.under c.args.packet c.args.time h.under (c.may_leave.ensures.0 c.if-not-may_leave.false);
  after_it = λ x m. c.leave.ensures.left d room σ x h m;
}
