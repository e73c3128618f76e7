use Rattle.std.proofs.Common.{Option, sym, subst}
use Rattle.std.proofs.lemmas.Result.{IfOk-weaker}
use Rattle.rational.specs.Rational.{ℚ}
use Rattle.run_watch.specs.WatchTimes.{HaveSameTimes}
use Rattle.run_watch.specs.Classes.{AreLeads, AreLeadsBy}
use Rattle.run_watch.proofs.ClassTimes.{leads_same}
use Rattle.run_watch.proofs.classes.leads_of.Goals as goal

pub returns-in_ok-times-in-Some : goal.returns-in_ok-times-in-Some
returns-in_ok-times-in-Some c =
    let side = c.args.side in
    let end = c.args.end in
    let ts = c.args.turns.now in
    let xs = c.deref.result.now in
    let same = subst (HaveSameTimes ts) (sym c.deref.ensures.value) c.in_ok-times-in-Some.ensures in
    IfOk-weaker c.not_led.result (λ v. AreLeads side end c.in-Some.period xs v.items) (λ v. AreLeadsBy side end c.args.cycle.now ts v.items)
    (λ v k. subst (λ (o : Option ℚ). AreLeadsBy side end o ts v.items) (sym c.in-Some.is) (leads_same side end c.in-Some.period ts xs v.items same k)) c.not_led.ensures
