use Rattle.sim_servers.proofs.Firsts.{sooner}
use Rattle.std.proofs.Common.{refl}
use Rattle.sim_servers.proofs.due.is_first.Goals as goal
use Rattle.rational.proofs.Compared.{least_by_test}

pub returns-then-is_less-clause-yes : goal.returns-then-is_less-clause-yes
returns-then-is_less-clause-yes c = λ _. sooner c.args.a.now c.args.b.now (c.if-is_less.ensures.less.0 refl)

pub returns-then-is_less-2-clause-no : goal.returns-then-is_less-2-clause-no
returns-then-is_less-2-clause-no c = λ _. sooner c.args.b.now c.args.a.now (c.if-is_less-2.ensures.less.0 refl)

pub returns-clause-yes : goal.returns-clause-yes
returns-clause-yes c = λ t. record {
  time = least_by_test c.args.b.now.time c.args.a.now.time c.if-is_less-2.ensures.less;
  in_turn = λ _. c.goes_first.ensures.yes t;
}

pub returns-clause-no : goal.returns-clause-no
returns-clause-no c = λ t. record {
  time = least_by_test c.args.a.now.time c.args.b.now.time c.if-is_less.ensures.less;
  in_turn = λ _. c.goes_first.ensures.no t;
}
