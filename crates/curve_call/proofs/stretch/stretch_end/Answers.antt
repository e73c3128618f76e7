use Rattle.rational.proofs.Compared.{is_less, not_less}
use Rattle.curve_call.proofs.NextSteps.{step_on, got_some, got_none, ends_left, ends_right, ends_first, ends_second}
use Rattle.curve_call.proofs.stretch.stretch_end.Goals as goal

pub returns-in-Some-get-clause-some : goal.returns-in-Some-get-clause-some
returns-in-Some-get-clause-some c = step_on c.args.f.now c.args.g.now c.args.w.now c.requires

pub returns-in-Some-get-clause-next : goal.returns-in-Some-get-clause-next
returns-in-Some-get-clause-next c v S =
    let other = c.in-Some-get.ensures.lookup in
    ends_right c.args.f.now c.args.g.now c.args.w.now v c.in-Some-get.q.now (got_none c.args.f.now c.args.w.now.i c.in-None.ensures.lookup.3)
    (got_some c.args.g.now c.args.w.now.j c.in-Some-get.q.now other.3.0 other.1) S

pub returns-in-None-get-2-clause-some : goal.returns-in-None-get-2-clause-some
returns-in-None-get-2-clause-some c = step_on c.args.f.now c.args.g.now c.args.w.now c.requires

pub returns-in-None-get-2-clause-next : goal.returns-in-None-get-2-clause-next
returns-in-None-get-2-clause-next c v S =
    let one = c.in-Some.ensures.lookup in
    ends_left c.args.f.now c.args.g.now c.args.w.now v c.in-Some.p.now (got_some c.args.f.now c.args.w.now.i c.in-Some.p.now one.3.0 one.1)
    (got_none c.args.g.now c.args.w.now.j c.in-None-get-2.ensures.lookup.3) S

pub returns-in-Less-clause-some : goal.returns-in-Less-clause-some
returns-in-Less-clause-some c = step_on c.args.f.now c.args.g.now c.args.w.now c.requires

pub returns-in-Less-clause-next : goal.returns-in-Less-clause-next
returns-in-Less-clause-next c v S =
    let one = c.in-Some.ensures.lookup in
    let other = c.in-Some-get-2.ensures.lookup in
    ends_second c.args.f.now c.args.g.now c.args.w.now v c.in-Some.p.now c.in-Some-get-2.q.now (got_some c.args.f.now c.args.w.now.i c.in-Some.p.now one.3.0 one.1)
    (got_some c.args.g.now c.args.w.now.j c.in-Some-get-2.q.now other.3.0 other.1) (is_less c.cmp.result c.cmp.ensures.ranks c.in-Less.is) S

pub returns-in_default-clause-some : goal.returns-in_default-clause-some
returns-in_default-clause-some c = step_on c.args.f.now c.args.g.now c.args.w.now c.requires

pub returns-in_default-clause-next : goal.returns-in_default-clause-next
returns-in_default-clause-next c v S =
    let one = c.in-Some.ensures.lookup in
    let other = c.in-Some-get-2.ensures.lookup in
    ends_first c.args.f.now c.args.g.now c.args.w.now v c.in-Some.p.now c.in-Some-get-2.q.now (got_some c.args.f.now c.args.w.now.i c.in-Some.p.now one.3.0 one.1)
    (got_some c.args.g.now c.args.w.now.j c.in-Some-get-2.q.now other.3.0 other.1) (not_less c.cmp.result c.cmp.ensures.ranks c.in_default.not-Less) S
