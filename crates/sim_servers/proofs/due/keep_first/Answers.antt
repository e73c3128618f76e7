use Rattle.std.specs.Prelude.{None, Some}
use Rattle.std.proofs.Common.{sym, subst}
use Rattle.sim_servers.specs.Firsts.{IsFirstOf}
use Rattle.sim_servers.proofs.Firsts.{first_none, first_kept, first_stays, first_goes}
use Rattle.sim_servers.proofs.due.keep_first.Goals as goal

pub returns-in-None : goal.returns-in-None
returns-in-None c = subst (λ o. IsFirstOf c.args.first.now o c.args.first.now) (sym c.in-None.is) (first_kept c.args.first.now)

pub returns-in-None-first : goal.returns-in-None-first
returns-in-None-first c =
    let due = c.in-Some.due in
    subst (λ o. IsFirstOf o c.args.other (Some due)) (sym c.in-None-first.is)
    (subst (λ o. IsFirstOf None o (Some due)) (sym c.in-Some.is) (first_none (Some due)))

pub returns-then-is_first : goal.returns-then-is_first
returns-then-is_first c =
    let known = c.in-Some-first.known in
    let due = c.in-Some.due in
    subst (λ o. IsFirstOf o c.args.other (Some known)) (sym c.in-Some-first.is)
    (subst (λ o. IsFirstOf (Some known) o (Some known)) (sym c.in-Some.is) (first_stays known due (c.is_first.ensures.yes c.if-is_first.true)))

pub returns-else-is_first : goal.returns-else-is_first
returns-else-is_first c =
    let known = c.in-Some-first.known in
    let due = c.in-Some.due in
    subst (λ o. IsFirstOf o c.args.other (Some due)) (sym c.in-Some-first.is)
    (subst (λ o. IsFirstOf (Some known) o (Some due)) (sym c.in-Some.is) (first_goes known due (c.is_first.ensures.no c.if-is_first.false)))
