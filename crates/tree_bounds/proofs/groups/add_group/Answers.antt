use Rattle.std.proofs.Common.{◌≡◌, length, ◌∙◌, sym, arith}
use Rattle.std.proofs.lemmas.Result.{on_ok_weaker}
use Rattle.tree_bounds.proofs.Grouped.{with_nothing, with_rest}
use Rattle.tree_bounds.proofs.groups.add_group.Goals as goal

pub returns-in-None : goal.returns-in-None
returns-in-None c =
    let rest = c.pop.new.self.items in
    let none : length rest ≡ 0 = omega (arith, c.in-None.ensures.cases.1) in
    on_ok_weaker c.put.result (λ e. e ∙ sym (with_nothing c.args.groups.now.items rest c.args.next c.in-None.ensures.items none)) c.put.ensures

pub returns-in-Some : goal.returns-in-Some
returns-in-Some c =
    let rest = c.pop.new.self.items in
    on_ok_weaker c.put_behind.result (λ e. e ∙ sym (with_rest c.args.groups.now.items rest c.in-Some.last c.args.next c.in-Some.ensures.items)) c.put_behind.ensures
