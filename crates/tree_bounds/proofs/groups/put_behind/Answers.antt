use Rattle.std.proofs.Common.{◌++◌, ◌∷◌, [], List, ◌∙◌, ap}
use Rattle.std.proofs.lemmas.Result.{on_ok_weaker}
use Rattle.tree_bounds.specs.declared.groups.Group.{Group}
use Rattle.tree_bounds.proofs.Grouped.{last_same, last_other}
use Rattle.tree_bounds.proofs.groups.put_behind.Goals as goal

pub returns-then-last-next : goal.returns-then-last-next
returns-then-last-next c =
    let old = c.args.groups.now.items in
    on_ok_weaker c.put.result
    (λ e. e ∙ ap (λ (g : Group). old ++ g ∷ []) c.together.ensures ∙ ap (λ (l : List Group). old ++ l) (last_same c.args.last c.args.next c.if-last-next.true))
    c.put.ensures

pub returns : goal.returns
returns c =
    let old = c.args.groups.now.items in
    on_ok_weaker c.put_two.result (λ e. e ∙ ap (λ (l : List Group). old ++ l) (last_other c.args.last c.args.next c.if-last-next.false)) c.put_two.ensures
