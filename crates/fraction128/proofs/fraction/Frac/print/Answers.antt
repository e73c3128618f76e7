use Rattle.std.proofs.Common.{◌≡◌, ◌++◌, subst, List, ℕ}
use Rattle.std.specs.Result.{OnOk}
use Rattle.fraction128.proofs.Printed.{text_is}
use Rattle.fraction128.proofs.fraction.Frac.print.Goals as goal

pub returns-clause-ok : goal.returns-clause-ok
returns-clause-ok c =
    subst (λ (text : List ℕ). OnOk c.print_parts.result (c.print_parts.new.into.items ≡ c.args.into.now.items ++ text))
    (text_is _ _ c.args.self.now c.self.invariant c.self.view_is) c.print_parts.ensures.ok
