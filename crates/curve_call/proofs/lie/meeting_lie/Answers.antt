use Rattle.std.proofs.Common.{sym, subst}
use Rattle.std.specs.Prelude.{Some}
use Rattle.rational.proofs.Laws.{le_of_lt, le_trans}
use Rattle.rational.proofs.Compared.{not_greater, not_less}
use Rattle.curve_call.specs.Lies.{IsLie}
use Rattle.curve_call.proofs.LinesLie.{before_turn, after_turn}
use Rattle.curve_call.proofs.lie.meeting_lie.Goals as goal

pub returns-in_default-cmp : goal.returns-in_default-cmp
returns-in_default-cmp c l m M =
    subst (IsLie (Some l) (Some m) c.args.from c.args.to) (sym c.throughout.ensures)
    (λ t a b. before_turn c.args.rises l m c.args.x t M (le_trans (le_of_lt b) (not_less c.cmp-in-Greater.result c.cmp-in-Greater.ensures.ranks c.in_default-cmp.not-Less)))

pub returns-in_default : goal.returns-in_default
returns-in_default c l m M =
    subst (IsLie (Some l) (Some m) c.args.from c.args.to) (sym c.throughout-in_default.ensures)
    (λ t a b. after_turn c.args.rises l m c.args.x t M (le_trans (not_greater c.cmp.result c.cmp.ensures.ranks c.in_default.not-Greater) (le_of_lt a)))
