use Rattle.std.proofs.Common.{◌∙◌, ◌++◌, sym, ap, append-nil}
use Rattle.rational.proofs.Compared.{not_less}
use Rattle.curve_deconv.proofs.MarkWindows.{after_none}
use Rattle.curve_deconv.proofs.marks.push_after.Goals as goal

pub returns-in_default : goal.returns-in_default
returns-in_default c =
    let ps = c.args.pieces.now.items in
    sym (append-nil ps) ∙ ap (λ us. ps ++ us) (sym (after_none c.args.x c.args.at c.args.end (not_less c.cmp.result c.cmp.ensures.ranks c.in_default.not-Less)))
