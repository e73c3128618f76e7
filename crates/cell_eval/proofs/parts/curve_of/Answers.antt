use Rattle.std.proofs.Common.{sym, ap, ◌∙◌}
use Rattle.cell_eval.specs.Parts.{curve_in, curve_of}
use Rattle.cell_eval.proofs.parts.curve_of.Goals as goal

pub returns-in-One : goal.returns-in-One
returns-in-One g c =
    c.deref.ensures ∙ sym (ap curve_in c.curve_at.ensures) ∙ sym (ap (curve_of (g.T.Table.at c.args.table.now)) c.in-One.is)
