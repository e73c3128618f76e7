use Rattle.std.specs.Prelude.{[], ◌∷◌}
use Rattle.std.proofs.Common.{sym, subst, ◌∙◌}
use Rattle.element_envelope.specs.CopyWindows.{IsCopyWindow}
use Rattle.element_envelope.proofs.CopyWindows.{second_operand}
use Rattle.element_envelope.proofs.RunningWindows.{piece_is, running_room, line_beside, line_convolves}
use Rattle.element_envelope.proofs.convolved.by_line.Goals as goal

pub only_line-requires : goal.only_line-requires
only_line-requires c = (c.args.end, second_operand c.args.from c.args.end c.args.f.now c.args.g.now c.requires)

pub running_lines-requires : goal.running_lines-requires
running_lines-requires c = (c.args.end, running_room c.args.from c.args.end c.args.f.now c.args.g.now c.in-Some.line c.in-Some.ensures c.requires)

pub lower_with_copy-requires : goal.lower_with_copy-requires
lower_with_copy-requires c =
    let O = c.in-Some.ensures in
    line_beside c.args.from c.args.end c.args.f.now c.args.g.now c.in-Some.line c.deref.result.now c.index-g-0.result O (piece_is c.args.g.now c.in-Some.line c.index-g-0.result O c.index-g-0.is)
    (c.deref.ensures.value ∙ c.in_ok-lines.ensures) c.requires

pub returns : goal.returns
returns c =
    let O = c.in-Some.ensures in
    let L = c.in_ok-lower_with_copy.ensures in
    line_convolves c.args.from c.args.end c.args.f.now c.args.g.now c.in-Some.line _ L.copy _ c.requires
    record {
      line = O;
      lines = c.deref.ensures.value ∙ c.in_ok-lines.ensures;
      own = subst (λ p. IsCopyWindow c.args.from c.args.end (p ∷ []) c.args.f.now L.copy) (sym (piece_is c.args.g.now c.in-Some.line c.index-g-0.result O c.index-g-0.is)) L.is;
    }
    L.lower
