use Rattle.std.proofs.Common.{◌∙◌, ◌≤◌, ap, drop, length, subst, sym}
use Rattle.rational.specs.Rational.{◌-ℚ◌}
use Rattle.element_envelope.proofs.CopyWindows.{room_fits, room_left, room_before, infinite_start, ok_copy, ok_none}
use Rattle.element_envelope.proofs.Rests.{skipped_fits}
use Rattle.element_envelope.proofs.copies.copy_window.Goals as goal

pub skipped-requires : goal.skipped-requires
skipped-requires c = room_before c.args.from c.args.end c.args.start.now c.args.pieces.now c.requires

pub split_at-requires : goal.split_at-requires
split_at-requires c =
    let ps = c.args.pieces.now in
    subst (λ k. k ≤ length ps) (sym c.skipped.ensures) (skipped_fits ps (c.args.from -ℚ c.args.start.now.x))

pub copy_of-requires-clause-fits : goal.copy_of-requires-clause-fits
copy_of-requires-clause-fits c =
    room_fits c.args.from c.args.end c.args.start.now c.args.pieces.now c.split_at.result.1.now _ c.in-Fin.v c.in-Fin.is c.split_at.ensures.back c.requires

pub copy_of-requires-clause-left : goal.copy_of-requires-clause-left
copy_of-requires-clause-left c = room_left c.args.from c.args.end c.args.start.now c.args.pieces.now c.requires

pub returns-in-Inf : goal.returns-in-Inf
returns-in-Inf c = ok_none c.nothing.result c.args.from c.args.end _ c.args.pieces.now (infinite_start c.args.from c.args.end c.args.start.now c.args.pieces.now c.in-Inf.is) c.nothing.ensures

pub returns-in-Fin : goal.returns-in-Fin
returns-in-Fin c =
    ok_copy c.copy_of.result c.args.from c.args.end c.args.start.now c.args.pieces.now c.split_at.result.1.now c.in-Fin.v c.in-Fin.is
    (c.split_at.ensures.back ∙ ap (λ k. drop k c.args.pieces.now) c.skipped.ensures) c.requires c.copy_of.ensures
