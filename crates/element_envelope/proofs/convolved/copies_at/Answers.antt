use Rattle.std.specs.Prelude.{None}
use Rattle.std.proofs.Common.{sym, subst}
use Rattle.element_envelope.specs.Turnings.{IsThinned}
use Rattle.element_envelope.proofs.CopyWindows.{first_operand, left_room, ok_copies}
use Rattle.element_envelope.proofs.convolved.copies_at.Goals as goal

pub turning_starts-requires : goal.turning_starts-requires
turning_starts-requires c = (c.args.end, first_operand c.args.from c.args.end c.args.f.now c.args.g.now c.requires.windows)

pub near_copies-requires-clause-room : goal.near_copies-requires-clause-room
near_copies-requires-clause-room c =
    left_room c.args.from c.args.end c.args.f.now c.args.g.now c.deref.result.now (subst (IsThinned None c.args.f.now) (sym c.deref.ensures.value) c.in_ok-starts.ensures) c.requires.windows

pub returns : goal.returns
returns c =
    ok_copies c.near_copies.result c.args.from c.args.end c.args.f.now c.args.g.now c.deref.result.now (subst (IsThinned None c.args.f.now) (sym c.deref.ensures.value) c.in_ok-starts.ensures)
    c.near_copies.ensures
