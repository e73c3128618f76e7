use Rattle.std.specs.Prelude.{◌≡◌, Some, None}
use Rattle.std.proofs.Common.{sym, subst}
use Rattle.curve_call.specs.FirstWindows.{IsFirstLook}
use Rattle.curve_call.proofs.gate.first_look.Goals as goal

pub returns-in-Ok-clause-look : goal.returns-in-Ok-clause-look
returns-in-Ok-clause-look c =
    let F = c.in-Ok.ensures.frame in
    let many : Some c.in-Ok.frame ≡ None → ⊥ = λ e. cc in
    subst (IsFirstLook c.args.op.now c.args.f.now c.args.g.now) (sym c.look_at.ensures)
    record { window = record { window = record { start = F.start; period = F.period; end = F.end }; gauge = F.gauge }; frame = F; many = λ e. absurd (many e) }

pub returns-in-Ok-clause-kept : goal.returns-in-Ok-clause-kept
returns-in-Ok-clause-kept c = let F = c.in-Ok.ensures.frame in (F.first, F.second)
