use Rattle.std.proofs.Common.{◌≡◌, ◌≤◌, ◌+◌, ◌*◌, ◌/◌, ℕ, arith, subst, sym, ap, ◌∙◌}
use Rattle.std.proofs.Math.Nat.{div-mul-le_self}
use Rattle.std.specs.Int.{div_ceil}
use Rattle.arrival_lines.proofs.Units.{up_covers}
use Rattle.arrival_lines.proofs.Shared.{share_below}
use Rattle.arrival_lines.proofs.services.share_service.Goals as goal

pub returns-clause-below : goal.returns-clause-below
returns-clause-below c =
    let s = c.args.service in
    let rate = c.in_ok-rate.rate in
    let debt = c.in_ok-debt.debt in
    let r : rate ≡ s.rate * c.args.part / c.args.all = c.in_ok-rate.ensures ∙ ap (λ (n : ℕ). n / c.args.all) c.times.ensures in
    let slower : rate * c.args.all ≤ s.rate * c.args.part = subst (λ (n : ℕ). n * c.args.all ≤ s.rate * c.args.part) (sym r) (div-mul-le_self (s.rate * c.args.part) c.args.all) in
    let sum : c.in_ok-checked_add.field-0 ≡ s.debt * c.args.part + c.args.owed = c.in_ok-checked_add.ensures.1 ∙ ap (λ (n : ℕ). n + c.args.owed) c.times-2.ensures in
    let e : debt ≡ div_ceil (s.debt * c.args.part + c.args.owed) c.args.all = subst (λ (n : ℕ). debt ≡ div_ceil n c.args.all) sum (c.in_ok-debt.ensures ∙ c.div_ceil.ensures) in
    let more = up_covers (s.debt * c.args.part + c.args.owed) c.args.all debt c.requires e in
    share_below s c.args.part c.args.all c.args.owed rate debt c.requires slower (omega (arith, more))
