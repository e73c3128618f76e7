use Rattle.std.specs.Prelude.{◌≡◌, pos}
use Rattle.std.proofs.Common.{sym, ap, ◌∙◌, subst}
use Rattle.rational.specs.Rational.{int, ◌*ℚ◌, ◌/ℚ◌}
use Rattle.rational.specs.Ratio.{IsSmall}
use Rattle.rational.specs.Whole.{whole_part}
use Rattle.rational.proofs.Laws.{not_zero}
use Rattle.sim_servers.specs.Openings.{gate_times, BeginsAt}
use Rattle.sim_servers.proofs.GridSteps.{quotient_fits}
use Rattle.sim_servers.proofs.Cycles.{long, begins_at, begin_fits}
use Rattle.sim_servers.proofs.opening.cycle_begin.Goals as goal

pub quotient-periods-requires : goal.quotient-periods-requires
quotient-periods-requires c =
    let g = gate_times c.args.gate.now in
    let r = c.requires.room in
    record {
      some = not_zero g.cycle (long g c.requires.gate);
      fits = quotient_fits r.grid r.most c.args.time g.cycle r.room r.time r.gate_is.0 (long g c.requires.gate);
    }

pub product-requires : goal.product-requires
product-requires c =
    let g = gate_times c.args.gate.now in
    let r = c.requires.room in
    let e : c.whole_part-count.result ≡ int (pos (whole_part (c.args.time /ℚ g.cycle))) =
    c.whole_part-count.ensures ∙ ap (λ x. int (pos (whole_part x))) c.quotient-periods.ensures in
    subst (λ x. IsSmall (x *ℚ g.cycle)) (sym e) (begin_fits g r.grid r.most c.args.time c.requires.gate r.room r.gate_is.0 r.time)

pub returns : goal.returns
returns c =
    let g = gate_times c.args.gate.now in
    let e : c.whole_part-count.result ≡ int (pos (whole_part (c.args.time /ℚ g.cycle))) =
    c.whole_part-count.ensures ∙ ap (λ x. int (pos (whole_part x))) c.quotient-periods.ensures in
    subst (λ b. BeginsAt g c.args.time b) (sym (c.product.ensures ∙ ap (λ x. x *ℚ g.cycle) e))
    (begins_at g c.requires.gate c.args.time c.requires.room.time.from_zero)
