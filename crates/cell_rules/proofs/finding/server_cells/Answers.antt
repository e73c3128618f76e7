use Rattle.std.proofs.Common.{◌≡◌, ℕ, ◌-◌, length, ap, ◌∙◌, take, arith}
use Rattle.cell_rules.proofs.Searched.{own_cells}
use Rattle.cell_rules.proofs.finding.server_cells.Goals as goal

pub returns : goal.returns
returns c =
    let here = c.in_ok-here.here in
    let long : here.len ≡ length here.items = let ok = here.ok.0 in omega (arith, ok) in
    c.truncate.ensures.items
    ∙ ap (λ (n : ℕ). take n here.items)
    (c.saturating_sub-count.ensures ∙ ap (λ (n : ℕ). n - c.args.paths) (c.len.ensures ∙ long))
    ∙ own_cells c.args.net.now c.args.server c.args.paths here.items c.in_ok-here.ensures c.requires
