use Rattle.std.proofs.Common.{subst}
use Rattle.rational.specs.Rational.{◌≤ℚ◌, ◌<ℚ◌}
use Rattle.rational.proofs.Compared.{is_less, not_less}
use Rattle.plain_operators.proofs.running.SupremumCalls.{first_period, found_number, flat_number, early_number}
use Rattle.plain_operators.proofs.running.periods.supremum_periods.Goals as goal

pub covering-requires : goal.covering-requires
covering-requires c =
    first_period c.args.f.now c.args.start c.args.period c.args.rise c.pieces.result.now c.requires c.pieces.ensures.pieces
    (subst (λ z. z <ℚ c.args.rise) c.zero-zero.ensures (is_less c.cmp.result c.cmp.ensures.ranks c.in-Less.is))
    (subst (λ z. z <ℚ c.args.start) c.zero-zero.ensures (is_less c.cmp-in-Less.result c.cmp-in-Less.ensures.ranks c.in-Less-cmp.is))

pub returns-in-Less-cmp-clause-least : goal.returns-in-Less-cmp-clause-least
returns-in-Less-cmp-clause-least c =
    (found_number c.args.f.now c.args.start c.args.period c.args.rise c.pieces.result.now c.covering.result c.requires c.pieces.ensures.pieces
    (subst (λ z. z <ℚ c.args.rise) c.zero-zero.ensures (is_less c.cmp.result c.cmp.ensures.ranks c.in-Less.is)) c.covering.ensures).least

pub returns-in-Less-cmp-clause-covered : goal.returns-in-Less-cmp-clause-covered
returns-in-Less-cmp-clause-covered c =
    (found_number c.args.f.now c.args.start c.args.period c.args.rise c.pieces.result.now c.covering.result c.requires c.pieces.ensures.pieces
    (subst (λ z. z <ℚ c.args.rise) c.zero-zero.ensures (is_less c.cmp.result c.cmp.ensures.ranks c.in-Less.is)) c.covering.ensures).covered

pub returns-in_default-cmp : goal.returns-in_default-cmp
returns-in_default-cmp c =
    let n =
    early_number c.args.f.now c.args.start c.args.period c.args.rise c.requires
    (subst (λ z. c.args.start ≤ℚ z) c.zero-zero.ensures (not_less c.cmp-in-Less.result c.cmp-in-Less.ensures.ranks c.in_default-cmp.not-Less)) in
    record { least = n.least; covered = n.covered }

pub returns-in_default : goal.returns-in_default
returns-in_default c =
    let n =
    flat_number c.args.f.now c.args.start c.args.period c.args.rise c.requires
    (subst (λ z. c.args.rise ≤ℚ z) c.zero-zero.ensures (not_less c.cmp.result c.cmp.ensures.ranks c.in_default.not-Less)) in
    record { least = n.least; covered = n.covered }
