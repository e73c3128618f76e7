use Rattle.std.proofs.Common.{ap, subst, sym, pos, get_or}
use Rattle.rational.specs.Rational.{◌≤ℚ◌, int}
use Rattle.upp_limits.proofs.PieceLists.{starts_nonneg, every_at, next_span}
use Rattle.upp_limits.proofs.curve_numbers.span_at.Goals as goal

pub returns-clause-start : goal.returns-clause-start
returns-clause-start c =
    let ps = c.args.of.now.pieces.now in
    let there = get_or ps c.args.i c.index-of-i.result in
    let h = every_at (λ p. int (pos 0) ≤ℚ p.x) ps c.args.i there (starts_nonneg ps c.requires.listed.starts) c.requires.inside (ap (get_or ps c.args.i) c.index-of-i.is) in
    subst (λ q. int (pos 0) ≤ℚ q.x) (sym c.piece_read-piece.ensures) h

pub returns-clause-span : goal.returns-clause-span
returns-clause-span c =
    let of = c.args.of.now in
    let there = get_or of.pieces.now c.args.i c.index-of-i.result in
    next_span of.tail.now of.pieces.now c.args.i there c.piece_read-piece.result c.next_start-next.result of.after
    c.requires.inside (ap (get_or of.pieces.now c.args.i) c.index-of-i.is) c.piece_read-piece.ensures c.requires.listed.after c.next_start-next.ensures
