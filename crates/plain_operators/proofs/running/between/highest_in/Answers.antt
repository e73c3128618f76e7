use Rattle.std.proofs.Common.{sym, subst}
use Rattle.rational.proofs.Compared.{is_greater, not_greater, is_less, not_less}
use Rattle.upp_curve.specs.affine_segment.Fits.{LineFits}
use Rattle.plain_operators.proofs.running.Highest.{low_fits, high_fits, inside_is, start_is, none_is}
use Rattle.plain_operators.proofs.running.between.highest_in.Goals as goal

pub line_at-first-requires : goal.line_at-first-requires
line_at-first-requires c =
    let s = c.stretch_at-s.result in
    subst (λ x. LineFits x s.line) (sym c.greater-low.ensures) (low_fits c.args.from c.args.to c.args.ps.now c.args.end c.args.i s c.requires.both c.stretch_at-s.ensures)

pub line_at-last-requires : goal.line_at-last-requires
line_at-last-requires c =
    let s = c.stretch_at-s.result in
    subst (λ x. LineFits x s.line) (sym c.lesser-high.ensures) (high_fits c.args.from c.args.to c.args.ps.now c.args.end c.args.i s c.requires.both c.stretch_at-s.ensures)

pub returns-in-Greater-clause-highest : goal.returns-in-Greater-clause-highest
returns-in-Greater-clause-highest c =
    (inside_is c.args.ps.now c.args.end c.args.i c.stretch_at-s.result c.args.from c.args.to c.greater-low.result c.lesser-high.result c.line_at-first.result
    c.line_at-last.result c.greater.result
    c.stretch_at-s.ensures c.greater-low.ensures c.lesser-high.ensures (is_less c.cmp.result c.cmp.ensures.ranks c.in-Less.is)
    (is_greater c.cmp-in-Less.result c.cmp-in-Less.ensures.ranks c.in-Greater.is)
    c.line_at-first.ensures c.line_at-last.ensures c.greater.ensures).highest

pub returns-in-Greater-clause-level : goal.returns-in-Greater-clause-level
returns-in-Greater-clause-level c =
    (inside_is c.args.ps.now c.args.end c.args.i c.stretch_at-s.result c.args.from c.args.to c.greater-low.result c.lesser-high.result c.line_at-first.result
    c.line_at-last.result c.greater.result
    c.stretch_at-s.ensures c.greater-low.ensures c.lesser-high.ensures (is_less c.cmp.result c.cmp.ensures.ranks c.in-Less.is)
    (is_greater c.cmp-in-Less.result c.cmp-in-Less.ensures.ranks c.in-Greater.is)
    c.line_at-first.ensures c.line_at-last.ensures c.greater.ensures).level

pub returns-in-Greater-clause-rises : goal.returns-in-Greater-clause-rises
returns-in-Greater-clause-rises c =
    (inside_is c.args.ps.now c.args.end c.args.i c.stretch_at-s.result c.args.from c.args.to c.greater-low.result c.lesser-high.result c.line_at-first.result
    c.line_at-last.result c.greater.result
    c.stretch_at-s.ensures c.greater-low.ensures c.lesser-high.ensures (is_less c.cmp.result c.cmp.ensures.ranks c.in-Less.is)
    (is_greater c.cmp-in-Less.result c.cmp-in-Less.ensures.ranks c.in-Greater.is)
    c.line_at-first.ensures c.line_at-last.ensures c.greater.ensures).rises

pub returns-in_default-cmp : goal.returns-in_default-cmp
returns-in_default-cmp c =
    let p =
    start_is c.args.ps.now c.args.end c.args.i c.stretch_at-s.result c.args.from c.args.to c.greater-low.result c.lesser-high.result c.line_at-first.result
    c.line_at-last.result
    c.greater-in_default-cmp.result c.greater-in_default-cmp-2.result c.stretch_at-s.ensures c.greater-low.ensures c.lesser-high.ensures
    (is_less c.cmp.result c.cmp.ensures.ranks c.in-Less.is)
    (not_greater c.cmp-in-Less.result c.cmp-in-Less.ensures.ranks c.in_default-cmp.not-Greater) c.line_at-first.ensures c.line_at-last.ensures
    c.greater-in_default-cmp.ensures
    c.greater-in_default-cmp-2.ensures in
    record { highest = p.highest; level = p.level; rises = p.rises }

pub returns-in_default : goal.returns-in_default
returns-in_default c =
    let p =
    none_is c.args.ps.now c.args.end c.args.i c.stretch_at-s.result c.args.from c.args.to c.greater-low.result c.lesser-high.result c.zero.result c.stretch_at-s.ensures
    c.greater-low.ensures
    c.lesser-high.ensures (not_less c.cmp.result c.cmp.ensures.ranks c.in_default.not-Less) c.zero.ensures in
    record { highest = p.highest; level = p.level; rises = p.rises }
