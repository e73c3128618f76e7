use Rattle.std.proofs.Common.{◌≡◌, ◌∙◌, List, subst}
use Rattle.std.specs.Prelude.{IfOk}
use Rattle.upp_curve.specs.declared.affine_segment.line.Piece.{Piece}
use Rattle.upp_curve.specs.declared.curve.Tail.TheVariants.{Periodic}
use Rattle.upp_normal.proofs.UnrollSteps.{plain_unroll, turns_fit_of, unroll_of}
use Rattle.upp_normal.proofs.unrolling.unrolled.Goals as goal

pub with_copies-requires-clause-fits : goal.with_copies-requires-clause-fits
with_copies-requires-clause-fits c =
    let t = c.in-Periodic in
    turns_fit_of c.args.c.now c.pieces.result.now c.tail.result.now t.rank t.period t.rise c.args.end c.tail.ensures.kept c.requires c.pieces.ensures.pieces c.tail.ensures.tail t.is

pub returns-in-Periodic : goal.returns-in-Periodic
returns-in-Periodic c =
    let t = c.in-Periodic in
    subst (λ (zs : List Piece). IfOk c.with_copies.result (λ v. v.items ≡ zs))
    (unroll_of c.args.c.now c.pieces.result.now c.tail.result.now (Periodic t.rank t.period t.rise) c.args.end c.pieces.ensures.pieces c.tail.ensures.tail t.is) c.with_copies.ensures

pub returns-in_default : goal.returns-in_default
returns-in_default c =
    subst (λ (zs : List Piece). IfOk c.from_slice.result (λ v. v.items ≡ zs))
    (c.before-in_default.ensures ∙ plain_unroll c.args.c.now c.pieces-in_default.result.now c.tail.result.now c.args.end c.pieces-in_default.ensures.pieces c.tail.ensures.tail c.in_default.not-Periodic)
    c.from_slice.ensures.items
