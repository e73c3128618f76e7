use Rattle.std.proofs.Common.{◌∙◌, Option, refl, sym, subst}
use Rattle.rational.specs.Rational.{ℚ}
use Rattle.flow_watch.specs.Flows.{KeepsPiece}
use Rattle.flow_watch.proofs.Buckets.{keeps_piece, keeps_flat}
use Rattle.flow_watch.proofs.flows.piece_upto.Goals as goal

pub returns-in_default-end-clause-keeps : goal.returns-in_default-end-clause-keeps
returns-in_default-end-clause-keeps c =
    let b = c.in-Some.bucket in
    keeps_piece c.args.entries.now c.args.piece.now b.burst b.rate c.args.end c.bucket_upto.result c.in-Some.ensures c.bucket_upto.ensures.keeps

pub returns-then-eq-clause-keeps : goal.returns-then-eq-clause-keeps
returns-then-eq-clause-keeps c =
    let b = c.in-Some.bucket in
    subst (λ (o : Option ℚ). KeepsPiece c.args.entries.now c.args.piece.now o c.before_upto.result) (sym c.in-Some-end.is)
    (keeps_flat c.args.entries.now c.args.piece.now b.burst b.rate c.in-Some-end.end c.before_upto.result c.in-Some.ensures (c.if-eq.ensures.same.0 refl ∙ c.zero.ensures) c.before_upto.ensures.keeps)

pub returns-clause-keeps : goal.returns-clause-keeps
returns-clause-keeps c =
    let b = c.in-Some.bucket in
    keeps_piece c.args.entries.now c.args.piece.now b.burst b.rate c.args.end c.bucket_upto-2.result c.in-Some.ensures c.bucket_upto-2.ensures.keeps
