use Rattle.std.specs.Prelude.{pos}
use Rattle.std.proofs.Common.{◌≡◌, ◌∙◌, ap, subst, IfOk, inl, inr}
use Rattle.upp_curve.specs.declared.curve.Tail.TheVariants.{Periodic, Affine, Infinite}
use Rattle.rational.specs.Rational.{int}
use Rattle.rational.specs.Whole.{periods}
use Rattle.upp_curve.specs.affine_segment.Reading.{read}
use Rattle.upp_curve.specs.Curve.{repeated}
use Rattle.upp_curve.specs.Steps.{IsWideRead, IsWidePast, IsWideValueAt}
use Rattle.upp_curve.proofs.ByTail.{value_of, cut_late, cut_early, repeated_early, wide_of, not_later, is_later}
use Rattle.upp_curve.proofs.Refusals.{err_map}
use Rattle.upp_curve.proofs.curve.Curve.value_at.Goals as goal

pub returns-in-Affine-clause-value : goal.returns-in-Affine-clause-value
returns-in-Affine-clause-value c =
    let v = value_of c.args.self.now c.self.inside.pieces.items c.self.inside.tail (Affine c.in-Affine.rank) c.args.t c.self.view_is c.in-Affine.is in
    subst (λ z. IfOk c.read.result (λ v. v ≡ z)) (ap (λ ps. read ps c.args.t) c.deref.ensures.value ∙ v) c.read.ensures.value

pub returns-in-Greater-clause-value : goal.returns-in-Greater-clause-value
returns-in-Greater-clause-value c =
    let v = value_of c.args.self.now c.self.inside.pieces.items c.self.inside.tail (Infinite c.in-Infinite.rank) c.args.t c.self.view_is c.in-Infinite.is in
    cut_late (read c.self.inside.pieces.items) c.in-Infinite.rank c.args.t c.cmp.result c.cmp.ensures.is c.in-Greater.is ∙ v

pub returns-in_default : goal.returns-in_default
returns-in_default c =
    let ps = c.self.inside.pieces.items in
    let rank = c.in-Infinite.rank in
    let v = value_of c.args.self.now ps c.self.inside.tail (Infinite rank) c.args.t c.self.view_is c.in-Infinite.is in
    let e = cut_early (read ps) rank c.args.t c.cmp.result c.cmp.ensures.is c.in_default.not-Greater in
    record {
      value = subst (λ z. IfOk c.read-in_default.result (λ v. v ≡ z)) (ap (λ ps. read ps c.args.t) c.deref-in_default.ensures.value ∙ e ∙ v) c.read-in_default.ensures.value;
      wide = err_map c.read-in_default.result (IsWideRead c.deref-in_default.result.now c.args.t) (IsWideValueAt c.args.self.now c.args.t)
          (λ w h. wide_of c.args.self.now ps c.self.inside.tail (Infinite rank) c.args.t w c.self.view_is c.in-Infinite.is
          (not_later c.args.t rank c.cmp.result c.cmp.ensures.is c.in_default.not-Greater, subst (λ ps. IsWideRead ps c.args.t w) c.deref-in_default.ensures.value h))
          c.read-in_default.ensures.wide;
    }

pub returns-in-Greater-cmp-clause-value : goal.returns-in-Greater-cmp-clause-value
returns-in-Greater-cmp-clause-value c =
    let p = c.in-Periodic in
    let v = value_of c.args.self.now c.self.inside.pieces.items c.self.inside.tail (Periodic p.rank p.period p.rise) c.args.t c.self.view_is p.is in
    subst (λ z. IfOk c.read_past.result (λ v. v ≡ z)) (ap (λ ps. repeated (read ps) p.rank p.period p.rise c.args.t) c.deref-in-Greater-cmp.ensures.value ∙ v) c.read_past.ensures.value

pub returns-in-Greater-cmp-clause-wide : goal.returns-in-Greater-cmp-clause-wide
returns-in-Greater-cmp-clause-wide c =
    let p = c.in-Periodic in
    let n = int (pos (periods p.rank p.period c.args.t)) in
    err_map c.read_past.result (IsWidePast c.deref-in-Greater-cmp.result.now p.rank p.period p.rise c.args.t n) (IsWideValueAt c.args.self.now c.args.t)
    (λ w h. wide_of c.args.self.now c.self.inside.pieces.items c.self.inside.tail (Periodic p.rank p.period p.rise) c.args.t w c.self.view_is p.is
    (inr (is_later c.args.t p.rank c.cmp-in-Periodic.result c.cmp-in-Periodic.ensures.is c.in-Greater-cmp.is, subst (λ ps. IsWidePast ps p.rank p.period p.rise c.args.t n w) c.deref-in-Greater-cmp.ensures.value h)))
    c.read_past.ensures.wide

pub returns-in_default-cmp : goal.returns-in_default-cmp
returns-in_default-cmp c =
    let p = c.in-Periodic in
    let ps = c.self.inside.pieces.items in
    let v = value_of c.args.self.now ps c.self.inside.tail (Periodic p.rank p.period p.rise) c.args.t c.self.view_is p.is in
    let e = repeated_early (read ps) ps p.rank p.period p.rise c.args.t c.cmp-in-Periodic.result c.self.inside.tail p.is c.self.invariant.normal.raw.tail c.cmp-in-Periodic.ensures.is c.in_default-cmp.not-Greater in
    record {
      value = subst (λ z. IfOk c.read-in_default-cmp.result (λ v. v ≡ z)) (ap (λ ps. read ps c.args.t) c.deref-in_default-cmp.ensures.value ∙ e ∙ v) c.read-in_default-cmp.ensures.value;
      wide = err_map c.read-in_default-cmp.result (IsWideRead c.deref-in_default-cmp.result.now c.args.t) (IsWideValueAt c.args.self.now c.args.t)
          (λ w h. wide_of c.args.self.now ps c.self.inside.tail (Periodic p.rank p.period p.rise) c.args.t w c.self.view_is p.is
          (inl (not_later c.args.t p.rank c.cmp-in-Periodic.result c.cmp-in-Periodic.ensures.is c.in_default-cmp.not-Greater, subst (λ ps. IsWideRead ps c.args.t w) c.deref-in_default-cmp.ensures.value h)))
          c.read-in_default-cmp.ensures.wide;
    }
