use Rattle.std.proofs.Common.{subst, inl, inr}
use Rattle.rational.proofs.Laws.{lt_irrefl}
use Rattle.min_plus.specs.Functions.{zero_q}
use Rattle.upp_curve.specs.Kinds.{bucket}
use Rattle.curve_library.specs.Causes.{OneNegative}
use Rattle.curve_lang.specs.Finding.{BucketFinds, zero_curve}
use Rattle.curve_lang.specs.Views.{found}
use Rattle.curve_lang.proofs.Kept.{bucket_found, zero_kept}
use Rattle.curve_lang.proofs.kinds.zero_found.Goals as goal

pub returns : goal.returns
returns c =
    let r = found c.kept_kind.result in
    let x = c.zero.result in
    let y = c.zero-2.result in
    let first = bucket_found (OneNegative x y) (bucket x y) c.bucket.result r c.bucket.ensures.made c.bucket.ensures.negative c.bucket.ensures.refused
    c.kept_kind.ensures in
    let second = subst (λ v. BucketFinds (OneNegative v y) (bucket v y) r) c.zero.ensures first in
    let third = subst (λ v. BucketFinds (OneNegative zero_q v) (bucket zero_q v) r) c.zero-2.ensures second in
    zero_kept (OneNegative zero_q zero_q) zero_curve r (λ n. elim n [ inl l ↦ lt_irrefl zero_q l | inr l ↦ lt_irrefl zero_q l ]) third
