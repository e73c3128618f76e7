-- The least rank of a periodic curve, one piece at a time.
use Rattle.std.specs.Prelude.{◌≡◌, ℕ, zero, suc, ◌-◌, List, length}
use Rattle.std.proofs.Common.{arith, refl, subst, inl, inr, get_or}
use Rattle.rational.specs.Rational.{ℚ, ◌+ℚ◌}
use Rattle.rational.specs.Extended.{Ext}
use Rattle.upp_curve.specs.declared.affine_segment.line.Piece.{Piece}
use Rattle.upp_curve.specs.affine_segment.Reading.{read}
use Rattle.upp_curve.specs.Curve.{repeated}
use Rattle.upp_curve.specs.Kinds.{flat}
use Rattle.upp_curve.specs.Unrolled.{upto}
use Rattle.upp_normal.specs.Normalising.{IsCycle, IsLowest, cut_last}
use Rattle.upp_normal.proofs.NormaliseRank.{LowersOn, lowers_begins, lowers_more, lowers_to_zero, lowers_no_more, lowest_is}
use Rattle.min_plus.specs.Functions.{zero_q}
use Rattle.existence.proofs.curves.Deciding.{repeats_or}

-- the pieces and the rank
pub record Lowest (given : List Piece) (rank d c : ℚ) (f : ℚ → Ext) : Type 0 where
  pub pieces : List Piece
  pub low : ℚ
  pub is : IsLowest given pieces low d c rank f

lower : (first : ℕ) (given ps : List Piece) (low d c rank : ℚ) (f : ℚ → Ext) → LowersOn given ps first low d c rank f → Lowest given rank d c f
lower zero given ps low d c rank f K = record { pieces = ps; low = low; is = lowest_is given ps zero low d c rank f K (lowers_to_zero given ps zero low d c rank f K refl) }
lower (suc n) given ps low d c rank f K =
    let z = flat zero_q zero_q in
    let p = get_or ps (suc n - 1) z in
    let last = get_or ps (length ps - 1) z in
    elim (repeats_or p last d c) [
      | inr apart ↦ record { pieces = ps; low = low; is = lowers_no_more given ps (suc n) low d c rank f z K (omega arith) ps (refl, apart) }
      | inl I ↦
          let new = cut_last ps last.x (p.x +ℚ d) in
          let next : suc n - 1 ≡ n = omega arith in
          lower n given new p.x d c rank f
          (subst (λ m. LowersOn given new m p.x d c rank f) next (lowers_more given ps new (suc n) low d c rank p.x f z K (omega arith) (refl, I, refl)))
    ]

pub lowest_of : (ps : List Piece) (rank d c : ℚ) → IsCycle ps rank d → Lowest ps rank d c (repeated (read ps) rank d c)
lowest_of ps rank d c C = lower (length (upto rank ps)) ps ps rank d c rank (repeated (read ps) rank d c) (lowers_begins ps (length (upto rank ps)) rank d c C refl)
