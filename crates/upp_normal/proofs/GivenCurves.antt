-- The last start tells of all of them, since starts rise.
use Rattle.std.specs.Prelude.{◌≡◌, ◌-◌, ◌↔◌, pos, Bool, true, false, not, IsTrue, List, [], ◌∷◌, length, slice_index_or as get_or}
use Rattle.std.proofs.Common.{sym, ap, ◌∙◌, refl, subst}
use Rattle.rational.specs.Rational.{ℚ, ◌+ℚ◌, ◌*ℚ◌, ◌≤ℚ◌, ◌<ℚ◌, int}
use Rattle.rational.proofs.Laws.{le_lt_trans, le_trans, not_le_of_lt, one_mul}
use Rattle.upp_curve.specs.declared.affine_segment.line.Piece.{Piece}
use Rattle.upp_curve.specs.Normal.{FitsPeriod, FitsRank}
use Rattle.upp_curve.specs.affine_segment.Pieces.{StartsAtZero}
use Rattle.upp_curve.specs.Steady.{last_of}
use Rattle.rational.proofs.Compared.{iff_none, iff_some, not_less_out}
use Rattle.upp_curve.proofs.affine_segment.PieceOrder.{each_map}
use Rattle.upp_normal.proofs.NormaliseLists.{last_is_last}
use Rattle.upp_limits.proofs.OwnGauge.{last_each, last_is}

-- a rank below 0
pub no_rank : (ps : List Piece) (rank zero : ℚ) → zero ≡ int (pos 0) → rank <ℚ zero → IsTrue false ↔ FitsRank ps rank
no_rank ps rank zero e l = iff_none (λ h. not_le_of_lt (subst (λ x. rank <ℚ x) e l) h.nonneg)

pub no_period : (ps : List Piece) (rank period zero : ℚ) → zero ≡ int (pos 0) → rank <ℚ zero → IsTrue false ↔ FitsPeriod ps rank period
no_period ps rank period zero e l = iff_none (λ h. not_le_of_lt (subst (λ x. rank <ℚ x) e l) h.nonneg)

last_found : (p : Piece) (ps : List Piece) (last : Piece) → last ≡ get_or (p ∷ ps) (length (p ∷ ps) - 1) last → last ≡ last_of p ps
last_found p ps last e = e ∙ last_is p ps last

pub rank_told : (ps : List Piece) (rank : ℚ) (last : Piece) (b : Bool) → StartsAtZero ps → int (pos 0) ≤ℚ rank → last ≡ get_or ps (length ps - 1) last → (IsTrue b ↔ (rank <ℚ last.x))
    → IsTrue (not b) ↔ FitsRank ps rank
rank_told [] rank last b s low e t = absurd s
rank_told (p ∷ ps) rank last true s low e t =
    let late : rank <ℚ (last_of p ps).x = subst (λ q. rank <ℚ q.x) (last_found p ps last e) (t.0 refl) in
    iff_none (λ h. not_le_of_lt late (last_each (λ q. q.x ≤ℚ rank) p ps h.starts))
rank_told (p ∷ ps) rank last false s low e t =
    let early : (last_of p ps).x ≤ℚ rank = subst (λ q. q.x ≤ℚ rank) (last_found p ps last e) (not_less_out false rank last.x t refl) in
    iff_some record { nonneg = low; starts = each_map (λ z. z.x ≤ℚ (last_of p ps).x) (λ z. z.x ≤ℚ rank) (λ z l. le_trans l early) (p ∷ ps) (last_is_last p ps s.1) }

pub period_told : (ps : List Piece) (rank period : ℚ) (last : Piece) (b : Bool) → StartsAtZero ps → int (pos 0) ≤ℚ rank → int (pos 0) <ℚ period → last ≡ get_or ps (length ps - 1) last
    → (IsTrue b ↔ (last.x <ℚ rank +ℚ int (pos 1) *ℚ period)) → IsTrue b ↔ FitsPeriod ps rank period
period_told [] rank period last b s low some e t = absurd s
period_told (p ∷ ps) rank period last b s low some e t =
    let end = rank +ℚ period in
    let one : rank +ℚ int (pos 1) *ℚ period ≡ end = ap (λ x. rank +ℚ x) (one_mul period) in
    let found = last_found p ps last e in (
      λ h.
          let early : (last_of p ps).x <ℚ end = subst (λ q. q.x <ℚ end) found (subst (λ x. last.x <ℚ x) one (t.0 h)) in
          record { nonneg = low; some = some; starts = each_map (λ z. z.x ≤ℚ (last_of p ps).x) (λ z. z.x <ℚ end) (λ z l. le_lt_trans l early) (p ∷ ps) (last_is_last p ps s.1) },
      λ h. t.1 (subst (λ x. last.x <ℚ x) (sym one) (subst (λ q. q.x <ℚ end) (sym found) (last_each (λ q. q.x <ℚ end) p ps h.starts))),
    )
