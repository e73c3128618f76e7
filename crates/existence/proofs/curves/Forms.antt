-- The normal form of a curve in any form, and that it is a curve where the numbers of the given one have room.
use Rattle.std.specs.Prelude.{◌≡◌, ℕ, ◌-◌, ◌<◌, ◌^◌, pos, List, [], ◌∷◌, ◌++◌, length, Option, None, Some}
use Rattle.std.proofs.Common.{sym, ap, ◌∙◌, refl, subst, inl, inr, get_or}
use Rattle.rational.specs.Rational.{ℚ, ◌+ℚ◌, ◌≤ℚ◌, int}
use Rattle.rational.specs.Extended.{Ext}
use Rattle.rational.proofs.Laws.{le_or_lt}
use Rattle.upp_curve.specs.declared.affine_segment.line.Line.{Line}
use Rattle.upp_curve.specs.declared.affine_segment.line.Piece.{Piece}
use Rattle.upp_curve.specs.affine_segment.Pieces.{StartsAtZero}
use Rattle.upp_curve.specs.affine_segment.Reading.{read}
use Rattle.upp_curve.proofs.affine_segment.PieceOrder.{zero_some}
use Rattle.min_plus.specs.Functions.{zero_q}
use Rattle.upp_curve.specs.declared.curve.Tail.{Tail}
use Rattle.upp_curve.specs.declared.curve.Tail.TheVariants.{Periodic, Affine, Infinite}
use Rattle.upp_curve.specs.Curve.{SpecCurve, repeated, value_at, HasSameValues}
use Rattle.upp_curve.specs.Curves.{IsCurve}
use Rattle.upp_curve.specs.Kinds.{flat}
use Rattle.upp_curve.specs.Normal.{IsRaw, IsNormal, NoMerge, FitsPeriod}
use Rattle.upp_curve.specs.Readable.{EachFits}
use Rattle.upp_curve.specs.Unrolled.{upto}
use Rattle.upp_curve.proofs.ByTail.{value_of}
use Rattle.upp_curve.proofs.CurveShapes.{curve}
use Rattle.upp_curve.proofs.OneForm.{affine, infinite}
use Rattle.upp_curve.proofs.Repeats.{repeated_rule}
use Rattle.upp_limits.specs.Limits.{own_end, own_sizes, own_gauge}
use Rattle.upp_limits.specs.Sized.{grid_of}
use Rattle.upp_limits.specs.declared.own_window.OwnNumbers.{OwnNumbers}
use Rattle.upp_normal.specs.Normalising.{IsMerged, IsTwoPeriods, IsLine, IsFront, OnGridsUnlessLine, TailOnGrids, ended, first_start, past, second_copy}
use Rattle.upp_normal.specs.Room.{Room, PiecesHaveRoom, TwoHaveRoom, TurnHasRoom, TailHasRoom}
use Rattle.upp_normal.proofs.NormaliseCuts.{front_self, front_upto}
use Rattle.upp_normal.proofs.NormaliseForm.{merged_cons, two_periods_of, grids_through, infinite_form, affine_form, ended_starts, ended_reads, turning_grids}
use Rattle.upp_normal.proofs.NormaliseGrids.{merge_of}
use Rattle.upp_normal.proofs.NormaliseOwn.{own_found}
use Rattle.upp_normal.proofs.NormalisePeriods.{two_periods_are}
use Rattle.upp_normal.proofs.NormaliseRank.{Last, last_is}
use Rattle.upp_normal.proofs.NormaliseShape.{line_for_ever, line_before, turns_at, start_late}
use Rattle.upp_normal.proofs.NormaliseWhole.{infinite_curve, affine_curve, pieces_readable, two_room, turn_room, merged_room, more_room, longer_room, both_room, ended_room}
use Rattle.existence.proofs.curves.Periods.{HasForm, turning_form}

-- ---- the form of another function with the same values, and of other numbers
through : {F G : Type 0} (f g : ℚ → Ext) → ((t : ℚ) → int (pos 0) ≤ℚ t → f t ≡ g t) → (G → F) → HasForm f F → HasForm g G
through f g same fits H = record {
  curve = H.curve;
  form = record { normal = H.form.normal; same = λ t h. H.form.same t h ∙ same t h };
  readable = λ k. H.readable (fits k);
}

-- ---- pieces that go on with their last line
unending : (ps : List Piece) → StartsAtZero ps → NoMerge ps → HasForm (read ps) (EachFits None ps)
unending ps zero none =
    let last = get_or ps (length ps - 1) (flat zero_q zero_q) in
    by_line (last_is ps (flat zero_q zero_q) zero none (zero_some ps zero)) last.line refl
  where
    by_line : {last : Piece} → Last ps last → (l : Option Line) → last.line ≡ l → HasForm (read ps) (EachFits None ps)
    by_line {last} L None e = record { curve = infinite ps last.x; form = infinite_form ps last zero none L e; readable = λ F. (infinite_curve ps last zero none L F e).readable }
    by_line {last} L (Some l) e = record { curve = affine ps last.x; form = affine_form ps last l zero none L e; readable = λ F. (affine_curve ps last l zero none L F e).readable }

-- ---- a merge of a whole list
abbrev MergedTo : List Piece → List Piece → Type 0
MergedTo items [] = Unit {0}
MergedTo items (p ∷ rest) = (kept : List Piece) × (items ≡ p ∷ kept) × IsMerged p rest kept

merged_to : (items ps : List Piece) → MergedTo items ps → (p : Piece) (rest : List Piece) → ps ≡ p ∷ rest → (kept : List Piece) × (items ≡ p ∷ kept) × IsMerged p rest kept
merged_to items ps M p rest e = subst (MergedTo items) e M

of_pieces : (ps : List Piece) → StartsAtZero ps → HasForm (read ps) ((m : Room) × PiecesHaveRoom m 4 ps)
of_pieces [] zero = absurd zero
of_pieces (p ∷ ps) zero =
    let (kept, K) = merge_of p ps zero.1 in
    let M = merged_cons p ps kept (p ∷ kept) zero.0 refl K in
    through (read (p ∷ kept)) (read (p ∷ ps)) (λ t h. M.reads t)
    (λ (m, R). pieces_readable m (p ∷ kept) (merged_room m (p ∷ ps) (p ∷ kept) zero (merged_to (p ∷ kept) (p ∷ ps) (kept, refl, K)) R))
    (unending (p ∷ kept) M.starts M.none)

-- ---- two periods
record TwoFit (ps : List Piece) (r d c : ℚ) : Type 0 where
  room : Room
  times : ℕ
  heights : ℕ
  has : TwoHaveRoom room times heights ps r d c
  grids : OnGridsUnlessLine times heights (repeated (read ps) r d c) r d c

-- the first pieces of them alone
of_front : (ps kept : List Piece) (r d c : ℚ) → IsTwoPeriods ps r d c → IsFront kept ps → IsLine kept (repeated (read ps) r d c) → HasForm (repeated (read ps) r d c) (TwoFit ps r d c)
of_front ps kept r d c W F L =
    through (read kept) (repeated (read ps) r d c) L.reads (λ k. pieces_readable k.room kept (two_room k.room k.times k.heights ps kept r d c k.has W F)) (unending kept L.starts L.none)

-- a period from their first break past the rank
of_break : (ps : List Piece) (r d c x : ℚ) → IsTwoPeriods ps r d c → Some x ≡ first_start (past r ps) → x ≤ℚ r +ℚ d → HasForm (repeated (read ps) r d c) (TwoFit ps r d c)
of_break ps r d c x W s l =
    let f = repeated (read ps) r d c in
    let kept = upto (x +ℚ d) ps in
    let T = turns_at ps r d c x (r +ℚ d) (x +ℚ d) (length (upto x ps)) kept W s refl l refl refl refl in
    let H = turning_form kept (length (upto x ps)) x d c f T in
    through f f (λ t h. refl)
    (λ k. record {
      room = k.room;
      times = k.times;
      heights = k.heights;
      has = turn_room k.room k.times k.heights ps kept r x d d c c k.has (front_upto (x +ℚ d) ps) l refl refl;
      grids = turning_grids k.times k.heights f r kept (length (upto x ps)) x d c (repeated_rule (read ps) r d c W.some) (start_late ps r x s) k.grids T;
    }) H

of_two : (ps : List Piece) (r d c : ℚ) → IsTwoPeriods ps r d c → HasForm (repeated (read ps) r d c) (TwoFit ps r d c)
of_two ps r d c W = by_start (first_start (past r ps)) refl
  where
    by_start : (o : Option ℚ) → o ≡ first_start (past r ps) → HasForm (repeated (read ps) r d c) (TwoFit ps r d c)
    by_start None s = of_front ps ps r d c W (front_self ps) (line_for_ever ps r d c W s)
    by_start (Some x) s = elim (le_or_lt x (r +ℚ d)) [
      | inl l ↦ of_break ps r d c x W s l
      | inr l ↦ of_front ps (upto x ps) r d c W (front_upto x ps) (line_before ps r d c x (r +ℚ d) (upto x ps) W s refl l refl)
    ]

-- ---- a periodic curve in any form
record TurnFit (ps : List Piece) (r d c : ℚ) : Type 0 where
  room : Room
  times : ℕ
  heights : ℕ
  has : TurnHasRoom room times heights ps r d c
  grids : OnGridsUnlessLine times heights (repeated (read ps) r d c) r d c

abbrev longer : ℚ → ℚ → ℚ → List Piece → List Piece
longer r d c [] = []
longer r d c (p ∷ ps) = p ∷ (ps ++ second_copy p ps r d c)

of_periodic : (ps : List Piece) (r d c : ℚ) → StartsAtZero ps → FitsPeriod ps r d → HasForm (repeated (read ps) r d c) (TurnFit ps r d c)
of_periodic [] r d c zero F = absurd zero
of_periodic (p ∷ ps) r d c zero F =
    let early : p.x ≤ℚ r = subst (λ x. x ≤ℚ r) (sym zero.0) F.nonneg in
    let two = two_periods_are p ps r d c F.some early zero.1 F.starts.1 in
    let more = ps ++ second_copy p ps r d c in
    let (kept, K) = merge_of p more two.rises in
    let M = merged_cons p more kept (p ∷ kept) zero.0 refl K in
    let W = two_periods_of p ps (p ∷ more) (p ∷ kept) r d c zero F.nonneg F.some F.starts refl M in
    let is = λ (q : Piece) (qs : List Piece) (e : p ∷ ps ≡ q ∷ qs). ap (longer r d c) e in
    through (repeated (read (p ∷ kept)) r d c) (repeated (read (p ∷ ps)) r d c) (λ t h. W.same t)
    (λ k. record {
      room = k.room;
      times = k.times;
      heights = k.heights;
      has = both_room k.room k.times k.heights (p ∷ ps) (p ∷ more) (p ∷ kept) r d c k.has
          (longer_room k.room k.times k.heights (p ∷ ps) (p ∷ more) r d c k.has zero F is) (zero.0, two.rises) (merged_to (p ∷ kept) (p ∷ more) (kept, refl, K));
      grids = grids_through k.times k.heights (repeated (read (p ∷ kept)) r d c) (repeated (read (p ∷ ps)) r d c) r d c W.same k.grids;
    }) (of_two (p ∷ kept) r d c W.two)

-- ---- any curve
record CurveFits (c : SpecCurve) : Type 0 where
  times : ℕ
  heights : ℕ
  grids : TailOnGrids times heights c.tail (value_at c)
  room : TailHasRoom times heights c.pieces c.tail

raw_form : (ps : List Piece) (tail : Tail) → IsRaw (curve ps tail) → HasForm (value_at (curve ps tail)) (CurveFits (curve ps tail))
raw_form ps (Affine r) raw =
    through (read ps) (value_at (curve ps (Affine r))) (λ t h. value_of (curve ps (Affine r)) ps (Affine r) (Affine r) t refl refl)
    (λ k. (k.room.0, more_room k.room.0 ps k.room.1)) (of_pieces ps raw.starts)
raw_form ps (Infinite r) raw =
    through (read (ended ps r)) (value_at (curve ps (Infinite r)))
    (λ t h. ended_reads ps r t raw.starts h ∙ value_of (curve ps (Infinite r)) ps (Infinite r) (Infinite r) t refl refl)
    (λ k. (k.room.0, ended_room k.room.0 ps r k.room.1 raw.starts raw.tail.nonneg)) (of_pieces (ended ps r) (ended_starts ps r raw.starts raw.tail.nonneg))
raw_form ps (Periodic r d c) raw =
    let f = value_at (curve ps (Periodic r d c)) in
    let same = λ (t : ℚ). value_of (curve ps (Periodic r d c)) ps (Periodic r d c) (Periodic r d c) t refl refl in
    through (repeated (read ps) r d c) f (λ t h. same t)
    (λ k. record { room = k.room.0; times = k.times; heights = k.heights; has = k.room.1; grids = grids_through k.times k.heights (repeated (read ps) r d c) f r d c same k.grids })
    (of_periodic ps r d c raw.starts raw.tail)

form : (c : SpecCurve) → IsRaw c → HasForm (value_at c) (CurveFits c)
form c raw = raw_form c.pieces c.tail raw

-- ---- the laws
pub normal_form : (c : SpecCurve) → IsRaw c → (d : SpecCurve) × IsNormal d × HasSameValues d c
normal_form c raw = let H = form c raw in (H.curve, H.form.normal, H.form.same)

pub curve_with_room : (c : SpecCurve) (times heights : ℕ) → IsRaw c → TailOnGrids times heights c.tail (value_at c) → TailHasRoom times heights c.pieces c.tail → (d : SpecCurve) × IsCurve d × HasSameValues d c
curve_with_room c times heights raw grids room =
    let H = form c raw in
    (H.curve, record { normal = H.form.normal; readable = H.readable record { times = times; heights = heights; grids = grids; room = room } }, H.form.same)

pub own_curve : (c : SpecCurve) → IsRaw c → own_gauge c < 2 ^ 120 → (d : SpecCurve) × IsCurve d × HasSameValues d c
own_curve c raw small =
    let o : OwnNumbers = record { end = own_end c; gauge = own_gauge c; times = (own_sizes c).dt; values = grid_of (own_sizes c) } in
    let found = own_found c.pieces c.pieces c.tail o raw refl record { end = refl; gauge = refl; times = refl; values = refl } small in
    curve_with_room c o.times o.values raw found.grids found.room
