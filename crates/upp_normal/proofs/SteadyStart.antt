-- From when on a curve repeats, by the last of its pieces.
use Rattle.std.specs.Prelude.{◌≡◌, ◌-◌, pos, Bool, false, true, List, [], ◌∷◌, length, Option, Some, None, IfNone}
use Rattle.std.proofs.Common.{sym, ap, ◌∙◌, refl, subst, get_or}
use Rattle.rational.specs.Rational.{ℚ, ◌+ℚ◌, int}
use Rattle.rational.specs.Ratio.{SumFits}
use Rattle.rational.proofs.Laws.{add_cancel, antisym}
use Rattle.upp_curve.specs.declared.affine_segment.line.Piece.{Piece}
use Rattle.upp_curve.specs.declared.curve.Tail.{Tail}
use Rattle.upp_curve.specs.declared.curve.Tail.TheVariants.{Periodic, Affine, Infinite}
use Rattle.upp_curve.specs.Curve.{SpecCurve}
use Rattle.upp_curve.specs.Curves.{IsCurve}
use Rattle.upp_curve.specs.Normal.{IsRaw}
use Rattle.upp_limits.specs.Periods.{own_period}
use Rattle.upp_curve.specs.Readable.{EachFits}
use Rattle.upp_curve.specs.affine_segment.Fits.{LineFitsAt}
use Rattle.upp_limits.specs.Seen.{RankLineFits}
use Rattle.upp_curve.specs.Steady.{last_of, later_unless, rank_of, steady}
use Rattle.upp_limits.specs.Limits.{own_end}
use Rattle.upp_limits.specs.OwnWindow.{affine_keeps, infinite_keeps}
use Rattle.upp_limits.proofs.OwnGauge.{last_is, last_place, end_place}

-- the last of a curve's pieces
pub record IsLast (c : SpecCurve) (ps : List Piece) (last : Piece) : Type 0 where
  pub pieces : ps ≡ c.pieces
  pub place : last ≡ get_or ps (length ps - 1) last

pub periodic_steady : (c : SpecCurve) (rank period rise : ℚ) → c.tail ≡ Periodic rank period rise → rank ≡ steady c
unfolding steady
periodic_steady c rank period rise e =
    let P : Tail → Type 0 = λ tail. rank ≡ steady record { pieces = c.pieces; tail = tail } in
    subst P (sym e) refl

affine_at : (ps : List Piece) (rank : ℚ) (last : Piece) → IsRaw record { pieces = ps; tail = Affine rank } → last ≡ get_or ps (length ps - 1) last
    → later_unless (affine_keeps last rank) rank ≡ steady record { pieces = ps; tail = Affine rank }
unfolding own_end own_period
affine_at ps rank last raw e = add_cancel _ _ (int (pos 1)) (end_place ps (Affine rank) last raw e)

infinite_at : (ps : List Piece) (rank : ℚ) (last : Piece) → IsRaw record { pieces = ps; tail = Infinite rank } → last ≡ get_or ps (length ps - 1) last
    → later_unless (infinite_keeps last rank) rank ≡ steady record { pieces = ps; tail = Infinite rank }
unfolding own_end own_period
infinite_at ps rank last raw e = add_cancel _ _ (int (pos 1)) (end_place ps (Infinite rank) last raw e)

pub affine_steady : (c : SpecCurve) (ps : List Piece) (last : Piece) (rank : ℚ) → IsCurve c → IsLast c ps last → c.tail ≡ Affine rank
    → later_unless (affine_keeps last rank) rank ≡ steady c
affine_steady c ps last rank is h e =
    let P : Tail → Type 0 = λ tail. IsRaw record { pieces = c.pieces; tail = tail } in
    let Q : Tail → Type 0 = λ tail. later_unless (affine_keeps last rank) rank ≡ steady record { pieces = c.pieces; tail = tail } in
    let place : last ≡ get_or c.pieces (length c.pieces - 1) last = subst (λ xs. last ≡ get_or xs (length xs - 1) last) h.pieces h.place in
    subst Q (sym e) (affine_at c.pieces rank last (subst P e is.normal.raw) place)

pub infinite_steady : (c : SpecCurve) (ps : List Piece) (last : Piece) (rank : ℚ) → IsCurve c → IsLast c ps last → c.tail ≡ Infinite rank
    → later_unless (infinite_keeps last rank) rank ≡ steady c
infinite_steady c ps last rank is h e =
    let P : Tail → Type 0 = λ tail. IsRaw record { pieces = c.pieces; tail = tail } in
    let Q : Tail → Type 0 = λ tail. later_unless (infinite_keeps last rank) rank ≡ steady record { pieces = c.pieces; tail = tail } in
    let place : last ≡ get_or c.pieces (length c.pieces - 1) last = subst (λ xs. last ≡ get_or xs (length xs - 1) last) h.pieces h.place in
    subst Q (sym e) (infinite_at c.pieces rank last (subst P e is.normal.raw) place)

-- the last line of a curve is readable at its start
last_reads : (next : Option ℚ) (p : Piece) (ps : List Piece) → EachFits next (p ∷ ps) → LineFitsAt (last_of p ps).x (last_of p ps).line
last_reads next p [] h = h.0
last_reads next p (q ∷ qs) h = last_reads next q qs h.2

line_at : (ps : List Piece) (rank : ℚ) (last : Piece) → IsCurve record { pieces = ps; tail = Affine rank } → last ≡ get_or ps (length ps - 1) last → RankLineFits last rank
line_at [] rank last is e = absurd is.normal.raw.starts
line_at (p ∷ ps) rank last is e = λ k.
    let same : last ≡ last_of p ps = e ∙ last_is p ps last in
    let reads = subst (λ q. LineFitsAt q.x q.line) (sym same) (last_reads None p ps is.readable) in
    subst (λ x. LineFitsAt x last.line) (antisym (last_place (p ∷ ps) (Affine rank) last is.normal.raw e, k)) reads

pub affine_line : (c : SpecCurve) (ps : List Piece) (last : Piece) (rank : ℚ) → IsCurve c → IsLast c ps last → c.tail ≡ Affine rank → RankLineFits last rank
affine_line c ps last rank is h e =
    let P : Tail → Type 0 = λ tail. IsCurve record { pieces = c.pieces; tail = tail } in
    let place : last ≡ get_or c.pieces (length c.pieces - 1) last = subst (λ xs. last ≡ get_or xs (length xs - 1) last) h.pieces h.place in
    line_at c.pieces rank last (subst P e is) place

-- where the time is one after the rank and does not fit, said of the curve
pub steady_none : (r : Option ℚ) (c : SpecCurve) (keeps : Bool) (rank : ℚ) → rank_of c.tail ≡ rank → later_unless keeps rank ≡ steady c
    → IfNone r ((keeps ≡ false) × ¬ (SumFits rank (int (pos 1))))
    → IfNone r ((steady c ≡ rank_of c.tail +ℚ int (pos 1)) × ¬ (SumFits (rank_of c.tail) (int (pos 1))))
steady_none (Some t) c keeps rank e s h = tt
steady_none None c keeps rank e s h =
    (sym s ∙ ap (λ b. later_unless b rank) h.0 ∙ ap (λ x. x +ℚ int (pos 1)) (sym e), λ f. h.1 (subst (λ x. SumFits x (int (pos 1))) e f))

-- no answer is none
pub not_answered : false ≡ true → ⊥
not_answered e = cc
