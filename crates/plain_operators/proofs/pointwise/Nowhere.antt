-- The curve that is infinite everywhere.
use Rattle.std.specs.Prelude.{◌≡◌, pos, Bool, true, false, cond, List, [], ◌∷◌, ◌++◌}
use Rattle.std.proofs.Common.{ap, ap₂, ◌∙◌, refl, inl, subst, sym}
use Rattle.rational.specs.Rational.{ℚ, int, le_q}
use Rattle.rational.specs.Extended.{Ext}
use Rattle.rational.specs.declared.Extended.TheVariants.{Inf}
use Rattle.rational.proofs.Laws.{le_refl}
use Rattle.upp_curve.specs.declared.affine_segment.line.Piece.{Piece}
use Rattle.upp_curve.specs.declared.curve.Tail.TheVariants.{Infinite}
use Rattle.upp_curve.specs.affine_segment.Reading.{read, piece_in, nothing_at}
use Rattle.upp_curve.specs.Curve.{SpecCurve, cut, value_at}
use Rattle.upp_curve.specs.Curves.{IsCurve}
use Rattle.upp_curve.proofs.affine_segment.PieceIn.{nothing_read}

abbrev pub infinite_from : ℚ → SpecCurve
infinite_from x = record { pieces = nothing_at x ∷ []; tail = Infinite x }

is_curve_at_zero : IsCurve (infinite_from (int (pos 0)))
is_curve_at_zero = record {
  normal = record {
    raw = record { starts = (refl, tt); tail = record { nonneg = le_refl (int (pos 0)); starts = (le_refl (int (pos 0)), tt) } };
    rank_is_start = inl refl;
    no_merge = tt;
    tail = refl;
  };
  readable = (tt, tt, tt);
}

either : (b : Bool) → cond {A = Ext} b Inf Inf ≡ Inf
either true = refl
either false = refl

nowhere_values : (x t : ℚ) → value_at (infinite_from x) t ≡ Inf
unfolding value_at cut read piece_in
nowhere_values x t = ap (λ (v : Ext). cond (le_q t x) v Inf) (nothing_read x t) ∙ either (le_q t x)

-- as the code makes it
unfoldable made : List Piece → ℚ → SpecCurve
made ps rank = record { pieces = ps; tail = Infinite rank }

pub record IsNowhere (ps before : List Piece) (x rank : ℚ) : Type 0 where
  pub zero : x ≡ int (pos 0)
  pub at : rank ≡ int (pos 0)
  pub none : before ≡ []
  pub one : ps ≡ before ++ nothing_at x ∷ []

made_is : (ps before : List Piece) (x rank : ℚ) → IsNowhere ps before x rank → made ps rank ≡ infinite_from (int (pos 0))
unfolding made
made_is ps before x rank h = ap₂ made (h.one ∙ ap (λ zs. zs ++ nothing_at x ∷ []) h.none ∙ ap (λ a. nothing_at a ∷ []) h.zero) h.at

pub made_curve : (ps before : List Piece) (x rank : ℚ) → IsNowhere ps before x rank → IsCurve record { pieces = ps; tail = Infinite rank }
unfolding made
made_curve ps before x rank h = subst IsCurve (sym (made_is ps before x rank h)) is_curve_at_zero

pub made_values : (ps before : List Piece) (x rank t : ℚ) (c : SpecCurve) → IsNowhere ps before x rank → c ≡ record { pieces = ps; tail = Infinite rank } → value_at c t ≡ Inf
unfolding made
made_values ps before x rank t c h e = ap (λ k. value_at k t) (e ∙ made_is ps before x rank h) ∙ nowhere_values (int (pos 0)) t
