-- A curve with its value at 0 set to another is one, where its tail stays as it is.
use Rattle.std.specs.Prelude.{◌≡◌, pos, List, [], ◌∷◌, None, Some}
use Rattle.std.proofs.Common.{sym, ap, ◌∙◌, subst}
use Rattle.rational.specs.Rational.{ℚ, ◌+ℚ◌, ◌/ℚ◌, ◌≤ℚ◌, ◌<ℚ◌, int}
use Rattle.rational.specs.Extended.{Ext}
use Rattle.rational.proofs.Quotients.{part_pos}
use Rattle.rational.proofs.Laws.{lt_le_trans, le_lt_trans, le_refl, le_of_lt}
use Rattle.upp_curve.specs.declared.affine_segment.line.Piece.{Piece}
use Rattle.upp_curve.specs.declared.curve.Tail.{Tail}
use Rattle.upp_curve.specs.declared.curve.Tail.TheVariants.{Periodic, Affine, Infinite}
use Rattle.upp_curve.specs.Curve.{SpecCurve, value_at, with_tail}
use Rattle.upp_curve.specs.Curves.{IsCurve}
use Rattle.upp_curve.specs.affine_segment.Reading.{read}
use Rattle.min_plus.specs.Functions.{zero_q}
use Rattle.upp_curve.specs.Steady.{Repeats, rank_of}
use Rattle.upp_curve.specs.affine_segment.Pieces.{Each, RisesFrom, StartsAtZero}
use Rattle.upp_curve.specs.Normal.{TailFits, TailNormal, IsNormal}
use Rattle.upp_curve.specs.Readable.{SumFitsAt, TailReadable}
use Rattle.subadd_closure.specs.Starting.{first_at, started_at, KeepsTail, IsStartedAt}
use Rattle.subadd_closure.proofs.Starts.{read_past, read_zero, starts_kept, each_kept, start_kept, merge_kept, line_kept, fits_kept, repeated_past, repeated_zero, repeats_on}

-- ---- values
past_by_tail : (v : Ext) (ps : List Piece) (tail : Tail) (F : ℚ → Ext) (t : ℚ) → StartsAtZero ps → TailFits ps tail → KeepsTail F tail
    → zero_q <ℚ t → with_tail (read (first_at v ps)) tail t ≡ with_tail (read ps) tail t
past_by_tail v ps (Periodic rank d c) F t z fits keeps h = repeated_past v ps z rank d c t keeps.0 fits.some h
past_by_tail v ps (Affine rank) F t z fits keeps h = read_past v ps t z h
past_by_tail v ps (Infinite rank) F t z fits keeps h = absurd keeps

zero_by_tail : (v : Ext) (ps : List Piece) (tail : Tail) (F : ℚ → Ext) → StartsAtZero ps → TailFits ps tail → KeepsTail F tail
    → with_tail (read (first_at v ps)) tail zero_q ≡ v
zero_by_tail v ps (Periodic rank d c) F z fits keeps = repeated_zero v ps z rank d c keeps.0 fits.some
zero_by_tail v ps (Affine rank) F z fits keeps = read_zero v ps z
zero_by_tail v ps (Infinite rank) F z fits keeps = absurd keeps

pub started_values : (v : Ext) (c : SpecCurve) → IsNormal c → KeepsTail (value_at (started_at v c)) c.tail
    → IsStartedAt v c (started_at v c)
unfolding value_at
started_values v c n keeps = record {
  zero = zero_by_tail v c.pieces c.tail (value_at (started_at v c)) n.raw.starts n.raw.tail keeps;
  past = λ t h. past_by_tail v c.pieces c.tail (value_at (started_at v c)) t n.raw.starts n.raw.tail keeps h;
}

-- ---- the normal form
fits_tail : (v : Ext) (ps : List Piece) (tail : Tail) → TailFits ps tail → TailFits (first_at v ps) tail
fits_tail v ps (Periodic rank d c) h = record { nonneg = h.nonneg; some = h.some; starts = each_kept (λ x. x <ℚ rank +ℚ d) v ps h.starts }
fits_tail v ps (Affine rank) h = record { nonneg = h.nonneg; starts = each_kept (λ x. x ≤ℚ rank) v ps h.starts }
fits_tail v ps (Infinite rank) h = record { nonneg = h.nonneg; starts = each_kept (λ x. x ≤ℚ rank) v ps h.starts }

module _ (f g : ℚ → Ext) (same : (t : ℚ) → zero_q <ℚ t → g t ≡ f t) (rank d c : ℚ) (some : zero_q <ℚ d) where
  -- no rule for f from a later start, so none for g
  later_none : (x : ℚ) (ps : List Piece) → zero_q ≤ℚ x → RisesFrom x ps
      → Each (λ p. p.x <ℚ rank → ¬ (Repeats f p.x d c)) ps → Each (λ p. p.x <ℚ rank → ¬ (Repeats g p.x d c)) ps
  later_none x [] low r h = tt
  later_none x (p ∷ ps) low r h = (
    (λ early rule. h.0 early (repeats_on f g p.x d c same (le_lt_trans low r.0) some rule)),
    later_none p.x ps (le_of_lt (le_lt_trans low r.0)) r.1 h.1,
  )

  none_before : (v : Ext) (ps : List Piece) → StartsAtZero ps → ¬ (Repeats g zero_q d c)
      → Each (λ p. p.x <ℚ rank → ¬ (Repeats f p.x d c)) ps → Each (λ p. p.x <ℚ rank → ¬ (Repeats g p.x d c)) (first_at v ps)
  none_before v [] z none h = absurd z
  none_before v (p ∷ ps) z none h = (
    (λ early rule. none (subst (λ y. Repeats g y d c) z.0 rule)),
    later_none p.x ps (subst (λ y. zero_q ≤ℚ y) (sym z.0) (le_refl zero_q)) z.1 h.1,
  )

normal_by_tail : (v : Ext) (ps : List Piece) (tail : Tail) (f g : ℚ → Ext) → StartsAtZero ps → TailFits ps tail
    → ((t : ℚ) → zero_q <ℚ t → g t ≡ f t) → KeepsTail g tail → TailNormal ps tail f → TailNormal (first_at v ps) tail g
normal_by_tail v ps (Periodic rank d c) f g z fits same (late, none) h = record {
  least_period = λ n m rule. h.least_period n m (repeats_on f g rank (d /ℚ int (pos n)) (c /ℚ int (pos n)) same late (part_pos d n fits.some m) rule);
  least_rank = none_before f g same rank d c fits.some v ps z none h.least_rank;
  not_one_line = λ l line. h.not_one_line l (λ t k. sym (same t (lt_le_trans late k)) ∙ line t k);
}
normal_by_tail v ps (Affine rank) f g z fits same keeps h = λ e. h (sym (line_kept v ps) ∙ e)
normal_by_tail v ps (Infinite rank) f g z fits same keeps h = absurd keeps

readable_by_tail : (v : Ext) (ps : List Piece) (tail : Tail) (F : ℚ → Ext) → StartsAtZero ps → KeepsTail F tail → TailReadable ps tail
    → TailReadable (first_at v ps) tail
readable_by_tail v ps (Periodic rank d c) F z (late, none) h = record {
  end = h.end;
  rate = h.rate;
  next = subst (λ y. SumFitsAt y c) (sym (read_past v ps rank z late)) h.next;
  lines = fits_kept v (Some (rank +ℚ d)) ps h.lines;
}
readable_by_tail v ps (Affine rank) F z keeps h = fits_kept v None ps h
readable_by_tail v ps (Infinite rank) F z keeps h = absurd keeps

pub started_curve : (v : Ext) (c : SpecCurve) → IsCurve c → KeepsTail (value_at (started_at v c)) c.tail → IsCurve (started_at v c)
started_curve v c h keeps =
    let n = h.normal in
    record {
      normal = record {
        raw = record { starts = starts_kept v c.pieces n.raw.starts; tail = fits_tail v c.pieces c.tail n.raw.tail };
        rank_is_start = start_kept v (rank_of c.tail) c.pieces n.rank_is_start;
        no_merge = merge_kept v c.pieces n.no_merge;
        tail = normal_by_tail v c.pieces c.tail (value_at c) (value_at (started_at v c)) n.raw.starts n.raw.tail
            (started_values v c n keeps).past keeps n.tail;
      };
      readable = readable_by_tail v c.pieces c.tail (value_at (started_at v c)) n.raw.starts keeps h.readable;
    }

-- ---- made of its fields
pub start_is : (v : Ext) (c : SpecCurve) (ps qs : List Piece) (tail : Tail) → ps ≡ first_at v qs → qs ≡ c.pieces → tail ≡ c.tail
    → (let d : SpecCurve = record { pieces = ps; tail = tail } in d ≡ started_at v c)
start_is v c ps qs tail e g h =
    let first = λ (y : List Piece). let d : SpecCurve = record { pieces = y; tail = tail } in d in
    let second = λ (u : Tail). let d : SpecCurve = record { pieces = first_at v c.pieces; tail = u } in d in
    ap first (e ∙ ap (first_at v) g) ∙ ap second h
