-- The normal form of a curve whose period begins and ends at a break; it is readable where the curve's numbers have room.
use Rattle.std.specs.Prelude.{◌≡◌, ℕ, ◌≤◌, pos, List, length, Option}
use Rattle.std.proofs.Common.{arith, sym, ap, ◌∙◌, refl, subst}
use Rattle.rational.specs.Rational.{ℚ, ◌+ℚ◌, ◌≤ℚ◌, ◌<ℚ◌, int}
use Rattle.rational.specs.Grid.{Whole}
use Rattle.rational.specs.Extended.{Ext, ◌+ₑ◌}
use Rattle.rational.specs.declared.Extended.TheVariants.{Fin}
use Rattle.rational.proofs.Laws.{le_of_lt, le_trans}
use Rattle.rational.proofs.Linear.{with4}
use Rattle.upp_curve.specs.declared.affine_segment.line.Line.{Line}
use Rattle.upp_curve.specs.declared.affine_segment.line.Piece.{Piece}
use Rattle.upp_curve.specs.affine_segment.Reading.{read}
use Rattle.upp_curve.specs.affine_segment.Values.{line_value}
use Rattle.upp_curve.proofs.affine_segment.PieceOrder.{each_map}
use Rattle.upp_curve.specs.Curve.{SpecCurve, value_at}
use Rattle.upp_curve.specs.Steady.{Repeats}
use Rattle.upp_curve.specs.Readable.{IsReadable}
use Rattle.upp_curve.specs.Unrolled.{upto}
use Rattle.upp_curve.proofs.Normal.{transfer, periodic}
use Rattle.upp_curve.proofs.Repeats.{repeated_rule}
use Rattle.upp_curve.proofs.Rules.{rule_extends}
use Rattle.upp_normal.specs.Normalising.{Turned, IsFormOf, IsOneLine, OnGrids, OnGridsUnlessLine}
use Rattle.upp_normal.specs.Room.{Room, many, PieceHasRoom, CycleHasRoom}
use Rattle.upp_normal.proofs.NormaliseCuts.{each_front}
use Rattle.upp_normal.proofs.NormaliseDivided.{cut_of, period_is, not_one_line}
use Rattle.upp_normal.proofs.NormaliseLeast.{share_some}
use Rattle.upp_normal.proofs.NormalisePeriods.{repeats_after}
use Rattle.upp_normal.proofs.NormaliseRoomy.{period_readable, share_within, share_less}
use Rattle.existence.proofs.curves.Shortest.{share, values, Shortest, shortest_of, part_repeats}
use Rattle.existence.proofs.curves.Lowest.{Lowest, lowest_of}

-- ---- a normal form with f's values, readable where `Fits` holds
pub record HasForm (f : ℚ → Ext) (Fits : Type 0) : Type 0 where
  pub curve : SpecCurve
  pub form : IsFormOf curve f
  pub readable : Fits → IsReadable curve

-- ---- the values
periodic_is : (ps : List Piece) (r d c t : ℚ) → value_at (periodic ps r d c) t ≡ values ps r d c t
unfolding value_at
periodic_is ps r d c t = refl

same_rule : (f g : ℚ → Ext) (s p q : ℚ) → ((t : ℚ) → f t ≡ g t) → Repeats g s p q → Repeats f s p q
same_rule f g s p q same R = record { rule = λ t h. same (t +ℚ p) ∙ R.rule t h ∙ ap (λ v. v +ₑ Fin q) (sym (same t)) }

-- the tail of a curve whose period begins and ends at a break is not one line
turning_line : (ps : List Piece) (first : ℕ) (r d c : ℚ) (f : ℚ → Ext) → Turned ps first r d c f → (l : Option Line) → ¬ ((t : ℚ) → r ≤ℚ t → values ps r d c t ≡ line_value l t)
turning_line ps first r d c f T l is =
    let K = cut_of ps r d T.cycle in
    let P = period_is ps r d c T.cycle T.break K in
    let R = subst (λ x. Repeats (values ps r d c) x d c) (sym K.at) (repeated_rule (read ps) r d c T.cycle.some) in
    not_one_line (values ps r d c) d c K.first K.rest T.cycle.some P R l (λ t h. is t (subst (λ x. x ≤ℚ t) K.at h))

-- where the fractions of f's period from some time on stand on the grids, unless f is one line from there, those of the curve do
pub turning_grids : (times heights : ℕ) (f : ℚ → Ext) (s : ℚ) (ps : List Piece) (first : ℕ) (r d c : ℚ) → Repeats f s d c → s ≤ℚ r → OnGridsUnlessLine times heights f s d c → Turned ps first r d c f
    → OnGrids times heights (values ps r d c) r d c
turning_grids times heights f s ps first r d c F low G T =
    let bent : ¬ (IsOneLine f s) = λ (l, is). turning_line ps first r d c f T l (λ t h. T.same t (le_trans T.cycle.nonneg h) ∙ is t (le_trans low h)) in
    let on = G bent in
    let up = λ (n : ℕ) (h : 1 ≤ n) (R : Repeats (values ps r d c) r (share d n) (share c n)).
    let e_some = le_of_lt (share_some d n h T.cycle.some) in
    rule_extends f s d c r (share d n) (share c n) F (transfer f (values ps r d c) r (share d n) (share c n) T.cycle.nonneg e_some (λ t k. sym (T.same t k)) R) T.cycle.some e_some in
    record { time = λ n h R. on.time n h (up n h R); value = λ n h R. on.value n h (up n h R) }

-- ---- the form
lowest_form : (ps : List Piece) (r d c : ℚ) (f : ℚ → Ext) → (first : ℕ) → Turned ps first r d c f → ((n : ℕ) → 2 ≤ n → ¬ (Repeats (values ps r d c) r (share d n) (share c n)))
    → (W : Lowest ps r d c (values ps r d c)) → IsFormOf (periodic W.pieces W.low d c) f
lowest_form ps r d c f first T least W =
    let g = value_at (periodic W.pieces W.low d c) in
    let C = W.is.cycle in
    -- what g repeats from its rank, the curve repeats from its own
    let up = λ (e v : ℚ) (h : int (pos 0) ≤ℚ e) (R : Repeats g W.low e v).
    repeats_after (values ps r d c) W.low r e v W.is.lower
    (transfer (values ps r d c) g W.low e v C.nonneg h (λ t k. sym (periodic_is W.pieces W.low d c t ∙ W.is.same t k)) R) in
    record {
      normal = record {
        raw = record { starts = C.starts; tail = record { nonneg = C.nonneg; some = C.some; starts = C.inside } };
        rank_is_start = C.has;
        no_merge = C.none;
        tail = record {
          least_period = λ n a R. least n a (up (share d n) (share c n) (le_of_lt (share_some d n (omega arith) C.some)) R);
          least_rank =
              each_map (λ p. p.x <ℚ W.low → ¬ (Repeats (values W.pieces W.low d c) p.x d c)) (λ p. p.x <ℚ W.low → ¬ (Repeats g p.x d c))
              (λ p h l R. h l (same_rule (values W.pieces W.low d c) g p.x d c (λ t. sym (periodic_is W.pieces W.low d c t)) R)) W.pieces W.is.least;
          not_one_line = λ l is.
              turning_line ps first r d c f T l (λ t h.
              sym (W.is.same t (le_trans T.cycle.nonneg h)) ∙ sym (periodic_is W.pieces W.low d c t) ∙ is t (le_trans W.is.lower h));
        };
      };
      same = λ t h. periodic_is W.pieces W.low d c t ∙ W.is.same t h ∙ T.same t h;
    }

-- ---- room for a share of the period
-- room for a curve, and the grids of its fractions
pub record CycleFits (ps : List Piece) (r d c : ℚ) : Type 0 where
  pub room : Room
  pub times : ℕ
  pub heights : ℕ
  pub has : CycleHasRoom room times heights ps r d c
  pub grids : OnGrids times heights (values ps r d c) r d c

part_room : (ps : List Piece) (r d c : ℚ) (S : Shortest ps r d c) (K : CycleFits ps r d c) → int (pos 0) <ℚ d
    → CycleHasRoom K.room K.times K.heights S.part.kept r (share d S.parts) (share c S.parts)
part_room ps r d c S K some =
    let m = K.room in
    let n = S.parts in
    let R = part_repeats ps r d c S in
    let less = share_less d n S.some (le_of_lt some) in
    let e = share d n in
    let end = m.end in
    let ends = K.has.ends in
    record {
      is = K.has.is;
      times_is = K.has.times_is;
      values_is = K.has.values_is;
      each = each_front (PieceHasRoom m 4) S.part.kept ps S.part.front K.has.each;
      move = record {
        time = subst (λ t. Whole t e) (sym K.has.times_is) (K.grids.time n S.some R);
        low = le_of_lt (share_some d n S.some some);
        height = subst (λ t. Whole t (share c n)) (sym K.has.values_is) (K.grids.value n S.some R);
        within = share_within (many m 1) c n S.some K.has.move.within;
      };
      ends = with4 r d e end (λ c. omega (arith, c.le, c.lt, c.same));
    }

-- ---- the whole
pub turning_form : (ps : List Piece) (first : ℕ) (r d c : ℚ) (f : ℚ → Ext) → Turned ps first r d c f → HasForm f (CycleFits ps r d c)
turning_form ps first r d c f T =
    let S = shortest_of ps r d c record { cycle = T.cycle; break = T.break } in
    let kept = S.part.kept in
    let e = share d S.parts in
    let u = share c S.parts in
    let D = S.part.turned in
    let there : Turned kept (length (upto r kept)) r e u f = record { cycle = D.cycle; break = D.break; first_is = D.first_is; same = λ t h. D.same t h ∙ T.same t h } in
    let W = lowest_of kept r e u D.cycle in
    record {
      curve = periodic W.pieces W.low e u;
      form = lowest_form kept r e u f (length (upto r kept)) there S.least W;
      readable = λ K. period_readable K.room K.times K.heights kept W.pieces r W.low e u (part_room ps r d c S K T.cycle.some) W.is.front W.is.cycle W.is.lower;
    }
