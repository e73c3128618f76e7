-- The window of the deconvolution: what is read of the pairs with their marks from `reach` on, moved left and turned over.
use Rattle.std.specs.Prelude.{◌≡◌, ◌⊎◌, ℕ, ◌*◌, ◌≤◌, pos, List, [], ◌∷◌, map, Option, Some, None, Result, Ok, Err, IfOk, Vec}
use native.Mathlib.Nat.{dvd-mul_left, dvd-mul_right, dvd_trans, dvd_refl, mul-le-mul_left, mul-le-mul_right}
use Rattle.std.proofs.Common.{arith, sym, ap, ◌∙◌, refl, subst, inl, inr, Global}
use Rattle.rational.specs.Rational.{ℚ, ◌+ℚ◌, ◌-ℚ◌, ◌*ℚ◌, ◌≤ℚ◌, ◌<ℚ◌, neg_ℚ, int}
use Rattle.rational.specs.Ratio.{SumFits}
use Rattle.rational.specs.Grid.{Whole}
use Rattle.rational.specs.Extended.{Ext, ◌≤ₑ◌, ◌<ₑ◌, ◌-ₑ◌}
use Rattle.rational.specs.declared.Extended.TheVariants.{Fin, Inf}
use Rattle.rational.proofs.Grid.{whole_sub, whole_add, whole_neg, whole_weaken, within_neg, within_nonneg}
use Rattle.rational.proofs.Integers.{nat_nonneg}
use Rattle.rational.proofs.Sizes.{sum_on_grid}
use Rattle.rational.proofs.Linear.{with2, with3, with4}
use Rattle.rational.proofs.Laws.{le_refl, le_trans, le_of_lt, lt_trans, mul_le_mul_right}
use Rattle.upp_curve.specs.declared.affine_segment.line.Line.{Line}
use Rattle.upp_curve.specs.declared.affine_segment.line.Piece.{Piece}
use Rattle.upp_curve.specs.affine_segment.Values.{line_at}
use Rattle.upp_curve.specs.affine_segment.Reading.{read}
use Rattle.upp_curve.specs.affine_segment.Pieces.{Each, StartsAtZero}
use Rattle.upp_normal.specs.Normalising.{cut_at, past}
use Rattle.upp_curve.specs.Curve.{repeated}
use Rattle.upp_limits.specs.Limits.{Sizes}
use Rattle.upp_normal.specs.Operand.{AreLimited, answer_room}
use Rattle.upp_limits.specs.Sized.{grid_of, times_largest}
use Rattle.upp_normal.specs.Room.{TimeHasRoom, ValueHasRoom, LineHasRoom, PieceHasRoom, top}
use Rattle.upp_normal.proofs.AnswerRoom.{IsCrossing, line_in_room, line_value_in, value_in_room, steep_run}
use Rattle.upp_curve.proofs.affine_segment.PieceIn.{read_is}
use Rattle.upp_curve.proofs.affine_segment.PieceOrder.{each_map}
use Rattle.plain_operators.specs.pointwise.Shifting.{left_line, left_piece, moved_left, LeftFits}
use Rattle.plain_operators.proofs.pointwise.LeftWindow.{left_reads, left_starts, each_past, each_moved}
use Rattle.element_envelope.specs.SumWindows.{SumStart, SumValueAt, SumLineAt, SumPiece, SumWindow}
use Rattle.element_envelope.proofs.ElementSizes.{sum_within}
use Rattle.element_envelope.proofs.SumSteps.{place_room, line_fits_to, sum_answer, sum_line_in, sum_read}
use Rattle.element_envelope.proofs.ArchBends.{sums_on_grids}
use Rattle.curve_deconv.specs.Mirrored.{neg_ext, neg_line, neg_option, neg_piece}
use Rattle.curve_deconv.specs.DeconvolutionWindows.{OperandWindows, IsRaisedWindow, IsDeconvolutionWindow, IsRaised, IsReached, IsFiniteFrom, IsLeastPair, IsNumberedSupremum, EarlyPair, EarlyTime}
use Rattle.curve_deconv.proofs.Mirrored.{neg_all_read, neg_starts, each_neg}
use Rattle.curve_deconv.proofs.MovedGrids.{IsTurned, turned_repeated, turned_grids}
use Rattle.plain_operators.proofs.pointwise.ShiftCall.{IsLeftOf}

-- ---- the least of pairs turned over is the supremum
turn_over : (f g : ℚ → Ext) (reach end t : ℚ) (v : Ext) → IsFiniteFrom g (int (pos 0)) reach → int (pos 0) <ℚ reach → t +ℚ reach <ℚ end → IsFiniteFrom f t end → IsLeastPair f g reach t v
    → IsNumberedSupremum f g reach t (neg_ext v)
turn_over f g reach end t v G some early F E = by v E
  where
    pair : (u : EarlyTime g reach) → (j : EarlyPair f g reach t) × ((j.at ≡ u.at) × (j.level ≡ u.level))
    pair u =
        let at = u.at in
        let n = u.nonneg in
        let b = u.most in
        let (x, e) = F (t +ℚ at) (with2 t at (λ c. omega (arith, c.le, c.lt, c.same))) (with4 t at reach end (λ c. omega (arith, c.le, c.lt, c.same))) in
        (record { at = at; nonneg = n; most = b; value = x; value_is = e; level = u.level; level_is = u.is }, (refl, refl))

    least : (u : EarlyTime g reach) (q : ℚ) → IsLeastPair f g reach t (Fin q) → f (t +ℚ u.at) -ₑ u.level ≤ₑ Fin (neg_ℚ q)
    least u q E =
        let at = u.at in
        let n = u.nonneg in
        let b = u.most in
        let (x, e) = F (t +ℚ at) (with2 t at (λ c. omega (arith, c.le, c.lt, c.same))) (with4 t at reach end (λ c. omega (arith, c.le, c.lt, c.same))) in
        let l = u.level in
        let low : q ≤ℚ l -ℚ x = E.below record { at = at; nonneg = n; most = b; value = x; value_is = e; level = l; level_is = u.is } in
        subst (λ w. w -ₑ l ≤ₑ Fin (neg_ℚ q)) (sym e) (under x l low)
      where
        under : (x l : ℚ) → q ≤ℚ l -ℚ x → Fin x -ₑ l ≤ₑ Fin (neg_ℚ q)
        under x l low = with3 x l q (λ c. omega (arith, c.le, c.lt, c.same))

    by : (v : Ext) → IsLeastPair f g reach t v → IsNumberedSupremum f g reach t (neg_ext v)
    by Inf E =
        let (q, e) = G (int (pos 0)) (le_refl (int (pos 0))) some in
        let (j, k) = pair record { at = int (pos 0); nonneg = le_refl (int (pos 0)); most = le_of_lt some; level = q; is = e } in
        absurd (E.below j)
    by (Fin q) E = record {
      supremum = record {
        above = λ u. least u q E;
        near = λ y l.
            let (j, k) = E.near (neg_ℚ y) (with2 q y (λ c. omega (arith, c.le, c.lt, c.same))) in
            let x = j.value in
            let m = j.level in
            (record { at = j.at; nonneg = j.nonneg; most = j.most; level = m; is = j.level_is }, subst (λ w. Fin y <ₑ w -ₑ m) (sym j.value_is) (over x m y k));
      };
      level = neg_ℚ q;
      is = refl;
    }
      where
        over : (x m y : ℚ) → m -ℚ x <ℚ neg_ℚ y → y <ℚ x -ℚ m
        over x m y k = with3 x m y (λ c. omega (arith, c.le, c.lt, c.same))

reached_of : (f g : ℚ → Ext) (reach end t : ℚ) (v : Ext) → IsFiniteFrom g (int (pos 0)) reach → int (pos 0) <ℚ reach → t +ℚ reach <ℚ end → IsRaised f g reach end t v → IsReached f g reach end t (neg_ext v)
reached_of f g reach end t v G some early (inl (I, e)) = inl (I, ap neg_ext e)
reached_of f g reach end t v G some early (inr (F, E)) = inr (F, turn_over f g reach end t v G some early F E)

-- ---- the steps of the move fit
crossing_back : (z : Sizes) (x y : ℚ) → Whole z.dt y → IsCrossing z x → IsCrossing z (x -ℚ y)
crossing_back z x y w C = record {
  apart = C.apart;
  some = C.some;
  few = C.few;
  whole = whole_sub (z.dv * z.dt * C.apart) x y C.whole (whole_weaken z.dt (z.dv * z.dt * C.apart) y (dvd_trans z.dt (dvd-mul_left z.dt z.dv) (dvd-mul_right (z.dv * z.dt) C.apart)) w);
}

place_back : (z : Sizes) (x y : ℚ) → Whole z.dt y → Whole z.dt x ⊎ IsCrossing z x → Whole z.dt (x -ℚ y) ⊎ IsCrossing z (x -ℚ y)
place_back z x y w (inl h) = inl (whole_sub z.dt x y h w)
place_back z x y w (inr h) = inr (crossing_back z x y w h)

-- the difference of a time with room and one on the grid of times
start_back_fits : (z : Sizes) (end x y : ℚ) → AreLimited z end → (T : TimeHasRoom (answer_room z end) x) → x ≤ℚ end → Whole z.dt y → int (pos 0) ≤ℚ y → y ≤ℚ end → SumFits x (neg_ℚ y)
start_back_fits z end x y A T high w low most =
    let g = int (pos T.grid) in
    let n = A.some in
    let l = T.low in
    let on : Whole T.grid y = whole_weaken z.dt T.grid y (dvd_trans z.dt (dvd-mul_left z.dt z.dv) T.base) w in
    let both : x +ℚ y ≤ℚ int (pos 3) *ℚ end = with3 x y end (λ c. omega (arith, c.le, c.lt, c.same)) in
    let small : T.grid ≤ top = grid_small z T.grid A T.value_size in
    sum_on_grid T.grid x y x (neg_ℚ y) T.some small (le_trans (mul_le_mul_right g (nat_nonneg T.grid) both) T.time_size) T.whole (whole_neg T.grid y on)
    (within_nonneg x x T.low (le_refl x)) (within_neg y y (within_nonneg y y low (le_refl y)))
  where
    grid_small : (z : Sizes) (grid : ℕ) → AreLimited z end → 8 * (8 * z.largest) * (grid * z.ds) ≤ top → grid ≤ top
    grid_small z grid A h =
        let a = A.sizes.largest in
        let b = A.sizes.ds in
        let c : grid * 1 ≤ grid * z.ds = mul-le-mul_left grid b in
        let d : 1 * (grid * z.ds) ≤ z.largest * (grid * z.ds) = mul-le-mul_right (grid * z.ds) a in
        omega (arith, c, d, h)

pub each_left_fits : (end reach : ℚ) (f g ps : List Piece) → OperandWindows end reach f g → IsRaisedWindow end reach f g ps → Each (LeftFits reach) ps
each_left_fits end reach f g ps r R =
    let z = r.sizes in
    let A = r.limited in
    let low = le_of_lt r.some in
    let high = le_of_lt r.early in
    each_map (SumPiece z end) (LeftFits reach)
    (λ p P. record {
      start = start_back_fits z end p.x reach A (place_room z end p.x A P.start.place P.start.nonneg) (le_of_lt P.start.before) r.whole low high;
      line = line_fits_to z end reach p.line A P.line (inl r.whole) low high;
    })
    ps (R.form.stands r).each

pub zero_fits : (end reach : ℚ) (f g : List Piece) → OperandWindows end reach f g → SumFits reach (neg_ℚ reach)
zero_fits end reach f g r =
    let z = r.sizes in
    let low = le_of_lt r.some in
    let high = le_of_lt r.early in
    start_back_fits z end reach reach r.limited (place_room z end reach r.limited (inl r.whole) low) high r.whole low high

-- ---- room
neg_value_room : (z : Sizes) (end x y : ℚ) (v : Ext) → Whole z.dt y → (T : TimeHasRoom (answer_room z end) (x -ℚ y)) → SumValueAt z x v → ValueHasRoom (answer_room z end) 1 T.grid (neg_ext v)
neg_value_room z end x y Inf w T V = tt
neg_value_room z end x y (Fin v) w T V =
    let on : Whole T.grid y = whole_weaken z.dt T.grid y (dvd_trans z.dt (dvd-mul_left z.dt z.dv) T.base) w in
    let back : (x -ℚ y) +ℚ y ≡ x = with2 x y (λ c. omega (arith, c.le, c.lt, c.same)) in
    let at : Whole T.grid x = subst (Whole T.grid) back (whole_add T.grid (x -ℚ y) y T.whole on) in
    value_in_room z end 7 T.grid (neg_ℚ v) (omega arith) (whole_neg (T.grid * z.ds) v (V.whole T.grid T.base at)) (within_neg (times_largest 7 z) v V.within)

neg_line_room : (z : Sizes) (end y : ℚ) (o : Option Line) → AreLimited z end → Whole z.dt y → int (pos 0) ≤ℚ y → y ≤ℚ end → SumLineAt z o → LineHasRoom (answer_room z end) 1 (neg_option (left_line y o))
neg_line_room z end y None A w low high L = tt
neg_line_room z end y (Some l) A w low high L =
    let S = sum_answer z l L in
    let run = steep_run z end l.slope y A S.steep low high in
    let grid : ℕ = z.dv * z.dt in
    let icept : Whole (grid_of z) (line_at l y) = (line_value_in z end 6 grid l y A (omega arith) S (dvd_refl grid) (whole_weaken z.dt grid y (dvd-mul_left z.dt z.dv) w) low high).whole in
    line_in_room z end 7 (neg_line record { icept = line_at l y; slope = l.slope }) A (omega arith) record {
      icept = whole_neg (grid_of z) (line_at l y) icept;
      within = within_neg (times_largest 7 z) (line_at l y) (sum_within z 6 1 l.icept (l.slope *ℚ y) L.within run);
      slope = whole_neg z.ds l.slope S.slope;
      steep = within_neg (int (pos z.steepness)) l.slope S.steep;
    }

record MovedRoom (z : Sizes) (end reach : ℚ) (p : Piece) : Type 0 where
  room : PieceHasRoom (answer_room z end) 1 p
  before : p.x +ℚ reach <ℚ end

moved_room : (z : Sizes) (end reach : ℚ) (p : Piece) → AreLimited z end → Whole z.dt reach → int (pos 0) ≤ℚ reach → reach ≤ℚ end → reach ≤ℚ p.x → SumPiece z end p
    → MovedRoom z end reach (neg_piece (left_piece reach p))
moved_room z end reach p A w low high late P =
    let x = p.x in
    let some : int (pos 0) ≤ℚ x -ℚ reach = with2 x reach (λ c. omega (arith, c.le, c.lt, c.same)) in
    let T = place_room z end (x -ℚ reach) A (place_back z x reach w P.start.place) some in
    let b = P.start.before in
    record {
      room = record { time = T; at = neg_value_room z end x reach p.at w T P.at; line = neg_line_room z end reach p.line A w low high P.line };
      before = with3 x reach end (λ c. omega (arith, c.le, c.lt, c.same));
    }

moved_rooms : (end reach : ℚ) (f g : List Piece) (p : Piece) (ps : List Piece) (r : OperandWindows end reach f g) → SumWindow r.sizes end (p ∷ ps)
    → Each (MovedRoom r.sizes end reach) (map neg_piece (moved_left reach p ps))
moved_rooms end reach f g p ps r W =
    let z = r.sizes in
    let A = r.limited in
    let low = le_of_lt r.some in
    let high = le_of_lt r.early in
    let T : SumStart z end reach = record { place = inl r.whole; nonneg = low; before = r.early } in
    let first : SumPiece z end (cut_at p ps reach) = record {
      start = T;
      at = subst (SumValueAt z reach) (read_is p ps reach) (sum_read z end reach (p ∷ ps) A W T);
      line = sum_line_in z end reach (p ∷ ps) W;
    } in
    each_neg (λ q. MovedRoom z end reach (neg_piece q)) (MovedRoom z end reach) (moved_left reach p ps) (λ q h. h) (
      moved_room z end reach (cut_at p ps reach) A r.whole low high (le_refl reach) first,
      each_moved (λ q. SumPiece z end q × (reach <ℚ q.x)) (λ q. MovedRoom z end reach (neg_piece q)) reach (past reach ps)
          (λ q k. moved_room z end reach q A r.whole low high (le_of_lt k.1) k.0) (each_past (SumPiece z end) reach ps W.each.1),
    )

-- ---- the window

moved_turned : (reach : ℚ) (p : Piece) (ps : List Piece) → StartsAtZero (p ∷ ps) → int (pos 0) ≤ℚ reach → IsTurned (read (map neg_piece (moved_left reach p ps))) (read (p ∷ ps)) reach (int (pos 0))
moved_turned reach p ps starts low t nonneg = neg_all_read (moved_left reach p ps) t ∙ ap neg_ext (left_reads reach t p ps starts low nonneg)

deconvolved_at : (end reach : ℚ) (f g : List Piece) (p : Piece) (ps : List Piece) → OperandWindows end reach f g → IsRaisedWindow end reach f g (p ∷ ps)
    → IsDeconvolutionWindow end reach f g (map neg_piece (moved_left reach p ps))
deconvolved_at end reach f g p ps o R =
    let low = le_of_lt o.some in
    let W = R.form.stands o in
    let ws = map neg_piece (moved_left reach p ps) in
    let T = moved_turned reach p ps W.starts low in
    record {
      starts = neg_starts (moved_left reach p ps) (left_starts reach p ps W.starts);
      reads = λ t a b. subst (IsReached (read f) (read g) reach end t) (sym (T t a)) (reached_of (read f) (read g) reach end t (read (p ∷ ps) (t +ℚ reach)) (λ s n l. o.finite s n (lt_trans l o.early)) o.some b (R.reads t a b));
      before = each_map (MovedRoom o.sizes end reach) (λ q. q.x +ℚ reach <ℚ end) (λ q h. h.before) ws (moved_rooms end reach f g p ps o W);
      room = λ r. each_map (MovedRoom r.sizes end reach) (PieceHasRoom (answer_room r.sizes end) 1) (λ q h. h.room) ws (moved_rooms end reach f g p ps r (R.form.stands r));
      grids = λ r from period rise low_from tail.
          turned_grids r.sizes.dt (grid_of r.sizes) (repeated (read ws) from period rise) (repeated (read (p ∷ ps)) (from +ℚ reach) period (neg_ℚ rise)) from reach period rise tail.some
          (λ t h. turned_repeated (read ws) (read (p ∷ ps)) from reach period rise tail.some low_from T t (le_trans low_from h))
          (sums_on_grids r.sizes end (from +ℚ reach) period (neg_ℚ rise) (p ∷ ps) r.limited (R.form.stands r) (R.form.arches r) tail);
    }

pub deconvolved_is : (end reach : ℚ) (f g rs ms : List Piece) → OperandWindows end reach f g → IsRaisedWindow end reach f g rs → IsLeftOf reach rs ms → IsDeconvolutionWindow end reach f g (map neg_piece ms)
deconvolved_is end reach f g [] ms o R m = absurd (R.form.stands o).starts
deconvolved_is end reach f g (p ∷ ps) ms o R m = subst (λ us. IsDeconvolutionWindow end reach f g (map neg_piece us)) (sym (m p ps refl)) (deconvolved_at end reach f g p ps o R)

pub ok_deconvolved : {E : Type 0} (result : Result (Vec Piece Global) E) (end reach : ℚ) (f g rs ms : List Piece) → OperandWindows end reach f g → IsRaisedWindow end reach f g rs → IsLeftOf reach rs ms
    → IfOk result (λ v. v.items ≡ map neg_piece ms) → IfOk result (λ v. IsDeconvolutionWindow end reach f g v.items)
ok_deconvolved (Ok v) end reach f g rs ms o R m e = subst (IsDeconvolutionWindow end reach f g) (sym e) (deconvolved_is end reach f g rs ms o R m)
ok_deconvolved (Err x) end reach f g rs ms o R m e = e

pub raised_starts : (end reach : ℚ) (f g rs : List Piece) → OperandWindows end reach f g → IsRaisedWindow end reach f g rs → StartsAtZero rs
raised_starts end reach f g rs o R = (R.form.stands o).starts
