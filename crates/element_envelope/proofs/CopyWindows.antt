-- The window of the least of copies: of one start, and from those of two halves of the starts; and the convolution of it.
use Rattle.std.specs.Prelude.{◌≡◌, ◌⊎◌, ◌≤◌, ℕ, drop, pos, List, [], ◌∷◌, ◌++◌, Option, Some, None, Result, Ok, Err, IfOk, IfSome, Vec}
use Rattle.std.proofs.Common.{arith, sym, ap, ap₂, ◌∙◌, refl, subst, inl, inr, length, get_or, Global}
use Rattle.rational.specs.Rational.{ℚ, ◌+ℚ◌, ◌-ℚ◌, ◌≤ℚ◌, ◌<ℚ◌, int, neg_ℚ}
use Rattle.rational.specs.Ratio.{SumFits}
use Rattle.rational.specs.Extended.{Ext, ◌≤ₑ◌, ◌<ₑ◌, ◌+ₑ◌, min_ext}
use Rattle.rational.specs.declared.Extended.TheVariants.{Fin, Inf}
use Rattle.rational.proofs.Grid.{whole_int}
use Rattle.rational.proofs.Laws.{le_or_lt, le_of_lt, le_refl}
use Rattle.rational.proofs.Linear.{with1, with3, with4}
use Rattle.rational.proofs.ExtendedOrder.{add_ext_comm, zero_add_ext}
use Rattle.upp_curve.specs.declared.affine_segment.line.Line.{Line}
use Rattle.upp_curve.specs.declared.affine_segment.line.Piece.{Piece}
use Rattle.upp_curve.specs.affine_segment.Pieces.{Each, StartsAtZero}
use Rattle.upp_curve.specs.affine_segment.Reading.{read, nothing_at}
use Rattle.upp_curve.proofs.affine_segment.PieceIn.{read_one, nothing_read}
use Rattle.upp_curve.proofs.affine_segment.PieceOrder.{each_left}
use Rattle.min_plus.specs.Convolution.{IsConvolution}
use Rattle.upp_curve.specs.Fitting.{LaterFits}
use Rattle.upp_curve.specs.Unrolled.{each_later, upto}
use Rattle.upp_limits.proofs.PieceCounts.{upto_early}
use Rattle.upp_normal.specs.Ahead.{GridValue, IsGridValue}
use Rattle.upp_normal.proofs.Below.{plain_upto}
use Rattle.upp_normal.proofs.NormaliseCuts.{zero_upto, each_right}
use Rattle.upp_normal.proofs.NormaliseLists.{each_upto}
use Rattle.upp_normal.proofs.UnrolledPieces.{each_with}
use Rattle.curve_call.specs.Lower.{IsLowerOf}
use Rattle.element_envelope.specs.ConvolutionWindows.{OperandWindows, IsConvolutionWindow, WindowPiece, WindowsFrom, IsConvolutionFrom}
use Rattle.element_envelope.specs.Copies.{IsLeastCopy, LowAtStarts}
use Rattle.element_envelope.specs.CopyWindows.{CopyRoom, IsCopyWindow, HaveWindowRoom, IsUnmoved, CopyBeside, IsLowerWithCopy}
use Rattle.element_envelope.specs.CopyPieces.{copy_start, skipped}
use Rattle.element_envelope.specs.ElementRoom.{WindowTime}
use Rattle.element_envelope.specs.JoinedWindows.{lead_of}
use Rattle.element_envelope.specs.SumWindows.{SumPiece}
use Rattle.element_envelope.specs.NearStarts.{RisesWithin}
use Rattle.element_envelope.specs.OneSide.{IsOneSided}
use Rattle.element_envelope.specs.Turnings.{IsThinned, AreCopies}
use Rattle.element_envelope.proofs.Arching.{same_arches, lesser_arches, nothing_arches}
use Rattle.element_envelope.proofs.LeastCopies.{copy_rules}
use Rattle.element_envelope.proofs.CopyArches.{copy_arches, operand_arches}
use Rattle.element_envelope.proofs.CopyReads.{copy_pieces, copy_starts, copy_before, copy_after, lead_upto, copy_stands, copy_fits}
use Rattle.element_envelope.proofs.ElementSizes.{time_gap_fits}
use Rattle.element_envelope.proofs.OperandElements.{operand_pieces}
use Rattle.element_envelope.proofs.Rests.{EndsIn, IsRest, rest_is, rest_first, each_rest}
use Rattle.element_envelope.proofs.EnvelopeHalves.{LowerReady, lower_ready}
use Rattle.element_envelope.proofs.PairWindows.{LatePiece, early_piece}
use Rattle.element_envelope.proofs.NearCopies.{each_without}
use Rattle.element_envelope.proofs.OneSide.{one_side_suffices}
use Rattle.element_envelope.proofs.OwnWindows.{own_window}
use Rattle.element_envelope.proofs.StartSplits.{turned_split}
use Rattle.element_envelope.proofs.StartTurns.{turns_suffice}
use Rattle.element_envelope.proofs.SumLower.{sum_lower}

-- ---- no copy
nothing_is : (from end : ℚ) (ps g : List Piece) → ((t : ℚ) → IsLeastCopy ps g t Inf) → IsCopyWindow from end ps g (nothing_at (int (pos 0)) ∷ [])
nothing_is from end ps g h = record {
  starts = (refl, tt);
  reads = λ t low late high. subst (IsLeastCopy ps g t) (sym (read_one (nothing_at (int (pos 0))) t ∙ nothing_read (int (pos 0)) t)) (h t);
  stands = λ r. record {
    starts = (refl, tt);
    each = (record { start = record { place = inl (whole_int r.sizes.dt (pos 0)); nonneg = le_refl (int (pos 0)); before = r.some }; at = tt; line = tt }, tt);
  };
  arches = λ r. same_arches r.sizes.dt end (λ t. Inf) (read (nothing_at (int (pos 0)) ∷ [])) (λ t low high. read_one (nothing_at (int (pos 0))) t ∙ nothing_read (int (pos 0)) t) (nothing_arches r.sizes.dt end);
}

pub no_starts : (from end : ℚ) (ps g : List Piece) → ps ≡ [] → IsCopyWindow from end ps g (nothing_at (int (pos 0)) ∷ [])
no_starts from end ps g e = nothing_is from end ps g (λ t. subst (λ z. IsLeastCopy z g t Inf) (sym e) (copy_rules.none g t))

pub infinite_start : (from end : ℚ) (p : Piece) (g : List Piece) → p.at ≡ Inf → IsCopyWindow from end (p ∷ []) g (nothing_at (int (pos 0)) ∷ [])
infinite_start from end p g e = nothing_is from end (p ∷ []) g infinite
  where
    infinite : (t : ℚ) → IsLeastCopy (p ∷ []) g t Inf
    infinite t = elim (le_or_lt p.x t) [
      | inl h ↦ subst (IsLeastCopy (p ∷ []) g t) (ap (λ v. v +ₑ read g (t -ℚ p.x)) e) (copy_rules.one p g t h)
      | inr h ↦ copy_rules.late p g t h
    ]

-- ---- one copy
pub room_time : (from end : ℚ) (p : Piece) (g : List Piece) (r : CopyRoom from end (p ∷ []) g) → WindowTime r.sizes end p.x
room_time from end p g r = record { whole = r.starts.0.start; nonneg = r.starts.0.nonneg; early = le_of_lt r.starts.0.before }

pub room_value : (from end : ℚ) (p : Piece) (g : List Piece) (v : ℚ) → p.at ≡ Fin v → (r : CopyRoom from end (p ∷ []) g) → IsGridValue r.sizes v
room_value from end p g v e r = subst (GridValue r.sizes) e r.starts.0.at

pub room_fits : (from end : ℚ) (p : Piece) (g late : List Piece) (k : ℕ) (v : ℚ) → p.at ≡ Fin v → late ≡ drop k g → CopyRoom from end (p ∷ []) g → Each (LaterFits p.x v) late
room_fits from end p g late k v e l r =
    copy_fits r.sizes end p.x v late r.limited (room_time from end p g r) (room_value from end p g v e r)
    (subst (Each (WindowPiece r.sizes end)) (sym l) (each_rest (WindowPiece r.sizes end) k g r.copied.each))

-- the time that the copy has up to the end, and after `from`
pub room_left : (from end : ℚ) (p : Piece) (g : List Piece) → CopyRoom from end (p ∷ []) g → SumFits end (neg_ℚ p.x)
room_left from end p g r =
    time_gap_fits r.sizes end end p.x r.limited record { whole = r.limited.sizes.window; nonneg = r.limited.some; early = le_refl end } (room_time from end p g r)

pub room_before : (from end : ℚ) (p : Piece) (g : List Piece) → CopyRoom from end (p ∷ []) g → SumFits from (neg_ℚ p.x)
room_before from end p g r = time_gap_fits r.sizes end from p.x r.limited r.late (room_time from end p g r)

one_is : (from end : ℚ) (p : Piece) (g : List Piece) (v : ℚ) (q : Piece) (qs : List Piece) → p.at ≡ Fin v → EndsIn g q qs → (q ∷ qs ≡ g) ⊎ (q.x <ℚ from -ℚ p.x)
    → ((r : CopyRoom from end (p ∷ []) g) → Each (WindowPiece r.sizes end) (q ∷ qs)) → CopyRoom from end (p ∷ []) g
    → IsCopyWindow from end (p ∷ []) g (upto end (copy_pieces p.x v (q ∷ qs)))
one_is from end p g v q qs e E K each o = record {
  starts = zero_upto end W o.some starts;
  reads = λ t low late high. subst (IsLeastCopy (p ∷ []) g t) (sym (plain_upto W end t starts low high)) (whole t low late);
  stands = λ r. record {
    starts = zero_upto end W r.some starts;
    each = each_with (LatePiece r.sizes) (λ q. q.x <ℚ end) (SumPiece r.sizes end) (λ q L k. early_piece r.sizes end q L k) (upto end W)
        (each_upto (LatePiece r.sizes) end W (copy_stands r.sizes end p.x v (q ∷ qs) r.limited (room_time from end p g r) (room_value from end p g v e r) (each r))) (upto_early end W);
  };
  arches = λ r.
      same_arches r.sizes.dt end (read W) (read (upto end W)) (λ t low high. plain_upto W end t starts low high)
      (copy_arches r.sizes end p.x v g q qs (room_time from end p g r) (each r).0.start r.copied E);
}
  where
    W : List Piece
    W = copy_pieces p.x v (q ∷ qs)

    starts : StartsAtZero W
    starts = copy_starts p.x v g q qs o.starts.0.nonneg E

    begun : (t : ℚ) → from ≤ℚ t → p.x ≤ℚ t → q.x +ℚ p.x ≤ℚ t
    begun t late h = elim K [
      | inl same ↦ first p.x q.x t (subst StartsAtZero (sym same) o.copied.starts).0 h
      | inr early ↦ soon p.x q.x t early late
    ]
      where
        first : (x y t : ℚ) → y ≡ int (pos 0) → x ≤ℚ t → y +ℚ x ≤ℚ t
        first x y t e h = with3 x y t (λ c. omega (arith, c.le, c.lt, c.same))

        soon : (x y t : ℚ) → y <ℚ from -ℚ x → from ≤ℚ t → y +ℚ x ≤ℚ t
        soon x y t h k = with4 x y t from (λ c. omega (arith, c.le, c.lt, c.same))

    before : (x y t : ℚ) → int (pos 0) ≤ℚ y → t <ℚ x → t <ℚ y +ℚ x
    before x y t h k = with3 x y t (λ c. omega (arith, c.le, c.lt, c.same))

    whole : (t : ℚ) → int (pos 0) ≤ℚ t → from ≤ℚ t → IsLeastCopy (p ∷ []) g t (read W t)
    whole t low late = elim (le_or_lt p.x t) [
      | inl h ↦
          subst (IsLeastCopy (p ∷ []) g t)
          (ap (λ z. z +ₑ read g (t -ℚ p.x)) e ∙ add_ext_comm (Fin v) (read g (t -ℚ p.x)) ∙ sym (copy_after p.x v g q qs t E low (begun t late h)))
          (copy_rules.one p g t h)
      | inr h ↦ subst (IsLeastCopy (p ∷ []) g t) (sym (copy_before p.x v g q qs t E low (before p.x q.x t E.nonneg h))) (copy_rules.late p g t h)
    ]

copy_is : (from end : ℚ) (p : Piece) (g late : List Piece) (v : ℚ) → p.at ≡ Fin v → late ≡ drop (skipped (from -ℚ p.x) g) g → CopyRoom from end (p ∷ []) g
    → IsCopyWindow from end (p ∷ []) g (upto end (copy_pieces p.x v late))
copy_is from end p g late v e l o =
    let t = from -ℚ p.x in
    let k = skipped t g in
    let R = subst (IsRest g k) (sym l) (rest_is g t o.copied.starts) in
    subst (λ z. IsCopyWindow from end (p ∷ []) g (upto end (copy_pieces p.x v z))) (sym R.is)
    (one_is from end p g v R.head R.rest e R.ends
    (elim (rest_first g late t R) [ inl same ↦ inl (sym R.is ∙ same) | inr early ↦ inr early ])
    (λ r. subst (Each (WindowPiece r.sizes end)) (sym l ∙ R.is) (each_rest (WindowPiece r.sizes end) k g r.copied.each)) o)

pub ok_copy : {E : Type 0} (r : Result (Vec Piece Global) E) (from end : ℚ) (p : Piece) (g late : List Piece) (v : ℚ) → p.at ≡ Fin v → late ≡ drop (skipped (from -ℚ p.x) g) g
    → CopyRoom from end (p ∷ []) g → IfOk r (λ w. w.items ≡ lead_of (copy_start p.x late) ++ upto end (each_later p.x v late)) → IfOk r (λ w. IsCopyWindow from end (p ∷ []) g w.items)
ok_copy (Ok w) from end p g late v e l o k =
    subst (IsCopyWindow from end (p ∷ []) g) (sym (k ∙ lead_upto end (copy_start p.x late) (each_later p.x v late) o.some)) (copy_is from end p g late v e l o)
ok_copy (Err x) from end p g late v e l o k = k

pub ok_none : {E : Type 0} (r : Result (Vec Piece Global) E) (from end : ℚ) (ps g : List Piece) → IsCopyWindow from end ps g (nothing_at (int (pos 0)) ∷ [])
    → IfOk r (λ w. w.items ≡ nothing_at (int (pos 0)) ∷ []) → IfOk r (λ w. IsCopyWindow from end ps g w.items)
ok_none (Ok w) from end ps g h k = subst (IsCopyWindow from end ps g) (sym k) h
ok_none (Err e) from end ps g h k = k

-- one that is moved nowhere is what is copied
pub unmoved_is : (from end : ℚ) (p : Piece) (g : List Piece) → IsUnmoved p → CopyRoom from end (p ∷ []) g → IsCopyWindow from end (p ∷ []) g g
unmoved_is from end p g U o = record {
  starts = o.copied.starts;
  reads = λ t low late high. subst (IsLeastCopy (p ∷ []) g t) (same t) (copy_rules.one p g t (subst (λ x. x ≤ℚ t) (sym U.start) low));
  stands = λ r. own_window r.sizes end g r.copied;
  arches = λ r. operand_arches r.sizes end end g r.copied;
}
  where
    same : (t : ℚ) → p.at +ₑ read g (t -ℚ p.x) ≡ read g t
    same t =
        ap₂ (λ (v : Ext) (x : ℚ). v +ₑ read g (t -ℚ x)) U.at U.start ∙ zero_add_ext (read g (t -ℚ int (pos 0)))
        ∙ ap (λ s. read g s) (with1 t (λ c. omega (arith, c.le, c.lt, c.same)))

-- beside pieces that are made
pub with_copy_ready : (from end : ℚ) (ms : List Piece) (p : Piece) (g ws : List Piece) → CopyBeside from end ms p g → IsCopyWindow from end (p ∷ []) g ws → LowerReady end ms ws
with_copy_ready from end ms p g ws B W = lower_ready B.room.sizes end ms ws B.room.limited B.made (W.stands B.room)

pub ok_with_copy : {E : Type 0} (r : Result (Vec Piece Global) E) (from end : ℚ) (ms : List Piece) (p : Piece) (g ws : List Piece) → IsCopyWindow from end (p ∷ []) g ws
    → IfOk r (λ w. IsLowerOf ms ws end w.items) → IfOk r (λ w. IsLowerWithCopy from end ms p g w.items)
ok_with_copy (Ok w) from end ms p g ws W k = record { copy = ws; is = W; lower = k }
ok_with_copy (Err e) from end ms p g ws W k = k

-- ---- lists of no start, and of one
pub empty_is : (ps : List Piece) → length ps ≡ 0 → ps ≡ []
empty_is [] h = refl
empty_is (p ∷ ps) h = absurd (omega arith)

pub single_is : (ps : List Piece) (a : Piece) → length ps ≤ 1 → ¬ (length ps ≡ 0) → a ≡ get_or ps 0 a → ps ≡ a ∷ []
single_is [] a h k e = absurd (k refl)
single_is (p ∷ []) a h k e = ap (λ z. z ∷ []) (sym e)
single_is (p ∷ q ∷ ps) a h k e = absurd (omega arith)

-- ---- halves
pub front_room : (from end : ℚ) (ps front rest g : List Piece) → front ++ rest ≡ ps → CopyRoom from end ps g → CopyRoom from end front g
front_room from end ps front rest g e r = record {
  sizes = r.sizes;
  limited = r.limited;
  some = r.some;
  late = r.late;
  starts = each_left (WindowPiece r.sizes end) front rest (subst (Each (WindowPiece r.sizes end)) (sym e) r.starts);
  copied = r.copied;
}

pub rest_room : (from end : ℚ) (ps front rest g : List Piece) → front ++ rest ≡ ps → CopyRoom from end ps g → CopyRoom from end rest g
rest_room from end ps front rest g e r = record {
  sizes = r.sizes;
  limited = r.limited;
  some = r.some;
  late = r.late;
  starts = each_right (WindowPiece r.sizes end) front rest (subst (Each (WindowPiece r.sizes end)) (sym e) r.starts);
  copied = r.copied;
}

pub halves_ready : (from end : ℚ) (ps front rest g a b : List Piece) → front ++ rest ≡ ps → CopyRoom from end ps g → IsCopyWindow from end front g a → IsCopyWindow from end rest g b → LowerReady end a b
unfolding front_room rest_room
halves_ready from end ps front rest g a b e r A B =
    let x = A.stands (front_room from end ps front rest g e r) in
    let y = B.stands (rest_room from end ps front rest g e r) in
    lower_ready r.sizes end a b r.limited x y

pub halves : (from end : ℚ) (ps front rest g a b qs : List Piece) → front ++ rest ≡ ps → IsCopyWindow from end front g a → IsCopyWindow from end rest g b → IsLowerOf a b end qs → IsCopyWindow from end ps g qs
unfolding front_room rest_room
halves from end ps front rest g a b qs e A B L = record {
  starts = L.starts;
  reads = λ t low late high.
      subst (λ z. IsLeastCopy z g t (read qs t)) e
      (subst (IsLeastCopy (front ++ rest) g t) (sym (L.reads t low high))
      (copy_rules.parts front rest g t (read a t) (read b t) (A.reads t low late high) (B.reads t low late high)));
  stands = λ r. sum_lower r.sizes end a b qs r.limited (A.stands (front_room from end ps front rest g e r)) (B.stands (rest_room from end ps front rest g e r)) L;
  arches = λ r.
      same_arches r.sizes.dt end (λ t. min_ext (read a t) (read b t)) (read qs) L.reads
      (lesser_arches r.sizes.dt end (read a) (read b) (A.arches (front_room from end ps front rest g e r)) (B.arches (rest_room from end ps front rest g e r)));
}

pub ok_halves : {E : Type 0} (r : Result (Vec Piece Global) E) (from end : ℚ) (a b ps g : List Piece) → ((qs : List Piece) → IsLowerOf a b end qs → IsCopyWindow from end ps g qs)
    → IfOk r (λ w. IsLowerOf a b end w.items) → IfOk r (λ w. IsCopyWindow from end ps g w.items)
ok_halves (Ok w) from end a b ps g h k = h w.items k
ok_halves (Err e) from end a b ps g h k = k

-- ---- the convolution
-- the starts that are left stand as all do
each_thinned : (P : Piece → Type 0) (before : Option Line) (ps qs : List Piece) → IsThinned before ps qs → Each P ps → Each P qs
each_thinned P before [] qs T h = subst (Each P) (sym T) tt
each_thinned P before (p ∷ ps) qs (inl T) h = each_thinned P p.line ps qs T.1 h.1
each_thinned P before (p ∷ ps) qs (inr T) h = subst (Each P) (sym T.1) (h.0, each_thinned P p.line ps T.0 T.2 h.1)

pub left_room : (from end : ℚ) (f g ps : List Piece) → IsThinned None f ps → WindowsFrom from end f g → CopyRoom from end ps g
left_room from end f g ps T r = record { sizes = r.sizes; limited = r.limited; some = r.some; late = r.late; starts = each_thinned (WindowPiece r.sizes end) None f ps T r.left.each; copied = r.right }

pub right_room : (from end : ℚ) (f g ps : List Piece) → IsThinned None g ps → WindowsFrom from end f g → CopyRoom from end ps f
right_room from end f g ps T r = record { sizes = r.sizes; limited = r.limited; some = r.some; late = r.late; starts = each_thinned (WindowPiece r.sizes end) None g ps T r.right.each; copied = r.left }

pub first_operand : (from end : ℚ) (f g : List Piece) → WindowsFrom from end f g → HaveWindowRoom end f
first_operand from end f g r = record { sizes = r.sizes; limited = r.limited; each = r.left.each }

pub second_operand : (from end : ℚ) (f g : List Piece) → WindowsFrom from end f g → HaveWindowRoom end g
second_operand from end f g r = record { sizes = r.sizes; limited = r.limited; each = r.right.each }

pub swapped : (from end : ℚ) (f g : List Piece) → WindowsFrom from end f g → WindowsFrom from end g f
swapped from end f g r = record { sizes = r.sizes; limited = r.limited; some = r.some; late = r.late; left = r.right; right = r.left }

pub ok_copies : {E : Type 0} (r : Result (Vec Piece Global) E) (from end : ℚ) (f g ps : List Piece) → IsThinned None f ps → IfOk r (λ w. IsCopyWindow from end ps g w.items)
    → IfOk r (λ w. AreCopies from end f g w.items)
ok_copies (Ok w) from end f g ps T k = record { starts = ps; is = T; window = k }
ok_copies (Err e) from end f g ps T k = k

-- the least of the copies of each at the starts that are left of the other
pub record BothCopies (from end : ℚ) (f g a b : List Piece) : Type 0 where
  pub first : AreCopies from end f g a
  pub second : AreCopies from end g f b

pub both_ready : (from end : ℚ) (f g a b : List Piece) → WindowsFrom from end f g → BothCopies from end f g a b → LowerReady end a b
unfolding left_room right_room
both_ready from end f g a b r B =
    let x = B.first.window.stands (left_room from end f g B.first.starts B.first.is r) in
    let y = B.second.window.stands (right_room from end f g B.second.starts B.second.is r) in
    lower_ready r.sizes end a b r.limited x y

pub both_convolve : (from end : ℚ) (f g a b qs : List Piece) → WindowsFrom from end f g → LowAtStarts f → LowAtStarts g → BothCopies from end f g a b → IsLowerOf a b end qs
    → IsConvolutionFrom f g from end qs
unfolding left_room right_room
both_convolve from end f g a b qs o lf lg B L = record {
  starts = L.starts;
  reads = λ t low late high.
      subst (IsConvolution (read f) (read g) t) (sym (L.reads t low high))
      (turns_suffice f g B.first.starts B.second.starts t (read a t) (read b t) o.left.starts o.right.starts lf lg B.first.is B.second.is low (B.first.window.reads t low late high) (B.second.window.reads t low late high));
  stands = λ r.
      sum_lower r.sizes end a b qs r.limited (B.first.window.stands (left_room from end f g B.first.starts B.first.is r)) (B.second.window.stands (right_room from end f g B.second.starts B.second.is r)) L;
  arches = λ r.
      same_arches r.sizes.dt end (λ t. min_ext (read a t) (read b t)) (read qs) L.reads
      (lesser_arches r.sizes.dt end (read a) (read b) (B.first.window.arches (left_room from end f g B.first.starts B.first.is r)) (B.second.window.arches (right_room from end f g B.second.starts B.second.is r)));
}

pub ok_both : {E : Type 0} (r : Result (Vec Piece Global) E) (from end : ℚ) (a b f g : List Piece) → ((qs : List Piece) → IsLowerOf a b end qs → IsConvolutionFrom f g from end qs)
    → IfOk r (λ w. IsLowerOf a b end w.items) → IfOk r (λ w. IsConvolutionFrom f g from end w.items)
ok_both (Ok w) from end a b f g h k = h w.items k
ok_both (Err e) from end a b f g h k = k

-- ---- by the starts of one side
pub side_room : (from end : ℚ) (f g ks : List Piece) → IsOneSided f g ks → WindowsFrom from end f g → CopyRoom from end ks g
side_room from end f g ks O r = record {
  sizes = r.sizes;
  limited = r.limited;
  some = r.some;
  late = r.late;
  starts = each_without (RisesWithin (int (pos 0))) (WindowPiece r.sizes end) f ks O.starts r.left.each;
  copied = r.right;
}

unfoldable pub own_room : (from end : ℚ) (f g rest : List Piece) (p : Piece) → g ≡ p ∷ rest → WindowsFrom from end f g → CopyRoom from end (p ∷ []) f
own_room from end f g rest p e r =
    record { sizes = r.sizes; limited = r.limited; some = r.some; late = r.late; starts = ((subst (Each (WindowPiece r.sizes end)) e r.right.each).0, tt); copied = r.left }

pub first_is : (ps : List Piece) (a : Piece) → StartsAtZero ps → a ≡ get_or ps 0 a → (rest : List Piece) × (ps ≡ a ∷ rest)
first_is [] a h e = absurd h
first_is (p ∷ ps) a h e = (ps, ap (λ z. z ∷ ps) (sym e))

-- the copies of g at those starts of f, and that of f at the first start of g
pub record SideCopies (from end : ℚ) (f g ks a b : List Piece) : Type 0 where
  pub sided : IsOneSided f g ks
  pub piece : Piece
  pub more : List Piece
  pub first : g ≡ piece ∷ more
  pub copies : IsCopyWindow from end ks g a
  pub own : IsCopyWindow from end (piece ∷ []) f b

pub side_beside : (from end : ℚ) (f g ks a more : List Piece) (p : Piece) → IsOneSided f g ks → g ≡ p ∷ more → IsCopyWindow from end ks g a → WindowsFrom from end f g → CopyBeside from end a p f
unfolding side_room own_room
side_beside from end f g ks a more p O e A r = record { room = own_room from end f g more p e r; made = A.stands (side_room from end f g ks O r) }

pub side_convolves : (from end : ℚ) (f g ks a b qs : List Piece) → WindowsFrom from end f g → LowAtStarts f → LowAtStarts g → SideCopies from end f g ks a b → IsLowerOf a b end qs → IsConvolutionFrom f g from end qs
unfolding side_room own_room
side_convolves from end f g ks a b qs o lf lg S L = record {
  starts = L.starts;
  reads = λ t low late high.
      subst (IsConvolution (read f) (read g) t) (sym (L.reads t low high))
      (one_side_suffices f g ks S.more S.piece t (read a t) (read b t) o.left.starts o.right.starts lf lg S.sided S.first low (S.copies.reads t low late high) (S.own.reads t low late high));
  stands = λ r. sum_lower r.sizes end a b qs r.limited (S.copies.stands (side_room from end f g ks S.sided r)) (S.own.stands (own_room from end f g S.more S.piece S.first r)) L;
  arches = λ r.
      same_arches r.sizes.dt end (λ t. min_ext (read a t) (read b t)) (read qs) L.reads
      (lesser_arches r.sizes.dt end (read a) (read b) (S.copies.arches (side_room from end f g ks S.sided r)) (S.own.arches (own_room from end f g S.more S.piece S.first r)));
}

-- ---- with the operands in the other order
turned_convolution : (F G : ℚ → Ext) (t : ℚ) (v : Ext) → IsConvolution F G t v → IsConvolution G F t v
unfolding turned_split
turned_convolution F G t v h = record {
  below = λ s. subst (λ z. v ≤ₑ z) (add_ext_comm (F s.second) (G s.first)) (h.below (turned_split t s));
  near = λ y l. let (s, k) = h.near y l in (turned_split t s, subst (λ z. z <ₑ Fin y) (add_ext_comm (F s.first) (G s.second)) k);
}

turned : (f g : List Piece) (from end : ℚ) (ps : List Piece) → IsConvolutionFrom g f from end ps → IsConvolutionFrom f g from end ps
unfolding swapped
turned f g from end ps C = record {
  starts = C.starts;
  reads = λ t low late high. turned_convolution (read g) (read f) t (read ps t) (C.reads t low late high);
  stands = λ r. C.stands (swapped from end f g r);
  arches = λ r. C.arches (swapped from end f g r);
}

pub some_turned : (o : Option (Vec Piece Global)) (v : Vec Piece Global) (from end : ℚ) (f g : List Piece) → o ≡ Some v → IfSome o (λ w. IsConvolutionFrom g f from end w.items) → IsConvolutionFrom f g from end v.items
some_turned o v from end f g e k = turned f g from end v.items (subst (λ z. IfSome z (λ w. IsConvolutionFrom g f from end w.items)) e k)

pub ok_turned : {E : Type 0} (r : Result (Vec Piece Global) E) (from end : ℚ) (f g : List Piece) → IfOk r (λ w. IsConvolutionFrom g f from end w.items) → IfOk r (λ w. IsConvolutionFrom f g from end w.items)
ok_turned (Ok w) from end f g k = turned f g from end w.items k
ok_turned (Err e) from end f g k = k

-- ---- from 0 on
pub from_zero : (end : ℚ) (f g : List Piece) → OperandWindows end f g → WindowsFrom (int (pos 0)) end f g
from_zero end f g r = record {
  sizes = r.sizes;
  limited = r.limited;
  some = r.some;
  late = record { whole = whole_int r.sizes.dt (pos 0); nonneg = le_refl (int (pos 0)); early = r.limited.some };
  left = operand_pieces r.sizes end f r.left;
  right = operand_pieces r.sizes end g r.right;
}

pub since_zero : (end : ℚ) (f g ps : List Piece) → IsConvolutionFrom f g (int (pos 0)) end ps → IsConvolutionWindow f g end ps
unfolding from_zero
since_zero end f g ps K = record {
  starts = K.starts;
  reads = λ t low high. K.reads t low low high;
  stands = λ r. K.stands (from_zero end f g r);
  arches = λ r. K.arches (from_zero end f g r);
}

pub ok_from_zero : {E : Type 0} (r : Result (Vec Piece Global) E) (from end : ℚ) (f g : List Piece) → from ≡ int (pos 0) → IfOk r (λ w. IsConvolutionFrom f g from end w.items)
    → IfOk r (λ w. IsConvolutionWindow f g end w.items)
ok_from_zero (Ok w) from end f g e k = since_zero end f g w.items (subst (λ z. IsConvolutionFrom f g z end w.items) e k)
ok_from_zero (Err x) from end f g e k = k
