-- The running lines as a window: where they stand, that they bend nowhere between the times of the grid, that their steps fit, and the
-- convolution of them.
use Rattle.std.specs.Prelude.{◌≡◌, pos, List, [], ◌∷◌, ◌++◌, Option, Some, None, IfSome}
use Rattle.std.proofs.Common.{arith, sym, ap, ap₂, ◌∙◌, refl, subst, inl, inr, append_assoc, append-nil, length, get_or}
use Rattle.rational.specs.Rational.{ℚ, ◌+ℚ◌, ◌-ℚ◌, ◌*ℚ◌, ◌≤ℚ◌, ◌<ℚ◌, int}
use Rattle.rational.specs.Extended.{Ext, ◌≤ₑ◌, ◌+ₑ◌, min_ext}
use Rattle.rational.specs.declared.Extended.TheVariants.{Fin, Inf}
use Rattle.rational.specs.Grid.{Whole}
use Rattle.rational.proofs.Grid.{whole_add, whole_int}
use Rattle.rational.proofs.Linear.{with3}
use Rattle.rational.proofs.Laws.{le_or_lt, le_of_lt, le_trans, le_lt_trans, le_refl}
use Rattle.rational.proofs.ExtendedOrder.{same_le_ext, min_one}
use Rattle.upp_curve.specs.declared.affine_segment.line.Line.{Line}
use Rattle.upp_curve.specs.declared.affine_segment.line.Piece.{Piece}
use Rattle.upp_curve.specs.affine_segment.Fits.{LineFitsAt}
use Rattle.upp_curve.specs.affine_segment.Pieces.{Each, RisesFrom, StartsAtZero}
use Rattle.upp_curve.specs.affine_segment.Reading.{read}
use Rattle.upp_curve.specs.affine_segment.Values.{line_value}
use Rattle.upp_curve.proofs.affine_segment.PieceIn.{value_past, read_go, read_one, read_stop}
use Rattle.min_plus.specs.Convolution.{IsConvolution}
use Rattle.upp_limits.specs.Limits.{Sizes}
use Rattle.upp_limits.specs.Sized.{grid_of}
use Rattle.upp_normal.specs.Ahead.{GridValue}
use Rattle.upp_normal.specs.Operand.{AreLimited, OperandLine, OperandLineAt}
use Rattle.upp_normal.proofs.AnswerRoom.{operand_line_fits}
use Rattle.curve_call.specs.Lower.{IsLowerOf}
use Rattle.element_envelope.specs.Arches.{IsBare, Arches}
use Rattle.element_envelope.specs.ConvolutionWindows.{WindowPiece, WindowsFrom, IsConvolutionFrom}
use Rattle.element_envelope.specs.CopyWindows.{IsCopyWindow, HaveWindowRoom, CopyBeside}
use Rattle.element_envelope.specs.ElementRoom.{WindowTime}
use Rattle.element_envelope.specs.RunningLines.{moved_to, MovesTo, line_from, reached, passed, running_piece, running, StartsBelow, IsOneLine, RunningRoom, StepRoom}
use Rattle.element_envelope.specs.SumWindows.{SumStart, SumLineAt, SumPiece, SumWindow}
use Rattle.element_envelope.proofs.Arching.{around_low, line_middle, same_arches, lesser_arches}
use Rattle.element_envelope.proofs.CopyReads.{line_later_stands, copy_fits}
use Rattle.element_envelope.proofs.CopyWindows.{own_room, single_is}
use Rattle.element_envelope.proofs.ElementSizes.{rise_whole, rise_within, sum_within}
use Rattle.element_envelope.proofs.RunningLines.{running_suffices}
use Rattle.element_envelope.proofs.SumLower.{sum_lower}
use Rattle.element_envelope.proofs.SumSteps.{line_value_on}

-- ---- where a step stands
window_time : (z : Sizes) (end : ℚ) (q : Piece) → WindowPiece z end q → WindowTime z end q.x
window_time z end q P = record { whole = P.start; nonneg = P.nonneg; early = le_of_lt P.before }

pub sum_start : (z : Sizes) (end : ℚ) (q : Piece) → WindowPiece z end q → SumStart z end q.x
sum_start z end q P = record { place = inl P.start; nonneg = P.nonneg; before = P.before }

-- the limit of a line at a time of the window
limit_stands : (z : Sizes) (end x : ℚ) (l : Option Line) → AreLimited z end → OperandLineAt z l → WindowTime z end x → GridValue z (line_value l x)
limit_stands z end x None A L X = tt
limit_stands z end x (Some l) A L X = record {
  whole = whole_add (grid_of z) l.icept (l.slope *ℚ x) L.icept (rise_whole z end l.slope x L.slope X);
  within = sum_within z 2 1 l.icept (l.slope *ℚ x) L.within (rise_within z end l.slope x A L.slope X);
}

moved_stands : (z : Sizes) (end x : ℚ) (l : Line) (v : Ext) → AreLimited z end → OperandLine z l → WindowTime z end x → GridValue z v → SumLineAt z (line_from l.slope (moved_to l x v))
moved_stands z end x l Inf A L X V = tt
moved_stands z end x l (Fin v) A L X V = line_later_stands z end x v (Some l) A X V L

-- a piece that is nothing but the line from 0 on
alone : Line → Piece
alone l = record { x = int (pos 0); at = Inf; line = Some l }

pub moved_fits : (z : Sizes) (end x : ℚ) (l : Line) (v : Ext) → AreLimited z end → int (pos 0) <ℚ end → OperandLine z l → WindowTime z end x → GridValue z v → MovesTo l x v
unfolding alone
moved_fits z end x l Inf A some L X V = tt
moved_fits z end x l (Fin v) A some L X V =
    (copy_fits z end x v (alone l ∷ []) A X V (record { start = whole_int z.dt (pos 0); nonneg = le_refl (int (pos 0)); before = some; at = tt; line = L }, tt)).0.line

lesser_stands : (z : Sizes) (r : ℚ) (a b : Ext) → SumLineAt z (line_from r a) → SumLineAt z (line_from r b) → SumLineAt z (line_from r (min_ext a b))
lesser_stands z r a b A B = elim (min_one a b) [
  | inl e ↦ subst (λ c. SumLineAt z (line_from r c)) (sym e) A
  | inr e ↦ subst (λ c. SumLineAt z (line_from r c)) (sym e) B
]

-- the window is not empty
some_window : (z : Sizes) (end : ℚ) (q : Piece) → WindowPiece z end q → int (pos 0) <ℚ end
some_window z end q P = le_lt_trans P.nonneg P.before

-- the three places of a step
pub limit_moves : (end : ℚ) (l : Line) (low : Ext) (before : Option Line) (q : Piece) → StepRoom end l low before q → MovesTo l q.x (line_value before q.x)
limit_moves end l low before q R =
    let X = window_time R.sizes end q R.piece in
    moved_fits R.sizes end q.x l (line_value before q.x) R.limited (some_window R.sizes end q R.piece) R.line X (limit_stands R.sizes end q.x before R.limited R.ended X)

pub value_moves : (end : ℚ) (l : Line) (low : Ext) (before : Option Line) (q : Piece) → StepRoom end l low before q → MovesTo l q.x q.at
value_moves end l low before q R = moved_fits R.sizes end q.x l q.at R.limited (some_window R.sizes end q R.piece) R.line (window_time R.sizes end q R.piece) R.piece.at

pub after_moves : (end : ℚ) (l : Line) (low : Ext) (before : Option Line) (q : Piece) → StepRoom end l low before q → MovesTo l q.x (line_value q.line q.x)
after_moves end l low before q R =
    let X = window_time R.sizes end q R.piece in
    moved_fits R.sizes end q.x l (line_value q.line q.x) R.limited (some_window R.sizes end q R.piece) R.line X (limit_stands R.sizes end q.x q.line R.limited R.piece.line X)

pub before_fits : (end : ℚ) (l : Line) (low : Ext) (before : Option Line) (q : Piece) → StepRoom end l low before q → LineFitsAt q.x before
before_fits end l low before q R = operand_line_fits R.sizes end q.x before R.limited R.ended R.piece.start R.piece.nonneg (le_of_lt R.piece.before)

pub after_fits : (end : ℚ) (l : Line) (low : Ext) (before : Option Line) (q : Piece) → StepRoom end l low before q → LineFitsAt q.x q.line
after_fits end l low before q R = operand_line_fits R.sizes end q.x q.line R.limited R.piece.line R.piece.start R.piece.nonneg (le_of_lt R.piece.before)

pub reached_stands : (z : Sizes) (end : ℚ) (l : Line) (low : Ext) (before : Option Line) (q : Piece) → AreLimited z end → OperandLine z l → SumLineAt z (line_from l.slope low) → OperandLineAt z before
    → WindowPiece z end q → SumLineAt z (line_from l.slope (reached l low before q))
reached_stands z end l low before q A L S B P =
    let X = window_time z end q P in
    let limit = moved_to l q.x (line_value before q.x) in
    let at = moved_to l q.x q.at in
    lesser_stands z l.slope low (min_ext limit at) S
    (lesser_stands z l.slope limit at (moved_stands z end q.x l (line_value before q.x) A L X (limit_stands z end q.x before A B X)) (moved_stands z end q.x l q.at A L X P.at))

pub passed_stands : (z : Sizes) (end : ℚ) (l : Line) (low : Ext) (q : Piece) → AreLimited z end → OperandLine z l → SumLineAt z (line_from l.slope low) → WindowPiece z end q
    → SumLineAt z (line_from l.slope (passed l low q))
passed_stands z end l low q A L S P =
    let X = window_time z end q P in
    lesser_stands z l.slope low (moved_to l q.x (line_value q.line q.x)) S (moved_stands z end q.x l (line_value q.line q.x) A L X (limit_stands z end q.x q.line A P.line X))

-- ---- where the pieces stand
running_stand : (z : Sizes) (end : ℚ) (l : Line) (low : Ext) (before : Option Line) (ps : List Piece) → AreLimited z end → OperandLine z l → SumLineAt z (line_from l.slope low) → OperandLineAt z before
    → Each (WindowPiece z end) ps → Each (SumPiece z end) (running l low before ps)
running_stand z end l low before [] A L S B E = tt
running_stand z end l low before (q ∷ qs) A L S B E =
    let here = reached_stands z end l low before q A L S B E.0 in
    let past = passed_stands z end l (reached l low before q) q A L here E.0 in
    let start = sum_start z end q E.0 in (
      record { start = start; at = line_value_on z end q.x (line_from l.slope (reached l low before q)) A here start; line = past },
      running_stand z end l (passed l (reached l low before q) q) q.line qs A L past E.0.line E.1,
    )

running_rises : (l : Line) (low : Ext) (before : Option Line) (x : ℚ) (ps : List Piece) → RisesFrom x ps → RisesFrom x (running l low before ps)
running_rises l low before x [] r = tt
running_rises l low before x (q ∷ qs) r = (r.0, running_rises l (passed l (reached l low before q) q) q.line q.x qs r.1)

pub running_starts : (l : Line) (f : List Piece) → StartsAtZero f → StartsAtZero (running l Inf None f)
running_starts l [] h = h
running_starts l (q ∷ qs) h = (h.0, running_rises l (passed l (reached l Inf None q) q) q.line q.x qs h.1)

pub running_window : (z : Sizes) (end : ℚ) (l : Line) (f : List Piece) → AreLimited z end → OperandLine z l → StartsAtZero f → Each (WindowPiece z end) f → SumWindow z end (running l Inf None f)
running_window z end l f A L h E = record { starts = running_starts l f h; each = running_stand z end l Inf None f A L tt tt E }

-- ---- no bends
-- all pieces start on the grid
abbrev OnGrid : Sizes → List Piece → Type 0
OnGrid z ps = Each (λ p. Whole z.dt p.x) ps

running_on : (z : Sizes) (end : ℚ) (l : Line) (low : Ext) (before : Option Line) (ps : List Piece) → Each (WindowPiece z end) ps → OnGrid z (running l low before ps)
running_on z end l low before [] E = tt
running_on z end l low before (q ∷ qs) E = (E.0.start, running_on z end l (passed l (reached l low before q) q) q.line qs E.1)

-- in a stretch without a time of the grid what is read is a line
bare_line : (z : Sizes) (p : Piece) (ps : List Piece) (low high : ℚ) → IsBare z.dt low high → p.x ≤ℚ low → OnGrid z ps → (o : Option Line) × ((t : ℚ) → low <ℚ t → t <ℚ high → read (p ∷ ps) t ≡ line_value o t)
bare_line z p [] low high bare k on = (p.line, λ t a b. read_one p t ∙ value_past p t (le_lt_trans k a))
bare_line z p (n ∷ ns) low high bare k on = elim (le_or_lt n.x low) [
  | inl m ↦ let (o, h) = bare_line z n ns low high bare m on.1 in (o, λ t a b. read_go p n ns t (le_trans m (le_of_lt a)) ∙ h t a b)
  | inr m ↦ (p.line, λ t a b. read_stop p n ns t (before t m b) ∙ value_past p t (le_lt_trans k a))
]
  where
    before : (t : ℚ) → low <ℚ n.x → t <ℚ high → t <ℚ n.x
    before t m b = elim (le_or_lt n.x t) [ inl h ↦ absurd (bare n.x m (le_lt_trans h b) on.0) | inr h ↦ h ]

straight : (o : Option Line) (y h : ℚ) → line_value o (y -ℚ h) +ₑ line_value o (y +ℚ h) ≤ₑ line_value o y +ₑ line_value o y
straight None y h = tt
straight (Some l) y h = same_le_ext (ap Fin (line_middle l y h))

grid_arches : (z : Sizes) (end : ℚ) (ps : List Piece) → StartsAtZero ps → OnGrid z ps → Arches z.dt end (read ps)
grid_arches z end [] s on low high y h A = absurd s
grid_arches z end (p ∷ ps) s on low high y h A =
    let b = around_low z.dt end low high y h A in
    let some = A.some in
    let (o, at) = bare_line z p ps low high A.bare (subst (λ x. x ≤ℚ low) (sym s.0) A.nonneg) on.1 in
    let left = at (y -ℚ h) A.before (down y h high some b.1) in
    let right = at (y +ℚ h) (up low y h some b.0) A.after in
    let mid = at y b.0 b.1 in
    subst (λ v. v ≤ₑ read (p ∷ ps) y +ₑ read (p ∷ ps) y) (ap₂ (λ (u w : Ext). u +ₑ w) (sym left) (sym right))
    (subst (λ v. line_value o (y -ℚ h) +ₑ line_value o (y +ℚ h) ≤ₑ v) (ap₂ (λ (u w : Ext). u +ₑ w) (sym mid) (sym mid)) (straight o y h))
  where
    down : (y h high : ℚ) → int (pos 0) ≤ℚ h → y <ℚ high → y -ℚ h <ℚ high
    down y h high a b = with3 y h high (λ c. omega (arith, c.le, c.lt, c.same))

    up : (low y h : ℚ) → int (pos 0) ≤ℚ h → low <ℚ y → low <ℚ y +ℚ h
    up low y h a b = with3 low y h (λ c. omega (arith, c.le, c.lt, c.same))

pub running_arches : (z : Sizes) (end : ℚ) (l : Line) (f : List Piece) → StartsAtZero f → Each (WindowPiece z end) f → Arches z.dt end (read (running l Inf None f))
running_arches z end l f h E = grid_arches z end (running l Inf None f) (running_starts l f h) (running_on z end l Inf None f E)

-- ---- the convolution
-- the running lines of f, and its copy at the start of g
pub record LineCopies (from end : ℚ) (f g : List Piece) (l : Line) (a b : List Piece) : Type 0 where
  pub line : IsOneLine l g
  pub lines : a ≡ running l Inf None f
  pub own : IsCopyWindow from end (line.piece ∷ []) f b

pub line_is_one : (from end : ℚ) (f g : List Piece) (l : Line) → IsOneLine l g → (r : WindowsFrom from end f g) → OperandLine r.sizes l
line_is_one from end f g l O r = subst (OperandLineAt r.sizes) O.starts.line_is (subst (Each (WindowPiece r.sizes end)) O.is r.right.each).0.line

pub running_room : (from end : ℚ) (f g : List Piece) (l : Line) → IsOneLine l g → WindowsFrom from end f g → RunningRoom end l f
running_room from end f g l O r = record { sizes = r.sizes; limited = r.limited; line = line_is_one from end f g l O r; each = r.left.each }

lines_stand : (from end : ℚ) (f g : List Piece) (l : Line) (a : List Piece) → IsOneLine l g → a ≡ running l Inf None f → (r : WindowsFrom from end f g) → SumWindow r.sizes end a
lines_stand from end f g l a O e r =
    subst (SumWindow r.sizes end) (sym e) (running_window r.sizes end l f r.limited (line_is_one from end f g l O r) r.left.starts r.left.each)

lines_arch : (from end : ℚ) (f g : List Piece) (l : Line) (a : List Piece) → a ≡ running l Inf None f → (r : WindowsFrom from end f g) → Arches r.sizes.dt end (read a)
lines_arch from end f g l a e r = subst (λ z. Arches r.sizes.dt end (read z)) (sym e) (running_arches r.sizes end l f r.left.starts r.left.each)

pub line_beside : (from end : ℚ) (f g : List Piece) (l : Line) (a : List Piece) (p : Piece) → (O : IsOneLine l g) → O.piece ≡ p → a ≡ running l Inf None f → WindowsFrom from end f g → CopyBeside from end a p f
unfolding own_room
line_beside from end f g l a p O s e r = record { room = own_room from end f g [] p (O.is ∙ ap (λ z. z ∷ []) s) r; made = lines_stand from end f g l a O e r }

pub line_convolves : (from end : ℚ) (f g : List Piece) (l : Line) (a b qs : List Piece) → WindowsFrom from end f g → LineCopies from end f g l a b → IsLowerOf a b end qs → IsConvolutionFrom f g from end qs
unfolding own_room
line_convolves from end f g l a b qs o C L = record {
  starts = L.starts;
  reads = λ t low late high.
      let p = C.line.piece in
      let zero : p.x ≡ int (pos 0) = (subst StartsAtZero C.line.is o.right.starts).0 in
      let here = running_suffices f p l t (read b t) o.left.starts zero C.line.starts low (C.own.reads t low late high) in
      subst (IsConvolution (read f) (read g) t) (sym (L.reads t low high ∙ ap (λ z. min_ext (read z t) (read b t)) C.lines))
      (subst (λ z. IsConvolution (read f) (read z) t (min_ext (read (running l Inf None f) t) (read b t))) (sym C.line.is) here);
  stands = λ r. sum_lower r.sizes end a b qs r.limited (lines_stand from end f g l a C.line C.lines r) (C.own.stands (own_room from end f g [] C.line.piece C.line.is r)) L;
  arches = λ r.
      same_arches r.sizes.dt end (λ t. min_ext (read a t) (read b t)) (read qs) L.reads
      (lesser_arches r.sizes.dt end (read a) (read b) (lines_arch from end f g l a C.lines r) (C.own.arches (own_room from end f g [] C.line.piece C.line.is r)));
}

-- ---- the loop
-- one piece more
pub running_step : (l : Line) (low : Ext) (before : Option Line) (q put : Piece) (left rest old new all : List Piece) (here past : Ext) → left ≡ q ∷ rest → here ≡ reached l low before q → past ≡ passed l here q
    → put ≡ record { x = q.x; at = line_value (line_from l.slope here) q.x; line = line_from l.slope past } → new ≡ old ++ put ∷ [] → old ++ running l low before left ≡ all
    → new ++ running l past q.line rest ≡ all
running_step l low before q put left rest old new all here past d e k p n h =
    let same : put ≡ running_piece l low before q =
    p ∙ ap₂ (λ (a b : Ext). record { x = q.x; at = line_value (line_from l.slope a) q.x; line = line_from l.slope b }) e (k ∙ ap (λ z. passed l z q) e) in
    let tail : running l past q.line rest ≡ running l (passed l (reached l low before q) q) q.line rest = ap (λ z. running l z q.line rest) (k ∙ ap (λ z. passed l z q) e) in
    ap₂ (λ (a b : List Piece). a ++ b) n tail ∙ append_assoc old (put ∷ []) (running l (passed l (reached l low before q) q) q.line rest)
    ∙ ap (λ z. old ++ z ∷ running l (passed l (reached l low before q) q) q.line rest) same ∙ ap (λ z. old ++ running l low before z) (sym d) ∙ h

pub running_end : (l : Line) (low : Ext) (before : Option Line) (left old all : List Piece) → left ≡ [] → old ++ running l low before left ≡ all → old ≡ all
running_end l low before left old all d h = sym (append-nil old) ∙ ap (λ z. old ++ running l low before z) (sym d) ∙ h

-- ---- the one line
pub piece_is : (g : List Piece) (l : Line) (a : Piece) → (O : IsOneLine l g) → a ≡ get_or g 0 a → O.piece ≡ a
piece_is g l a O e = sym (e ∙ ap (λ z. get_or z 0 a) O.is)

pub starts_below : (p : Piece) → p.at ≤ₑ line_value p.line p.x → IfSome p.line (λ l. StartsBelow l p)
starts_below p h = by p.line refl
  where
    by : (o : Option Line) → p.line ≡ o → IfSome o (λ l. StartsBelow l p)
    by None e = tt
    by (Some l) e = record { line_is = e; low = subst (λ o. p.at ≤ₑ line_value o p.x) e h }

only_is : (ps : List Piece) (a : Piece) → length ps ≡ 1 → a ≡ get_or ps 0 a → ps ≡ a ∷ []
only_is ps a k e = single_is ps a (omega (arith, k)) (λ h. omega (arith, h, k)) e

pub only_there : (end : ℚ) (ps : List Piece) (a : Piece) → a ≡ get_or ps 0 a → length ps ≡ 1 → HaveWindowRoom end ps → LineFitsAt a.x a.line
only_there end ps a e k R =
    let P = (subst (Each (WindowPiece R.sizes end)) (only_is ps a k e) R.each).0 in
    operand_line_fits R.sizes end a.x a.line R.limited P.line P.start P.nonneg (le_of_lt P.before)

pub ok_line : (r : Option Line) (ps : List Piece) (a : Piece) → length ps ≡ 1 → a ≡ get_or ps 0 a → IfSome r (λ l. StartsBelow l a) → IfSome r (λ l. IsOneLine l ps)
ok_line None ps a k e h = tt
ok_line (Some l) ps a k e h = record { piece = a; is = only_is ps a k e; starts = h }
