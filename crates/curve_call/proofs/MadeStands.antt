-- What is made of two operands' windows fits, and has room; its starts are on the grid of times, or bends.
use Rattle.std.specs.Prelude.{◌≡◌, ◌≢◌, ℕ, ◌*◌, Bool, true, false, not, pos, List, [], ◌∷◌, Option, Some, None, ◌⊎◌}
use Rattle.std.proofs.Common.{arith, sym, ap, ◌∙◌, subst, inl, inr}
use Prim.Native.Nat.{◌∣◌}
use Rattle.rational.specs.Rational.{ℚ, ◌-ℚ◌, ◌≤ℚ◌, ◌<ℚ◌, int}
use Rattle.rational.specs.MinMax.{min_q, max_q}
use Rattle.rational.specs.Extended.{Ext}
use Rattle.rational.specs.declared.Extended.TheVariants.{Fin, Inf}
use Rattle.rational.proofs.Grid.{whole_int, within_nonneg, within_weaken}
use Rattle.rational.proofs.Integers.{nat_nonneg, int_mul}
use Rattle.rational.proofs.Laws.{le_refl, le_of_lt, le_trans, lt_le_trans, lt_irrefl}
use Rattle.rational.proofs.MinMax.{min_q_one, max_q_one}
use Rattle.rational.proofs.Linear.{with2}
use Rattle.upp_curve.specs.declared.affine_segment.line.Line.{Line}
use Rattle.upp_curve.specs.declared.affine_segment.line.Piece.{Piece}
use Rattle.upp_curve.specs.affine_segment.Values.{line_at, line_value}
use Rattle.upp_limits.specs.Limits.{Sizes}
use Rattle.upp_limits.specs.Sized.{grid_of, times_largest}
use Rattle.upp_curve.specs.affine_segment.Pieces.{Each}
use Rattle.upp_normal.specs.Room.{TimeHasRoom, ValueHasRoom, LineHasRoom, PieceHasRoom}
use Rattle.upp_normal.specs.Operand.{AreLimited, OperandLineAt, answer_room}
use Rattle.upp_normal.specs.Bends.{ValueOn, LineOn, NumbersOn, SlopeTurns, BendAfter, OnlyBend}
use Rattle.upp_normal.proofs.AnswerRoom.{AnswerLine, IsCrossing, values_fit, operand_lines_fit, crossing_not_wide, crossing_of_lines, crossing_room, line_fits_in, line_in_room, line_value_in, operand_line, difference_of_lines, value_difference_stands, answer_value_room, room_at_start, more_largest}
use Rattle.curve_call.specs.declared.stretch.Both.{Both}
use Rattle.curve_call.specs.declared.made.Made.{Made}
use Rattle.curve_call.specs.declared.made.Made.TheVariants.{Lower, Upper, Excess}
use Rattle.curve_call.specs.Stretches.{EachBoth}
use Rattle.curve_call.specs.Lies.{CrossFits, MeetsAt, CrossesAt, LiesBy}
use Rattle.curve_call.specs.Made.{made_value, made_line, made_rises, zero_line, line_apart, first_piece, turn_piece, parts_by, listed, next_start, AreMade, ValueApartFits, LineApartFits, StretchMadeFits}
use Rattle.curve_call.proofs.OperandWindows.{OperandBoth}
use Rattle.upp_normal.specs.Ahead.{GridValue, IsGridValue, AnswerValue}

-- ---- the numbers of what is made
abbrev pub AnswerValueAt : Sizes → ℕ → Ext → Type 0
AnswerValueAt z k Inf = Unit {0}
AnswerValueAt z k (Fin v) = AnswerValue z k v

abbrev pub AnswerLineAt : Sizes → ℕ → Option Line → Type 0
AnswerLineAt z k None = Unit {0}
AnswerLineAt z k (Some l) = AnswerLine z k l

wider_value : (z : Sizes) (v : ℚ) → IsGridValue z v → AnswerValue z 6 v
wider_value z v V = record { whole = V.whole; within = within_weaken (times_largest 3 z) (times_largest 6 z) v (more_largest z 3 6 (omega arith)) V.within }

wider_line : (z : Sizes) (l : Option Line) → OperandLineAt z l → AnswerLineAt z 4 l
wider_line z None L = tt
wider_line z (Some l) L =
    let A = operand_line z l L in
    record { icept = A.icept; within = within_weaken (times_largest 2 z) (times_largest 4 z) l.icept (more_largest z 2 4 (omega arith)) A.within; slope = A.slope; steep = A.steep }

pub some_largest : (z : Sizes) (k : ℕ) → int (pos 0) ≤ℚ times_largest k z
some_largest z k = subst (λ y. int (pos 0) ≤ℚ y) (sym (int_mul (pos k) (pos z.largest))) (nat_nonneg (k * z.largest))

zero_value : (z : Sizes) (k : ℕ) → AnswerValue z k (int (pos 0))
zero_value z k = record { whole = whole_int (grid_of z) (pos 0); within = within_nonneg (times_largest k z) (int (pos 0)) (le_refl (int (pos 0))) (some_largest z k) }

zero_stands : (z : Sizes) → AnswerLine z 4 zero_line
zero_stands z = record {
  icept = whole_int (grid_of z) (pos 0);
  within = within_nonneg (times_largest 4 z) (int (pos 0)) (le_refl (int (pos 0))) (some_largest z 4);
  slope = whole_int z.ds (pos 0);
  steep = within_nonneg (int (pos z.steepness)) (int (pos 0)) (le_refl (int (pos 0))) (nat_nonneg z.steepness);
}

one_of : (z : Sizes) (k : ℕ) (x y v : ℚ) → (v ≡ x) ⊎ (v ≡ y) → AnswerValue z k x → AnswerValue z k y → AnswerValue z k v
one_of z k x y v (inl e) X Y = subst (AnswerValue z k) (sym e) X
one_of z k x y v (inr e) X Y = subst (AnswerValue z k) (sym e) Y

pub made_value_stands : (z : Sizes) (k : Made) (v w : Ext) → GridValue z v → GridValue z w → AnswerValueAt z 6 (made_value k v w)
made_value_stands z Lower Inf Inf V W = tt
made_value_stands z Lower Inf (Fin w) V W = wider_value z w W
made_value_stands z Lower (Fin v) Inf V W = wider_value z v V
made_value_stands z Lower (Fin v) (Fin w) V W = one_of z 6 v w (min_q v w) (min_q_one v w) (wider_value z v V) (wider_value z w W)
made_value_stands z Upper Inf w V W = tt
made_value_stands z Upper (Fin v) Inf V W = tt
made_value_stands z Upper (Fin v) (Fin w) V W = one_of z 6 v w (max_q v w) (max_q_one v w) (wider_value z v V) (wider_value z w W)
made_value_stands z Excess Inf Inf V W = zero_value z 6
made_value_stands z Excess (Fin v) Inf V W = zero_value z 6
made_value_stands z Excess Inf (Fin w) V W = tt
made_value_stands z Excess (Fin v) (Fin w) V W =
    one_of z 6 (int (pos 0)) (v -ℚ w) (max_q (int (pos 0)) (v -ℚ w)) (max_q_one (int (pos 0)) (v -ℚ w)) (zero_value z 6) (value_difference_stands z v w V W)

apart_stands : (z : Sizes) (l m : Option Line) → OperandLineAt z l → OperandLineAt z m → AnswerLineAt z 4 (line_apart l m)
apart_stands z None None L M = zero_stands z
apart_stands z (Some l) None L M = zero_stands z
apart_stands z None (Some m) L M = tt
apart_stands z (Some l) (Some m) L M = difference_of_lines z l m L M

pub made_line_stands : (z : Sizes) (k : Made) (below : Bool) (l m : Option Line) → OperandLineAt z l → OperandLineAt z m → AnswerLineAt z 4 (made_line k below l m)
made_line_stands z Lower true l m L M = wider_line z l L
made_line_stands z Lower false l m L M = wider_line z m M
made_line_stands z Upper true l m L M = wider_line z m M
made_line_stands z Upper false l m L M = wider_line z l L
made_line_stands z Excess true l m L M = zero_stands z
made_line_stands z Excess false l m L M = apart_stands z l m L M

-- ---- they have room
value_at_room : (z : Sizes) (end : ℚ) (grid : ℕ) (v : Ext) → z.dv * z.dt ∣ grid → AnswerValueAt z 6 v → ValueHasRoom (answer_room z end) 1 grid v
value_at_room z end grid Inf base V = tt
value_at_room z end grid (Fin v) base V = answer_value_room z end 6 grid v (omega arith) base V

line_at_room : (z : Sizes) (end : ℚ) (l : Option Line) → AreLimited z end → AnswerLineAt z 4 l → LineHasRoom (answer_room z end) 1 l
line_at_room z end None A L = tt
line_at_room z end (Some l) A L = line_in_room z end 4 l A (omega arith) L

line_value_room : (z : Sizes) (end x : ℚ) (l : Option Line) → AreLimited z end → AnswerLineAt z 4 l → (T : TimeHasRoom (answer_room z end) x) → x ≤ℚ end → ValueHasRoom (answer_room z end) 1 T.grid (line_value l x)
line_value_room z end x None A L T early = tt
line_value_room z end x (Some l) A L T early = line_value_in z end 4 T.grid l x A (omega arith) L T.base T.whole T.low early

-- ---- crossings
slopes_differ : (rises : Bool) (l m : Line) (x : ℚ) → MeetsAt rises l m x → l.slope ≢ m.slope
slopes_differ true l m x M e = lt_irrefl m.slope (subst (λ s. m.slope <ℚ s) e M.0)
slopes_differ false l m x M e = lt_irrefl m.slope (subst (λ s. s <ℚ m.slope) e M.0)

pub they_meet : (rises : Bool) (l m : Line) (x : ℚ) → MeetsAt rises l m x → line_at l x ≡ line_at m x
they_meet true l m x M = M.1
they_meet false l m x M = M.1

is_crossing : (z : Sizes) (end x : ℚ) (rises : Bool) (l m : Option Line) → AreLimited z end → OperandLineAt z l → OperandLineAt z m → CrossesAt rises l m x → IsCrossing z x
is_crossing z end x rises None m A L M C = absurd C
is_crossing z end x rises (Some l) None A L M C = absurd C
is_crossing z end x rises (Some l) (Some m) A L M C = crossing_of_lines z end l m x A L M (slopes_differ rises l m x C) (they_meet rises l m x C)

turn_time : (z : Sizes) (end x : ℚ) (rises : Bool) (b : Both) → AreLimited z end → OperandBoth z end b → CrossesAt rises b.left.line b.right.line x → b.left.x <ℚ x → TimeHasRoom (answer_room z end) x
turn_time z end x rises b A O C past = crossing_room z end x A (is_crossing z end x rises b.left.line b.right.line A O.left_line O.right_line C) (le_trans O.time.nonneg (le_of_lt past))

-- ---- the steps fit
value_apart_fits : (z : Sizes) (end : ℚ) (v w : Ext) → AreLimited z end → GridValue z v → GridValue z w → ValueApartFits v w
value_apart_fits z end Inf w A V W = tt
value_apart_fits z end (Fin v) Inf A V W = tt
value_apart_fits z end (Fin v) (Fin w) A V W = (values_fit z end v w A V W).1

line_apart_fits : (z : Sizes) (end : ℚ) (l m : Option Line) → AreLimited z end → OperandLineAt z l → OperandLineAt z m → LineApartFits l m
line_apart_fits z end None m A L M = tt
line_apart_fits z end (Some l) None A L M = tt
line_apart_fits z end (Some l) (Some m) A L M = let F = operand_lines_fit z end l m A L M in (F.apart, F.closing)

cross_fits : (z : Sizes) (end : ℚ) (l m : Option Line) → AreLimited z end → OperandLineAt z l → OperandLineAt z m → CrossFits l m
cross_fits z end None m A L M = tt
cross_fits z end (Some l) None A L M = tt
cross_fits z end (Some l) (Some m) A L M = λ w. crossing_not_wide z end l m w A L M

pub stretch_fits : (z : Sizes) (end : ℚ) (b : Both) → AreLimited z end → OperandBoth z end b → StretchMadeFits end b
stretch_fits z end b A O = record {
  value = value_apart_fits z end b.left.at b.right.at A O.left O.right;
  line = line_apart_fits z end b.left.line b.right.line A O.left_line O.right_line;
  cross = cross_fits z end b.left.line b.right.line A O.left_line O.right_line;
  turn = λ k rises below x C past before.
      line_fits_in z end x (made_line k below b.left.line b.right.line) A (line_at_room z end _ A (made_line_stands z k below b.left.line b.right.line O.left_line O.right_line)) (turn_time z end x rises b A O C past) (le_of_lt before);
}

-- ---- the pieces have room
first_room : (z : Sizes) (end : ℚ) (k : Made) (below : Bool) (b : Both) → AreLimited z end → OperandBoth z end b → PieceHasRoom (answer_room z end) 1 (first_piece k below b)
first_room z end k below b A O =
    let T = room_at_start z end b.left.x A O.time.whole O.time.nonneg in
    record {
      time = T;
      at = value_at_room z end T.grid _ T.base (made_value_stands z k b.left.at b.right.at O.left O.right);
      line = line_at_room z end _ A (made_line_stands z k below b.left.line b.right.line O.left_line O.right_line);
    }

turn_room : (z : Sizes) (end x : ℚ) (k : Made) (rises below : Bool) (b : Both) → AreLimited z end → OperandBoth z end b → CrossesAt rises b.left.line b.right.line x → b.left.x <ℚ x → x <ℚ end
    → PieceHasRoom (answer_room z end) 1 (turn_piece k below b x)
turn_room z end x k rises below b A O C past before =
    let T = turn_time z end x rises b A O C past in
    let L = made_line_stands z k below b.left.line b.right.line O.left_line O.right_line in
    record {
      time = T;
      at = line_value_room z end x _ A L T (le_of_lt before);
      line = line_at_room z end _ A L;
    }

-- ---- a property of each piece, from the stretches
next_early : (z : Sizes) (end : ℚ) (bs : List Both) → EachBoth (OperandBoth z end) bs → next_start bs end ≤ℚ end
next_early z end [] h = le_refl end
next_early z end (b ∷ bs) h = le_of_lt h.0.time.before

-- what holds of the beginning of a stretch, and where its lines change places, holds of each piece
record HoldsOfParts (P : Piece → Type 0) (z : Sizes) (end : ℚ) (k : Made) : Type 0 where
  first : (below : Bool) (b : Both) → OperandBoth z end b → P (first_piece k below b)
  turn : (rises below : Bool) (b : Both) (x : ℚ) → OperandBoth z end b → CrossesAt rises b.left.line b.right.line x → b.left.x <ℚ x → x <ℚ end → P (turn_piece k below b x)

each_listed : (P : Piece → Type 0) (z : Sizes) (end to : ℚ) (k : Made) (b : Both) (below : Bool) (turn : Option ℚ) (rest : List Piece) → HoldsOfParts P z end k → OperandBoth z end b → to ≤ℚ end
    → LiesBy below b.left.line b.right.line b.left.x to turn → Each P rest → Each P (listed (parts_by k b below turn) rest)
each_listed P z end to k b below None rest H O early L R = (H.first below b O, R)
each_listed P z end to k b below (Some x) rest H O early L R = (H.first below b O, (H.turn below (not below) b x O L.meets L.past (lt_le_trans L.before early), R))

each_made : (P : Piece → Type 0) (z : Sizes) (end : ℚ) (k : Made) (bs : List Both) (ps : List Piece) → HoldsOfParts P z end k → EachBoth (OperandBoth z end) bs → AreMade k bs end ps → Each P ps
each_made P z end k [] ps H O M = subst (Each P) (sym M) tt
each_made P z end k (b ∷ bs) ps H O (parts, Q, (rest, e, M)) =
    subst (Each P) (sym (e ∙ ap (λ y. listed y rest) Q.is))
    (each_listed P z end (next_start bs end) k b Q.lie.below Q.lie.turn rest H O.0 (next_early z end bs O.1) Q.lies (each_made P z end k bs rest H O.1 M))

pub made_room : (z : Sizes) (end : ℚ) (k : Made) (bs : List Both) (ps : List Piece) → AreLimited z end → EachBoth (OperandBoth z end) bs → AreMade k bs end ps → Each (PieceHasRoom (answer_room z end) 1) ps
made_room z end k bs ps A O M =
    each_made (PieceHasRoom (answer_room z end) 1) z end k bs ps
    record { first = λ below b B. first_room z end k below b A B; turn = λ rises below b x B C past before. turn_room z end x k rises below b A B C past before } O M

pub made_early : (z : Sizes) (end : ℚ) (k : Made) (bs : List Both) (ps : List Piece) → EachBoth (OperandBoth z end) bs → AreMade k bs end ps → Each (λ p. p.x <ℚ end) ps
made_early z end k bs ps O M =
    each_made (λ p. p.x <ℚ end) z end k bs ps record { first = λ below b B. B.time.before; turn = λ rises below b x B C past before. before } O M

-- ---- bends
-- where two lines change places the slope turns one way
apart_turns : (l m : Line) → m.slope <ℚ l.slope → int (pos 0) <ℚ l.slope -ℚ m.slope
apart_turns l m h = let s = l.slope in let r = m.slope in with2 s r (λ c. omega (arith, c.le, c.lt, c.same))

apart_falls : (l m : Line) → l.slope <ℚ m.slope → l.slope -ℚ m.slope <ℚ int (pos 0)
apart_falls l m h = let s = l.slope in let r = m.slope in with2 s r (λ c. omega (arith, c.le, c.lt, c.same))

lines_turn : (k : Made) (rises : Bool) (l m : Line) (x : ℚ) → MeetsAt rises l m x → SlopeTurns (made_rises k) (made_line k rises (Some l) (Some m)) (made_line k (not rises) (Some l) (Some m))
lines_turn Lower true l m x M = M.0
lines_turn Lower false l m x M = M.0
lines_turn Upper true l m x M = M.0
lines_turn Upper false l m x M = M.0
lines_turn Excess true l m x M = apart_turns l m M.0
lines_turn Excess false l m x M = apart_falls l m M.0

crossing_turns : (k : Made) (rises : Bool) (l m : Option Line) (x : ℚ) → CrossesAt rises l m x → SlopeTurns (made_rises k) (made_line k rises l m) (made_line k (not rises) l m)
crossing_turns k rises None m x C = absurd C
crossing_turns k rises (Some l) None x C = absurd C
crossing_turns k rises (Some l) (Some m) x C = lines_turn k rises l m x C

line_at_on : (z : Sizes) (l : Option Line) → AnswerLineAt z 4 l → LineOn z.ds (grid_of z) l
line_at_on z None L = tt
line_at_on z (Some l) L = (L.icept, L.slope)

value_at_on : (z : Sizes) (v : Ext) → AnswerValueAt z 6 v → ValueOn (grid_of z) v
value_at_on z Inf V = tt
value_at_on z (Fin v) V = V.whole

no_line_value : (D : ℕ) (l : Option Line) (x : ℚ) → l ≡ None → ValueOn D (line_value l x)
no_line_value D l x e = subst (λ m. ValueOn D (line_value m x)) (sym e) tt

first_on : (z : Sizes) (end : ℚ) (k : Made) (below : Bool) (b : Both) → OperandBoth z end b → NumbersOn z.ds (grid_of z) (first_piece k below b)
first_on z end k below b O = record {
  line = line_at_on z _ (made_line_stands z k below b.left.line b.right.line O.left_line O.right_line);
  at = λ e. value_at_on z _ (made_value_stands z k b.left.at b.right.at O.left O.right);
}

turn_on : (z : Sizes) (end x : ℚ) (k : Made) (below : Bool) (b : Both) → OperandBoth z end b → NumbersOn z.ds (grid_of z) (turn_piece k below b x)
turn_on z end x k below b O = record {
  line = line_at_on z _ (made_line_stands z k below b.left.line b.right.line O.left_line O.right_line);
  at = λ e. no_line_value (grid_of z) (made_line k below b.left.line b.right.line) x e;
}

-- the pieces, after any other
bends_listed : (z : Sizes) (end to : ℚ) (k : Made) (p : Piece) (b : Both) (below : Bool) (turn : Option ℚ) (rest : List Piece) → OperandBoth z end b
    → LiesBy below b.left.line b.right.line b.left.x to turn → ((q : Piece) → BendAfter (made_rises k) z.dt z.ds (grid_of z) q rest)
    → BendAfter (made_rises k) z.dt z.ds (grid_of z) p (listed (parts_by k b below turn) rest)
bends_listed z end to k p b below None rest O L R = (inl O.time.whole, first_on z end k below b O, R (first_piece k below b))
bends_listed z end to k p b below (Some x) rest O L R =
    (inl O.time.whole, first_on z end k below b O, (inr (crossing_turns k below b.left.line b.right.line x L.meets), turn_on z end x k (not below) b O, R (turn_piece k (not below) b x)))

bends_made : (z : Sizes) (end : ℚ) (k : Made) (p : Piece) (bs : List Both) (ps : List Piece) → EachBoth (OperandBoth z end) bs → AreMade k bs end ps → BendAfter (made_rises k) z.dt z.ds (grid_of z) p ps
bends_made z end k p [] ps O M = subst (BendAfter (made_rises k) z.dt z.ds (grid_of z) p) (sym M) tt
bends_made z end k p (b ∷ bs) ps O (parts, Q, (rest, e, M)) =
    subst (BendAfter (made_rises k) z.dt z.ds (grid_of z) p) (sym (e ∙ ap (λ y. listed y rest) Q.is))
    (bends_listed z end (next_start bs end) k p b Q.lie.below Q.lie.turn rest O.0 Q.lies (λ q. bends_made z end k q bs rest O.1 M))

without_first : (rises : Bool) (T S D : ℕ) (p : Piece) (ps : List Piece) → BendAfter rises T S D p ps → OnlyBend rises T S D ps
without_first rises T S D p [] B = tt
without_first rises T S D p (q ∷ qs) B = (B.1, B.2)

pub made_bends : (z : Sizes) (end : ℚ) (k : Made) (bs : List Both) (ps : List Piece) → EachBoth (OperandBoth z end) bs → AreMade k bs end ps → OnlyBend (made_rises k) z.dt z.ds (grid_of z) ps
made_bends z end k bs ps O M =
    let none : Piece = record { x = int (pos 0); at = Inf; line = None } in
    without_first (made_rises k) z.dt z.ds (grid_of z) none ps (bends_made z end k none bs ps O M)
