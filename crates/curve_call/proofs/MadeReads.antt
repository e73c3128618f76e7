-- The pieces that are made of each stretch of two windows read as what is made of their values.
use Rattle.std.specs.Prelude.{◌≡◌, ◌⊎◌, ◌+◌, ◌*◌, ◌≤◌, Bool, true, false, not, pos, List, [], ◌∷◌, length, Option, Some, None}
use Rattle.std.proofs.Common.{arith, sym, ap, ap₂, ◌∙◌, refl, subst, inl, inr}
use Rattle.rational.specs.Rational.{ℚ, ◌+ℚ◌, ◌-ℚ◌, ◌*ℚ◌, ◌≤ℚ◌, ◌<ℚ◌, int}
use Rattle.rational.specs.MinMax.{max_q}
use Rattle.rational.specs.Extended.{Ext, ◌≤ₑ◌}
use Rattle.rational.specs.declared.Extended.TheVariants.{Fin}
use Rattle.rational.proofs.Laws.{le_or_lt, le_of_lt, le_refl, le_trans, lt_le_trans, antisym, sub_mul, zero_mul}
use Rattle.rational.proofs.Linear.{with1, with2, with4}
use Rattle.rational.proofs.MinMax.{max_q_is_left, max_q_right}
use Rattle.rational.proofs.ExtendedOrder.{min_ext_of_le, min_ext_comm, max_ext_of_le, max_ext_comm}
use Rattle.upp_curve.specs.declared.affine_segment.line.Line.{Line}
use Rattle.upp_curve.specs.declared.affine_segment.line.Piece.{Piece}
use Rattle.upp_curve.specs.affine_segment.Values.{line_at, line_value}
use Rattle.upp_curve.specs.affine_segment.Reading.{read, piece_value}
use Rattle.upp_curve.specs.affine_segment.Pieces.{RisesFrom, StartsAtZero}
use Rattle.min_plus.specs.Pointwise.{excess}
use Rattle.upp_curve.proofs.affine_segment.PieceIn.{value_past, value_at_start, read_go}
use Rattle.curve_call.specs.declared.stretch.Both.{Both}
use Rattle.curve_call.specs.declared.made.Made.{Made}
use Rattle.curve_call.specs.declared.made.Made.TheVariants.{Lower, Upper, Excess}
use Rattle.curve_call.specs.Stretches.{lefts, rights, EachBoth, StartTogether}
use Rattle.curve_call.specs.Lies.{IsOrdered, LiesBy}
use Rattle.curve_call.specs.Made.{Parts, made_value, made_line, zero_line, line_apart, first_piece, turn_piece, parts_by, parts_of, IsParts, turn_listed, listed, AreMade}
use Rattle.curve_call.proofs.Surgery.{BeforeNext, read_first}
use Rattle.curve_call.proofs.LinesLie.{before_crossing, after_crossing}

-- ---- of two ordered lines
zero_at : (t : ℚ) → int (pos 0) ≡ line_at zero_line t
zero_at t = let p = zero_mul t in with1 (int (pos 0) *ℚ t) (λ c. omega (arith, c.le, c.lt, c.same))

nothing_above : (x y : ℚ) → x ≤ℚ y → int (pos 0) ≡ max_q (int (pos 0)) (x -ℚ y)
nothing_above x y h = sym (max_q_is_left (int (pos 0)) (x -ℚ y) (with2 x y (λ c. omega (arith, c.le, c.lt, c.same))))

above_by : (x y : ℚ) → y ≤ℚ x → x -ℚ y ≡ max_q (int (pos 0)) (x -ℚ y)
above_by x y h = sym (max_q_right (int (pos 0)) (x -ℚ y) (with2 x y (λ c. omega (arith, c.le, c.lt, c.same))))

pub apart_at : (l m : Line) (t : ℚ) → line_at record { icept = l.icept -ℚ m.icept; slope = l.slope -ℚ m.slope } t ≡ line_at l t -ℚ line_at m t
apart_at l m t =
    let i = l.icept in
    let j = m.icept in
    let p = l.slope *ℚ t in
    let q = m.slope *ℚ t in
    ap (λ y. (i -ℚ j) +ℚ y) (sub_mul l.slope m.slope t) ∙ with4 i j p q (λ c. omega (arith, c.le, c.lt, c.same))

excess_below : (l m : Option Line) (t : ℚ) → line_value l t ≤ₑ line_value m t → Fin (line_at zero_line t) ≡ excess (line_value l t) (line_value m t)
excess_below None None t h = ap Fin (sym (zero_at t))
excess_below (Some l) None t h = ap Fin (sym (zero_at t))
excess_below None (Some m) t h = absurd h
excess_below (Some l) (Some m) t h = ap Fin (sym (zero_at t) ∙ nothing_above (line_at l t) (line_at m t) h)

excess_above : (l m : Option Line) (t : ℚ) → line_value m t ≤ₑ line_value l t → line_value (line_apart l m) t ≡ excess (line_value l t) (line_value m t)
excess_above None None t h = ap Fin (sym (zero_at t))
excess_above (Some l) None t h = absurd h
excess_above None (Some m) t h = refl
excess_above (Some l) (Some m) t h = ap Fin (apart_at l m t ∙ above_by (line_at l t) (line_at m t) h)

pub made_on : (k : Made) (below : Bool) (l m : Option Line) (t : ℚ) → IsOrdered below l m t → line_value (made_line k below l m) t ≡ made_value k (line_value l t) (line_value m t)
made_on Lower true l m t h = sym (min_ext_of_le (line_value l t) (line_value m t) h)
made_on Lower false l m t h = sym (min_ext_comm (line_value l t) (line_value m t) ∙ min_ext_of_le (line_value m t) (line_value l t) h)
made_on Upper true l m t h = sym (max_ext_of_le (line_value l t) (line_value m t) h)
made_on Upper false l m t h = sym (max_ext_comm (line_value l t) (line_value m t) ∙ max_ext_of_le (line_value m t) (line_value l t) h)
made_on Excess true l m t h = excess_below l m t h
made_on Excess false l m t h = excess_above l m t h

-- ---- of a stretch
-- what is made of both at a time of the stretch
abbrev made_at : Made → Both → ℚ → Ext
made_at k b t = made_value k (piece_value b.left t) (piece_value b.right t)

both_past : (k : Made) (below : Bool) (b : Both) (t : ℚ) → b.left.x ≡ b.right.x → b.left.x <ℚ t → IsOrdered below b.left.line b.right.line t
    → line_value (made_line k below b.left.line b.right.line) t ≡ made_at k b t
both_past k below b t e h o =
    made_on k below b.left.line b.right.line t o ∙ ap₂ (made_value k) (sym (value_past b.left t h)) (sym (value_past b.right t (subst (λ x. x <ℚ t) e h)))

-- from its start on, before its lines change places
first_reads : (k : Made) (below : Bool) (b : Both) (t : ℚ) → b.left.x ≡ b.right.x → b.left.x ≤ℚ t → (b.left.x <ℚ t → IsOrdered below b.left.line b.right.line t)
    → piece_value (first_piece k below b) t ≡ made_at k b t
first_reads k below b t e h o = elim (le_or_lt t b.left.x) [
  | inl l ↦
      let same : b.left.x ≡ t = antisym (h, l) in
      let p = first_piece k below b in
      let left : piece_value b.left t ≡ b.left.at = ap (piece_value b.left) (sym same) ∙ value_at_start b.left in
      let right : piece_value b.right t ≡ b.right.at = ap (piece_value b.right) (sym (sym e ∙ same)) ∙ value_at_start b.right in
      ap (piece_value p) (sym same) ∙ value_at_start p ∙ ap₂ (made_value k) (sym left) (sym right)
  | inr l ↦ value_past (first_piece k below b) t l ∙ both_past k below b t e l (o l)
]

-- and after that
turn_reads : (k : Made) (below : Bool) (b : Both) (x t : ℚ) → b.left.x ≡ b.right.x → b.left.x <ℚ x → x ≤ℚ t → IsOrdered below b.left.line b.right.line t
    → piece_value (turn_piece k below b x) t ≡ made_at k b t
turn_reads k below b x t e past h o = elim (le_or_lt t x) [
  | inl l ↦
      let same : x ≡ t = antisym (h, l) in
      let p = turn_piece k below b x in
      ap (piece_value p) (sym same) ∙ value_at_start p ∙ ap (line_value (made_line k below b.left.line b.right.line)) same ∙ both_past k below b t e (lt_le_trans past h) o
  | inr l ↦ value_past (turn_piece k below b x) t l ∙ both_past k below b t e (lt_le_trans past h) o
]

by_reads : (k : Made) (b : Both) (to : ℚ) (below : Bool) (turn : Option ℚ) (rest : List Piece) (t : ℚ) → LiesBy below b.left.line b.right.line b.left.x to turn → b.left.x ≡ b.right.x
    → b.left.x ≤ℚ t → t <ℚ to → BeforeNext t rest → read (listed (parts_by k b below turn) rest) t ≡ made_at k b t
by_reads k b to below None rest t L e low high next = read_first (first_piece k below b) rest t next ∙ first_reads k below b t e low (λ h. L t h high)
by_reads k b to below (Some x) rest t L e low high next = elim (le_or_lt x t) [
  | inr early ↦
      read_first (first_piece k below b) (turn_piece k (not below) b x ∷ rest) t early
      ∙ first_reads k below b t e low (λ h. before_crossing below b.left.line b.right.line x t L.meets (le_of_lt early))
  | inl late ↦
      read_go (first_piece k below b) (turn_piece k (not below) b x) rest t late ∙ read_first (turn_piece k (not below) b x) rest t next
      ∙ turn_reads k (not below) b x t e L.past late (after_crossing below b.left.line b.right.line x t L.meets late)
]

parts_read : (k : Made) (b : Both) (to : ℚ) (parts : Parts) (rest : List Piece) (t : ℚ) → IsParts k b to parts → b.left.x ≡ b.right.x → b.left.x ≤ℚ t → t <ℚ to → BeforeNext t rest
    → read (listed parts rest) t ≡ made_at k b t
parts_read k b to parts rest t P e low high next =
    ap (λ z. read (listed z rest) t) P.is ∙ by_reads k b to P.lie.below P.lie.turn rest t P.lies e low high next

-- ---- of all stretches
-- the first piece starts where the first stretch does
pub record StartsWith (x : ℚ) (ps : List Piece) : Type 0 where
  pub first : Piece
  pub rest : List Piece
  pub is : ps ≡ first ∷ rest
  pub start : first.x ≡ x

pub made_first : (k : Made) (b : Both) (bs : List Both) (end : ℚ) (ps : List Piece) → AreMade k (b ∷ bs) end ps → StartsWith b.left.x ps
made_first k b bs end ps (parts, P, (rest, e, M)) = record { first = parts.first; rest = turn_listed parts.turn rest; is = e; start = ap (λ z. z.first.x) P.is ∙ by_start P.lie.below P.lie.turn }
  where
    by_start : (below : Bool) (turn : Option ℚ) → (parts_by k b below turn).first.x ≡ b.left.x
    by_start below None = refl
    by_start below (Some x) = refl

before_first : (x t : ℚ) (ps : List Piece) → StartsWith x ps → t <ℚ x → BeforeNext t ps
before_first x t ps S h = subst (BeforeNext t) (sym S.is) (subst (λ y. t <ℚ y) (sym S.start) h)

-- past the next start the pieces of a stretch are read no more
skip_by : (k : Made) (b : Both) (to : ℚ) (below : Bool) (turn : Option ℚ) (q : Piece) (qs : List Piece) (t : ℚ) → LiesBy below b.left.line b.right.line b.left.x to turn → q.x ≤ℚ t → to ≤ℚ t
    → read (listed (parts_by k b below turn) (q ∷ qs)) t ≡ read (q ∷ qs) t
skip_by k b to below None q qs t L h l = read_go (first_piece k below b) q qs t h
skip_by k b to below (Some x) q qs t L h l =
    read_go (first_piece k below b) (turn_piece k (not below) b x) (q ∷ qs) t (le_trans (le_of_lt L.before) l) ∙ read_go (turn_piece k (not below) b x) q qs t h

skip_parts : (k : Made) (b : Both) (to : ℚ) (parts : Parts) (rest : List Piece) (t : ℚ) → IsParts k b to parts → StartsWith to rest → to ≤ℚ t → read (listed parts rest) t ≡ read rest t
skip_parts k b to parts rest t P S h =
    ap (λ z. read (listed z rest) t) P.is ∙ ap (λ z. read (listed (parts_of k b P.lie) z) t) S.is
    ∙ skip_by k b to P.lie.below P.lie.turn S.first S.rest t P.lies (subst (λ y. y ≤ℚ t) (sym S.start) h) h ∙ ap (λ z. read z t) (sym S.is)

pub made_reads : (k : Made) (b : Both) (bs : List Both) (end : ℚ) (ps : List Piece) (t : ℚ) → AreMade k (b ∷ bs) end ps → RisesFrom b.left.x (lefts bs) → EachBoth StartTogether (b ∷ bs)
    → b.left.x ≤ℚ t → t <ℚ end → read ps t ≡ made_value k (read (b.left ∷ lefts bs) t) (read (b.right ∷ rights bs) t)
made_reads k b [] end ps t (parts, P, (rest, e, M)) R T low high =
    ap (λ z. read z t) e ∙ parts_read k b end parts rest t P T.0 low high (subst (BeforeNext t) (sym M) tt)
    ∙ ap₂ (made_value k) (sym (read_first b.left [] t tt)) (sym (read_first b.right [] t tt))
made_reads k b (c ∷ cs) end ps t (parts, P, (rest, e, M)) R T low high = elim (le_or_lt c.left.x t) [
  | inr early ↦
      ap (λ z. read z t) e ∙ parts_read k b c.left.x parts rest t P T.0 low early (before_first c.left.x t rest (made_first k c cs end rest M) early)
      ∙ ap₂ (made_value k) (sym (read_first b.left (c.left ∷ lefts cs) t early)) (sym (read_first b.right (c.right ∷ rights cs) t (subst (λ y. t <ℚ y) T.1.0 early)))
  | inl late ↦
      ap (λ z. read z t) e ∙ skip_parts k b c.left.x parts rest t P (made_first k c cs end rest M) late ∙ made_reads k c cs end rest t M R.1 T.1 late high
      ∙ ap₂ (made_value k) (sym (read_go b.left c.left (lefts cs) t late)) (sym (read_go b.right c.right (rights cs) t (subst (λ y. y ≤ℚ t) T.1.0 late)))
]

-- ---- their starts
listed_rise : (k : Made) (b : Both) (to y : ℚ) (below : Bool) (turn : Option ℚ) (rest : List Piece) → LiesBy below b.left.line b.right.line b.left.x to turn → y <ℚ b.left.x
    → ((x : ℚ) → b.left.x ≤ℚ x → (x ≡ b.left.x) ⊎ (x <ℚ to) → RisesFrom x rest) → RisesFrom y (listed (parts_by k b below turn) rest)
listed_rise k b to y below None rest L h R = (h, R b.left.x (le_refl b.left.x) (inl refl))
listed_rise k b to y below (Some x) rest L h R = (h, (L.past, R x (le_of_lt L.past) (inr L.before)))

pub made_rises : (k : Made) (b : Both) (bs : List Both) (end y : ℚ) (ps : List Piece) → AreMade k (b ∷ bs) end ps → RisesFrom b.left.x (lefts bs) → y <ℚ b.left.x → RisesFrom y ps
made_rises k b [] end y ps (parts, P, (rest, e, M)) R h =
    subst (RisesFrom y) (sym (e ∙ ap (λ z. listed z rest) P.is)) (listed_rise k b end y P.lie.below P.lie.turn rest P.lies h (λ x low o. subst (RisesFrom x) (sym M) tt))
made_rises k b (c ∷ cs) end y ps (parts, P, (rest, e, M)) R h =
    subst (RisesFrom y) (sym (e ∙ ap (λ z. listed z rest) P.is))
    (listed_rise k b c.left.x y P.lie.below P.lie.turn rest P.lies h (λ x low o. made_rises k c cs end x rest M R.1 (earlier x o)))
  where
    earlier : (x : ℚ) → (x ≡ b.left.x) ⊎ (x <ℚ c.left.x) → x <ℚ c.left.x
    earlier x (inl e) = subst (λ z. z <ℚ c.left.x) (sym e) R.0
    earlier x (inr l) = l

pub made_starts : (k : Made) (bs : List Both) (end : ℚ) (ps : List Piece) → AreMade k bs end ps → StartsAtZero (lefts bs) → StartsAtZero ps
made_starts k [] end ps M S = absurd S
made_starts k (b ∷ bs) end ps M S =
    let F = made_first k b bs end ps M in
    let y = b.left.x -ℚ int (pos 1) in
    let early : y <ℚ b.left.x = with1 b.left.x (λ c. omega (arith, c.le, c.lt, c.same)) in
    let R : RisesFrom y (F.first ∷ F.rest) = subst (RisesFrom y) F.is (made_rises k b bs end y ps M S.1 early) in
    subst StartsAtZero (sym F.is) (F.start ∙ S.0, R.1)

-- two pieces of each stretch at most
listed_length : (k : Made) (b : Both) (below : Bool) (turn : Option ℚ) (rest : List Piece) → length (listed (parts_by k b below turn) rest) ≤ length rest + 2
listed_length k b below None rest = omega arith
listed_length k b below (Some x) rest = omega arith

pub made_length : (k : Made) (bs : List Both) (end : ℚ) (ps : List Piece) → AreMade k bs end ps → length ps ≤ 2 * length bs
made_length k [] end ps M = subst (λ z. length z ≤ 2 * 0) (sym M) (omega arith)
made_length k (b ∷ bs) end ps (parts, P, (rest, e, M)) =
    let less = made_length k bs end rest M in
    let more = listed_length k b P.lie.below P.lie.turn rest in
    subst (λ z. length z ≤ 2 * length (b ∷ bs)) (sym (e ∙ ap (λ z. listed z rest) P.is)) (omega (arith, less, more))
