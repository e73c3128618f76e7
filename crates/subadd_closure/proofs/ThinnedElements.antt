-- Pieces that are nowhere above a line, or a value at a time, read so; and elements that are left out one after another.
use Rattle.std.specs.Prelude.{◌≡◌, ◌⊎◌, ◌↔◌, Bool, true, false, not, IsTrue, ℕ, ◌+◌, ◌-◌, ◌<◌, ◌≤◌, List, [], ◌∷◌, ◌++◌, length, Option, Some}
use Rattle.std.proofs.Common.{arith, sym, refl, ap, ◌∙◌, subst, inl, inr, take, drop, get_or, true≢false, take-append-drop, length-drop}
use Rattle.std.proofs.lemmas.List.{take_more, take_all}
use Rattle.rational.specs.Rational.{ℚ, ◌+ℚ◌, ◌*ℚ◌, ◌-ℚ◌, ◌≤ℚ◌, ◌<ℚ◌}
use Rattle.rational.specs.Extended.{Ext, ◌≤ₑ◌, ◌<ₑ◌, ◌+ₑ◌}
use Rattle.rational.specs.declared.Extended.TheVariants.{Fin, Inf}
use Rattle.rational.proofs.Linear.{with2, with3, with4, with6}
use Rattle.rational.proofs.Laws.{le_or_lt, le_trans, le_of_lt, le_lt_trans, antisym, le_of_not_lt, mul_le_mul, mul_le_mul_right, sub_mul}
use Rattle.rational.proofs.ExtendedOrder.{le_ext_trans, same_le_ext}
use Rattle.upp_curve.specs.declared.affine_segment.line.Line.{Line}
use Rattle.upp_curve.specs.declared.affine_segment.line.Piece.{Piece}
use Rattle.upp_curve.specs.declared.affine_segment.element.Element.{Element}
use Rattle.upp_curve.specs.declared.affine_segment.element.Element.TheVariants.{Point, Open}
use Rattle.upp_curve.specs.affine_segment.Elements.{Covers, level, start_of}
use Rattle.upp_curve.specs.affine_segment.Values.{line_at, line_value}
use Rattle.upp_curve.specs.affine_segment.Reading.{read, piece_in, piece_value}
use Rattle.upp_curve.specs.affine_segment.Pieces.{Each, RisesFrom, StartsAtZero}
use Rattle.upp_curve.proofs.affine_segment.PieceIn.{piece_in_stop, piece_in_go, piece_in_end, read_is, read_one, read_stop, value_past, value_by}
use Rattle.min_plus.specs.Functions.{zero_q}
use Rattle.min_plus.specs.Convolution.{IsSubadditive}
use Rattle.upp_curve.proofs.affine_segment.NextPiece.{next_piece, none_left}
use Rattle.upp_curve.specs.Curve.{SpecCurve, value_at}
use Rattle.upp_curve.specs.Curves.{IsCurve}
use Rattle.upp_curve.specs.Unrolled.{unroll, upto}
use Rattle.upp_curve.proofs.Unique.{upto_none, upto_some, upto_end}
use Rattle.upp_normal.proofs.Below.{read_upto, read_from_cut, unroll_reads}
use Rattle.element_envelope.specs.PieceElements.{Among, elements_of}
use Rattle.element_envelope.proofs.Cover.{cover, element_times}
use Rattle.element_envelope.proofs.Members.{among_right}
use Rattle.element_envelope.proofs.WindowConvolution.{endless}
use Rattle.subadd_closure.specs.Thinned.{LiesUnder, IsBefore, StartsLate, StartFrom, IsOver, AreKept, IsThinned}

-- ---- numbers
pub at_most : (b : Bool) (x y : ℚ) → (IsTrue b ↔ (y <ℚ x)) → IsTrue (not b) → x ≤ℚ y
at_most true x y t h = absurd (true≢false (sym h))
at_most false x y t h = le_of_not_lt (λ k. true≢false (sym (t.1 k)))

pub value_most : (at : Ext) (v top w : ℚ) → at ≡ Fin v → top ≡ w → v ≤ℚ top → at ≤ₑ Fin w
value_most at v top w e k h = subst (λ z. z ≤ₑ Fin w) (sym e) (subst (λ z. v ≤ℚ z) k h)

-- ---- a piece and a line
low_line : (a b : Line) (t : ℚ) → zero_q ≤ℚ t → a.icept ≤ℚ b.icept → a.slope ≤ℚ b.slope → line_at a t ≤ℚ line_at b t
low_line a b t late h k =
    let m = mul_le_mul_right t late k in
    with4 a.icept b.icept (a.slope *ℚ t) (b.slope *ℚ t) (λ c. omega (arith, c.le, c.lt, c.same))

-- at its start, and past it
starts_low : (p : Piece) (line : Line) (t : ℚ) → t ≤ℚ p.x → p.x ≤ℚ t → p.at ≤ₑ Fin (line_at line p.x)
    → piece_value p t ≤ₑ Fin (line_at line t)
starts_low p line t here past start =
    let same : t ≡ p.x = antisym (here, past) in
    subst (λ z. piece_value p z ≤ₑ Fin (line_at line z)) (sym same)
    (le_ext_trans (piece_value p p.x) p.at (Fin (line_at line p.x))
    (same_le_ext (value_by p p.x (subst (λ z. z ≤ℚ p.x) same here))) start)

goes_low : (p : Piece) (own line : Line) (t : ℚ) → p.line ≡ Some own → p.x <ℚ t → line_at own t ≤ℚ line_at line t
    → piece_value p t ≤ₑ Fin (line_at line t)
goes_low p own line t is after low =
    le_ext_trans (piece_value p t) (line_value (Some own) t) (Fin (line_at line t))
    (same_le_ext (value_past p t after ∙ ap (λ l. line_value l t) is)) low

-- from a time on, of which the first line is not the steeper one; and up to one, of which it is
low_after : (a b : Line) (u t : ℚ) → a.slope ≤ℚ b.slope → line_at a u ≤ℚ line_at b u → u ≤ℚ t
    → line_at a t ≤ℚ line_at b t
low_after a b u t k h past =
    let d : zero_q ≤ℚ b.slope -ℚ a.slope = with2 a.slope b.slope (λ c. omega (arith, c.le, c.lt, c.same)) in
    let m : (b.slope -ℚ a.slope) *ℚ u ≤ℚ (b.slope -ℚ a.slope) *ℚ t = mul_le_mul (b.slope -ℚ a.slope) d past in
    let n : b.slope *ℚ u -ℚ a.slope *ℚ u ≤ℚ b.slope *ℚ t -ℚ a.slope *ℚ t =
    subst (λ z. z ≤ℚ b.slope *ℚ t -ℚ a.slope *ℚ t) (sub_mul b.slope a.slope u)
    (subst (λ z. (b.slope -ℚ a.slope) *ℚ u ≤ℚ z) (sub_mul b.slope a.slope t) m) in
    with6 a.icept b.icept (a.slope *ℚ u) (b.slope *ℚ u) (a.slope *ℚ t) (b.slope *ℚ t)
    (λ c. omega (arith, c.le, c.lt, c.same))

low_until : (a b : Line) (w t : ℚ) → b.slope ≤ℚ a.slope → line_at a w ≤ℚ line_at b w → t ≤ℚ w
    → line_at a t ≤ℚ line_at b t
low_until a b w t k h before =
    let d : zero_q ≤ℚ a.slope -ℚ b.slope = with2 a.slope b.slope (λ c. omega (arith, c.le, c.lt, c.same)) in
    let m : (a.slope -ℚ b.slope) *ℚ t ≤ℚ (a.slope -ℚ b.slope) *ℚ w = mul_le_mul (a.slope -ℚ b.slope) d before in
    let n : a.slope *ℚ t -ℚ b.slope *ℚ t ≤ℚ a.slope *ℚ w -ℚ b.slope *ℚ w =
    subst (λ z. z ≤ℚ a.slope *ℚ w -ℚ b.slope *ℚ w) (sub_mul a.slope b.slope t)
    (subst (λ z. (a.slope -ℚ b.slope) *ℚ t ≤ℚ z) (sub_mul a.slope b.slope w) m) in
    with6 a.icept b.icept (a.slope *ℚ w) (b.slope *ℚ w) (a.slope *ℚ t) (b.slope *ℚ t)
    (λ c. omega (arith, c.le, c.lt, c.same))

pub lies_under : (p : Piece) (own line : Line) (from to : ℚ) → p.line ≡ Some own → own.icept ≤ℚ line.icept
    → own.slope ≤ℚ line.slope → p.at ≤ₑ Fin (line_at line p.x) → LiesUnder line from to p
lies_under p own line from to is h k start t late after before past = elim (le_or_lt t p.x) [
  | inl here ↦ starts_low p line t here past start
  | inr later ↦ goes_low p own line t is later (low_line own line t late h k)
]

-- two lines of which the first is not above the second at two times, nor between them
low_between : (a b : Line) (u w t : ℚ) → line_at a u ≤ℚ line_at b u → line_at a w ≤ℚ line_at b w → u ≤ℚ t → t ≤ℚ w
    → line_at a t ≤ℚ line_at b t
low_between a b u w t h k past before = elim (le_or_lt a.slope b.slope) [
  | inl le ↦ low_after a b u t le h past
  | inr gt ↦ low_until a b w t (le_of_lt gt) k before
]

pub ends_after : (p : Piece) (own line : Line) (from to : ℚ) → p.line ≡ Some own → line_at own to ≤ℚ line_at line to
    → p.x ≤ℚ from → line_at own from ≤ℚ line_at line from → LiesUnder line from to p
ends_after p own line from to is last soon first t late after before past =
    goes_low p own line t is (le_lt_trans soon after)
    (low_between own line from to t first last (le_of_lt after) (le_of_lt before))

pub ends_within : (p : Piece) (own line : Line) (from to : ℚ) → p.line ≡ Some own → line_at own to ≤ℚ line_at line to
    → line_at own p.x ≤ℚ line_at line p.x → p.at ≤ₑ Fin (line_at line p.x) → LiesUnder line from to p
ends_within p own line from to is last first start t late after before past = elim (le_or_lt t p.x) [
  | inl here ↦ starts_low p line t here past start
  | inr later ↦ goes_low p own line t is later (low_between own line p.x to t first last past (le_of_lt before))
]

-- ---- the pieces that start before a time
pub under_more : (line : Line) (from to : ℚ) (p : Piece) (left more all : List Piece) → left ≡ p ∷ more → p.x <ℚ to
    → LiesUnder line from to p → (Each (LiesUnder line from to) (upto to left) → Each (LiesUnder line from to) (upto to all))
    → Each (LiesUnder line from to) (upto to more) → Each (LiesUnder line from to) (upto to all)
under_more line from to p left more all e h here rest k =
    rest (subst (Each (LiesUnder line from to)) (sym (ap (upto to) e ∙ upto_some to p more h)) (here, k))

pub under_stops : (line : Line) (from to : ℚ) (p : Piece) (left more all : List Piece) → left ≡ p ∷ more → to ≤ℚ p.x
    → (Each (LiesUnder line from to) (upto to left) → Each (LiesUnder line from to) (upto to all)) → Each (LiesUnder line from to) (upto to all)
under_stops line from to p left more all e h rest =
    rest (subst (Each (LiesUnder line from to)) (sym (ap (upto to) e ∙ upto_none to p more h)) tt)

pub under_ends : (line : Line) (from to : ℚ) (left all : List Piece) → left ≡ []
    → (Each (LiesUnder line from to) (upto to left) → Each (LiesUnder line from to) (upto to all)) → Each (LiesUnder line from to) (upto to all)
under_ends line from to left all e rest = rest (subst (Each (LiesUnder line from to)) (sym (ap (upto to) e ∙ upto_end to)) tt)

-- what holds of each piece holds of the one that is read
each_read : (line : Line) (from to : ℚ) (p : Piece) (ps : List Piece) (t : ℚ) → zero_q ≤ℚ t → from <ℚ t → t <ℚ to → p.x ≤ℚ t → Each (LiesUnder line from to) (p ∷ ps)
    → read (p ∷ ps) t ≤ₑ Fin (line_at line t)
each_read line from to p ps t late after before past h =
    le_ext_trans (read (p ∷ ps) t) (piece_value (piece_in p ps t) t) (Fin (line_at line t)) (same_le_ext (read_is p ps t))
    (found p ps past h)
  where
    found : (p : Piece) (ps : List Piece) → p.x ≤ℚ t → Each (LiesUnder line from to) (p ∷ ps)
        → piece_value (piece_in p ps t) t ≤ₑ Fin (line_at line t)
    found p [] past h =
        subst (λ z. piece_value z t ≤ₑ Fin (line_at line t)) (sym (piece_in_end p t)) (h.0 t late after before past)
    found p (q ∷ qs) past h = elim (le_or_lt q.x t) [
      | inl go ↦
          subst (λ z. piece_value z t ≤ₑ Fin (line_at line t)) (sym (piece_in_go p q qs t go)) (found q qs go h.1)
      | inr stop ↦
          subst (λ z. piece_value z t ≤ₑ Fin (line_at line t)) (sym (piece_in_stop p q qs t stop)) (h.0 t late after before past)
    ]

-- those before the last of which the start is by t start by t too
starts_by : (x : ℚ) (bs : List Piece) (p : Piece) (rest : List Piece) (t : ℚ) → RisesFrom x (bs ++ p ∷ rest) → p.x ≤ℚ t
    → Each (λ z. z.x ≤ℚ t) bs × (x ≤ℚ t)
starts_by x [] p rest t r h = (tt, le_trans (le_of_lt r.0) h)
starts_by x (b ∷ bs) p rest t r h =
    let (each, soon) = starts_by b.x bs p rest t r.1 h in
    ((soon, each), le_trans (le_of_lt r.0) soon)

all_by : (bs : List Piece) (p : Piece) (rest : List Piece) (t : ℚ) → StartsAtZero (bs ++ p ∷ rest) → p.x ≤ℚ t
    → Each (λ z. z.x ≤ℚ t) bs
all_by [] p rest t z h = tt
all_by (b ∷ bs) p rest t z h = let (each, soon) = starts_by b.x bs p rest t z.1 h in (soon, each)

-- from a piece that starts by t on, the pieces are read as all of them
pub read_under : (line : Line) (from to t : ℚ) (all bs : List Piece) (p : Piece) (rest : List Piece) → all ≡ bs ++ p ∷ rest
    → StartsAtZero all → zero_q ≤ℚ t → p.x ≤ℚ t → from <ℚ t → t <ℚ to → Each (LiesUnder line from to) (upto to (p ∷ rest))
    → read all t ≤ₑ Fin (line_at line t)
read_under line from to t all bs p rest shape starts late past after early each =
    let start : p.x <ℚ to = le_lt_trans past early in
    let some = upto_some to p rest start in
    le_ext_trans (read all t) (read (p ∷ upto to rest) t) (Fin (line_at line t))
    (same_le_ext (ap (λ z. read z t) shape
    ∙ read_from_cut bs p rest t (all_by bs p rest t (subst StartsAtZero shape starts) past) past
    ∙ sym (read_upto to p rest t early start) ∙ ap (λ z. read z t) some))
    (each_read line from to p (upto to rest) t late after early past (subst (Each (LiesUnder line from to)) some each))

-- those from the k-th on, as a slice gives them
pub slice_is : (ps : List Piece) (k : ℕ) → take (length ps - k) (drop k ps) ≡ drop k ps
slice_is ps k = let n = length-drop k ps in take_all (length ps - k) (drop k ps) (omega arith)

-- so from the k-th on
pub slice_under : (line : Line) (from to t : ℚ) (ps : List Piece) (k : ℕ) (p : Piece) → k < length ps → p ≡ get_or ps k p
    → StartsAtZero ps → p.x ≤ℚ from → zero_q ≤ℚ t → from <ℚ t → t <ℚ to → Each (LiesUnder line from to) (upto to (drop k ps))
    → read ps t ≤ₑ Fin (line_at line t)
slice_under line from to t ps k p h is starts low late past early each =
    let here = next_piece p ps k h is in
    read_under line from to t ps (take k ps) p (drop (k + 1) ps)
    (sym (take-append-drop k ps) ∙ ap (λ z. take k ps ++ z) here) starts late (le_trans low (le_of_lt past)) past early
    (subst (λ z. Each (LiesUnder line from to) (upto to z)) here each)

-- ---- a value at a time
pub line_most : (line : Option Line) (own : Line) (x found v : ℚ) → line ≡ Some own → found ≡ line_at own x → found ≤ℚ v
    → line_value line x ≤ₑ Fin v
line_most line own x found v is at h =
    subst (λ l. line_value l x ≤ₑ Fin v) (sym is) (subst (λ z. z ≤ℚ v) at h)

pub past_under : (p : Piece) (x v : ℚ) → p.x <ℚ x → line_value p.line x ≤ₑ Fin v → piece_value p x ≤ₑ Fin v
past_under p x v past h = subst (λ z. z ≤ₑ Fin v) (sym (value_past p x past)) h

pub start_under : (p : Piece) (x v : ℚ) → x ≤ℚ p.x → p.at ≤ₑ Fin v → piece_value p x ≤ₑ Fin v
start_under p x v here h = subst (λ z. z ≤ₑ Fin v) (sym (value_by p x here)) h

pub none_before : (t : ℚ) (ps : List Piece) (k : ℕ) → length ps ≤ k → IsBefore t (drop k ps)
none_before t ps k h = subst (IsBefore t) (sym (none_left ps k h)) tt

pub one_before : (t : ℚ) (ps : List Piece) (k : ℕ) (p : Piece) → k < length ps → p ≡ get_or ps k p → t <ℚ p.x
    → IsBefore t (drop k ps)
one_before t ps k p h is early = subst (IsBefore t) (sym (next_piece p ps k h is)) early

last_read : (p : Piece) (rest : List Piece) (t : ℚ) → IsBefore t rest → read (p ∷ rest) t ≡ piece_value p t
last_read p [] t h = read_one p t
last_read p (q ∷ qs) t h = read_stop p q qs t h

-- the last piece that starts by t is the one that is read there
pub point_under : (t v : ℚ) (ps : List Piece) (k : ℕ) (p : Piece) → k < length ps → p ≡ get_or ps k p → StartsAtZero ps
    → p.x ≤ℚ t → IsBefore t (drop (k + 1) ps) → piece_value p t ≤ₑ Fin v → read ps t ≤ₑ Fin v
point_under t v ps k p h is starts low before under =
    let bs = take k ps in
    let rest = drop (k + 1) ps in
    let shape : ps ≡ bs ++ p ∷ rest = sym (take-append-drop k ps) ∙ ap (λ z. bs ++ z) (next_piece p ps k h is) in
    let reads : read ps t ≡ piece_value p t =
    ap (λ z. read z t) shape
    ∙ read_from_cut bs p rest t (all_by bs p rest t (subst StartsAtZero shape starts) low) low ∙ last_read p rest t before in
    subst (λ z. z ≤ₑ Fin v) (sym reads) under

-- ---- elements
pub point_is_over : (F : ℚ → Ext) (end x v : ℚ) (e : Element) → e ≡ Point x v → zero_q <ℚ x → F x ≤ₑ Fin v
    → IsOver F end e
point_is_over F end x v e is late under = subst (IsOver F end) (sym is) record {
  late = late;
  over = λ t c early. subst (λ z. F z ≤ₑ Fin v) (sym c) under;
}

pub segment_is_over : (end from limit : ℚ) (to : Ext) (line : Line) (ps : List Piece) (e : Element)
    → e ≡ Open from to line → zero_q ≤ℚ from → ((t : ℚ) → Fin t <ₑ to → t <ℚ end → t <ℚ limit)
    → ((t : ℚ) → zero_q ≤ℚ t → from <ℚ t → t <ℚ limit → read ps t ≤ₑ Fin (line_at line t)) → IsOver (read ps) end e
segment_is_over end from limit to line ps e is late within under = subst (IsOver (read ps) end) (sym is) record {
  late = late;
  over = λ t c early. under t (le_trans late (le_of_lt c.past)) c.past (within t c.before early);
}

-- what is nowhere below a function before the end is so of one with the same values there
late_time : (e : Element) (t : ℚ) → StartsLate e → Covers e t → zero_q ≤ℚ t
late_time (Point x v) t late c = le_of_lt (subst (λ z. zero_q <ℚ z) (sym c) late)
late_time (Open from to line) t late c = le_trans late (le_of_lt c.past)

same_over : (F G : ℚ → Ext) (end : ℚ) (e : Element) → ((t : ℚ) → zero_q ≤ℚ t → t <ℚ end → F t ≡ G t) → IsOver F end e
    → IsOver G end e
same_over F G end e same o = record {
  late = o.late;
  over = λ t c early. subst (λ z. z ≤ₑ Fin (level e t)) (same t (late_time e t o.late c) early) (o.over t c early);
}

pub same_thinned : (F G : ℚ → Ext) (end : ℚ) (ys zs : List Element)
    → ((t : ℚ) → zero_q ≤ℚ t → t <ℚ end → F t ≡ G t) → IsThinned F end ys zs → IsThinned G end ys zs
same_thinned F G end ys zs same h = record {
  fewer = h.fewer;
  others = λ e a. elim (h.others e a) [ inl k ↦ inl k | inr o ↦ inr (same_over F G end e same o) ];
}

-- ---- elements one after another
among_push : (e d : Element) (es : List Element) → Among e (es ++ d ∷ []) → Among e es ⊎ (e ≡ d)
among_push e d [] (inl p) = inr p
among_push e d [] (inr h) = absurd h
among_push e d (x ∷ xs) (inl p) = inl (inl p)
among_push e d (x ∷ xs) (inr h) = elim (among_push e d xs h) [ inl a ↦ inl (inr a) | inr p ↦ inr p ]

among_first : (e d : Element) (es : List Element) → Among e es → Among e (es ++ d ∷ [])
among_first e d [] h = absurd h
among_first e d (x ∷ xs) (inl p) = inl p
among_first e d (x ∷ xs) (inr h) = inr (among_first e d xs h)

among_last : (d : Element) (es : List Element) → Among d (es ++ d ∷ [])
among_last d [] = inl refl
among_last d (x ∷ xs) = inr (among_last d xs)

pub one_kept : (P : Element → Type 0) (ys zs : List Element) (d : Element) → AreKept P ys zs
    → AreKept P (ys ++ d ∷ []) (zs ++ d ∷ [])
one_kept P ys zs d h = record {
  fewer = λ e k. elim (among_push e d zs k) [
    | inl a ↦ among_first e d ys (h.fewer e a)
    | inr p ↦ subst (λ x. Among x (ys ++ d ∷ [])) (sym p) (among_last d ys)
  ];
  others = λ e k. elim (among_push e d ys k) [
    | inl a ↦ elim (h.others e a) [ inl b ↦ inl (among_first e d zs b) | inr o ↦ inr o ]
    | inr p ↦ inl (subst (λ x. Among x (zs ++ d ∷ [])) (sym p) (among_last d zs))
  ];
}

pub one_left : (P : Element → Type 0) (ys zs : List Element) (d : Element) → AreKept P ys zs → P d
    → AreKept P (ys ++ d ∷ []) zs
one_left P ys zs d h o = record {
  fewer = λ e k. among_first e d ys (h.fewer e k);
  others = λ e k. elim (among_push e d ys k) [
    | inl a ↦ h.others e a
    | inr p ↦ inr (subst P (sym p) o)
  ];
}

pub none_kept : (P : Element → Type 0) → AreKept P [] []
none_kept P = record { fewer = λ e h. h; others = λ e h. absurd h }

pub take_push : (es : List Element) (i : ℕ) (e : Element) → i < length es → e ≡ get_or es i e
    → take (i + 1) es ≡ take i es ++ e ∷ []
take_push es i e h is = take_more es i e h ∙ ap (λ x. take i es ++ x ∷ []) (sym is)

-- ---- few of some elements
among_at : (es : List Element) (k : ℕ) (e : Element) → k < length es → e ≡ get_or es k e → Among e es
among_at es k e h is =
    subst (Among e) (take-append-drop k es)
    (subst (λ z. Among e (take k es ++ z)) (sym (next_piece e es k h is))
    (among_right e (take k es) (e ∷ drop (k + 1) es) (inl refl)))

pub from_none : (least : ℚ) (ys : List Element) → StartFrom least ys []
from_none least ys w h = absurd h

pub from_push : (least : ℚ) (ys ws : List Element) (k : ℕ) (e : Element) → k < length ys → e ≡ get_or ys k e
    → least ≤ℚ start_of e → StartFrom least ys ws → StartFrom least ys (ws ++ e ∷ [])
from_push least ys ws k e h is late all w a = elim (among_push w e ws a) [
  | inl b ↦ all w b
  | inr same ↦ subst (λ z. Among z ys × (least ≤ℚ start_of z)) (sym same) (among_at ys k e h is, late)
]

-- ---- the window of a curve
pub window_reads : (f : SpecCurve) (end : ℚ) (ps : List Piece) → IsCurve f → ps ≡ unroll f end
    → (t : ℚ) → zero_q ≤ℚ t → t <ℚ end → read ps t ≡ value_at f t
window_reads f end ps curve are t late early = ap (λ z. read z t) are ∙ unroll_reads f end t curve.normal late early

-- a subadditive curve's window is subadditive before its end
pub window_adds : (g : SpecCurve) (end : ℚ) (ps : List Piece) → IsCurve g → ps ≡ unroll g end → IsSubadditive (value_at g)
    → (s u : ℚ) → zero_q ≤ℚ s → zero_q ≤ℚ u → s +ℚ u <ℚ end → read ps (s +ℚ u) ≤ₑ read ps s +ₑ read ps u
window_adds g end ps curve are sub s u n m early =
    let se : s <ℚ end = with3 s u end (λ c. omega (arith, c.le, c.lt, c.same)) in
    let ue : u <ℚ end = with3 s u end (λ c. omega (arith, c.le, c.lt, c.same)) in
    let low : zero_q ≤ℚ s +ℚ u = with2 s u (λ c. omega (arith, c.le, c.lt, c.same)) in
    let reads = window_reads g end ps curve are in
    le_ext_trans (read ps (s +ℚ u)) (value_at g (s +ℚ u)) (read ps s +ₑ read ps u) (same_le_ext (reads (s +ℚ u) low early))
    (le_ext_trans (value_at g (s +ℚ u)) (value_at g s +ₑ value_at g u) (read ps s +ₑ read ps u) (sub s u n m)
    (same_le_ext (ap (λ z. z +ₑ value_at g u) (sym (reads s n se)) ∙ ap (λ z. read ps s +ₑ z) (sym (reads u m ue)))))

-- ---- an element of pieces from 0 on, at one of its times: what is read there, and that it is not before 0
pub element_reads : (ps : List Piece) (t : ℚ) (e : Element) → StartsAtZero ps → Among e (elements_of ps Inf) → Covers e t → read ps t ≡ Fin (level e t)
element_reads ps t e starts a c = (cover ps Inf starts (endless ps)).reads t record { element = e; among = a; covers = c }

pub element_late : (ps : List Piece) (t : ℚ) (e : Element) → StartsAtZero ps → Among e (elements_of ps Inf) → Covers e t → zero_q ≤ℚ t
element_late ps t e starts a c = (element_times ps Inf t e starts (endless ps) a c).0
