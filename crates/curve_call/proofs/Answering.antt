-- Pieces of an answer meet what the normal form asks of a curve in any form; and what holds in its window and shifts with it holds of the answer.
use Rattle.std.specs.Prelude.{◌≡◌, ℕ, ◌<◌, ◌^◌, pos, List}
use Rattle.std.proofs.Common.{arith, sym, subst}
use Rattle.rational.specs.Rational.{ℚ, ◌+ℚ◌, ◌≤ℚ◌, ◌<ℚ◌, int}
use Rattle.rational.specs.Grid.{Within}
use Rattle.rational.specs.Extended.{Ext, ◌+ₑ◌}
use Rattle.rational.specs.declared.Extended.TheVariants.{Fin}
use Rattle.rational.proofs.Linear.{with3}
use Rattle.rational.proofs.Laws.{le_of_lt, le_refl}
use Rattle.rational.proofs.Grid.{within_weaken}
use Rattle.upp_curve.specs.declared.affine_segment.line.Piece.{Piece}
use Rattle.upp_curve.specs.declared.curve.Tail.TheVariants.{Periodic}
use Rattle.upp_curve.specs.affine_segment.Pieces.{Each, StartsAtZero}
use Rattle.upp_curve.specs.affine_segment.Reading.{read}
use Rattle.upp_curve.specs.Curve.{SpecCurve, repeated, value_at}
use Rattle.upp_normal.specs.Normalising.{HasValues, OnGridsUnlessLine}
use Rattle.upp_normal.specs.Room.{PieceHasRoom, TailHasRoom, TurnHasRoom}
use Rattle.upp_limits.specs.Limits.{Sizes}
use Rattle.upp_limits.specs.Sized.{grid_of, times_largest}
use Rattle.upp_normal.specs.Operand.{AreLimited, answer_room}
use Rattle.upp_limits.proofs.NarrowSizes.{narrow_limit, grids_narrow, grid_pos}
use Rattle.upp_normal.proofs.AnswerRoom.{answer_is_room, room_at_start, largest_room}
use Rattle.upp_curve.proofs.Repeats.{tail_lemma}
use Rattle.curve_call.specs.Answering.{IsAnswerWindow}
use Rattle.curve_call.specs.Tails.{TailOf}

periodic : List Piece → ℚ → ℚ → ℚ → SpecCurve
periodic ps from period rise = record { pieces = ps; tail = Periodic from period rise }

-- ---- the grids
pub small_grids : (z : Sizes) (end : ℚ) → AreLimited z end → (0 < z.dt) × (z.dt < 2 ^ 127) × (0 < grid_of z) × (grid_of z < 2 ^ 127)
small_grids z end a =
    let narrow = narrow_limit z end a.sizes a.gauge in
    let small = grids_narrow z end (2 ^ 114) a.sizes narrow in
    let t = small.0 in
    let g = small.1 in
    (a.sizes.dt, omega arith, grid_pos z end a.sizes, omega arith)

-- ---- a periodic answer
pub answer_room_is : (ps : List Piece) (from period rise : ℚ) (times values : ℕ) → IsAnswerWindow ps from period rise times values → TailHasRoom times values ps (Periodic from period rise)
answer_room_is ps from period rise times values h =
    let z = h.sizes in
    let end = h.end in
    let m = answer_room z end in
    let low = h.nonneg in
    let early = h.early in
    let turn : TurnHasRoom m times values ps from period rise = record {
      is = answer_is_room z end h.limited;
      times_is = sym h.times_is;
      values_is = sym h.values_is;
      each = h.room;
      time = room_at_start z end from h.limited h.from_whole h.nonneg;
      move = record {
        time = h.period_whole;
        low = le_of_lt h.above;
        height = h.rise_whole;
        within = within_weaken _ _ rise (largest_room z end 8 (omega arith)) h.rise_within;
      };
      ends = with3 from period end (λ c. omega (arith, c.le, c.lt, c.same));
    } in
    (m, turn)

pub answer_grids : (ps : List Piece) (from period rise : ℚ) (times values : ℕ) → IsAnswerWindow ps from period rise times values
    → OnGridsUnlessLine times values (repeated (read ps) from period rise) from period rise
answer_grids ps from period rise times values h =
    let f = repeated (read ps) from period rise in
    subst (λ n. OnGridsUnlessLine n values f from period rise) (sym h.times_is) (subst (λ n. OnGridsUnlessLine h.sizes.dt n f from period rise) (sym h.values_is) h.grids)

-- pieces up to the end of the window, and a tail whose first period ends there
pub answer_with_tail : (z : Sizes) (end from period rise : ℚ) (times values : ℕ) (ps : List Piece) → AreLimited z end → times ≡ z.dt → values ≡ grid_of z → StartsAtZero ps
    → Each (λ p. p.x <ℚ end) ps → Each (PieceHasRoom (answer_room z end) 1) ps → TailOf z end from period rise → Within (times_largest 8 z) rise
    → OnGridsUnlessLine z.dt (grid_of z) (repeated (read ps) from period rise) from period rise → IsAnswerWindow ps from period rise times values
answer_with_tail z end from period rise times values ps limited times_is values_is starts before room tail within grids = record {
  sizes = z;
  end = end;
  limited = limited;
  times_is = times_is;
  values_is = values_is;
  starts = starts;
  before = subst (λ y. Each (λ p. p.x <ℚ y) ps) (sym tail.ends) before;
  room = room;
  from_whole = tail.time;
  nonneg = tail.nonneg;
  period_whole = tail.whole;
  above = tail.some;
  early = subst (λ y. from +ℚ period ≤ℚ y) tail.ends (le_refl (from +ℚ period));
  rise_whole = tail.value;
  rise_within = within;
  grids = grids;
}

-- ---- a relation that holds in the window and shifts with the answer holds at every time
pub answer_relation : (Rel : ℚ → Ext → Type 0) (c : SpecCurve) (f : ℚ → Ext) (from period rise : ℚ) → HasValues c (repeated f from period rise) → int (pos 0) ≤ℚ from → int (pos 0) <ℚ period
    → ((t : ℚ) → int (pos 0) ≤ℚ t → t <ℚ from +ℚ period → Rel t (f t))
    → ((t : ℚ) (v : Ext) → from ≤ℚ t → Rel t v → Rel (t +ℚ period) (v +ₑ Fin rise))
    → (t : ℚ) → int (pos 0) ≤ℚ t → Rel t (value_at c t)
answer_relation Rel c f from period rise same low above first next t some = subst (Rel t) (sym (same t some)) (tail_lemma Rel f from period rise low above first next t some)

-- ---- what a curve in any form reads as
pub periodic_grids : (ps : List Piece) (from period rise : ℚ) (times values : ℕ) → OnGridsUnlessLine times values (repeated (read ps) from period rise) from period rise
    → OnGridsUnlessLine times values (value_at record { pieces = ps; tail = Periodic from period rise }) from period rise
unfolding value_at
periodic_grids ps from period rise times values h = h
