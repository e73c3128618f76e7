-- What an element makes with a curve, piece by piece.
use Rattle.std.specs.Prelude.{◌≡◌, ◌⊎◌, ◌↔◌, ℕ, ◌<◌, pos, Bool, true, false, IsTrue, Option, Some, None}
use Rattle.std.proofs.Common.{arith, sym, ap, ◌∙◌, refl, subst, inl, inr, true≢false}
use Rattle.rational.specs.Rational.{ℚ, ◌+ℚ◌, ◌-ℚ◌, ◌≤ℚ◌, ◌<ℚ◌, int, neg_ℚ}
use Rattle.rational.specs.Ratio.{SumFits}
use Rattle.rational.specs.Grid.{Whole}
use Rattle.rational.specs.Extended.{Ext, ◌≤ₑ◌, ◌<ₑ◌, ◌+ₑ◌, min_ext}
use Rattle.rational.specs.declared.Extended.TheVariants.{Fin, Inf}
use Rattle.rational.specs.Families.{either}
use Rattle.rational.proofs.Linear.{with2, with5}
use Rattle.rational.proofs.Laws.{le_refl, le_trans, le_of_lt, le_lt_trans, lt_le_trans, lt_trans, lt_cases, lt_irrefl}
use Rattle.rational.proofs.ExtendedOrder.{same_le_ext}
use Rattle.upp_curve.specs.declared.affine_segment.line.Line.{Line}
use Rattle.upp_curve.specs.declared.affine_segment.element.Element.{Element}
use Rattle.upp_curve.specs.declared.affine_segment.element.Element.TheVariants.{Point, Open}
use Rattle.upp_curve.specs.affine_segment.Values.{line_value}
use Rattle.upp_curve.specs.affine_segment.Elements.{Covers, level, start_of}
use Rattle.upp_normal.specs.declared.ahead.Stretch.{Stretch}
use Rattle.upp_curve.specs.Curve.{SpecCurve, value_at}
use Rattle.upp_limits.specs.Limits.{Sizes}
use Rattle.upp_normal.specs.Operand.{AreLimited, OperandLineAt}
use Rattle.upp_normal.specs.Ahead.{GoesOn, IsBeforeNext, AtNext, HasWindow, IsTimeIn, TimesStand, GridValue}
use Rattle.upp_normal.proofs.StretchSizes.{times_stand, times_fit}
use Rattle.element_envelope.specs.ElementRoom.{OperandElement, WindowTime, WindowEnd}
use Rattle.element_envelope.proofs.Members.{Matched}
use Rattle.curve_conv.specs.Stretches.{SumStretch, IsAhead, IsSpan, until_time, point_at, open_at, PartPair, part_pair_sum, RowSplit, row_sum, IsProperPart, OperandPart}
use Rattle.curve_conv.specs.Scans.{IsEarly, is_time, time_or}
use Rattle.curve_conv.proofs.Families.{both_ahead, same_ahead, empty_ahead}
use Rattle.curve_conv.proofs.GridSteps.{steps_while, while_done, while_fewer}
use Rattle.element_envelope.proofs.Envelopes.{from_start}

-- ---- times
-- the next time to look at, where more is to do
abbrev pub at_of : Bool → ℚ → Option ℚ
at_of true y = Some y
at_of false y = None

pub before_until : (next : Option ℚ) (u : ℚ) → IsBeforeNext u next → Fin u <ₑ until_time next
before_until None u h = tt
before_until (Some e) u h = h

pub until_before : (next : Option ℚ) (u : ℚ) → Fin u <ₑ until_time next → IsBeforeNext u next
until_before None u h = tt
until_before (Some e) u h = h

-- before the next time that is looked at, and before the limit, it is before the next time
pub early_before : (at : Option ℚ) (limit : ℚ) (next : Option ℚ) (u : ℚ) → IsEarly at limit next → IsBeforeNext u next → u <ℚ limit → IsBeforeNext u at
early_before None limit None u E h l = tt
early_before (Some x) limit None u E h l = lt_le_trans l E
early_before at limit (Some x) u E h l = subst (IsBeforeNext u) (sym E.0) h

pub early_after : (at : Option ℚ) (limit : ℚ) (next : Option ℚ) (y : ℚ) → IsEarly at limit next → IsBeforeNext y at → IsBeforeNext y next
early_after at limit None y E h = tt
early_after at limit (Some x) y E h = subst (IsBeforeNext y) E.0 h

pub early_at : (P : ℚ → Type 0) (at : Option ℚ) (limit : ℚ) (next : Option ℚ) → IsEarly at limit next → AtNext P at → AtNext P next
early_at P at limit None E h = tt
early_at P at limit (Some x) E h = subst (AtNext P) E.0 h

pub earlier : (y u : ℚ) (next : Option ℚ) → u <ℚ y → IsBeforeNext y next → IsBeforeNext u next
earlier y u None h k = tt
earlier y u (Some x) h k = lt_trans h k

-- ---- the elements of one piece
pub point_stands : (z : Sizes) (end y : ℚ) (at : Ext) → WindowTime z end y → GridValue z at → OperandPart z end (point_at y at)
point_stands z end y Inf T V = tt
point_stands z end y (Fin v) T V = record { time = T; value = V }

pub point_proper : (y : ℚ) (at : Ext) → IsProperPart (point_at y at)
point_proper y Inf = tt
point_proper y (Fin v) = tt

pub open_stands : (z : Sizes) (end y : ℚ) (next : Option ℚ) (line : Option Line) → WindowTime z end y → WindowEnd z end (until_time next) → OperandLineAt z line → OperandPart z end (open_at y next line)
open_stands z end y next None T E L = tt
open_stands z end y next (Some l) T E L = record { start = T; until = E; line = L }

pub open_proper : (y : ℚ) (next : Option ℚ) (line : Option Line) → IsBeforeNext y next → IsProperPart (open_at y next line)
open_proper y next None h = tt
open_proper y next (Some l) h = before_until next y h

pub end_stands : (z : Sizes) (end y room : ℚ) (next : Option ℚ) → int (pos 0) ≤ℚ y → room ≤ℚ end → IsBeforeNext y next → AtNext (Whole z.dt) next → AtNext (λ x. x <ℚ room) next → WindowEnd z end (until_time next)
end_stands z end y room None some most h w l = tt
end_stands z end y room (Some x) some most h w l = record { whole = w; nonneg = le_trans some (le_of_lt h); early = le_trans (le_of_lt l) most }

pub early_limit : (at : Option ℚ) (limit : ℚ) (next : Option ℚ) → IsEarly at limit next → AtNext (λ x. x <ℚ limit) next
early_limit at limit None E = tt
early_limit at limit (Some x) E = E.1

-- ---- one piece more
-- what the curve does from y on
record Cell (g : ℚ → Ext) (a : Element) (low room end y : ℚ) (here : Stretch) (next : Option ℚ) : Type 0 where
  goes : GoesOn g y here
  is_next : IsEarly here.next room next
  room_is : room ≡ end -ℚ start_of a
  late : low ≤ℚ y

-- the second side of a split of an early time is before the limit
in_room : (a : Element) (room end s u t : ℚ) → room ≡ end -ℚ start_of a → Covers a s → s +ℚ u ≡ t → t <ℚ end → u <ℚ room
in_room a room end s u t e c w l =
    let x = start_of a in
    let k = from_start a s c in
    subst (λ r. u <ℚ r) (sym e) (with5 x s u t end (λ c. omega (arith, c.le, c.lt, c.same)))

abbrev CellFamily : Element → ℚ → ℚ → Stretch → Option ℚ → ℚ → Type 0
CellFamily a low y here next u = RowSplit a (IsSpan low (Some y)) u ⊎ (PartPair a (point_at y here.at) u ⊎ PartPair a (open_at y next here.line) u)

cell_sum : (g : ℚ → Ext) (a : Element) (low y : ℚ) (here : Stretch) (next : Option ℚ) (u : ℚ) → CellFamily a low y here next u → Ext
cell_sum g a low y here next u =
    either (row_sum a g (IsSpan low (Some y)) u) (either (part_pair_sum a (point_at y here.at) u) (part_pair_sum a (open_at y next here.line) u))

point_down : (a : Element) (y : ℚ) (at : Ext) (s u t q : ℚ) → Covers a s → u ≡ y → s +ℚ u ≡ t → Fin (level a s) +ₑ at ≡ Fin q → (j : PartPair a (point_at y at) t) × (part_pair_sum a (point_at y at) t j ≤ₑ Fin q)
point_down a y Inf s u t q c e w h = absurd (same_le_ext h)
point_down a y (Fin v) s u t q c e w h = (record { first = s; second = u; first_in = c; second_in = e; whole = w }, same_le_ext h)

open_down : (a : Element) (y : ℚ) (next : Option ℚ) (line : Option Line) (s u t q : ℚ) → Covers a s → y <ℚ u → IsBeforeNext u next → s +ℚ u ≡ t → Fin (level a s) +ₑ line_value line u ≡ Fin q
    → (j : PartPair a (open_at y next line) t) × (part_pair_sum a (open_at y next line) t j ≤ₑ Fin q)
open_down a y next None s u t q c k b w h = absurd (same_le_ext h)
open_down a y next (Some l) s u t q c k b w h = (record { first = s; second = u; first_in = c; second_in = record { past = k; before = before_until next u b }; whole = w }, same_le_ext h)

point_up : (g : ℚ → Ext) (a : Element) (low y : ℚ) (at : Ext) (next : Option ℚ) (t : ℚ) → low ≤ℚ y → IsBeforeNext y next → at ≡ g y → (j : PartPair a (point_at y at) t)
    → (i : RowSplit a (IsSpan low next) t) × (row_sum a g (IsSpan low next) t i ≤ₑ part_pair_sum a (point_at y at) t j)
point_up g a low y Inf next t late b e j = absurd j
point_up g a low y (Fin v) next t late b e j =
    let u = j.second in
    let k = j.second_in in (
      record {
        first = j.first;
        second = u;
        first_in = j.first_in;
        second_in = record { late = subst (λ x. low ≤ℚ x) (sym k) late; before = subst (λ x. IsBeforeNext x next) (sym k) b };
        whole = j.whole;
      },
      same_le_ext (ap (λ w. Fin (level a j.first) +ₑ w) (ap g k ∙ sym e)),
    )

open_up : (g : ℚ → Ext) (a : Element) (low y : ℚ) (next : Option ℚ) (line : Option Line) (t : ℚ) → low ≤ℚ y
    → ((s u : ℚ) → Covers a s → s +ℚ u ≡ t → y <ℚ u → IsBeforeNext u next → g u ≡ line_value line u) → (j : PartPair a (open_at y next line) t)
    → (i : RowSplit a (IsSpan low next) t) × (row_sum a g (IsSpan low next) t i ≤ₑ part_pair_sum a (open_at y next line) t j)
open_up g a low y next None t late reads j = absurd j
open_up g a low y next (Some l) t late reads j =
    let u = j.second in
    let b = until_before next u j.second_in.before in (
      record { first = j.first; second = u; first_in = j.first_in; second_in = record { late = le_trans late (le_of_lt j.second_in.past); before = b }; whole = j.whole },
      same_le_ext (ap (λ w. Fin (level a j.first) +ₑ w) (reads j.first u j.first_in j.whole j.second_in.past b)),
    )

cell_matched : (g : ℚ → Ext) (a : Element) (low room end y t : ℚ) (here : Stretch) (next : Option ℚ) → Cell g a low room end y here next → t <ℚ end
    → Matched (row_sum a g (IsSpan low next) t) (cell_sum g a low y here next t)
unfolding cell_sum
cell_matched g a low room end y t here next C early = record { down = down; up = up }
  where
    reads : (s u : ℚ) → Covers a s → s +ℚ u ≡ t → y <ℚ u → IsBeforeNext u next → g u ≡ line_value here.line u
    reads s u c w past b = C.goes.line u past (early_before here.next room next u C.is_next b (in_room a room end s u t C.room_is c w early))

    down : (i : RowSplit a (IsSpan low next) t) (q : ℚ) → row_sum a g (IsSpan low next) t i ≡ Fin q → (j : CellFamily a low y here next t) × (cell_sum g a low y here next t j ≤ₑ Fin q)
    down i q e = elim (lt_cases i.second y) [
      | inl l ↦ (inl record { first = i.first; second = i.second; first_in = i.first_in; second_in = record { late = i.second_in.late; before = l }; whole = i.whole }, same_le_ext e)
      | inr (inl k) ↦
          let (j, h) = point_down a y here.at i.first i.second t q i.first_in k i.whole (ap (λ w. Fin (level a i.first) +ₑ w) (C.goes.at ∙ ap g (sym k)) ∙ e) in
          (inr (inl j), h)
      | inr (inr l) ↦
          let (j, h) = open_down a y next here.line i.first i.second t q i.first_in l i.second_in.before i.whole
          (ap (λ w. Fin (level a i.first) +ₑ w) (sym (reads i.first i.second i.first_in i.whole l i.second_in.before)) ∙ e) in
          (inr (inr j), h)
    ]

    up : (j : CellFamily a low y here next t) → (i : RowSplit a (IsSpan low next) t) × (row_sum a g (IsSpan low next) t i ≤ₑ cell_sum g a low y here next t j)
    up (inl i) = (
      record {
        first = i.first;
        second = i.second;
        first_in = i.first_in;
        second_in = record { late = i.second_in.late; before = earlier y i.second next i.second_in.before (early_after here.next room next y C.is_next C.goes.next) };
        whole = i.whole;
      },
      same_le_ext refl,
    )
    up (inr (inl j)) = point_up g a low y here.at next t C.late (early_after here.next room next y C.is_next C.goes.next) C.goes.at j
    up (inr (inr j)) = open_up g a low y next here.line t C.late reads j

-- ---- the walk
pub record RowWalk (z : Sizes) (g : SpecCurve) (a : Element) (low room end t : ℚ) (least : Stretch) (more : Bool) (y : ℚ) : Type 0 where
  pub ahead : IsAhead (RowSplit a (IsSpan low (at_of more y))) (row_sum a (value_at g) (IsSpan low (at_of more y))) end t least
  pub stands : SumStretch z t least
  pub late : low ≤ℚ y
  pub whole : Whole z.dt y
  pub early : more ≡ true → y <ℚ room

element_time : (z : Sizes) (end : ℚ) (a : Element) → OperandElement z end a → WindowTime z end (start_of a)
element_time z end (Point x v) E = E.time
element_time z end (Open from to l) E = E.start

pub room_fits : (z : Sizes) (end : ℚ) (a : Element) (start : ℚ) → AreLimited z end → OperandElement z end a → start ≡ start_of a → SumFits end (neg_ℚ start)
room_fits z end a start A E e =
    let T = element_time z end a E in
    subst (λ x. SumFits end (neg_ℚ x)) (sym e) (times_fit z end end (start_of a) A A.sizes.window T.whole A.some (le_refl end) T.nonneg T.early).1

room_most : (z : Sizes) (end room : ℚ) (a : Element) → OperandElement z end a → room ≡ end -ℚ start_of a → room ≤ℚ end
room_most z end room a E e =
    let x = start_of a in
    let low = (element_time z end a E).nonneg in
    subst (λ r. r ≤ℚ end) (sym e) (with2 end x (λ c. omega (arith, c.le, c.lt, c.same)))

pub walk_start : (z : Sizes) (g : SpecCurve) (a : Element) (low room end t : ℚ) (least : Stretch) (more : Bool) → WindowTime z end low → room ≡ end -ℚ start_of a
    → least ≡ record { at = Inf; line = None; next = None } → (IsTrue more ↔ (low <ℚ room)) → RowWalk z g a low room end t least more low
walk_start z g a low room end t least more L e is test = by more test
  where
    by : (more : Bool) → (IsTrue more ↔ (low <ℚ room)) → RowWalk z g a low room end t least more low
    by true test = record {
      ahead = subst (IsAhead (RowSplit a (IsSpan low (Some low))) (row_sum a (value_at g) (IsSpan low (Some low))) end t) (sym is)
          (empty_ahead (RowSplit a (IsSpan low (Some low))) (row_sum a (value_at g) (IsSpan low (Some low))) end t (λ u early i. lt_irrefl low (le_lt_trans i.second_in.late i.second_in.before)));
      stands = subst (SumStretch z t) (sym is) record { at = tt; line = tt; next = tt };
      late = le_refl low;
      whole = L.whole;
      early = λ h. test.0 refl;
    }
    by false test = record {
      ahead = subst (IsAhead (RowSplit a (IsSpan low None)) (row_sum a (value_at g) (IsSpan low None)) end t) (sym is)
          (empty_ahead (RowSplit a (IsSpan low None)) (row_sum a (value_at g) (IsSpan low None)) end t
          (λ u early i. absurd (true≢false (sym (test.1 (le_lt_trans i.second_in.late (in_room a room end i.first i.second u e i.first_in i.whole early)))))));
      stands = subst (SumStretch z t) (sym is) record { at = tt; line = tt; next = tt };
      late = le_refl low;
      whole = L.whole;
      early = λ h. absurd (true≢false (sym h));
    }

pub walk_time : (z : Sizes) (g : SpecCurve) (a : Element) (low room end t : ℚ) (least : Stretch) (y : ℚ) → OperandElement z end a → WindowTime z end low → room ≡ end -ℚ start_of a
    → RowWalk z g a low room end t least true y → IsTimeIn z end y
walk_time z g a low room end t least y E L e W = record { whole = W.whole; nonneg = le_trans L.nonneg W.late; before = lt_le_trans (W.early refl) (room_most z end room a E e) }

-- what one piece gives
pub record CellFacts (z : Sizes) (end room y : ℚ) (here : Stretch) (next : Option ℚ) : Type 0 where
  pub point : OperandPart z end (point_at y here.at)
  pub after : OperandPart z end (open_at y next here.line)
  pub proper : IsProperPart (open_at y next here.line)
  pub past : IsBeforeNext y next
  pub whole : AtNext (Whole z.dt) next
  pub limit : AtNext (λ x. x <ℚ room) next

pub cell_facts : (z : Sizes) (g : SpecCurve) (end room y : ℚ) (here : Stretch) (next : Option ℚ) → HasWindow z end g → IsTimeIn z end y → room ≤ℚ end → GoesOn (value_at g) y here
    → ((d : ℕ) → TimesStand d g → AtNext (Whole d) here.next) → OperandLineAt z here.line × GridValue z here.at → IsEarly here.next room next → CellFacts z end room y here next
cell_facts z g end room y here next V T most G times sizes E =
    let past = early_after here.next room next y E G.next in
    let whole = early_at (Whole z.dt) here.next room next E (times z.dt (times_stand z end g V.curve V)) in
    let limit = early_limit here.next room next E in
    let time : WindowTime z end y = record { whole = T.whole; nonneg = T.nonneg; early = le_of_lt T.before } in
    record {
      point = point_stands z end y here.at time sizes.1;
      after = open_stands z end y next here.line time (end_stands z end y room next T.nonneg most past whole limit) sizes.0;
      proper = open_proper y next here.line past;
      past = past;
      whole = whole;
      limit = limit;
    }

pub row_facts : (z : Sizes) (g : SpecCurve) (a : Element) (low room start end t : ℚ) (least : Stretch) (more : Bool) (y : ℚ) (here : Stretch) (next : Option ℚ) → OperandElement z end a → WindowTime z end low
    → room ≡ end -ℚ start → start ≡ start_of a → more ≡ true → RowWalk z g a low room end t least more y → HasWindow z end g → GoesOn (value_at g) y here
    → ((d : ℕ) → TimesStand d g → AtNext (Whole d) here.next) → (IsTimeIn z end y → OperandLineAt z here.line × GridValue z here.at) → IsEarly here.next room next → CellFacts z end room y here next
row_facts z g a low room start end t least more y here next E L r b m W V G times sizes N =
    let e : room ≡ end -ℚ start_of a = r ∙ ap (λ x. end -ℚ x) b in
    let T = walk_time z g a low room end t least y E L e (subst (λ k. RowWalk z g a low room end t least k y) m W) in
    cell_facts z g end room y here next V T (room_most z end room a E e) G times (sizes T) N

-- ---- one step
pub at_next : (next : Option ℚ) (y : ℚ) → next ≡ at_of (is_time next) (time_or next y)
at_next None y = refl
at_next (Some x) y = refl

-- the next time, or this one where there is none: that it is no earlier, on the grid, and before the limit where there is one
pub late_or : (low y : ℚ) (next : Option ℚ) → low ≤ℚ y → IsBeforeNext y next → low ≤ℚ time_or next y
late_or low y None late h = late
late_or low y (Some x) late h = le_trans late (le_of_lt h)

pub whole_or : (z : Sizes) (y : ℚ) (next : Option ℚ) → Whole z.dt y → AtNext (Whole z.dt) next → Whole z.dt (time_or next y)
whole_or z y None whole h = whole
whole_or z y (Some x) whole h = h

pub limit_or : (limit y : ℚ) (next : Option ℚ) → AtNext (λ x. x <ℚ limit) next → is_time next ≡ true → time_or next y <ℚ limit
limit_or limit y None h k = absurd (true≢false (sym k))
limit_or limit y (Some x) h k = h

pub walk_step : (z : Sizes) (g : SpecCurve) (a : Element) (low room end t : ℚ) (least cell lesser : Stretch) (y : ℚ) (here : Stretch) (next : Option ℚ) (more : Bool) (x : ℚ)
    → room ≡ end -ℚ start_of a → RowWalk z g a low room end t least true y → GoesOn (value_at g) y here → IsEarly here.next room next → CellFacts z end room y here next
    → IsAhead (λ u. PartPair a (point_at y here.at) u ⊎ PartPair a (open_at y next here.line) u) (λ u. either (part_pair_sum a (point_at y here.at) u) (part_pair_sum a (open_at y next here.line) u)) end t cell
    → ((p q : ℚ → Ext) → GoesOn p t least → GoesOn q t cell → GoesOn (λ u. min_ext (p u) (q u)) t lesser) → ((u : ℚ) → IsBeforeNext u lesser.next → IsBeforeNext u least.next × IsBeforeNext u cell.next)
    → SumStretch z t lesser → more ≡ is_time next → x ≡ time_or next y → RowWalk z g a low room end t lesser more x
unfolding cell_sum
walk_step z g a low room end t least cell lesser y here next more x e W G E F A goes lower stands em ex =
    let C : Cell (value_at g) a low room end y here next = record { goes = G; is_next = E; room_is = e; late = W.late } in
    let whole = both_ahead (RowSplit a (IsSpan low (Some y))) (λ u. PartPair a (point_at y here.at) u ⊎ PartPair a (open_at y next here.line) u) (row_sum a (value_at g) (IsSpan low (Some y)))
    (λ u. either (part_pair_sum a (point_at y here.at) u) (part_pair_sum a (open_at y next here.line) u)) end t least cell lesser W.ahead A goes lower in
    let done = same_ahead (RowSplit a (IsSpan low next)) (CellFamily a low y here next) (row_sum a (value_at g) (IsSpan low next)) (cell_sum (value_at g) a low y here next) end t lesser
    (λ u late early. cell_matched (value_at g) a low room end y u here next C early) whole in
    let at : next ≡ at_of more x = at_next next y ∙ ap (λ b. at_of b (time_or next y)) (sym em) ∙ ap (at_of more) (sym ex) in
    record {
      ahead = subst (λ n. IsAhead (RowSplit a (IsSpan low n)) (row_sum a (value_at g) (IsSpan low n)) end t lesser) at done;
      stands = stands;
      late = subst (λ v. low ≤ℚ v) (sym ex) (late_or low y next W.late F.past);
      whole = subst (Whole z.dt) (sym ex) (whole_or z y next W.whole F.whole);
      early = λ h. subst (λ v. v <ℚ room) (sym ex) (limit_or room y next F.limit (sym em ∙ h));
    }

pub walk_fewer : (z : Sizes) (end room y : ℚ) (here : Stretch) (next : Option ℚ) (more : Bool) (x : ℚ) → 0 < z.dt → Whole z.dt y → CellFacts z end room y here next → more ≡ is_time next → x ≡ time_or next y
    → steps_while more z.dt room x < steps_while true z.dt room y
walk_fewer z end room y here next more x some w F em ex =
    subst (λ b. steps_while b z.dt room x < steps_while true z.dt room y) (sym em) (subst (λ v. steps_while (is_time next) z.dt room v < steps_while true z.dt room y) (sym ex) (by next F.past F.whole F.limit))
  where
    by : (next : Option ℚ) → IsBeforeNext y next → AtNext (Whole z.dt) next → AtNext (λ x. x <ℚ room) next → steps_while (is_time next) z.dt room (time_or next y) < steps_while true z.dt room y
    by None h k l = while_done z.dt room y y
    by (Some x) h k l = while_fewer z.dt room y x some w k h (le_of_lt l)

pub walk_end : (z : Sizes) (g : SpecCurve) (a : Element) (low room end t : ℚ) (least : Stretch) (y : ℚ) → RowWalk z g a low room end t least false y
    → IsAhead (RowSplit a (λ u. low ≤ℚ u)) (row_sum a (value_at g) (λ u. low ≤ℚ u)) end t least
walk_end z g a low room end t least y W =
    same_ahead (RowSplit a (λ u. low ≤ℚ u)) (RowSplit a (IsSpan low None)) (row_sum a (value_at g) (λ u. low ≤ℚ u)) (row_sum a (value_at g) (IsSpan low None)) end t least
    (λ u late early. record {
      down = λ i q e. (record { first = i.first; second = i.second; first_in = i.first_in; second_in = record { late = i.second_in; before = tt }; whole = i.whole }, same_le_ext e);
      up = λ j. (record { first = j.first; second = j.second; first_in = j.first_in; second_in = j.second_in.late; whole = j.whole }, same_le_ext refl);
    }) W.ahead
