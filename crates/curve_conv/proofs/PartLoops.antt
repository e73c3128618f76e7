-- What two curves make of the splits of which the first side is in some span, piece by piece.
use Rattle.std.specs.Prelude.{◌≡◌, ◌⊎◌, ◌↔◌, ℕ, ◌<◌, pos, Bool, true, false, IsTrue, Option, Some, None}
use Rattle.std.proofs.Common.{arith, sym, ap, ◌∙◌, refl, subst, inl, inr, true≢false}
use Rattle.rational.specs.Rational.{ℚ, ◌+ℚ◌, ◌-ℚ◌, ◌≤ℚ◌, ◌<ℚ◌, int, neg_ℚ}
use Rattle.rational.specs.Ratio.{SumFits}
use Rattle.rational.specs.Grid.{Whole}
use Rattle.rational.specs.Extended.{Ext, ◌≤ₑ◌, ◌+ₑ◌, min_ext}
use Rattle.rational.specs.declared.Extended.TheVariants.{Fin, Inf}
use Rattle.rational.specs.Families.{either}
use Rattle.rational.proofs.Linear.{with4, with5}
use Rattle.rational.proofs.Laws.{le_refl, le_trans, le_of_lt, le_lt_trans, lt_le_trans, lt_trans, lt_cases, lt_irrefl, le_of_not_lt}
use Rattle.rational.proofs.ExtendedOrder.{same_le_ext}
use Rattle.upp_curve.specs.declared.affine_segment.line.Line.{Line}
use Rattle.upp_curve.specs.affine_segment.Values.{line_value}
use Rattle.upp_normal.specs.declared.ahead.Stretch.{Stretch}
use Rattle.upp_curve.specs.Curve.{SpecCurve, value_at}
use Rattle.upp_limits.specs.Limits.{Sizes}
use Rattle.upp_normal.specs.Operand.{AreLimited, OperandLineAt}
use Rattle.upp_normal.specs.Ahead.{GoesOn, IsBeforeNext, AtNext, HasWindow, IsTimeIn, TimesStand, GridValue}
use Rattle.min_plus.specs.Convolution.{Split}
use Rattle.upp_normal.proofs.StretchSizes.{times_stand, times_fit}
use Rattle.element_envelope.specs.ElementRoom.{WindowTime, WindowEnd}
use Rattle.element_envelope.proofs.Members.{Matched}
use Rattle.curve_conv.specs.Parts.{PartSplit, part_sum}
use Rattle.curve_conv.specs.Stretches.{SumStretch, IsAhead, until_time, point_at, open_at, PartRow, part_row_sum, IsProperPart, OperandPart}
use Rattle.curve_conv.specs.Scans.{IsEarly, IsLimit, InPart, or_else, is_time, time_or}
use Rattle.curve_conv.proofs.Families.{both_ahead, same_ahead, empty_ahead}
use Rattle.curve_conv.proofs.GridSteps.{steps_while, while_done, while_fewer}
use Rattle.curve_conv.proofs.RowLoops.{at_of, before_until, until_before, early_before, early_after, early_at, early_limit, earlier, point_stands, open_stands, open_proper, at_next, late_or, whole_or, limit_or}

-- ---- the limit
pub limit_all : (room : ℚ) → IsLimit room None room
limit_all room = record { most = le_refl room; before = λ s h. tt; least = λ s h k. h }

pub limit_until : (room e : ℚ) → e <ℚ room → IsLimit room (Some e) e
limit_until room e h = record { most = le_of_lt h; before = λ s k. k; least = λ s k l. l }

pub limit_room : (room e : ℚ) → ¬ (e <ℚ room) → IsLimit room (Some e) room
limit_room room e h = record { most = le_refl room; before = λ s k. lt_le_trans k (le_of_not_lt h); least = λ s k l. k }

-- ---- one piece more
record Cell (f : ℚ → Ext) (from low limit end x : ℚ) (until : Option ℚ) (here : Stretch) (next : Option ℚ) : Type 0 where
  goes : GoesOn f x here
  is_next : IsEarly here.next limit next
  is_limit : IsLimit (end -ℚ low) until limit
  late : from ≤ℚ x
  before : x <ℚ limit
  from_low : int (pos 0) ≤ℚ from
  low_low : int (pos 0) ≤ℚ low

abbrev CellFamily : ℚ → ℚ → ℚ → Option ℚ → Stretch → Option ℚ → ℚ → Type 0
CellFamily from low x until here next t =
    PartSplit (InPart from (Some x) until low) t ⊎ (PartRow (point_at x here.at) (λ u. low ≤ℚ u) t ⊎ PartRow (open_at x (or_else next until) here.line) (λ u. low ≤ℚ u) t)

cell_sum : (f g : ℚ → Ext) (from low x : ℚ) (until : Option ℚ) (here : Stretch) (next : Option ℚ) (t : ℚ) → CellFamily from low x until here next t → Ext
cell_sum f g from low x until here next t =
    either (part_sum f g (InPart from (Some x) until low) t)
    (either (part_row_sum (point_at x here.at) g (λ u. low ≤ℚ u) t) (part_row_sum (open_at x (or_else next until) here.line) g (λ u. low ≤ℚ u) t))

-- a first side whose split is early is before the limit
in_limit : (low limit end : ℚ) (until : Option ℚ) (s u t : ℚ) → IsLimit (end -ℚ low) until limit → IsBeforeNext s until → low ≤ℚ u → s +ℚ u ≡ t → t <ℚ end → s <ℚ limit
in_limit low limit end until s u t L b k w l = L.least s (with5 s u t end low (λ c. omega (arith, c.le, c.lt, c.same))) b

pub before_or : (next until : Option ℚ) (s : ℚ) → IsBeforeNext s next → IsBeforeNext s until → IsBeforeNext s (or_else next until)
before_or None until s h k = k
before_or (Some x) until s h k = h

pub or_next : (next until : Option ℚ) (s : ℚ) → IsBeforeNext s (or_else next until) → IsBeforeNext s next
or_next None until s h = tt
or_next (Some x) until s h = h

pub or_until : (next until : Option ℚ) (limit s : ℚ) → ((s : ℚ) → s <ℚ limit → IsBeforeNext s until) → AtNext (λ x. x <ℚ limit) next → IsBeforeNext s (or_else next until) → IsBeforeNext s until
or_until None until limit s L n h = h
or_until (Some x) until limit s L n h = L s (lt_trans h n)

point_down : (g : ℚ → Ext) (x : ℚ) (at : Ext) (low s u t q : ℚ) → s ≡ x → low ≤ℚ u → s +ℚ u ≡ t → at +ₑ g u ≡ Fin q
    → (j : PartRow (point_at x at) (λ u. low ≤ℚ u) t) × (part_row_sum (point_at x at) g (λ u. low ≤ℚ u) t j ≤ₑ Fin q)
point_down g x Inf low s u t q e k w h = absurd (same_le_ext h)
point_down g x (Fin v) low s u t q e k w h = (record { first = s; second = u; first_in = e; second_in = k; whole = w }, same_le_ext h)

open_down : (g : ℚ → Ext) (x : ℚ) (to : Option ℚ) (line : Option Line) (low s u t q : ℚ) → x <ℚ s → IsBeforeNext s to → low ≤ℚ u → s +ℚ u ≡ t → line_value line s +ₑ g u ≡ Fin q
    → (j : PartRow (open_at x to line) (λ u. low ≤ℚ u) t) × (part_row_sum (open_at x to line) g (λ u. low ≤ℚ u) t j ≤ₑ Fin q)
open_down g x to None low s u t q p b k w h = absurd (same_le_ext h)
open_down g x to (Some l) low s u t q p b k w h = (record { first = s; second = u; first_in = record { past = p; before = before_until to s b }; second_in = k; whole = w }, same_le_ext h)

split_of : (s u t : ℚ) → int (pos 0) ≤ℚ s → int (pos 0) ≤ℚ u → s +ℚ u ≡ t → Split t
split_of s u t a b w = record { first = s; second = u; first_nonneg = a; second_nonneg = b; whole = w }

point_up : (f g : ℚ → Ext) (from low x : ℚ) (until : Option ℚ) (at : Ext) (next : Option ℚ) (t : ℚ) → int (pos 0) ≤ℚ from → int (pos 0) ≤ℚ low → from ≤ℚ x → IsBeforeNext x next → IsBeforeNext x until
    → at ≡ f x → (j : PartRow (point_at x at) (λ u. low ≤ℚ u) t)
    → (i : PartSplit (InPart from next until low) t) × (part_sum f g (InPart from next until low) t i ≤ₑ part_row_sum (point_at x at) g (λ u. low ≤ℚ u) t j)
unfolding split_of
point_up f g from low x until Inf next t a b late n m e j = absurd j
point_up f g from low x until (Fin v) next t a b late n m e j =
    let s = j.first in
    let k = j.first_in in (
      record {
        split = split_of s j.second t (le_trans a (subst (λ y. from ≤ℚ y) (sym k) late)) (le_trans b j.second_in) j.whole;
        inside = record {
          span = record { late = subst (λ y. from ≤ℚ y) (sym k) late; before = subst (λ y. IsBeforeNext y next) (sym k) n };
          before = subst (λ y. IsBeforeNext y until) (sym k) m;
          second = j.second_in;
        };
      },
      same_le_ext (ap (λ w. w +ₑ g j.second) (ap f k ∙ sym e)),
    )

open_up : (f g : ℚ → Ext) (from low x : ℚ) (until to : Option ℚ) (line : Option Line) (next : Option ℚ) (t : ℚ) → int (pos 0) ≤ℚ from → int (pos 0) ≤ℚ low → from ≤ℚ x
    → ((s : ℚ) → IsBeforeNext s to → IsBeforeNext s next) → ((s : ℚ) → IsBeforeNext s to → IsBeforeNext s until)
    → ((s u : ℚ) → low ≤ℚ u → s +ℚ u ≡ t → x <ℚ s → IsBeforeNext s next → IsBeforeNext s until → f s ≡ line_value line s) → (j : PartRow (open_at x to line) (λ u. low ≤ℚ u) t)
    → (i : PartSplit (InPart from next until low) t) × (part_sum f g (InPart from next until low) t i ≤ₑ part_row_sum (open_at x to line) g (λ u. low ≤ℚ u) t j)
unfolding split_of
open_up f g from low x until to None next t a b late n m reads j = absurd j
open_up f g from low x until to (Some l) next t a b late n m reads j =
    let s = j.first in
    let k = until_before to s j.first_in.before in
    let far = le_trans late (le_of_lt j.first_in.past) in (
      record {
        split = split_of s j.second t (le_trans a far) (le_trans b j.second_in) j.whole;
        inside = record { span = record { late = far; before = n s k }; before = m s k; second = j.second_in };
      },
      same_le_ext (ap (λ w. w +ₑ g j.second) (reads s j.second j.second_in j.whole j.first_in.past (n s k) (m s k))),
    )

cell_matched : (f g : ℚ → Ext) (from low limit end x t : ℚ) (until : Option ℚ) (here : Stretch) (next : Option ℚ) → Cell f from low limit end x until here next → t <ℚ end
    → Matched (part_sum f g (InPart from next until low) t) (cell_sum f g from low x until here next t)
unfolding cell_sum
cell_matched f g from low limit end x t until here next C early = record { down = down; up = up }
  where
    reads : (s u : ℚ) → low ≤ℚ u → s +ℚ u ≡ t → x <ℚ s → IsBeforeNext s next → IsBeforeNext s until → f s ≡ line_value here.line s
    reads s u k w past b m = C.goes.line s past (early_before here.next limit next s C.is_next b (in_limit low limit end until s u t C.is_limit m k w early))

    down : (i : PartSplit (InPart from next until low) t) (q : ℚ) → part_sum f g (InPart from next until low) t i ≡ Fin q
        → (j : CellFamily from low x until here next t) × (cell_sum f g from low x until here next t j ≤ₑ Fin q)
    down i q e =
        let s = i.split.first in
        let u = i.split.second in
        let n = i.inside in
        elim (lt_cases s x) [
          | inl l ↦ (inl record { split = i.split; inside = record { span = record { late = n.span.late; before = l }; before = n.before; second = n.second } }, same_le_ext e)
          | inr (inl k) ↦
              let (j, h) = point_down g x here.at low s u t q k n.second i.split.whole (ap (λ w. w +ₑ g u) (C.goes.at ∙ ap f (sym k)) ∙ e) in
              (inr (inl j), h)
          | inr (inr l) ↦
              let (j, h) = open_down g x (or_else next until) here.line low s u t q l (before_or next until s n.span.before n.before) n.second i.split.whole
              (ap (λ w. w +ₑ g u) (sym (reads s u n.second i.split.whole l n.span.before n.before)) ∙ e) in
              (inr (inr j), h)
        ]

    up : (j : CellFamily from low x until here next t) → (i : PartSplit (InPart from next until low) t) × (part_sum f g (InPart from next until low) t i ≤ₑ cell_sum f g from low x until here next t j)
    up (inl i) = (
      record {
        split = i.split;
        inside = record {
          span = record { late = i.inside.span.late; before = earlier x i.split.first next i.inside.span.before (early_after here.next limit next x C.is_next C.goes.next) };
          before = i.inside.before;
          second = i.inside.second;
        };
      },
      same_le_ext refl,
    )
    up (inr (inl j)) = point_up f g from low x until here.at next t C.from_low C.low_low C.late (early_after here.next limit next x C.is_next C.goes.next) (C.is_limit.before x C.before) C.goes.at j
    up (inr (inr j)) =
        open_up f g from low x until (or_else next until) here.line next t C.from_low C.low_low C.late (λ s k. or_next next until s k)
        (λ s k. or_until next until limit s C.is_limit.before (early_limit here.next limit next C.is_next) k) reads j

-- ---- the walk
pub record PartWalk (z : Sizes) (f g : SpecCurve) (from : ℚ) (until : Option ℚ) (low limit end t : ℚ) (least : Stretch) (more : Bool) (x : ℚ) : Type 0 where
  pub ahead : IsAhead (PartSplit (InPart from (at_of more x) until low)) (part_sum (value_at f) (value_at g) (InPart from (at_of more x) until low)) end t least
  pub stands : SumStretch z t least
  pub late : from ≤ℚ x
  pub whole : Whole z.dt x
  pub early : more ≡ true → x <ℚ limit

pub low_fits : (z : Sizes) (end low : ℚ) → AreLimited z end → WindowTime z end low → SumFits end (neg_ℚ low)
low_fits z end low A T = (times_fit z end end low A A.sizes.window T.whole A.some (le_refl end) T.nonneg T.early).1

limit_most : (z : Sizes) (end low room limit : ℚ) (until : Option ℚ) → WindowTime z end low → room ≡ end -ℚ low → IsLimit room until limit → limit ≤ℚ end
limit_most z end low room limit until T e L =
    let n = T.nonneg in
    let m = L.most in
    with4 end low room limit (λ c. omega (arith, c.le, c.lt, c.same))

pub walk_start : (z : Sizes) (f g : SpecCurve) (from : ℚ) (until : Option ℚ) (low room limit end t : ℚ) (least : Stretch) (more : Bool) → WindowTime z end from → room ≡ end -ℚ low → IsLimit room until limit
    → least ≡ record { at = Inf; line = None; next = None } → (IsTrue more ↔ (from <ℚ limit)) → PartWalk z f g from until low limit end t least more from
walk_start z f g from until low room limit end t least more F e L is test = by more test
  where
    by : (more : Bool) → (IsTrue more ↔ (from <ℚ limit)) → PartWalk z f g from until low limit end t least more from
    by true test = record {
      ahead = subst (IsAhead (PartSplit (InPart from (Some from) until low)) (part_sum (value_at f) (value_at g) (InPart from (Some from) until low)) end t) (sym is)
          (empty_ahead (PartSplit (InPart from (Some from) until low)) (part_sum (value_at f) (value_at g) (InPart from (Some from) until low)) end t
          (λ u early i. lt_irrefl from (le_lt_trans i.inside.span.late i.inside.span.before)));
      stands = subst (SumStretch z t) (sym is) record { at = tt; line = tt; next = tt };
      late = le_refl from;
      whole = F.whole;
      early = λ h. test.0 refl;
    }
    by false test = record {
      ahead = subst (IsAhead (PartSplit (InPart from None until low)) (part_sum (value_at f) (value_at g) (InPart from None until low)) end t) (sym is)
          (empty_ahead (PartSplit (InPart from None until low)) (part_sum (value_at f) (value_at g) (InPart from None until low)) end t
          (λ u early i. absurd (true≢false (sym (test.1 (le_lt_trans i.inside.span.late
          (in_limit low limit end until i.split.first i.split.second u (subst (λ r. IsLimit r until limit) e L) i.inside.before i.inside.second i.split.whole early)))))));
      stands = subst (SumStretch z t) (sym is) record { at = tt; line = tt; next = tt };
      late = le_refl from;
      whole = F.whole;
      early = λ h. absurd (true≢false (sym h));
    }

pub walk_time : (z : Sizes) (f g : SpecCurve) (from : ℚ) (until : Option ℚ) (low room limit end t : ℚ) (least : Stretch) (x : ℚ) → WindowTime z end from → WindowTime z end low → room ≡ end -ℚ low
    → IsLimit room until limit → PartWalk z f g from until low limit end t least true x → IsTimeIn z end x
walk_time z f g from until low room limit end t least x F T e L W = record {
  whole = W.whole;
  nonneg = le_trans F.nonneg W.late;
  before = lt_le_trans (W.early refl) (limit_most z end low room limit until T e L);
}

-- what one piece gives
pub record CellFacts (z : Sizes) (end limit x : ℚ) (until : Option ℚ) (here : Stretch) (next : Option ℚ) : Type 0 where
  pub point : OperandPart z end (point_at x here.at)
  pub after : OperandPart z end (open_at x (or_else next until) here.line)
  pub proper : IsProperPart (open_at x (or_else next until) here.line)
  pub past : IsBeforeNext x next
  pub whole : AtNext (Whole z.dt) next
  pub limit_is : AtNext (λ y. y <ℚ limit) next

pub to_stands : (z : Sizes) (end limit x : ℚ) (until next : Option ℚ) → int (pos 0) ≤ℚ x → limit ≤ℚ end → IsBeforeNext x next → AtNext (Whole z.dt) next → AtNext (λ y. y <ℚ limit) next → AtNext (WindowTime z end) until
    → WindowEnd z end (until_time (or_else next until))
to_stands z end limit x None None some most h w l U = tt
to_stands z end limit x (Some e) None some most h w l U = U
to_stands z end limit x until (Some y) some most h w l U = record { whole = w; nonneg = le_trans some (le_of_lt h); early = le_trans (le_of_lt l) most }

pub cell_facts : (z : Sizes) (f : SpecCurve) (end limit x : ℚ) (until : Option ℚ) (here : Stretch) (next : Option ℚ) → AtNext (WindowTime z end) until → IsTimeIn z end x → limit ≤ℚ end → IsBeforeNext x until
    → HasWindow z end f → GoesOn (value_at f) x here → ((d : ℕ) → TimesStand d f → AtNext (Whole d) here.next) → (IsTimeIn z end x → OperandLineAt z here.line × GridValue z here.at) → IsEarly here.next limit next
    → CellFacts z end limit x until here next
cell_facts z f end limit x until here next U time most before V G times sizes E =
    let past = early_after here.next limit next x E G.next in
    let whole = early_at (Whole z.dt) here.next limit next E (times z.dt (times_stand z end f V.curve V)) in
    let limit_is = early_limit here.next limit next E in
    let here_in : WindowTime z end x = record { whole = time.whole; nonneg = time.nonneg; early = le_of_lt time.before } in
    let s = sizes time in
    record {
      point = point_stands z end x here.at here_in s.1;
      after = open_stands z end x (or_else next until) here.line here_in (to_stands z end limit x until next time.nonneg most past whole limit_is U) s.0;
      proper = open_proper x (or_else next until) here.line (before_or next until x past before);
      past = past;
      whole = whole;
      limit_is = limit_is;
    }

pub part_facts : (z : Sizes) (f g : SpecCurve) (from : ℚ) (until : Option ℚ) (low room limit end t : ℚ) (least : Stretch) (more : Bool) (x : ℚ) (here : Stretch) (next : Option ℚ) → WindowTime z end from → WindowTime z end low
    → AtNext (WindowTime z end) until → room ≡ end -ℚ low → IsLimit room until limit → more ≡ true → PartWalk z f g from until low limit end t least more x → HasWindow z end f → GoesOn (value_at f) x here
    → ((d : ℕ) → TimesStand d f → AtNext (Whole d) here.next) → (IsTimeIn z end x → OperandLineAt z here.line × GridValue z here.at) → IsEarly here.next limit next → CellFacts z end limit x until here next
part_facts z f g from until low room limit end t least more x here next F T U e L m W V G times sizes E =
    let W : PartWalk z f g from until low limit end t least true x = subst (λ b. PartWalk z f g from until low limit end t least b x) m W in
    let time = walk_time z f g from until low room limit end t least x F T e L W in
    cell_facts z f end limit x until here next U time (limit_most z end low room limit until T e L) (L.before x (W.early refl)) V G times sizes E

-- ---- one step

pub walk_step : (z : Sizes) (f g : SpecCurve) (from : ℚ) (until : Option ℚ) (low room limit end t : ℚ) (least cell lesser : Stretch) (x : ℚ) (here : Stretch) (next : Option ℚ) (more : Bool) (y : ℚ)
    → WindowTime z end from → WindowTime z end low → room ≡ end -ℚ low → IsLimit room until limit → PartWalk z f g from until low limit end t least true x → GoesOn (value_at f) x here
    → IsEarly here.next limit next → CellFacts z end limit x until here next
    → IsAhead (λ u. PartRow (point_at x here.at) (λ v. low ≤ℚ v) u ⊎ PartRow (open_at x (or_else next until) here.line) (λ v. low ≤ℚ v) u)
    (λ u. either (part_row_sum (point_at x here.at) (value_at g) (λ v. low ≤ℚ v) u) (part_row_sum (open_at x (or_else next until) here.line) (value_at g) (λ v. low ≤ℚ v) u)) end t cell
    → ((p q : ℚ → Ext) → GoesOn p t least → GoesOn q t cell → GoesOn (λ u. min_ext (p u) (q u)) t lesser) → ((u : ℚ) → IsBeforeNext u lesser.next → IsBeforeNext u least.next × IsBeforeNext u cell.next)
    → SumStretch z t lesser → more ≡ is_time next → y ≡ time_or next x → PartWalk z f g from until low limit end t lesser more y
unfolding cell_sum
walk_step z f g from until low room limit end t least cell lesser x here next more y F T e L W G E K A goes lower stands em ey =
    let C : Cell (value_at f) from low limit end x until here next = record {
      goes = G;
      is_next = E;
      is_limit = subst (λ r. IsLimit r until limit) e L;
      late = W.late;
      before = W.early refl;
      from_low = F.nonneg;
      low_low = T.nonneg;
    } in
    let rows = λ (u : ℚ). PartRow (point_at x here.at) (λ v. low ≤ℚ v) u ⊎ PartRow (open_at x (or_else next until) here.line) (λ v. low ≤ℚ v) u in
    let whole = both_ahead (PartSplit (InPart from (Some x) until low)) (λ u. PartRow (point_at x here.at) (λ v. low ≤ℚ v) u ⊎ PartRow (open_at x (or_else next until) here.line) (λ v. low ≤ℚ v) u)
    (part_sum (value_at f) (value_at g) (InPart from (Some x) until low))
    (λ u. either (part_row_sum (point_at x here.at) (value_at g) (λ v. low ≤ℚ v) u) (part_row_sum (open_at x (or_else next until) here.line) (value_at g) (λ v. low ≤ℚ v) u)) end t least cell lesser W.ahead A goes lower in
    let done = same_ahead (PartSplit (InPart from next until low)) (CellFamily from low x until here next) (part_sum (value_at f) (value_at g) (InPart from next until low))
    (cell_sum (value_at f) (value_at g) from low x until here next) end t lesser (λ u late early. cell_matched (value_at f) (value_at g) from low limit end x u until here next C early) whole in
    let at : next ≡ at_of more y = at_next next x ∙ ap (λ b. at_of b (time_or next x)) (sym em) ∙ ap (at_of more) (sym ey) in
    record {
      ahead = subst (λ n. IsAhead (PartSplit (InPart from n until low)) (part_sum (value_at f) (value_at g) (InPart from n until low)) end t lesser) at done;
      stands = stands;
      late = subst (λ v. from ≤ℚ v) (sym ey) (late_or from x next W.late K.past);
      whole = subst (Whole z.dt) (sym ey) (whole_or z x next W.whole K.whole);
      early = λ h. subst (λ v. v <ℚ limit) (sym ey) (limit_or limit x next K.limit_is (sym em ∙ h));
    }

pub walk_fewer : (z : Sizes) (end limit x : ℚ) (until : Option ℚ) (here : Stretch) (next : Option ℚ) (more : Bool) (y : ℚ) → 0 < z.dt → Whole z.dt x → CellFacts z end limit x until here next → more ≡ is_time next
    → y ≡ time_or next x → steps_while more z.dt limit y < steps_while true z.dt limit x
walk_fewer z end limit x until here next more y some w K em ey =
    subst (λ b. steps_while b z.dt limit y < steps_while true z.dt limit x) (sym em)
    (subst (λ v. steps_while (is_time next) z.dt limit v < steps_while true z.dt limit x) (sym ey) (by next K.past K.whole K.limit_is))
  where
    by : (next : Option ℚ) → IsBeforeNext x next → AtNext (Whole z.dt) next → AtNext (λ y. y <ℚ limit) next → steps_while (is_time next) z.dt limit (time_or next x) < steps_while true z.dt limit x
    by None h k l = while_done z.dt limit x x
    by (Some y) h k l = while_fewer z.dt limit x y some w k h (le_of_lt l)
