-- The lower of two lines just after a time, and of two functions of which each is known from a time on.
use Rattle.std.specs.Prelude.{◌≡◌, ◌≢◌, true, false, Option, Some, None}
use Rattle.std.proofs.Common.{sym, ap, ap₂, ◌∙◌, refl, subst, inl, inr}
use Rattle.rational.specs.Rational.{ℚ, ◌<ℚ◌}
use Rattle.rational.specs.Extended.{Ext, ◌≤ₑ◌, min_ext}
use Rattle.rational.specs.declared.Extended.TheVariants.{Fin, Inf}
use Rattle.rational.proofs.Laws.{le_of_lt, le_trans, le_of_not_lt, lt_irrefl, lt_trans, lt_le_trans, lt_cases}
use Rattle.rational.proofs.ExtendedOrder.{le_inf, min_ext_of_le, min_ext_comm}
use Rattle.upp_curve.specs.declared.affine_segment.line.Line.{Line}
use Rattle.upp_curve.specs.affine_segment.Values.{line_at, line_value}
use Rattle.upp_normal.specs.declared.ahead.Stretch.{Stretch}
use Rattle.upp_limits.specs.Limits.{Sizes}
use Rattle.upp_normal.specs.Operand.{AreLimited}
use Rattle.upp_normal.specs.Ahead.{GoesOn, IsBeforeNext, AtNext}
use Rattle.curve_call.specs.Lies.{CrossFits}
use Rattle.curve_call.proofs.LinesLie.{before_turn, after_turn, parallel_lines}
use Rattle.element_envelope.specs.SumWindows.{SumLineAt, SumValueAt}
use Rattle.element_envelope.proofs.SumLower.{cross_fits, is_crossing, lesser_stands}
use Rattle.curve_conv.specs.declared.lower.Under.{Under}
use Rattle.curve_conv.specs.Stretches.{SumPlace, SumStretch, SumTimeIn, MeetsAt, IsUnder, IsEarliest}

-- ---- two lines
lower_left : (x y : Ext) → x ≤ₑ y → x ≡ min_ext x y
lower_left x y h = sym (min_ext_of_le x y h)

lower_right : (x y : Ext) → y ≤ₑ x → y ≡ min_ext x y
lower_right x y h = sym (min_ext_comm x y ∙ min_ext_of_le y x h)

slopes_differ : (a b : ℚ) → b <ℚ a → a ≢ b
slopes_differ a b h e = lt_irrefl a (subst (λ y. y <ℚ a) (sym e) h)

pub meeting_before : (steep shallow : Line) (x t : ℚ) → shallow.slope <ℚ steep.slope → line_at steep x ≡ line_at shallow x → t <ℚ x
    → IsUnder (Some steep) (Some shallow) t record { line = Some steep; turn = Some x }
meeting_before steep shallow x t s e h = record {
  lower = λ u past before. lower_left (Fin (line_at steep u)) (Fin (line_at shallow u)) (before_turn true steep shallow x u (s, e) (le_of_lt before));
  turn = h;
  one = inl refl;
  meets = record { there = e; apart = slopes_differ steep.slope shallow.slope s };
}

pub meeting_after : (steep shallow : Line) (x t : ℚ) → shallow.slope <ℚ steep.slope → line_at steep x ≡ line_at shallow x → ¬ (t <ℚ x)
    → IsUnder (Some steep) (Some shallow) t record { line = Some shallow; turn = None }
meeting_after steep shallow x t s e h = record {
  lower = λ u past before. lower_right (Fin (line_at steep u)) (Fin (line_at shallow u)) (after_turn true steep shallow x u (s, e) (le_trans (le_of_not_lt h) (le_of_lt past)));
  turn = tt;
  one = inr refl;
  meets = tt;
}

pub parallel_second : (l m : Line) (t : ℚ) → l.slope ≡ m.slope → m.icept <ℚ l.icept → IsUnder (Some l) (Some m) t record { line = Some m; turn = None }
parallel_second l m t s h = record {
  lower = λ u past before. lower_right (Fin (line_at l u)) (Fin (line_at m u)) (parallel_lines m l u (sym s) (le_of_lt h));
  turn = tt;
  one = inr refl;
  meets = tt;
}

pub parallel_first : (l m : Line) (t : ℚ) → l.slope ≡ m.slope → ¬ (m.icept <ℚ l.icept) → IsUnder (Some l) (Some m) t record { line = Some l; turn = None }
parallel_first l m t s h = record {
  lower = λ u past before. lower_left (Fin (line_at l u)) (Fin (line_at m u)) (parallel_lines l m u s (le_of_not_lt h));
  turn = tt;
  one = inl refl;
  meets = tt;
}

meets_turned : (l m : Option Line) (x : Option ℚ) → MeetsAt l m x → MeetsAt m l x
meets_turned l m None h = tt
meets_turned None m (Some x) h = absurd h
meets_turned (Some l) None (Some x) h = absurd h
meets_turned (Some l) (Some m) (Some x) h = record { there = sym h.there; apart = λ e. h.apart (sym e) }

-- the other way round
pub under_turned : (l m : Option Line) (t : ℚ) (w : Under) → IsUnder l m t w → IsUnder m l t w
under_turned l m t w h = record {
  lower = λ u past before. h.lower u past before ∙ min_ext_comm (line_value l u) (line_value m u);
  turn = h.turn;
  one = elim h.one [ inl e ↦ inr e | inr e ↦ inl e ];
  meets = meets_turned l m w.turn h.meets;
}

pub steeper : (a b : ℚ) → a ≢ b → ¬ (a <ℚ b) → b <ℚ a
steeper a b n h = elim (lt_cases a b) [
  | inl l ↦ absurd (h l)
  | inr (inl e) ↦ absurd (n e)
  | inr (inr l) ↦ l
]

pub under_none : (m : Option Line) (t : ℚ) → IsUnder None m t record { line = m; turn = None }
under_none m t = record { lower = λ u past before. lower_right Inf (line_value m u) (le_inf (line_value m u)); turn = tt; one = inr refl; meets = tt }

pub under_left : (l : Option Line) (t : ℚ) → IsUnder l None t record { line = l; turn = None }
under_left l t = record { lower = λ u past before. lower_left (line_value l u) Inf (le_inf (line_value l u)); turn = tt; one = inl refl; meets = tt }

-- ---- the earlier time
pub earliest_second : (x y : ℚ) → y <ℚ x → IsEarliest (Some x) (Some y) (Some y)
earliest_second x y h = record { both = λ u k. (lt_trans k h, k); one = inr refl }

pub earliest_first : (x y : ℚ) → ¬ (y <ℚ x) → IsEarliest (Some x) (Some y) (Some x)
earliest_first x y h = record { both = λ u k. (k, lt_le_trans k (le_of_not_lt h)); one = inl refl }

pub earliest_at : (P : ℚ → Type 0) (a b e : Option ℚ) → IsEarliest a b e → AtNext P a → AtNext P b → AtNext P e
earliest_at P a b e E h k = elim E.one [ inl q ↦ subst (AtNext P) (sym q) h | inr q ↦ subst (AtNext P) (sym q) k ]

pub earliest_before : (u : ℚ) (a b e : Option ℚ) → IsEarliest a b e → IsBeforeNext u a → IsBeforeNext u b → IsBeforeNext u e
earliest_before u a b e E h k = elim E.one [ inl q ↦ subst (IsBeforeNext u) (sym q) h | inr q ↦ subst (IsBeforeNext u) (sym q) k ]

-- ---- two functions
pub lower_goes : (f g : ℚ → Ext) (t : ℚ) (s r w : Stretch) (line : Under) (next : Option ℚ) → GoesOn f t s → GoesOn g t r → IsUnder s.line r.line t line → IsEarliest s.next r.next next
    → w.at ≡ min_ext s.at r.at → w.line ≡ line.line → IsEarliest next line.turn w.next → GoesOn (λ u. min_ext (f u) (g u)) t w
lower_goes f g t s r w line next F G U E at li N = record {
  at = at ∙ ap₂ min_ext F.at G.at;
  line = λ u past before.
      let n = N.both u before in
      let m = E.both u n.0 in
      ap₂ min_ext (F.line u past m.0) (G.line u past m.1) ∙ sym (U.lower u past n.1) ∙ ap (λ l. line_value l u) (sym li);
  next = earliest_before t next line.turn w.next N (earliest_before t s.next r.next next E F.next G.next) U.turn;
}

pub lower_next : (u : ℚ) (s r : Option ℚ) (turn next w : Option ℚ) → IsEarliest s r next → IsEarliest next turn w → IsBeforeNext u w → IsBeforeNext u s × IsBeforeNext u r
lower_next u s r turn next w E N h = E.both u (N.both u h).0

turn_place : (z : Sizes) (end : ℚ) (l m : Option Line) (x : Option ℚ) → AreLimited z end → SumLineAt z l → SumLineAt z m → MeetsAt l m x → AtNext (SumPlace z) x
turn_place z end l m None A L M h = tt
turn_place z end None m (Some x) A L M h = absurd h
turn_place z end (Some l) None (Some x) A L M h = absurd h
turn_place z end (Some l) (Some m) (Some x) A L M h = elim (lt_cases l.slope m.slope) [
  | inl k ↦ inr (is_crossing z end x false (Some l) (Some m) A L M (k, h.there))
  | inr (inl e) ↦ absurd (h.apart e)
  | inr (inr k) ↦ inr (is_crossing z end x true (Some l) (Some m) A L M (k, h.there))
]

pub lower_stands : (z : Sizes) (end t : ℚ) (s r w : Stretch) (line : Under) (next : Option ℚ) → SumTimeIn z end t → SumStretch z t s → SumStretch z t r → IsUnder s.line r.line t line
    → IsEarliest s.next r.next next → w.at ≡ min_ext s.at r.at → w.line ≡ line.line → IsEarliest next line.turn w.next → SumStretch z t w
lower_stands z end t s r w line next T S R U E at li N = record {
  at = subst (SumValueAt z t) (sym at) (lesser_stands z t s.at r.at S.at R.at);
  line = elim U.one [ inl e ↦ subst (SumLineAt z) (sym (li ∙ e)) S.line | inr e ↦ subst (SumLineAt z) (sym (li ∙ e)) R.line ];
  next = earliest_at (SumPlace z) next line.turn w.next N (earliest_at (SumPlace z) s.next r.next next E S.next R.next)
      (turn_place z end s.line r.line line.turn T.limited S.line R.line U.meets);
}

pub lower_crosses : (z : Sizes) (end t : ℚ) (s r : Stretch) → SumTimeIn z end t → SumStretch z t s → SumStretch z t r → CrossFits s.line r.line
lower_crosses z end t s r T S R = cross_fits z end s.line r.line T.limited S.line R.line
