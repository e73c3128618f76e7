-- The walk to the longest lag: what has been looked at, and that it ends.
use Rattle.std.specs.Prelude.{◌≡◌, ℕ, ◌+◌, ◌<◌, pos, ◌⊎◌}
use Rattle.std.proofs.Common.{arith, sym, ap, ◌∙◌, subst, inl, inr}
use Rattle.rational.specs.Rational.{ℚ, ◌-ℚ◌, ◌*ℚ◌, ◌≤ℚ◌, ◌<ℚ◌, int}
use Rattle.rational.specs.MinMax.{max_q}
use Rattle.rational.specs.Whole.{whole_part}
use Rattle.rational.specs.Grid.{Whole}
use Rattle.rational.specs.Extended.{Ext, ◌≤ₑ◌, ◌<ₑ◌}
use Rattle.rational.specs.declared.Extended.TheVariants.{Fin}
use Rattle.rational.proofs.Linear.{with2, with4}
use Rattle.rational.proofs.Laws.{antisym, le_refl, le_trans, le_of_lt, le_or_lt, lt_le_trans, le_lt_trans, lt_irrefl, lt_trans}
use Rattle.rational.proofs.Grid.{whole_int}
use Rattle.rational.proofs.Stretch.{rising_supremum}
use Rattle.rational.proofs.MinMax.{max_q_one, max_q_ge_left, max_q_ge_right}
use Rattle.rational.proofs.ExtendedOrder.{le_ext_trans, le_lt_ext, lt_le_ext}
use Rattle.upp_curve.specs.declared.affine_segment.line.Line.{Line}
use Rattle.upp_curve.specs.affine_segment.Values.{line_at}
use Rattle.min_plus.specs.Functions.{IsRising}
use Rattle.upp_limits.specs.Limits.{Sizes}
use Rattle.upp_normal.specs.Ahead.{IsTimeIn}
use Rattle.curve_deviation.specs.declared.cells.Cell.{Cell}
use Rattle.curve_deviation.specs.declared.walks.Walk.{Walk}
use Rattle.curve_deviation.specs.Cells.{CellSizes, IsTimeTo, IsBehind, IsCellLag}
use Rattle.curve_deviation.specs.Rises.{RisesOn, IsCellOf}
use Rattle.curve_deviation.specs.Lags.{IsBehindAt, LagsBy, IsLongestLag}
use Rattle.curve_call.proofs.GapWalk.{fewer_on_grid}
use Rattle.upp_curve.proofs.affine_segment.LineValues.{value_rises}

-- what holds on the way: the pairs of times that are looked at have no longer lag
pub record IsWalked (z : Sizes) (f g : ℚ → Ext) (until end : ℚ) (w : Walk) : Type 0 where
  pub time : IsTimeTo z until w.time
  pub reached : IsTimeIn z end w.reached
  pub nonneg : int (pos 0) ≤ℚ w.lag
  pub most : (s u : ℚ) → IsBehindAt f g s u → (s <ℚ w.time) ⊎ (u ≤ℚ w.reached) → u -ℚ s ≤ℚ w.lag
  pub near : (y : ℚ) → y <ℚ w.lag → (y <ℚ int (pos 0)) ⊎ LagsBy f g y

pub walk_start : (z : Sizes) (f g : ℚ → Ext) (until end : ℚ) (w : Walk) → w.time ≡ int (pos 0) → w.reached ≡ int (pos 0) → w.lag ≡ int (pos 0) → int (pos 0) ≤ℚ until → int (pos 0) <ℚ end → IsWalked z f g until end w
walk_start z f g until end w a b d low some = record {
  time = subst (IsTimeTo z until) (sym a) record { whole = whole_int z.dt (pos 0); nonneg = le_refl (int (pos 0)); high = low };
  reached = subst (IsTimeIn z end) (sym b) record { whole = whole_int z.dt (pos 0); nonneg = le_refl (int (pos 0)); before = some };
  nonneg = subst (λ x. int (pos 0) ≤ℚ x) (sym d) (le_refl (int (pos 0)));
  most = λ s u p h. subst (λ x. u -ℚ s ≤ℚ x) (sym d) (elim h [
    | inl l ↦
        let m : s <ℚ int (pos 0) = subst (λ x. s <ℚ x) a l in
        absurd (lt_irrefl (int (pos 0)) (le_lt_trans p.first m))
    | inr l ↦
        let m : u ≤ℚ int (pos 0) = subst (λ x. u ≤ℚ x) b l in
        let n = p.first in
        with2 s u (λ c. omega (arith, c.le, c.lt, c.same))
  ]);
  near = λ y l. inl (subst (λ x. y <ℚ x) d l);
}

-- ---- the functions and the lines of a cell
-- on its stretch f is no higher than its line
first_most : (f : ℚ → Ext) (l : Line) (t e s : ℚ) → RisesOn f l t e → t ≤ℚ s → s <ℚ e → f s ≤ₑ Fin (line_at l s)
first_most f l t e s R h k = elim (le_or_lt s t) [
  | inl m ↦ subst (λ x. f x ≤ₑ Fin (line_at l x)) (antisym (h, m)) R.start
  | inr m ↦ subst (λ x. x ≤ₑ Fin (line_at l s)) (sym (R.inside s m k)) (le_refl (line_at l s))
]

-- and after its start no lower, its end included
second_least : (g : ℚ → Ext) (l : Line) (x y u : ℚ) → RisesOn g l x y → x <ℚ u → u ≤ℚ y → Fin (line_at l u) ≤ₑ g u
second_least g l x y u R h k = elim (le_or_lt y u) [
  | inl m ↦ subst (λ v. Fin (line_at l v) ≤ₑ g v) (antisym (m, k)) R.end
  | inr m ↦ subst (λ v. Fin (line_at l u) ≤ₑ v) (sym (R.inside u h m)) (le_refl (line_at l u))
]

fin_below : (a b : ℚ) (v w : Ext) → Fin a ≤ₑ v → v <ₑ w → w ≤ₑ Fin b → a <ℚ b
fin_below a b v w h k l = lt_le_ext (Fin a) w (Fin b) (le_lt_ext (Fin a) v w h k) l

-- ---- no lag that a cell shows is longer
shown_most : (z : Sizes) (f g : ℚ → Ext) (until end q : ℚ) (w : Walk) (c : Cell) → IsWalked z f g until end w → IsCellOf f g w.time w.reached until end c → IsCellLag c q
    → (s u : ℚ) → IsBehind c s u → u -ℚ s ≤ℚ max_q w.lag q
shown_most z f g until end q w c W C L s u b = elim (L.most s u b) [
  | inl h ↦ le_trans h (max_q_ge_right w.lag q)
  | inr h ↦
      let x = c.from in
      let v = x -ℚ (u -ℚ s) in
      let low : int (pos 0) ≤ℚ c.start = subst (λ y. int (pos 0) ≤ℚ y) (sym C.start) W.time.nonneg in
      let some : int (pos 0) ≤ℚ x = subst (λ y. int (pos 0) ≤ℚ y) (sym C.from) W.reached.nonneg in
      let down : g x <ₑ Fin (line_at c.first v) = le_lt_ext (g x) (Fin (line_at c.second x)) (Fin (line_at c.first v)) C.second.start h.below in
      let pair : IsBehindAt f g v x = record {
        first = le_trans low (le_of_lt h.start);
        second = some;
        below = subst (λ y. g x <ₑ y) (sym (C.first.inside v h.start h.end)) down;
      } in
      let far : x -ℚ v ≤ℚ w.lag = W.most v x pair (inr (subst (λ y. x ≤ℚ y) C.from (le_refl x))) in
      let m = max_q_ge_left w.lag q in
      let lag = w.lag in
      let top = max_q lag q in
      same x u s lag top far m
]
  where
    same : (x u s lag top : ℚ) → x -ℚ (x -ℚ (u -ℚ s)) ≤ℚ lag → lag ≤ℚ top → u -ℚ s ≤ℚ top
    same x u s lag top h k = let z = u -ℚ s in with4 x z lag top (λ c. omega (arith, c.le, c.lt, c.same))

pair_most : (z : Sizes) (f g : ℚ → Ext) (until end q : ℚ) (w : Walk) (c : Cell) → IsWalked z f g until end w → IsCellOf f g w.time w.reached until end c → IsCellLag c q
    → (s u : ℚ) → IsBehindAt f g s u → c.start ≤ℚ s → s <ℚ c.end → u ≤ℚ c.until → u -ℚ s ≤ℚ max_q w.lag q
pair_most z f g until end q w c W C L s u p a b d = elim (le_or_lt u c.from) [
  | inl h ↦ le_trans (W.most s u p (inr (subst (λ y. u ≤ℚ y) C.from h))) (max_q_ge_left w.lag q)
  | inr h ↦ shown_most z f g until end q w c W C L s u record {
    start = a;
    end = b;
    from = h;
    until = d;
    below = fin_below (line_at c.second u) (line_at c.first s) (g u) (f s) (second_least g c.second c.from c.until u C.second h d) p.below (first_most f c.first c.start c.end s C.first a b);
  }
]

-- each number below the longer of the two is below a lag
both_near : (z : Sizes) (f g : ℚ → Ext) (until end q : ℚ) (w : Walk) (c : Cell) → IsWalked z f g until end w → IsCellOf f g w.time w.reached until end c → IsCellLag c q
    → (y : ℚ) → y <ℚ max_q w.lag q → (y <ℚ int (pos 0)) ⊎ LagsBy f g y
both_near z f g until end q w c W C L y h = elim (max_q_one w.lag q) [
  | inl e ↦ W.near y (subst (λ x. y <ℚ x) e h)
  | inr e ↦ elim (L.near y (subst (λ x. y <ℚ x) e h)) [
    | inl l ↦ inl l
    | inr b ↦
        let low : int (pos 0) ≤ℚ c.start = subst (λ x. int (pos 0) ≤ℚ x) (sym C.start) W.time.nonneg in
        let some : int (pos 0) ≤ℚ c.from = subst (λ x. int (pos 0) ≤ℚ x) (sym C.from) W.reached.nonneg in
        let down : Fin (line_at c.second b.second) <ₑ Fin (line_at c.first b.first) = b.below in
        inr record {
          first = b.first;
          second = b.second;
          behind = record {
            first = le_trans low (le_of_lt b.start);
            second = le_trans some (le_of_lt b.from);
            below = subst (λ v. v <ₑ f b.first) (sym (C.second.inside b.second b.from b.until)) (subst (λ v. Fin (line_at c.second b.second) <ₑ v) (sym (C.first.inside b.first b.start b.end)) down);
          };
          more = b.more;
        }
  ]
]

-- ---- the two steps
pub pass_first : (z : Sizes) (f g : ℚ → Ext) (until end q : ℚ) (w v : Walk) (c : Cell) → IsRising g → IsWalked z f g until end w → IsCellOf f g w.time w.reached until end c → CellSizes z end c → IsCellLag c q
    → line_at c.first c.end ≤ℚ line_at c.second c.until → v.time ≡ c.end → v.reached ≡ c.from → v.lag ≡ max_q w.lag q → IsWalked z f g until end v
pass_first z f g until end q w v c rising W C S L low a b d = record {
  time = subst (IsTimeTo z until) (sym a) record { whole = S.end.whole; nonneg = S.end.nonneg; high = C.early };
  reached = subst (IsTimeIn z end) (sym (b ∙ C.from)) W.reached;
  nonneg = subst (λ x. int (pos 0) ≤ℚ x) (sym d) (le_trans W.nonneg (max_q_ge_left w.lag q));
  near = λ y h. both_near z f g until end q w c W C L y (subst (λ x. y <ℚ x) d h);
  most = λ s u p h. subst (λ x. u -ℚ s ≤ℚ x) (sym d) (elim h [
    | inl l ↦ before s u p (subst (λ x. s <ℚ x) a l)
    | inr l ↦ old s u p (inr (subst (λ x. u ≤ℚ x) (b ∙ C.from) l))
  ]);
}
  where
    old : (s u : ℚ) → IsBehindAt f g s u → (s <ℚ w.time) ⊎ (u ≤ℚ w.reached) → u -ℚ s ≤ℚ max_q w.lag q
    old s u p h = le_trans (W.most s u p h) (max_q_ge_left w.lag q)

    -- past its stretch the second is no lower than the first before the end of its own
    far : (s u : ℚ) → IsBehindAt f g s u → c.start ≤ℚ s → s <ℚ c.end → c.until <ℚ u → ⊥
    far s u p h k l =
        let up : g c.until ≤ₑ g u = rising c.until u S.until.nonneg (le_of_lt l) in
        let high : Fin (line_at c.second c.until) ≤ₑ g u = le_ext_trans (Fin (line_at c.second c.until)) (g c.until) (g u) C.second.end up in
        let m : line_at c.second c.until <ℚ line_at c.first s = fin_below (line_at c.second c.until) (line_at c.first s) (g u) (f s) high p.below (first_most f c.first c.start c.end s C.first h k) in
        lt_irrefl (line_at c.second c.until) (lt_le_trans m (le_trans (value_rises c.first s c.end C.first.slope (le_of_lt k)) low))

    before : (s u : ℚ) → IsBehindAt f g s u → s <ℚ c.end → u -ℚ s ≤ℚ max_q w.lag q
    before s u p k = elim (le_or_lt c.start s) [
      | inr l ↦ old s u p (inl (subst (λ x. s <ℚ x) C.start l))
      | inl l ↦ elim (le_or_lt u c.until) [
        | inl m ↦ pair_most z f g until end q w c W C L s u p l k m
        | inr m ↦ absurd (far s u p l k m)
      ]
    ]

pub pass_second : (z : Sizes) (f g : ℚ → Ext) (until end q : ℚ) (w v : Walk) (c : Cell) → IsWalked z f g until end w → IsCellOf f g w.time w.reached until end c → CellSizes z end c → IsCellLag c q
    → line_at c.second c.until <ℚ line_at c.first c.end → c.until <ℚ end → v.time ≡ c.start → v.reached ≡ c.until → v.lag ≡ max_q w.lag q → IsWalked z f g until end v
pass_second z f g until end q w v c W C S L high early a b d = record {
  time = subst (IsTimeTo z until) (sym (a ∙ C.start)) W.time;
  reached = subst (IsTimeIn z end) (sym b) record { whole = S.until.whole; nonneg = S.until.nonneg; before = early };
  nonneg = subst (λ x. int (pos 0) ≤ℚ x) (sym d) (le_trans W.nonneg (max_q_ge_left w.lag q));
  near = λ y h. both_near z f g until end q w c W C L y (subst (λ x. y <ℚ x) d h);
  most = λ s u p h. subst (λ x. u -ℚ s ≤ℚ x) (sym d) (elim h [
    | inl l ↦ old s u p (inl (subst (λ x. s <ℚ x) (a ∙ C.start) l))
    | inr l ↦ before s u p (subst (λ x. u ≤ℚ x) b l)
  ]);
}
  where
    old : (s u : ℚ) → IsBehindAt f g s u → (s <ℚ w.time) ⊎ (u ≤ℚ w.reached) → u -ℚ s ≤ℚ max_q w.lag q
    old s u p h = le_trans (W.most s u p h) (max_q_ge_left w.lag q)

    -- the lag between the two ends
    ends : c.until -ℚ c.end ≤ℚ max_q w.lag q
    ends =
        let k = c.first in
        let (i, more) = (rising_supremum c.start c.end k.icept k.slope C.first.some C.first.slope).near (line_at c.second c.until) high in
        let shown = shown_most z f g until end q w c W C L i.at c.until record { start = le_of_lt i.above; end = i.below; from = C.second.some; until = le_refl c.until; below = more } in
        sooner c.until c.end i.at (max_q w.lag q) i.below shown
      where
        sooner : (y e s top : ℚ) → s <ℚ e → y -ℚ s ≤ℚ top → y -ℚ e ≤ℚ top
        sooner y e s top h k = with4 y e s top (λ c. omega (arith, c.le, c.lt, c.same))

    later : (y e s u top : ℚ) → y -ℚ e ≤ℚ top → u ≤ℚ y → e ≤ℚ s → u -ℚ s ≤ℚ top
    later y e s u top h k l = let m : u -ℚ s ≤ℚ y -ℚ e = with4 y e s u (λ c. omega (arith, c.le, c.lt, c.same)) in le_trans m h

    before : (s u : ℚ) → IsBehindAt f g s u → u ≤ℚ c.until → u -ℚ s ≤ℚ max_q w.lag q
    before s u p k = elim (le_or_lt c.start s) [
      | inr l ↦ old s u p (inl (subst (λ x. s <ℚ x) C.start l))
      | inl l ↦ elim (le_or_lt c.end s) [
        | inl m ↦ later c.until c.end s u (max_q w.lag q) ends k m
        | inr m ↦ pair_most z f g until end q w c W C L s u p l m k
      ]
    ]

-- ---- the window is not left: before its end the second has reached the first
pub not_left : (f g : ℚ → Ext) (t x until end at : ℚ) (c : Cell) → IsRising f → IsRising g → int (pos 0) ≤ℚ x → int (pos 0) ≤ℚ t → int (pos 0) ≤ℚ at → at <ℚ end → f until ≤ₑ g at → IsCellOf f g t x until end c
    → line_at c.second c.until <ℚ line_at c.first c.end → c.until <ℚ end
not_left f g t x until end at c up rising some low least before reached C high = elim (le_or_lt end c.until) [
  | inr l ↦ l
  | inl l ↦ absurd (below (subst (λ y. at <ℚ y) (antisym (l, C.high)) before))
]
  where
    -- up to the end of its stretch g is no higher than there
    under : at <ℚ c.until → g at ≤ₑ Fin (line_at c.second c.until)
    under h = elim (le_or_lt at c.from) [
      | inl m ↦
          le_ext_trans (g at) (g c.from) (Fin (line_at c.second c.until)) (rising at c.from least m)
          (le_ext_trans (g c.from) (Fin (line_at c.second c.from)) (Fin (line_at c.second c.until)) C.second.start (value_rises c.second c.from c.until C.second.slope (le_of_lt C.second.some)))
      | inr m ↦ subst (λ v. v ≤ₑ Fin (line_at c.second c.until)) (sym (C.second.inside at m h)) (value_rises c.second at c.until C.second.slope (le_of_lt h))
    ]

    below : at <ℚ c.until → ⊥
    below h =
        let start : int (pos 0) ≤ℚ c.end = le_trans (subst (λ y. int (pos 0) ≤ℚ y) (sym C.start) low) (le_of_lt C.first.some) in
        let most : Fin (line_at c.first c.end) ≤ₑ g at = le_ext_trans (Fin (line_at c.first c.end)) (f c.end) (g at) C.first.end (le_ext_trans (f c.end) (f until) (g at) (up c.end until start C.early) reached) in
        lt_irrefl (line_at c.second c.until) (lt_le_trans high (le_ext_trans (Fin (line_at c.first c.end)) (g at) (Fin (line_at c.second c.until)) most (under h)))

-- ---- how many steps of the grid are left
left_to : ℕ → ℚ → ℚ → ℕ
left_to d end t = whole_part ((end -ℚ t) *ℚ int (pos d))

pub steps_left : Sizes → ℚ → ℚ → Walk → ℕ
steps_left z until end w = left_to z.dt until w.time + left_to z.dt end w.reached

fewer_left : (d : ℕ) (end t next : ℚ) → 0 < d → Whole d t → Whole d next → t <ℚ next → next ≤ℚ end → left_to d end next < left_to d end t
unfolding left_to
fewer_left d end t next some w v h k = fewer_on_grid d end t next some w v h k

pub fewer_first : (z : Sizes) (f g : ℚ → Ext) (until end : ℚ) (w v : Walk) (c : Cell) → 0 < z.dt → IsWalked z f g until end w → IsWalked z f g until end v → IsCellOf f g w.time w.reached until end c
    → v.time ≡ c.end → v.reached ≡ c.from → steps_left z until end v < steps_left z until end w
unfolding steps_left
fewer_first z f g until end w v c some W V C a b =
    let past : w.time <ℚ v.time = subst (λ x. x <ℚ v.time) C.start (subst (λ x. c.start <ℚ x) (sym a) C.first.some) in
    let l = fewer_left z.dt until w.time v.time some W.time.whole V.time.whole past V.time.high in
    let e : left_to z.dt end v.reached ≡ left_to z.dt end w.reached = ap (left_to z.dt end) (b ∙ C.from) in
    omega (arith, l, e)

pub fewer_second : (z : Sizes) (f g : ℚ → Ext) (until end : ℚ) (w v : Walk) (c : Cell) → 0 < z.dt → IsWalked z f g until end w → IsWalked z f g until end v → IsCellOf f g w.time w.reached until end c
    → v.time ≡ c.start → v.reached ≡ c.until → steps_left z until end v < steps_left z until end w
unfolding steps_left
fewer_second z f g until end w v c some W V C a b =
    let past : w.reached <ℚ v.reached = subst (λ x. x <ℚ v.reached) C.from (subst (λ x. c.from <ℚ x) (sym b) C.second.some) in
    let l = fewer_left z.dt end w.reached v.reached some W.reached.whole V.reached.whole past (le_of_lt V.reached.before) in
    let e : left_to z.dt until v.time ≡ left_to z.dt until w.time = ap (left_to z.dt until) (a ∙ C.start) in
    omega (arith, l, e)

-- ---- at the end all times before `until` are looked at
pub walk_end : (z : Sizes) (f g : ℚ → Ext) (until end : ℚ) (w : Walk) → IsWalked z f g until end w → until ≤ℚ w.time → IsLongestLag (λ s. s <ℚ until) f g w.lag
walk_end z f g until end w W h = record { nonneg = W.nonneg; most = λ s u l p. W.most s u p (inl (lt_le_trans l h)); near = W.near }

pub walk_time : (z : Sizes) (f g : ℚ → Ext) (until end : ℚ) (w : Walk) → IsWalked z f g until end w → IsTimeIn z end until → w.time <ℚ until → IsTimeIn z end w.time
walk_time z f g until end w W U h = record { whole = W.time.whole; nonneg = W.time.nonneg; before = lt_trans h U.before }

-- one step, whichever it is
pub one_pass : (z : Sizes) (f g : ℚ → Ext) (until end at : ℚ) (w v : Walk) (c : Cell) → IsRising f → IsRising g → int (pos 0) ≤ℚ at → at <ℚ end → f until ≤ₑ g at → IsWalked z f g until end w
    → IsCellOf f g w.time w.reached until end c → CellSizes z end c → (q : ℚ) × IsCellLag c q × (v.lag ≡ max_q w.lag q)
    → (line_at c.first c.end ≤ℚ line_at c.second c.until → (v.time ≡ c.end) × (v.reached ≡ c.from))
    → (line_at c.second c.until <ℚ line_at c.first c.end → (v.time ≡ c.start) × (v.reached ≡ c.until))
    → IsWalked z f g until end v × (steps_left z until end v < steps_left z until end w)
one_pass z f g until end at w v c up rising low early reached W C S (q, L, d) first second = elim (le_or_lt (line_at c.first c.end) (line_at c.second c.until)) [
  | inl h ↦
      let (a, b) = first h in
      let V = pass_first z f g until end q w v c rising W C S L h a b d in
      (V, fewer_first z f g until end w v c S.limited.sizes.dt W V C a b)
  | inr h ↦
      let (a, b) = second h in
      let inside = not_left f g w.time w.reached until end at c up rising W.reached.nonneg W.time.nonneg low early reached C h in
      let V = pass_second z f g until end q w v c W C S L h inside a b d in
      (V, fewer_second z f g until end w v c S.limited.sizes.dt W V C a b)
]
