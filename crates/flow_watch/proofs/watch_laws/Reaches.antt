-- Where a window is short of the work of a curve that repeats, one is that is no longer than its rank and a period: a longer
-- one is cut a period before its end, and one of the two parts is short.
use Rattle.std.specs.Prelude.{◌≡◌, ◌⊎◌, ℕ, zero, suc, pos, [], ◌∷◌}
use Rattle.std.proofs.Common.{arith, sym, subst, ap, ◌∙◌, inl, inr}
use Rattle.rational.specs.Rational.{ℚ, int, ◌+ℚ◌, ◌-ℚ◌, ◌*ℚ◌, ◌≤ℚ◌, ◌<ℚ◌}
use Rattle.rational.specs.MinMax.{min_q}
use Rattle.rational.specs.Whole.{periods}
use Rattle.rational.specs.Extended.{◌+ₑ◌}
use Rattle.rational.specs.declared.Extended.TheVariants.{Fin}
use Rattle.rational.proofs.Laws.{le_refl, le_trans, le_or_lt, le_of_lt, zero_mul}
use Rattle.rational.proofs.Linear.{with_atoms, with2, with3, with4, with5}
use Rattle.rational.proofs.MinMax.{min_q_left, min_q_is_right}
use Rattle.rational.proofs.Whole.{one_more_times, periods_high}
use Rattle.upp_curve.specs.declared.curve.Tail.{Tail}
use Rattle.upp_curve.specs.Curve.{SpecCurve, value_at}
use Rattle.upp_curve.specs.Normal.{IsNormal, FitsPeriod, TailFits}
use Rattle.upp_curve.specs.Steady.{Repeats}
use Rattle.upp_curve.proofs.Normal.{periodic_rule}
use Rattle.run_laws.specs.Cards.{all}
use Rattle.run_laws.specs.Servers.{start}
use Rattle.run_laws.specs.Counts.{worked}
use Rattle.run_laws.proofs.Counts.{worked_rises}
use Rattle.run_laws.proofs.Cuts.{all_works}
use Rattle.flow_watch.specs.watch_laws.Affine.{IsPiecewise}
use Rattle.flow_watch.specs.watch_laws.Windows.{FallsShort, IsShort}
use Rattle.flow_watch.specs.watch_laws.Breaks.{IsBreak}
use Rattle.flow_watch.specs.watch_laws.Segments.{number_at}
use Rattle.flow_watch.specs.watch_laws.Stretches.{IsTurn}
use Rattle.flow_watch.specs.watch_laws.Laws.{MayServe}
use Rattle.flow_watch.specs.watch_laws.Reaches.{HasReach, ReachSuffices}
use Rattle.flow_watch.proofs.watch_laws.Windows.{short_pair}
use Rattle.flow_watch.proofs.watch_laws.Breaks.{is_number, curve_pieces}
use Rattle.flow_watch.proofs.watch_laws.Idle.{length_nonneg, below_number, number_below, work_turns, none_at_start}
use Rattle.flow_watch.proofs.watch_laws.UnrolledStarts.{rank_later}

-- ---- windows that are cut
-- from r on the function rises over d no more than it does from 0 to d
abbrev RisesLess : (ℚ → ℚ) → ℚ → ℚ → Type 0
RisesLess g r d = (x : ℚ) → r ≤ℚ x → g (x +ℚ d) ≤ℚ g x +ℚ g d

cut_off : (W g : ℚ → ℚ) (r d a b : ℚ) → RisesLess g r d → r +ℚ d ≤ℚ b -ℚ a → FallsShort W g a b → FallsShort W g (b -ℚ d) b ⊎ FallsShort W g a (b -ℚ d)
cut_off W g r d a b less long short =
    let x = (b -ℚ d) -ℚ a in
    let far : r ≤ℚ x = with4 r d a b (λ c. omega (arith, c.le, c.lt, c.same)) in
    let whole : x +ℚ d ≡ b -ℚ a = with3 a b d (λ c. omega (arith, c.le, c.lt, c.same)) in
    let m : g (b -ℚ a) ≤ℚ g x +ℚ g d = subst (λ t. g t ≤ℚ g x +ℚ g d) whole (less x far) in
    elim (le_or_lt (W (b -ℚ d) +ℚ g d) (W b)) [
      | inl l ↦ inr (with_atoms (W b ∷ W (b -ℚ d) ∷ W a ∷ g d ∷ g x ∷ g (b -ℚ a) ∷ []) (λ c. omega (arith, c.le, c.lt, c.same)))
      | inr l ↦ inl (subst (λ t. W b <ℚ W (b -ℚ d) +ℚ g t) (with2 b d (λ c. omega (arith, c.le, c.lt, c.same))) l)
    ]

-- a short window within [a, b] that is no longer than k
record IsNear (W g : ℚ → ℚ) (k a b p q : ℚ) : Type 0 where
  from : a ≤ℚ p
  forward : p ≤ℚ q
  upto : q ≤ℚ b
  short : FallsShort W g p q
  near : q -ℚ p ≤ℚ k

near_one : (W g : ℚ → ℚ) (r d : ℚ) (n : ℕ) (a b : ℚ) → RisesLess g r d → int (pos 0) ≤ℚ r → int (pos 0) <ℚ d → a ≤ℚ b
    → b -ℚ a ≤ℚ r +ℚ d +ℚ int (pos n) *ℚ d → FallsShort W g a b → (p q : ℚ) × IsNear W g (r +ℚ d) a b p q
near_one W g r d zero a b less low some order long short =
    let none = zero_mul d in
    (a, b, record { from = le_refl a; forward = order; upto = le_refl b; short = short; near = with5 r d a b (int (pos 0) *ℚ d) (λ c. omega (arith, c.le, c.lt, c.same)) })
near_one W g r d (suc n) a b less low some order long short = elim (le_or_lt (b -ℚ a) (r +ℚ d)) [
  | inl m ↦ (a, b, record { from = le_refl a; forward = order; upto = le_refl b; short = short; near = m })
  | inr m ↦
      let back : b -ℚ d ≤ℚ b = with2 b d (λ c. omega (arith, c.le, c.lt, c.same)) in
      let after : a ≤ℚ b -ℚ d = with4 r d a b (λ c. omega (arith, c.le, c.lt, c.same)) in
      elim (cut_off W g r d a b less (le_of_lt m) short) [
        | inl s ↦ (b -ℚ d, b, record { from = after; forward = back; upto = le_refl b; short = s; near = with3 r d b (λ c. omega (arith, c.le, c.lt, c.same)) })
        | inr s ↦
            let more = one_more_times n d in
            let rest : (b -ℚ d) -ℚ a ≤ℚ r +ℚ d +ℚ int (pos n) *ℚ d =
            with_atoms (r ∷ d ∷ a ∷ b ∷ (int (pos n) *ℚ d) ∷ (int (pos (suc n)) *ℚ d) ∷ []) (λ c. omega (arith, c.le, c.lt, c.same)) in
            let (p, q, it) = near_one W g r d n a (b -ℚ d) less low some after rest s in
            (p, q, record { from = it.from; forward = it.forward; upto = le_trans it.upto back; short = it.short; near = it.near })
      ]
]

-- ---- a function that is held from k on
abbrev held : (ℚ → ℚ) → ℚ → ℚ → ℚ
held g k x = g (min_q x k)

held_early : (g : ℚ → ℚ) (k x : ℚ) → x ≤ℚ k → held g k x ≡ g x
held_early g k x h = ap g (min_q_left x k h)

held_late : (g : ℚ → ℚ) (k x : ℚ) → k ≤ℚ x → held g k x ≡ g k
held_late g k x h = ap g (min_q_is_right x k h)

held_pieces : (g : ℚ → ℚ) (X : ℚ → Type 0) (k hi : ℚ) → IsPiecewise g X (int (pos 0)) hi → X k → IsPiecewise (held g k) X (int (pos 0)) hi
held_pieces g X k hi h at_k = record {
  times = k ∷ h.times;
  are = (at_k, h.are);
  affine = λ x y i j l none. elim none.0 [
    | inl late ↦ (
      int (pos 0),
      λ z a b.
          let e = held_late g k z (le_trans late a) in
          let f = held_late g k x late in
          let n = zero_mul (z -ℚ x) in
          with4 (held g k z) (held g k x) (g k) (int (pos 0) *ℚ (z -ℚ x)) (λ c. omega (arith, c.le, c.lt, c.same)),
    )
    | inr early ↦
        let (r, line) = h.affine x y i j l none.1 in (
          r,
          λ z a b.
              let e = held_early g k z (le_trans b early) in
              let f = held_early g k x (le_trans j early) in
              let m = line z a b in
              with5 (held g k z) (held g k x) (g z) (g x) (r *ℚ (z -ℚ x)) (λ c. omega (arith, c.le, c.lt, c.same)),
        )
  ];
}

-- ---- some window falls short: one of the pairs does that is no longer than r and d
record IsNearPair (W g : ℚ → ℚ) (P X : ℚ → Type 0) (u e k p q : ℚ) : Type 0 where
  pair : IsShort W g P X u e p q
  near : q -ℚ p ≤ℚ k

-- of a pair that is longer and short of the value at k, the part at one end
from_first : (W g : ℚ → ℚ) (P X : ℚ → Type 0) (u e k p q : ℚ) → ((s t : ℚ) → s ≤ℚ t → W s ≤ℚ W t) → int (pos 0) <ℚ k → X k → u ≤ℚ p → q ≤ℚ e → k <ℚ q -ℚ p → P p → W q <ℚ W p +ℚ g k
    → IsNearPair W g P X u e k p (p +ℚ k)
from_first W g P X u e k p q rises some at_k first last long at_p short =
    let inside : p +ℚ k ≤ℚ q = with3 p q k (λ c. omega (arith, c.le, c.lt, c.same)) in
    let less = rises (p +ℚ k) q inside in
    let same : k ≡ (p +ℚ k) -ℚ p = with2 p k (λ c. omega (arith, c.le, c.lt, c.same)) in
    let low : W (p +ℚ k) <ℚ W p +ℚ g k = with4 (W (p +ℚ k)) (W q) (W p) (g k) (λ c. omega (arith, c.le, c.lt, c.same)) in
    record {
      pair = record {
        from = first;
        forward = with2 p k (λ c. omega (arith, c.le, c.lt, c.same));
        to = le_trans inside last;
        short = subst (λ t. W (p +ℚ k) <ℚ W p +ℚ g t) same low;
        pair = inr (inl (at_p, subst X same at_k));
      };
      near = with2 p k (λ c. omega (arith, c.le, c.lt, c.same));
    }

upto_last : (W g : ℚ → ℚ) (P X : ℚ → Type 0) (u e k p q : ℚ) → ((s t : ℚ) → s ≤ℚ t → W s ≤ℚ W t) → int (pos 0) <ℚ k → X k → u ≤ℚ p → q ≤ℚ e → k <ℚ q -ℚ p → P q → W q <ℚ W p +ℚ g k
    → IsNearPair W g P X u e k (q -ℚ k) q
upto_last W g P X u e k p q rises some at_k first last long at_q short =
    let inside : p ≤ℚ q -ℚ k = with3 p q k (λ c. omega (arith, c.le, c.lt, c.same)) in
    let more = rises p (q -ℚ k) inside in
    let same : k ≡ q -ℚ (q -ℚ k) = with2 q k (λ c. omega (arith, c.le, c.lt, c.same)) in
    let low : W q <ℚ W (q -ℚ k) +ℚ g k = with4 (W (q -ℚ k)) (W q) (W p) (g k) (λ c. omega (arith, c.le, c.lt, c.same)) in
    record {
      pair = record {
        from = le_trans first inside;
        forward = with2 q k (λ c. omega (arith, c.le, c.lt, c.same));
        to = last;
        short = subst (λ t. W q <ℚ W (q -ℚ k) +ℚ g t) same low;
        pair = inr (inr (at_q, subst X same at_k));
      };
      near = with2 q k (λ c. omega (arith, c.le, c.lt, c.same));
    }

near_pair : (W g : ℚ → ℚ) (P X : ℚ → Type 0) (u e a b r d : ℚ) → ((s t : ℚ) → s ≤ℚ t → W s ≤ℚ W t) → RisesLess g r d → int (pos 0) ≤ℚ r → int (pos 0) <ℚ d
    → IsPiecewise W P u e → IsPiecewise g X (int (pos 0)) (e -ℚ u) → X (r +ℚ d) → P u → P e → g (int (pos 0)) ≤ℚ int (pos 0) → u ≤ℚ a → a ≤ℚ b → b ≤ℚ e → FallsShort W g a b
    → (p q : ℚ) × IsNearPair W g P X u e (r +ℚ d) p q
near_pair W g P X u e a b r d rises less low some f h at_k at_u at_e z first order last short =
    let k = r +ℚ d in
    let k_some : int (pos 0) <ℚ k = with2 r d (λ c. omega (arith, c.le, c.lt, c.same)) in
    let n = periods r d (b -ℚ a) in
    let high = periods_high r d (b -ℚ a) some in
    let long : b -ℚ a ≤ℚ r +ℚ d +ℚ int (pos n) *ℚ d = with5 r d a b (int (pos n) *ℚ d) (λ c. omega (arith, c.le, c.lt, c.same)) in
    let (s, t, N) = near_one W g r d n a b less low some order long short in
    let zero_held : held g k (int (pos 0)) ≤ℚ int (pos 0) = subst (λ v. v ≤ℚ int (pos 0)) (sym (held_early g k (int (pos 0)) (le_of_lt k_some))) z in
    let held_short : FallsShort W (held g k) s t = subst (λ v. W t <ℚ W s +ℚ v) (sym (held_early g k (t -ℚ s) N.near)) N.short in
    let (p, q, it) = short_pair W (held g k) P X u e s t f (held_pieces g X k (e -ℚ u) h at_k) at_u at_e zero_held (le_trans first N.from) N.forward (le_trans N.upto last) held_short in
    elim (le_or_lt (q -ℚ p) k) [
      | inl m ↦ (
        p,
        q,
        record {
          pair = record { from = it.from; forward = it.forward; to = it.to; short = subst (λ v. W q <ℚ W p +ℚ v) (held_early g k (q -ℚ p) m) it.short; pair = it.pair };
          near = m;
        },
      )
      | inr m ↦
          let under : W q <ℚ W p +ℚ g k = subst (λ v. W q <ℚ W p +ℚ v) (held_late g k (q -ℚ p) (le_of_lt m)) it.short in
          let of_first : P p → (x y : ℚ) × IsNearPair W g P X u e k x y = λ at_p. (p, p +ℚ k, from_first W g P X u e k p q rises k_some at_k it.from it.to m at_p under) in
          elim it.pair [
            | inl two ↦ of_first two.0
            | inr o ↦ elim o [
              | inl one ↦ of_first one.0
              | inr one ↦ (q -ℚ k, q, upto_last W g P X u e k p q rises k_some at_k it.from it.to m one.0 under)
            ]
          ]
    ]

-- ---- a curve
fits_period : (c : SpecCurve) (reach : ℚ) → IsNormal c → (R : HasReach c reach) → FitsPeriod c.pieces R.rank R.period
fits_period c reach n R = subst (λ (t : Tail). TailFits c.pieces t) R.tail n.raw.tail

repeats : (c : SpecCurve) (reach : ℚ) → IsNormal c → (R : HasReach c reach) → Repeats (value_at c) R.rank R.period R.rise
repeats c reach n R =
    let F = fits_period c reach n R in
    subst (λ (t : Tail). Repeats (value_at record { pieces = c.pieces; tail = t }) R.rank R.period R.rise) (sym R.tail) (periodic_rule c.pieces R.rank R.period R.rise F.some)

rises_less : (c : SpecCurve) (reach : ℚ) → MayServe c → (R : HasReach c reach) → RisesLess (λ t. number_at (value_at c t)) R.rank R.period
rises_less c reach M R x late =
    let F = fits_period c reach M.normal R in
    let rule = repeats c reach M.normal R in
    let (v, is) = M.finite x (le_trans F.nonneg late) in
    let here : number_at (value_at c x) ≡ v = ap number_at is in
    let later : number_at (value_at c (x +ℚ R.period)) ≡ v +ℚ R.rise = ap number_at (rule.rule x late ∙ ap (λ y. y +ₑ Fin R.rise) is) in
    let once : number_at (value_at c R.period) ≡ R.value = ap number_at R.there in
    let m = R.enough in
    let rise = R.rise in
    let value = R.value in
    with_atoms (v ∷ rise ∷ value ∷ number_at (value_at c x) ∷ number_at (value_at c (x +ℚ R.period)) ∷ number_at (value_at c R.period) ∷ []) (λ c. omega (arith, c.le, c.lt, c.same))

pub reach_suffices : ReachSuffices
reach_suffices server end V c reach u e a b h M R at_u at_e first l last less =
    let works = all_works server end (start server.discipline) V h.allowed in
    let g : ℚ → ℚ = λ t. number_at (value_at c t) in
    let F = fits_period c reach M.normal R in
    let short = below_number (worked all V b) (worked all V a) (value_at c (b -ℚ a)) (g (b -ℚ a)) (is_number (value_at c) (b -ℚ a) M.finite (length_nonneg a b l)) less in
    let (p, q, it) = near_pair (worked all V) g (IsTurn end V) (IsBreak c) u e a b R.rank R.period (λ s t k. worked_rises all V s t works k) (rises_less c reach M R) F.nonneg F.some
    (work_turns server end V u e h) (curve_pieces c (e -ℚ u) M.normal M.finite M.continuous) (rank_later c R.rank R.period R.rise M.normal R.tail) at_u at_e
    (none_at_start c M.finite M.at_zero) first (le_of_lt l) last short in
    let pair = it.pair in (
      p,
      q,
      pair.from,
      pair.forward,
      pair.to,
      pair.pair,
      subst (λ k. q -ℚ p ≤ℚ k) (sym R.is) it.near,
      number_below (worked all V q) (worked all V p) (value_at c (q -ℚ p)) (g (q -ℚ p)) (is_number (value_at c) (q -ℚ p) M.finite (length_nonneg p q pair.forward)) pair.short,
    )
