-- A server keeps its curve exactly where no window between watch points falls short.
use Rattle.std.specs.Prelude.{◌≡◌, ◌⊎◌, pos, List}
use Rattle.std.proofs.Common.{sym, arith, refl, subst, inl, inr}
use Rattle.rational.specs.Rational.{ℚ, int, ◌+ℚ◌, ◌-ℚ◌, ◌≤ℚ◌, ◌<ℚ◌}
use Rattle.rational.specs.Extended.{Ext, ◌≤ₑ◌, ◌<ₑ◌, ◌+ₑ◌}
use Rattle.rational.specs.declared.Extended.TheVariants.{Fin}
use Rattle.rational.proofs.Laws.{le_refl, le_trans, le_or_lt, le_of_lt, lt_le_trans, le_lt_trans, lt_irrefl, antisym}
use Rattle.rational.proofs.Linear.{with2}
use Rattle.run_laws.specs.Cards.{all, ServerStep}
use Rattle.run_laws.specs.Servers.{Server, start}
use Rattle.run_laws.specs.Allows.{IsLawfulView}
use Rattle.run_laws.specs.Counts.{arrived, worked}
use Rattle.run_laws.specs.Premises.{IsBusy, KeepsService, IsZeroAtStart}
use Rattle.run_laws.proofs.Cuts.{all_works}
use Rattle.upp_curve.specs.Curve.{SpecCurve, value_at}
use Rattle.min_plus.specs.Functions.{zero_q, IsFinite}
use Rattle.min_plus.specs.Continuity.{IsContinuous}
use Rattle.upp_curve.specs.Normal.{IsNormal}
use Rattle.flow_watch.specs.watch_laws.Affine.{IsPiecewise}
use Rattle.flow_watch.specs.watch_laws.Windows.{IsPair}
use Rattle.flow_watch.specs.watch_laws.Paces.{IsPaceChange}
use Rattle.flow_watch.specs.watch_laws.Breaks.{IsBreak}
use Rattle.flow_watch.specs.watch_laws.Stretches.{IsStretch, IsAround, IsTurn, IsWatchPoint}
use Rattle.flow_watch.specs.watch_laws.Breaches.{IsIdle}
use Rattle.flow_watch.proofs.watch_laws.Windows.{short_pair}
use Rattle.flow_watch.proofs.watch_laws.Paces.{work_pieces}
use Rattle.flow_watch.specs.watch_laws.Segments.{number_at}
use Rattle.flow_watch.proofs.watch_laws.Breaks.{is_number, curve_pieces}
use Rattle.flow_watch.proofs.watch_laws.Stretches.{around, each_time_map}
use Rattle.rational.proofs.ExtendedOrder.{not_past}

-- ---- from a premise that fails
pub length_nonneg : (a b : ℚ) → a <ℚ b → zero_q ≤ℚ b -ℚ a
length_nonneg a b h = with2 a b (λ c. omega (arith, c.le, c.lt, c.same))

pub below_number : (w v : ℚ) (x : Ext) (n : ℚ) → x ≡ Fin n → Fin w <ₑ (Fin v +ₑ x) → w <ℚ v +ℚ n
below_number w v x n e h = rw e at h

pub number_below : (w v : ℚ) (x : Ext) (n : ℚ) → x ≡ Fin n → w <ℚ v +ℚ n → Fin w <ₑ (Fin v +ₑ x)
number_below w v x n e h = rw e h

number_above : (w v : ℚ) (x : Ext) (n : ℚ) → x ≡ Fin n → v +ℚ n ≤ℚ w → (Fin v +ₑ x) ≤ₑ Fin w
number_above w v x n e h = rw e h

first_watched : (end : ℚ) (V : List ServerStep) (X : ℚ → Type 0) (a b : ℚ) → IsPair (IsTurn end V) X a b → IsWatchPoint end V X a
first_watched end V X a b h = elim h [
  | inl k ↦ (a, k.0, inl refl)
  | inr d ↦ elim d [
    | inl k ↦ (a, k.0, inl refl)
    | inr k ↦ (b, k.0, inr (inr k.1))
  ]
]

last_watched : (end : ℚ) (V : List ServerStep) (X : ℚ → Type 0) (a b : ℚ) → IsPair (IsTurn end V) X a b → IsWatchPoint end V X b
last_watched end V X a b h = elim h [
  | inl k ↦ (b, k.1, inl refl)
  | inr d ↦ elim d [
    | inl k ↦ (a, k.0, inr (inl k.1))
    | inr k ↦ (b, k.0, inl refl)
  ]
]

-- a window of a stretch that falls short, of which one end is a turn, and the other too or a time of the curve away
pub record IsFound (end : ℚ) (V : List ServerStep) (c : SpecCurve) (u e p q : ℚ) : Type 0 where
  pub inside : IsAround end V p q u e
  pub forward : p <ℚ q
  pub pair : IsPair (IsTurn end V) (IsBreak c) p q
  pub less : Fin (worked all V q) <ₑ (Fin (worked all V p) +ₑ value_at c (q -ℚ p))

-- such a window between two turns
pub record IsFoundBetween (end : ℚ) (V : List ServerStep) (c : SpecCurve) (u e p q : ℚ) : Type 0 where
  pub from : u ≤ℚ p
  pub forward : p <ℚ q
  pub to : q ≤ℚ e
  pub pair : IsPair (IsTurn end V) (IsBreak c) p q
  pub less : Fin (worked all V q) <ₑ (Fin (worked all V p) +ₑ value_at c (q -ℚ p))

-- the work in pieces between turns, and a curve that is 0 at first
pub work_turns : (server : Server) (end : ℚ) (V : List ServerStep) (u e : ℚ) → IsLawfulView server end V
    → IsPiecewise (worked all V) (IsTurn end V) u e
work_turns server end V u e h =
    let f = work_pieces V u e (all_works server end (start server.discipline) V h.allowed) in
    record {
      times = f.times;
      are = each_time_map (IsPaceChange V) (IsTurn end V) (λ t p. inr (inr p)) f.times f.are;
      affine = f.affine;
    }

pub none_at_start : (c : SpecCurve) → IsFinite (value_at c) → IsZeroAtStart (value_at c)
    → number_at (value_at c zero_q) ≤ℚ int (pos 0)
none_at_start c fin zero =
    let z = is_number (value_at c) zero_q fin (le_refl zero_q) in
    subst (λ x. x ≤ₑ Fin (int (pos 0))) z zero

pub found_between : (server : Server) (end : ℚ) (V : List ServerStep) (c : SpecCurve) (u e a b : ℚ) → IsLawfulView server end V → IsNormal c
    → IsFinite (value_at c) → IsContinuous (value_at c) → IsZeroAtStart (value_at c) → IsTurn end V u → IsTurn end V e → u ≤ℚ a → a <ℚ b → b ≤ℚ e
    → Fin (worked all V b) <ₑ (Fin (worked all V a) +ₑ value_at c (b -ℚ a))
    → (p q : ℚ) × IsFoundBetween end V c u e p q
found_between server end V c u e a b h n fin smooth zero at_u at_e first l last less =
    let g : ℚ → ℚ = λ t. number_at (value_at c t) in
    let short = below_number (worked all V b) (worked all V a) (value_at c (b -ℚ a)) (g (b -ℚ a)) (is_number (value_at c) (b -ℚ a) fin (length_nonneg a b l)) less in
    let (p, q, it) = short_pair (worked all V) g (IsTurn end V) (IsBreak c) u e a b (work_turns server end V u e h) (curve_pieces c (e -ℚ u) n fin smooth) at_u at_e
    (none_at_start c fin zero) first (le_of_lt l) last short in (
      p,
      q,
      record {
        from = it.from;
        forward = it.forward;
        to = it.to;
        pair = it.pair;
        less = number_below (worked all V q) (worked all V p) (value_at c (q -ℚ p)) (g (q -ℚ p)) (is_number (value_at c) (q -ℚ p) fin (length_nonneg p q it.forward)) it.short;
      },
    )

pub found_in : (server : Server) (end : ℚ) (V : List ServerStep) (c : SpecCurve) (u e a b : ℚ) → IsLawfulView server end V → IsNormal c
    → IsFinite (value_at c) → IsContinuous (value_at c) → IsZeroAtStart (value_at c) → IsAround end V a b u e → a <ℚ b
    → Fin (worked all V b) <ₑ (Fin (worked all V a) +ₑ value_at c (b -ℚ a))
    → (p q : ℚ) × IsFound end V c u e p q
found_in server end V c u e a b h n fin smooth zero is l less =
    let (p, q, it) = found_between server end V c u e a b h n fin smooth zero (inl (e, is.stretch)) (inr (inl (u, is.stretch))) is.first l is.last less in
    (p, q, record { inside = record { stretch = is.stretch; first = it.from; last = it.to }; forward = it.forward; pair = it.pair; less = it.less })

pub found : (server : Server) (end : ℚ) (V : List ServerStep) (c : SpecCurve) (a b : ℚ) → IsLawfulView server end V → IsNormal c
    → IsFinite (value_at c) → IsContinuous (value_at c) → IsZeroAtStart (value_at c) → a <ℚ b → b ≤ℚ end → IsBusy V a b
    → Fin (worked all V b) <ₑ (Fin (worked all V a) +ₑ value_at c (b -ℚ a))
    → (u e p q : ℚ) × IsFound end V c u e p q
found server end V c a b h n fin smooth zero l m busy less =
    let (u, e, is) = around server end V a b h l m busy in
    let (p, q, it) = found_in server end V c u e a b h n fin smooth zero is l less in
    (u, e, p, q, it)

pub idle_found : (end : ℚ) (V : List ServerStep) (c : SpecCurve) (u e p q : ℚ) → IsFound end V c u e p q → IsIdle end V c p q
idle_found end V c u e p q h = record {
  first = first_watched end V (IsBreak c) p q h.pair;
  last = last_watched end V (IsBreak c) p q h.pair;
  forward = h.forward;
  stretch = (u, e, h.inside);
  less = h.less;
}

-- what no such window denies is kept
pub none_found : (server : Server) (end : ℚ) (V : List ServerStep) (c : SpecCurve) → IsLawfulView server end V → IsNormal c
    → IsFinite (value_at c) → IsContinuous (value_at c) → IsZeroAtStart (value_at c)
    → ((u e p q : ℚ) → ¬ IsFound end V c u e p q) → KeepsService (value_at c) end V
none_found server end V c h n fin smooth zero none a b l m busy =
    let x = value_at c (b -ℚ a) in
    let is = is_number (value_at c) (b -ℚ a) fin (length_nonneg a b l) in
    elim (le_or_lt (worked all V a +ℚ number_at x) (worked all V b)) [
      | inl k ↦ number_above (worked all V b) (worked all V a) x (number_at x) is k
      | inr k ↦
          let (u, e, p, q, it) = found server end V c a b h n fin smooth zero l m busy (number_below (worked all V b) (worked all V a) x (number_at x) is k) in
          absurd (none u e p q it)
    ]

-- so where none between watch points falls short the curve is kept
pub none_idle : (server : Server) (end : ℚ) (V : List ServerStep) (c : SpecCurve) → IsLawfulView server end V → IsNormal c
    → IsFinite (value_at c) → IsContinuous (value_at c) → IsZeroAtStart (value_at c)
    → ((p q : ℚ) → ¬ IsIdle end V c p q) → KeepsService (value_at c) end V
none_idle server end V c h n fin smooth zero none =
    none_found server end V c h n fin smooth zero (λ u e p q it. none p q (idle_found end V c u e p q it))

-- ---- from a window that falls short

pub idle_breaks : (end : ℚ) (V : List ServerStep) (c : SpecCurve) (a b : ℚ) → KeepsService (value_at c) end V → IsIdle end V c a b → ⊥
idle_breaks end V c a b keeps h =
    let (u, e, is) = h.stretch in
    not_past (Fin (worked all V a) +ₑ value_at c (b -ℚ a)) (worked all V b)
    (keeps a b h.forward (le_trans is.last is.stretch.in_run) (λ x i j. is.stretch.busy x (le_lt_trans is.first i) (lt_le_trans j is.last))) h.less

-- ---- a window of a stretch is busy
pub inside_keeps : (end : ℚ) (V : List ServerStep) (c : SpecCurve) (u e a b : ℚ) → KeepsService (value_at c) end V → IsAround end V a b u e → a <ℚ b
    → (Fin (worked all V a) +ₑ value_at c (b -ℚ a)) ≤ₑ Fin (worked all V b)
inside_keeps end V c u e a b keeps is l =
    keeps a b l (le_trans is.last is.stretch.in_run) (λ x i j. is.stretch.busy x (le_lt_trans is.first i) (lt_le_trans j is.last))

-- ---- stretches
one_start : (end : ℚ) (V : List ServerStep) (u e v f : ℚ) → IsStretch end V u e → IsStretch end V v f → v <ℚ e → u <ℚ f → u ≤ℚ v
one_start end V u e v f h k l m = elim (le_or_lt u v) [
  | inl i ↦ i
  | inr i ↦ absurd (lt_irrefl (arrived all V u) (le_lt_trans h.caught_up (k.busy u i m)))
]

one_end : (end : ℚ) (V : List ServerStep) (u e v f : ℚ) → IsStretch end V u e → IsStretch end V v f → v <ℚ e → f ≤ℚ e
one_end end V u e v f h k l = elim (le_or_lt f e) [
  | inl i ↦ i
  | inr i ↦ absurd (elim h.stops [
    | inl g ↦ lt_irrefl e (lt_le_trans i (subst (λ z. f ≤ℚ z) (sym g) k.in_run))
    | inr g ↦ lt_irrefl (arrived all V e) (le_lt_trans g (k.busy e l i))
  ])
]

pub apart_or_one : (end : ℚ) (V : List ServerStep) (u e v f : ℚ) → IsStretch end V u e → IsStretch end V v f
    → ((u ≡ v) × (e ≡ f)) ⊎ (e ≤ℚ v) ⊎ (f ≤ℚ u)
apart_or_one end V u e v f h k = elim (le_or_lt e v) [
  | inl i ↦ inr (inl i)
  | inr i ↦ elim (le_or_lt f u) [
    | inl j ↦ inr (inr j)
    | inr j ↦ inl (antisym (one_start end V u e v f h k i j, one_start end V v f u e k h j i), antisym (one_end end V v f u e k h j, one_end end V u e v f h k i))
  ]
]
