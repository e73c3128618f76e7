-- The stretches that are found are those of the view, in the order of their starts.
use Rattle.std.specs.Prelude.{◌≡◌, ◌⊎◌, pos, true, List, [], ◌∷◌, ◌++◌, Option, Some, None}
use Rattle.std.specs.Option.{option_to_list}
use Rattle.std.proofs.Common.{refl, sym, subst, ap, ap₂, ◌∙◌, inl, inr, arith}
use Rattle.std.proofs.lemmas.Bool.{cases_Bool, and_from, and_parts}
use Rattle.rational.specs.Rational.{ℚ, int, ◌+ℚ◌, ◌≤ℚ◌, ◌<ℚ◌, le_q, lt_q}
use Rattle.rational.proofs.Laws.{le_refl, le_trans, le_or_lt, le_of_lt, lt_le_trans, lt_irrefl, lt_cases, add_assoc, add_zero}
use Rattle.rational.proofs.Over.{le_q_out, le_q_in, lt_q_out, lt_q_in}
use Rattle.rational.proofs.Linear.{with_atoms}
use Rattle.run_laws.specs.Cards.{all, ServerStep, Arrives, Works, Leaves, Visits}
use Rattle.run_laws.specs.Servers as servers
use Rattle.run_laws.specs.Counts.{arrived, worked}
use Rattle.run_laws.proofs.Sums.{add_nothing}
use Rattle.run_laws.proofs.Sizes.{size_nonneg}
use Rattle.flow_watch.specs.watch_laws.Stretches.{IsStretch}
use Rattle.flow_watch.specs.watch_laws.Times.{HasArrival}
use Rattle.flow_watch.proofs.watch_laws.Times.{stretches_begin}
use Rattle.run_watch.specs.declared.span.Span.{Span}
use Rattle.run_watch.specs.declared.span.Ramp.{Ramp}
use Rattle.run_watch.specs.declared.watched.Watched.{Watched}
use Rattle.run_watch.specs.declared.watched.Stretch.{Stretch}
use Rattle.run_watch.specs.Ramps.{as_span, amount, pace_in, InOrder, ramps_after, spans_of}
use Rattle.run_watch.specs.Seen.{arrival_spans}
use Rattle.run_watch.specs.Watching.{worked_by, stops, next_after, begins, stretch_from, stretches_in, stretches}
use Rattle.run_watch.proofs.RampLists.{clip_past, clip_before, amount_late, spans_are}
use Rattle.run_watch.proofs.ViewSpans.{arrivals_in_order}
use Rattle.run_watch.proofs.ViewStretches.{ends_at}
use Rattle.run_watch.specs.Held.{IsSightOf}

-- ---- lists
abbrev pub HasStretch : ℚ → ℚ → List Stretch → Type 0
HasStretch u e [] = ⊥
HasStretch u e (s ∷ ss) = ((s.start ≡ u) × (s.end ≡ e)) ⊎ HasStretch u e ss

abbrev pub HasRamp : Ramp → List Ramp → Type 0
HasRamp r [] = ⊥
HasRamp r (q ∷ rs) = (r ≡ q) ⊎ HasRamp r rs

-- ---- packets that come all at once
record IsAtOnce (s : Span) : Type 0 where
  same : s.end ≡ s.start
  some : int (pos 0) ≤ℚ s.bits

abbrev AllAtOnce : List Span → Type 0
AllAtOnce [] = Unit {0}
AllAtOnce (s ∷ ss) = IsAtOnce s × AllAtOnce ss

at_once_all : (V : List ServerStep) → AllAtOnce (arrival_spans V)
at_once_all [] = tt
at_once_all (Arrives c t ∷ V) = (record { same = refl; some = size_nonneg c }, at_once_all V)
at_once_all (Works c a b w ∷ V) = at_once_all V
at_once_all (Leaves c t ∷ V) = at_once_all V
at_once_all (Visits q t ∷ V) = at_once_all V

abbrev StartsAt : ℚ → List Span → Type 0
StartsAt u [] = ⊥
StartsAt u (s ∷ ss) = (u ≡ s.start) ⊎ StartsAt u ss

starts_with : (V : List ServerStep) (u : ℚ) → HasArrival V u → StartsAt u (arrival_spans V)
starts_with [] u h = h
starts_with (Arrives c t ∷ V) u h = elim h [ inl e ↦ inl e | inr k ↦ inr (starts_with V u k) ]
starts_with (Works c a b w ∷ V) u h = starts_with V u h
starts_with (Leaves c t ∷ V) u h = starts_with V u h
starts_with (Visits q t ∷ V) u h = starts_with V u h

arrives_with : (V : List ServerStep) (u : ℚ) → StartsAt u (arrival_spans V) → HasArrival V u
arrives_with [] u h = h
arrives_with (Arrives c t ∷ V) u h = elim h [ inl e ↦ inl e | inr k ↦ inr (arrives_with V u k) ]
arrives_with (Works c a b w ∷ V) u h = arrives_with V u h
arrives_with (Leaves c t ∷ V) u h = arrives_with V u h
arrives_with (Visits q t ∷ V) u h = arrives_with V u h

starts_from : (from u : ℚ) (ss : List Span) → InOrder from ss → StartsAt u ss → from ≤ℚ u
starts_from from u [] h k = absurd k
starts_from from u (s ∷ ss) h k = elim k [ inl e ↦ subst (λ z. from ≤ℚ z) (sym e) h.0 | inr l ↦ le_trans h.0 (le_trans h.1 (starts_from s.end u ss h.2 l)) ]

-- the first packet at u comes after all that arrived before u
record FirstAt (u before : ℚ) (rs : List Ramp) : Type 0 where
  ramp : Ramp
  has : HasRamp ramp rs
  start : ramp.span.start ≡ u
  is : ramp.before ≡ before

first_at : (done from u : ℚ) (ss : List Span) → InOrder from ss → AllAtOnce ss → StartsAt u ss → FirstAt u (done +ℚ amount ss u) (ramps_after done ss)
first_at done from u [] h a k = absurd k
first_at done from u (s ∷ ss) h a k = elim (lt_cases s.start u) [
  | inl l ↦
      let later : StartsAt u ss = elim k [ inl e ↦ absurd (lt_irrefl u (subst (λ z. z <ℚ u) (sym e) l)) | inr m ↦ m ] in
      let r = first_at (done +ℚ s.bits) s.end u ss h.2 a.1 later in
      let past = clip_past (as_span s) u l (le_of_lt (subst (λ z. z <ℚ u) (sym a.0.same) l)) in record {
        ramp = r.ramp;
        has = inr r.has;
        start = r.start;
        is = r.is ∙ add_assoc done s.bits (amount ss u) ∙ ap (λ z. done +ℚ (z +ℚ amount ss u)) (sym past);
      }
  | inr d ↦ elim d [
    | inl e ↦
        let none = clip_before (as_span s) u (subst (λ z. u ≤ℚ z) (sym e) (le_refl u)) in
        let rest = amount_late s.end u ss h.2 (subst (λ z. z ≤ℚ s.end) e h.1) in record {
          ramp = record { span = s; before = done; after = done +ℚ s.bits; pace = pace_in s };
          has = inl refl;
          start = e;
          is = sym (ap (λ z. done +ℚ z) (ap₂ (λ (x y : ℚ). x +ℚ y) none rest ∙ add_nothing (int (pos 0))) ∙ add_zero done);
        }
    | inr l ↦ absurd (elim k [
      | inl e ↦ lt_irrefl u (subst (λ z. u <ℚ z) (sym e) l)
      | inr m ↦ lt_irrefl u (lt_le_trans l (le_trans h.1 (starts_from s.end u ss h.2 m)))
    ])
  ]
]

-- no less comes before a packet than arrived before its time
clip_most : (s : Span) (t : ℚ) → IsAtOnce s → servers.clip (as_span s) t ≤ℚ s.bits
clip_most s t a = elim (le_or_lt t s.start) [
  | inl l ↦ subst (λ z. z ≤ℚ s.bits) (sym (clip_before (as_span s) t l)) a.some
  | inr l ↦ subst (λ z. z ≤ℚ s.bits) (sym (clip_past (as_span s) t l (le_of_lt (subst (λ z. z <ℚ t) (sym a.same) l)))) (le_refl s.bits)
]

before_most : (done from : ℚ) (ss : List Span) (r : Ramp) → InOrder from ss → AllAtOnce ss → HasRamp r (ramps_after done ss) → done +ℚ amount ss r.span.start ≤ℚ r.before
before_most done from [] r h a k = absurd k
before_most done from (s ∷ ss) r h a k = elim k [
  | inl e ↦
      let none = clip_before (as_span s) s.start (le_refl s.start) in
      let rest = amount_late s.end s.start ss h.2 h.1 in
      subst (λ (q : Ramp). done +ℚ amount (s ∷ ss) q.span.start ≤ℚ q.before) (sym e)
      (subst (λ z. z ≤ℚ done) (sym (ap (λ z. done +ℚ z) (ap₂ (λ (x y : ℚ). x +ℚ y) none rest ∙ add_nothing (int (pos 0))) ∙ add_zero done)) (le_refl done))
  | inr l ↦
      let t = r.span.start in
      let m = before_most (done +ℚ s.bits) s.end ss r h.2 a.1 l in
      let g = clip_most s t a.0 in
      joined done s.bits (amount ss t) (servers.clip (as_span s) t) r.before g m
]
  where
    joined : (d b x c y : ℚ) → c ≤ℚ b → (d +ℚ b) +ℚ x ≤ℚ y → d +ℚ (c +ℚ x) ≤ℚ y
    joined d b x c y h k = with_atoms (d ∷ b ∷ x ∷ c ∷ y ∷ []) (λ w. omega (arith, w.le, w.lt, w.same))

ramp_starts : (done u : ℚ) (ss : List Span) (r : Ramp) → HasRamp r (ramps_after done ss) → StartsAt r.span.start ss
ramp_starts done u [] r h = absurd h
ramp_starts done u (s ∷ ss) r h = elim h [ inl e ↦ inl (ap (λ (q : Ramp). q.span.start) e) | inr k ↦ inr (ramp_starts (done +ℚ s.bits) u ss r k) ]

-- ---- the list
stretch_in : (w : Watched) (ts : List ℚ) (rs : List Ramp) (r : Ramp) (s : Stretch) → HasRamp r rs → stretch_from w ts r ≡ Some s → HasStretch s.start s.end (stretches_in w ts rs)
stretch_in w ts [] r s h e = absurd h
stretch_in w ts (q ∷ rs) r s h e = elim h [
  | inl is ↦ subst (λ (o : Option Stretch). HasStretch s.start s.end (option_to_list o ++ stretches_in w ts rs)) (sym e ∙ ap (stretch_from w ts) is) (inl (refl, refl))
  | inr k ↦ behind (stretch_from w ts q) (stretch_in w ts rs r s k e)
]
  where
    behind : (o : Option Stretch) → HasStretch s.start s.end (stretches_in w ts rs) → HasStretch s.start s.end (option_to_list o ++ stretches_in w ts rs)
    behind None k = k
    behind (Some x) k = inr k

pub record FromRamp (w : Watched) (ts : List ℚ) (rs : List Ramp) (u e : ℚ) : Type 0 where
  pub ramp : Ramp
  pub has : HasRamp ramp rs
  pub begins : begins w ramp ≡ true
  pub start : ramp.span.start ≡ u
  pub end : next_after ramp.span.start w.end ts ≡ e

pub ramp_in : (w : Watched) (ts : List ℚ) (rs : List Ramp) (u e : ℚ) → HasStretch u e (stretches_in w ts rs) → FromRamp w ts rs u e
ramp_in w ts [] u e h = absurd h
ramp_in w ts (r ∷ rs) u e h = elim (cases_Bool (begins w r)) [
  | inr not_so ↦
      let k : HasStretch u e (stretches_in w ts rs) = rw not_so at h in
      let f = ramp_in w ts rs u e k in record { ramp = f.ramp; has = inr f.has; begins = f.begins; start = f.start; end = f.end }
  | inl does ↦
      let k : HasStretch u e (record { start = r.span.start; end = next_after r.span.start w.end ts } ∷ stretches_in w ts rs) = rw does at h in
      elim k [
        | inl is ↦ record { ramp = r; has = inl refl; begins = does; start = is.0; end = is.1 }
        | inr l ↦ let f = ramp_in w ts rs u e l in record { ramp = f.ramp; has = inr f.has; begins = f.begins; start = f.start; end = f.end }
      ]
]

pub stretch_found : (server : servers.Server) (end : ℚ) (V : List ServerStep) (w : Watched) (u e : ℚ) → IsSightOf server end V w → IsStretch end V u e → HasStretch u e (stretches w)
stretch_found server end V w u e S s =
    let b = (stretches_begin server end V u S.lawful).0 (e, s) in
    let z = int (pos 0) in
    let f = first_at z z u (arrival_spans V) (arrivals_in_order server end V S.lawful) (at_once_all V) (starts_with V u b.arrives) in
    let r = f.ramp in
    let arrived_here : r.before ≡ arrived all V u =
    f.is ∙ add_nothing (amount (arrival_spans V) u) ∙ seen_amount u in
    let early : lt_q r.span.start w.end ≡ true = lt_q_out r.span.start w.end (subst (λ x. x <ℚ w.end) (sym f.start) (subst (λ x. u <ℚ x) (sym S.end_is) b.in_run)) in
    let caught : le_q r.before (worked_by w r.span.start) ≡ true =
    le_q_out r.before (worked_by w r.span.start) (subst (λ x. x ≤ℚ worked_by w r.span.start) (sym arrived_here) (subst (λ x. arrived all V u ≤ℚ worked_by w x) (sym f.start) (subst (λ x. arrived all V u ≤ℚ x) (sym (S.worked_is u)) b.caught_up))) in
    let from : stretch_from w (stops w) r ≡ Some record { start = r.span.start; end = next_after r.span.start w.end (stops w) } = rw (and_from (lt_q r.span.start w.end) (le_q r.before (worked_by w r.span.start)) early caught) refl in
    let h = stretch_in w (stops w) (ramps_after z (arrival_spans V)) r record { start = r.span.start; end = next_after r.span.start w.end (stops w) } f.has from in
    let at_u = ap (λ x. next_after x w.end (stops w)) f.start ∙ ends_at server end V w u e S s in
    subst (λ (rs : List Ramp). HasStretch u e (stretches_in w (stops w) rs)) (sym S.arrivals)
    (subst (λ x. HasStretch x e (stretches_in w (stops w) (ramps_after z (arrival_spans V)))) f.start
    (subst (λ x. HasStretch r.span.start x (stretches_in w (stops w) (ramps_after z (arrival_spans V)))) at_u h))
  where
    seen_amount : (t : ℚ) → amount (arrival_spans V) t ≡ arrived all V t
    seen_amount t = ap (λ (ss : List Span). amount ss t) (sym (ap spans_of S.arrivals ∙ spans_are (int (pos 0)) (arrival_spans V))) ∙ S.arrived_is t

pub found_stretch : (server : servers.Server) (end : ℚ) (V : List ServerStep) (w : Watched) (u e : ℚ) → IsSightOf server end V w → HasStretch u e (stretches w) → IsStretch end V u e
found_stretch server end V w u e S h =
    let z = int (pos 0) in
    let f = ramp_in w (stops w) (ramps_after z (arrival_spans V)) u e (subst (λ (rs : List Ramp). HasStretch u e (stretches_in w (stops w) rs)) S.arrivals h) in
    let r = f.ramp in
    let tests = and_parts (lt_q r.span.start w.end) (le_q r.before (worked_by w r.span.start)) f.begins in
    let start : u <ℚ end = subst (λ x. u <ℚ x) S.end_is (subst (λ x. x <ℚ w.end) f.start (lt_q_in r.span.start w.end tests.0)) in
    let few = before_most z z (arrival_spans V) r (arrivals_in_order server end V S.lawful) (at_once_all V) f.has in
    let most : amount (arrival_spans V) r.span.start ≤ℚ r.before = subst (λ x. x ≤ℚ r.before) (add_nothing (amount (arrival_spans V) r.span.start)) few in
    let worked_enough = le_trans most (le_q_in r.before (worked_by w r.span.start) tests.1) in
    let caught : arrived all V u ≤ℚ worked all V u =
    subst (λ x. arrived all V x ≤ℚ worked all V x) f.start
    (subst (λ x. x ≤ℚ worked all V r.span.start) (seen_amount r.span.start) (subst (λ x. amount (arrival_spans V) r.span.start ≤ℚ x) (S.worked_is r.span.start) worked_enough)) in
    let arrives : HasArrival V u = arrives_with V u (subst (λ x. StartsAt x (arrival_spans V)) f.start (ramp_starts z u (arrival_spans V) r f.has)) in
    let (x, s) = (stretches_begin server end V u S.lawful).1 record { arrives = arrives; in_run = start; caught_up = caught } in
    let same : x ≡ e = sym (ends_at server end V w u x S s) ∙ ap (λ y. next_after y w.end (stops w)) (sym f.start) ∙ f.end in
    subst (λ y. IsStretch end V u y) same s
  where
    seen_amount : (t : ℚ) → amount (arrival_spans V) t ≡ arrived all V t
    seen_amount t = ap (λ (ss : List Span). amount ss t) (sym (ap spans_of S.arrivals ∙ spans_are (int (pos 0)) (arrival_spans V))) ∙ S.arrived_is t

-- ---- their order
abbrev pub StretchesRise : ℚ → List Stretch → Type 0
StretchesRise x [] = Unit {0}
StretchesRise x (s ∷ ss) = (x ≤ℚ s.start) × StretchesRise s.start ss

stretches_rise_in : (w : Watched) (ts : List ℚ) (done from : ℚ) (ss : List Span) → InOrder from ss → StretchesRise from (stretches_in w ts (ramps_after done ss))
stretches_rise_in w ts done from [] h = tt
stretches_rise_in w ts done from (s ∷ ss) h =
    let rest = stretches_rise_in w ts (done +ℚ s.bits) s.end ss h.2 in
    elim (cases_Bool (begins w record { span = s; before = done; after = done +ℚ s.bits; pace = pace_in s })) [
      | inl e ↦ rw e (h.0, sooner s.start s.end (stretches_in w ts (ramps_after (done +ℚ s.bits) ss)) h.1 rest)
      | inr e ↦ rw e (sooner from s.end (stretches_in w ts (ramps_after (done +ℚ s.bits) ss)) (le_trans h.0 h.1) rest)
    ]
  where
    sooner : (x y : ℚ) (qs : List Stretch) → x ≤ℚ y → StretchesRise y qs → StretchesRise x qs
    sooner x y [] l k = tt
    sooner x y (q ∷ qs) l k = (le_trans l k.0, k.1)

pub stretches_rise : (server : servers.Server) (end : ℚ) (V : List ServerStep) (w : Watched) → IsSightOf server end V w → StretchesRise (int (pos 0)) (stretches w)
stretches_rise server end V w S =
    subst (λ (rs : List Ramp). StretchesRise (int (pos 0)) (stretches_in w (stops w) rs)) (sym S.arrivals)
    (stretches_rise_in w (stops w) (int (pos 0)) (int (pos 0)) (arrival_spans V) (arrivals_in_order server end V S.lawful))
