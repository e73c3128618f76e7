-- What one server sees of a run whose numbers stand by some sizes: every step of the search for its first idle window fits.
use Rattle.std.specs.Prelude.{◌≡◌, ℕ, ◌+◌, ◌<◌, ◌≤◌, ◌==◌, pos, List, [], ◌∷◌, length}
use Rattle.std.specs.List.{AllByRecursion}
use Rattle.std.proofs.Common.{arith, refl, sym, subst, ap, ◌∙◌, inl, inr}
use Rattle.std.proofs.lemmas.Bool.{cases_Bool}
use Rattle.std.proofs.lemmas.List.{length-map}
use Rattle.rational.specs.Rational.{ℚ, int, ◌+ℚ◌, ◌-ℚ◌, ◌*ℚ◌, ◌/ℚ◌, ◌≤ℚ◌, ◌<ℚ◌, lt_q}
use Rattle.rational.specs.Ratio.{SumFits}
use Rattle.rational.specs.Grid.{Whole}
use Rattle.rational.proofs.Laws.{le_refl, le_trans, le_of_lt, lt_irrefl, add_assoc, one_mul, div_mul, not_zero}
use Rattle.rational.proofs.Grid.{whole_int, whole_add, whole_sub, within_nonneg}
use Rattle.rational.proofs.Linear.{with1, with2, with3, with_atoms}
use Rattle.upp_curve.specs.Curve.{SpecCurve}
use Rattle.upp_curve.specs.Curves.{IsCurve}
use Rattle.upp_limits.specs.Limits.{Sizes, curve_numbers}
use Rattle.upp_limits.specs.Sized.{IsSlope, Stands, grid_of, times_largest}
use Rattle.upp_limits.proofs.NarrowSizes.{small_slope}
use Rattle.upp_normal.specs.Operand.{AreLimited}
use Rattle.upp_normal.proofs.AnswerRoom.{wide_narrow}
use Rattle.run_laws.specs.declared.steps.Step.{Step}
use Rattle.run_laws.specs.declared.steps.Step.TheVariants.{Enter, Reach, Work, Leave, Visit}
use Rattle.run_laws.specs.Runs.{SpecRun}
use Rattle.run_laws.specs.Cards.{all, whole, size, ServerStep, Arrives, Works, Leaves, Visits}
use Rattle.run_laws.specs.Counts.{when, arrived}
use Rattle.run_laws.specs.Servers.{Server, ServerState, start}
use Rattle.run_laws.specs.Next.{next}
use Rattle.run_laws.specs.Allows.{AllAllowed, IsLawfulView}
use Rattle.run_laws.specs.Routes.{Routes, server_at}
use Rattle.run_laws.specs.Lawful.{IsLawful}
use Rattle.run_laws.specs.Views.{Entry, entered_after, server_of, seen, view_from, view}
use Rattle.run_laws.proofs.Sizes.{whole_nonneg, whole_le, whole_sum, size_nonneg}
use Rattle.run_laws.proofs.Orders.{worked_arrived}
use Rattle.run_laws.proofs.Views.{views_are_lawful}
use Rattle.net_model.specs.Networks.{Net}
use Rattle.net_model.specs.NetRoutes.{routes_of, server_for}
use Rattle.net_cells.specs.Numbered.{service}
use Rattle.flow_watch.specs.watch_laws.Affine.{EachTime}
use Rattle.flow_watch.specs.watch_laws.MarkSizes.{IsTime, IsAmount}
use Rattle.flow_watch.specs.watch_laws.Times.{leave_times}
use Rattle.flow_watch.proofs.watch_laws.MarkSizes.{sum_fits, keys_fit}
use Rattle.run_watch.specs.declared.span.Span.{Span}
use Rattle.run_watch.specs.declared.watched.Watched.{Watched}
use Rattle.run_watch.specs.Ramps.{as_span, amount, TakeTime, ramps_after, RampsFit, EachRamp, spans_of}
use Rattle.run_watch.specs.Seen.{arrival_spans, work_spans, works_at, arrivals_at, AreFirsts}
use Rattle.run_watch.specs.Watching.{Sees, RiseFrom}
use Rattle.run_watch.specs.Held.{IsHeldRamp, IsHeld, IsSightOf}
use Rattle.run_watch.proofs.HeldSizes.{times_differ}
use Rattle.run_watch.proofs.RampLists.{clip_past, pace_is, spans_are}
use Rattle.run_watch.proofs.SeenLists.{works_seen, arrivals_seen, worked_is}
use Rattle.run_watch.proofs.SightLaws.{sight_is_view}
use Rattle.run_watch.proofs.ViewSpans.{arrivals_in_order, works_in_order, works_take_time, leaves_rise}
use Rattle.run_watch.specs.first_breaches.Sizes.{IsWorkTime, StepStands, bits_in, RunStands}

-- ---- a server's steps
abbrev pub CardStands : Sizes → ℚ → ServerStep → Type 0
CardStands z end (Arrives c t) = IsTime z end t
CardStands z end (Works c a b w) = IsWorkTime z end a b w
CardStands z end (Leaves c t) = IsTime z end t
CardStands z end (Visits q t) = Unit {0}

seen_stands : (z : Sizes) (end : ℚ) (net : Routes) (entered : List Entry) (x : Step) → StepStands z end x → CardStands z end (seen net entered x)
seen_stands z end net entered (Enter f p t b) h = h
seen_stands z end net entered (Reach s p t) h = h
seen_stands z end net entered (Work s p a b w) h = h
seen_stands z end net entered (Leave s p t) h = h
seen_stands z end net entered (Visit s q t) h = tt

pub view_stands : (z : Sizes) (end : ℚ) (net : Routes) (s : ℕ) (entered : List Entry) (xs : List Step) → AllByRecursion (StepStands z end) xs → AllByRecursion (CardStands z end) (view_from net s entered xs)
view_stands z end net s entered [] h = tt
view_stands z end net s entered (x ∷ xs) h =
    let rest = view_stands z end net s (entered_after entered x) xs h.1 in
    elim (cases_Bool (server_of net x == s)) [
      | inl e ↦ rw e (seen_stands z end net entered x h.0, rest)
      | inr e ↦ rw e rest
    ]

-- ---- amounts
amount_of : (z : Sizes) (x : ℚ) → Whole (grid_of z) x → int (pos 0) ≤ℚ x → x ≤ℚ times_largest 1 z → IsAmount z x
amount_of z x g l h = record { whole = g; within = within_nonneg (times_largest 1 z) x l h }

bits_amount : (z : Sizes) (n : ℕ) → n ≤ z.largest → IsAmount z (whole n)
bits_amount z n h =
    amount_of z (whole n) (whole_int (grid_of z) (pos n)) (whole_nonneg n) (subst (λ x. whole n ≤ℚ x) (sym (one_mul (int (pos z.largest)))) (whole_le n z.largest h))

amounts_fit : (z : Sizes) (end x y : ℚ) → AreLimited z end → IsAmount z x → IsAmount z y → SumFits x y
amounts_fit z end x y A X Y = sum_fits z end 1 1 x y A (omega arith) X.whole Y.whole X.within Y.within

-- ---- packets that arrive
arrivals_held : (z : Sizes) (end : ℚ) (n : ℕ) (V : List ServerStep) → AllByRecursion (CardStands z end) V → n + bits_in V ≤ z.largest
    → EachRamp (IsHeldRamp z end) (ramps_after (whole n) (arrival_spans V))
arrivals_held z end n [] h l = tt
arrivals_held z end n (Arrives c t ∷ V) h l =
    let next : whole n +ℚ whole c.bits ≡ whole (n + c.bits) = sym (whole_sum n c.bits) in (
      record {
        start = h.0;
        last = h.0;
        before = bits_amount z n (omega arith);
        after = subst (IsAmount z) (sym next) (bits_amount z (n + c.bits) (omega arith));
        pace = λ m. absurd (lt_irrefl t m);
        some = whole_nonneg c.bits;
      },
      subst (λ x. EachRamp (IsHeldRamp z end) (ramps_after x (arrival_spans V))) (sym next) (arrivals_held z end (n + c.bits) V h.1 (omega arith)),
    )
arrivals_held z end n (Works c a b w ∷ V) h l = arrivals_held z end n V h.1 l
arrivals_held z end n (Leaves c t ∷ V) h l = arrivals_held z end n V h.1 l
arrivals_held z end n (Visits q t ∷ V) h l = arrivals_held z end n V h.1 l

arrivals_fit : (z : Sizes) (end : ℚ) (n : ℕ) (V : List ServerStep) → AreLimited z end → n + bits_in V ≤ z.largest → RampsFit (whole n) (arrival_spans V)
arrivals_fit z end n [] A l = tt
arrivals_fit z end n (Arrives c t ∷ V) A l = (
  record { sum = amounts_fit z end (whole n) (whole c.bits) A (bits_amount z n (omega arith)) (bits_amount z c.bits (omega arith)); pace = λ m. absurd (lt_irrefl t m) },
  subst (λ x. RampsFit x (arrival_spans V)) (whole_sum n c.bits) (arrivals_fit z end (n + c.bits) V A (omega arith)),
)
arrivals_fit z end n (Works c a b w ∷ V) A l = arrivals_fit z end n V A l
arrivals_fit z end n (Leaves c t ∷ V) A l = arrivals_fit z end n V A l
arrivals_fit z end n (Visits q t ∷ V) A l = arrivals_fit z end n V A l

pub arrived_most : (V : List ServerStep) (t : ℚ) → arrived all V t ≤ℚ whole (bits_in V)
unfolding when
arrived_most [] t = le_refl (int (pos 0))
arrived_most (Arrives c u ∷ V) t =
    let more = arrived_most V t in
    let some = size_nonneg c in
    subst (λ x. (when (lt_q u t) (size c) +ℚ arrived all V t) ≤ℚ x) (sym (whole_sum c.bits (bits_in V))) (elim (cases_Bool (lt_q u t)) [
      | inl e ↦ rw e (with3 (size c) (arrived all V t) (whole (bits_in V)) (λ k. omega (arith, k.le, k.lt, k.same)))
      | inr e ↦ rw e (with3 (size c) (arrived all V t) (whole (bits_in V)) (λ k. omega (arith, k.le, k.lt, k.same)))
    ])
arrived_most (Works c a b w ∷ V) t = let more = arrived_most V t in nothing (arrived all V t) (whole (bits_in V)) more
  where
    nothing : (x y : ℚ) → x ≤ℚ y → (int (pos 0) +ℚ x) ≤ℚ y
    nothing x y h = with2 x y (λ k. omega (arith, k.le, k.lt, k.same))
arrived_most (Leaves c u ∷ V) t = let more = arrived_most V t in nothing (arrived all V t) (whole (bits_in V)) more
  where
    nothing : (x y : ℚ) → x ≤ℚ y → (int (pos 0) +ℚ x) ≤ℚ y
    nothing x y h = with2 x y (λ k. omega (arith, k.le, k.lt, k.same))
arrived_most (Visits q u ∷ V) t = let more = arrived_most V t in nothing (arrived all V t) (whole (bits_in V)) more
  where
    nothing : (x y : ℚ) → x ≤ℚ y → (int (pos 0) +ℚ x) ≤ℚ y
    nothing x y h = with2 x y (λ k. omega (arith, k.le, k.lt, k.same))

-- ---- work
pub record SpanStands (z : Sizes) (end : ℚ) (s : Span) : Type 0 where
  pub start : IsTime z end s.start
  pub last : IsTime z end s.end
  pub pace : IsSlope z (s.bits /ℚ (s.end -ℚ s.start))
  pub forward : s.start <ℚ s.end
  pub some : int (pos 0) ≤ℚ s.bits

pub spans_stand : (z : Sizes) (server : Server) (end : ℚ) (σ : ServerState) (V : List ServerStep) → AllAllowed server end σ V → AllByRecursion (CardStands z end) V → AllByRecursion (SpanStands z end) (work_spans V)
spans_stand z server end σ [] a h = tt
spans_stand z server end σ (Arrives c t ∷ V) a h = spans_stand z server end (next server.discipline σ (Arrives c t)) V a.1 h.1
spans_stand z server end σ (Works c x y w ∷ V) a h = (
  record { start = h.0.start; last = h.0.last; pace = h.0.pace; forward = a.0.1.forward; some = le_of_lt a.0.1.some_work },
  spans_stand z server end (next server.discipline σ (Works c x y w)) V a.1 h.1,
)
spans_stand z server end σ (Leaves c t ∷ V) a h = spans_stand z server end (next server.discipline σ (Leaves c t)) V a.1 h.1
spans_stand z server end σ (Visits q t ∷ V) a h = spans_stand z server end (next server.discipline σ (Visits q t)) V a.1 h.1

abbrev pub sum_bits : List Span → ℚ
sum_bits [] = int (pos 0)
sum_bits (s ∷ ss) = s.bits +ℚ sum_bits ss

sum_some : (z : Sizes) (end : ℚ) (ss : List Span) → AllByRecursion (SpanStands z end) ss → int (pos 0) ≤ℚ sum_bits ss
sum_some z end [] h = le_refl (int (pos 0))
sum_some z end (s ∷ ss) h =
    let a = h.0.some in
    let b = sum_some z end ss h.1 in
    with2 s.bits (sum_bits ss) (λ k. omega (arith, k.le, k.lt, k.same))

pub sum_is : (z : Sizes) (end : ℚ) (ss : List Span) → AllByRecursion (SpanStands z end) ss → amount ss end ≡ sum_bits ss
sum_is z end [] h = refl
sum_is z end (s ∷ ss) h =
    let past = clip_past (as_span s) end (lt_le s.start s.end end h.0.forward h.0.last.high) h.0.last.high in
    rw past (ap (λ x. s.bits +ℚ x) (sum_is z end ss h.1))
  where
    lt_le : (x y t : ℚ) → x <ℚ y → y ≤ℚ t → x <ℚ t
    lt_le x y t h k = with3 x y t (λ c. omega (arith, c.le, c.lt, c.same))

-- the bits of a span are its pace times its time
bits_whole : (z : Sizes) (end : ℚ) (s : Span) → AreLimited z end → SpanStands z end s → Whole (grid_of z) s.bits
bits_whole z end s A h =
    let long = s.end -ℚ s.start in
    let lower = s.start in
    let upper = s.end in
    let forward = h.forward in
    let some : int (pos 0) <ℚ long = with2 lower upper (λ c. omega (arith, c.le, c.lt, c.same)) in
    let time : IsTime z end long = time_between z end s.start s.end h.start h.last h.forward in
    let key = keys_fit z end (int (pos 0)) (s.bits /ℚ long) long A (bits_amount z 0 (omega arith)) h.pace time in
    subst (Whole (grid_of z)) (div_mul s.bits long (not_zero long some)) (flip (grid_of z) ((s.bits /ℚ long) *ℚ long) key.is.whole)
  where
    flip : (g : ℕ) (x : ℚ) → Whole g (int (pos 0) -ℚ x) → Whole g x
    flip g x h = subst (Whole g) (let y = int (pos 0) in with2 x y (λ c. omega (arith, c.le, c.lt, c.same))) (whole_sub g (int (pos 0)) (int (pos 0) -ℚ x) (whole_int g (pos 0)) h)

    time_between : (z : Sizes) (end s t : ℚ) → IsTime z end s → IsTime z end t → s <ℚ t → IsTime z end (t -ℚ s)
    time_between z end s t S T h = record {
      whole = whole_sub z.dt t s T.whole S.whole;
      low = with2 s t (λ c. omega (arith, c.le, c.lt, c.same));
      high = let a = S.low in let b = T.high in with3 s t end (λ c. omega (arith, c.le, c.lt, c.same));
    }

-- what is done before, with the bits of the spans that follow, is no more than the largest amount
record IsRoomFor (z : Sizes) (done : ℚ) (ss : List Span) : Type 0 where
  whole : Whole (grid_of z) done
  some : int (pos 0) ≤ℚ done
  most : done +ℚ sum_bits ss ≤ℚ times_largest 1 z

done_amount : (z : Sizes) (end done : ℚ) (ss : List Span) → AllByRecursion (SpanStands z end) ss → IsRoomFor z done ss → IsAmount z done
done_amount z end done ss h R =
    let a = sum_some z end ss h in
    let b = R.most in
    let most = times_largest 1 z in
    let all = sum_bits ss in
    amount_of z done R.whole R.some (with3 done all most (λ k. omega (arith, k.le, k.lt, k.same)))

room_next : (z : Sizes) (end done : ℚ) (s : Span) (ss : List Span) → AreLimited z end → AllByRecursion (SpanStands z end) (s ∷ ss) → IsRoomFor z done (s ∷ ss) → IsRoomFor z (done +ℚ s.bits) ss
room_next z end done s ss A h R =
    let a = h.0.some in
    let b = R.some in
    let bits = s.bits in
    record {
      whole = whole_add (grid_of z) done s.bits R.whole (bits_whole z end s A h.0);
      some = with2 done bits (λ k. omega (arith, k.le, k.lt, k.same));
      most = subst (λ x. x ≤ℚ times_largest 1 z) (sym (add_assoc done s.bits (sum_bits ss))) R.most;
    }

bits_some : (z : Sizes) (end done : ℚ) (s : Span) (ss : List Span) → AreLimited z end → AllByRecursion (SpanStands z end) (s ∷ ss) → IsRoomFor z done (s ∷ ss) → IsAmount z s.bits
bits_some z end done s ss A h R =
    let a = sum_some z end ss h.1 in
    let b = R.some in
    let c = R.most in
    let bits = s.bits in
    let rest = sum_bits ss in
    let most = times_largest 1 z in
    amount_of z s.bits (bits_whole z end s A h.0) h.0.some (with_atoms (done ∷ bits ∷ rest ∷ most ∷ []) (λ k. omega (arith, k.le, k.lt, k.same)))

works_held : (z : Sizes) (end done : ℚ) (ss : List Span) → AreLimited z end → AllByRecursion (SpanStands z end) ss → IsRoomFor z done ss → EachRamp (IsHeldRamp z end) (ramps_after done ss)
works_held z end done [] A h R = tt
works_held z end done (s ∷ ss) A h R =
    let next = room_next z end done s ss A h R in (
      record {
        start = h.0.start;
        last = h.0.last;
        before = done_amount z end done (s ∷ ss) h R;
        after = done_amount z end (done +ℚ s.bits) ss h.1 next;
        pace = λ m. subst (IsSlope z) (sym (pace_is s m)) h.0.pace;
        some = h.0.some;
      },
      works_held z end (done +ℚ s.bits) ss A h.1 next,
    )

works_fit : (z : Sizes) (end done : ℚ) (ss : List Span) → AreLimited z end → AllByRecursion (SpanStands z end) ss → IsRoomFor z done ss → RampsFit done ss
works_fit z end done [] A h R = tt
works_fit z end done (s ∷ ss) A h R = (
  record {
    sum = amounts_fit z end done s.bits A (done_amount z end done (s ∷ ss) h R) (bits_some z end done s ss A h R);
    pace = λ m. record {
      length = times_differ z end s.end s.start A h.0.last h.0.start;
      pace = small_slope z end (s.bits /ℚ (s.end -ℚ s.start)) A.sizes (wide_narrow z end A) h.0.pace;
    };
  },
  works_fit z end (done +ℚ s.bits) ss A h.1 (room_next z end done s ss A h R),
)

-- ---- times of leaves
leaves_stand : (z : Sizes) (end : ℚ) (V : List ServerStep) → AllByRecursion (CardStands z end) V → EachTime (IsTime z end) (leave_times V)
leaves_stand z end [] h = tt
leaves_stand z end (Arrives c t ∷ V) h = leaves_stand z end V h.1
leaves_stand z end (Works c a b w ∷ V) h = leaves_stand z end V h.1
leaves_stand z end (Leaves c t ∷ V) h = (h.0, leaves_stand z end V h.1)
leaves_stand z end (Visits q t ∷ V) h = leaves_stand z end V h.1

-- ---- the server
-- its spans fit, and what is gathered of it is held
record IsSpanned (z : Sizes) (end : ℚ) (V : List ServerStep) : Type 0 where
  arrivals_fit : RampsFit (int (pos 0)) (arrival_spans V)
  works_fit : RampsFit (int (pos 0)) (work_spans V)
  arrivals : EachRamp (IsHeldRamp z end) (ramps_after (int (pos 0)) (arrival_spans V))
  works : EachRamp (IsHeldRamp z end) (ramps_after (int (pos 0)) (work_spans V))
  leaves : EachTime (IsTime z end) (leave_times V)

spanned : (z : Sizes) (server : Server) (end : ℚ) (V : List ServerStep) → AreLimited z end → IsLawfulView server end V → AllByRecursion (CardStands z end) V → bits_in V ≤ z.largest → IsSpanned z end V
spanned z server end V A L h l =
    let ss = work_spans V in
    let stand = spans_stand z server end (start server.discipline) V L.allowed h in
    let zero = int (pos 0) in
    let all_worked : sum_bits ss ≤ℚ arrived all V end = subst (λ x. x ≤ℚ arrived all V end) (worked_is V end ∙ sum_is z end ss stand) (worked_arrived server end V all end L) in
    let most : sum_bits ss ≤ℚ times_largest 1 z =
    le_trans (le_trans all_worked (arrived_most V end)) (subst (λ x. whole (bits_in V) ≤ℚ x) (sym (one_mul (int (pos z.largest)))) (whole_le (bits_in V) z.largest l)) in
    let room : IsRoomFor z zero ss = record {
      whole = whole_int (grid_of z) (pos 0);
      some = le_refl zero;
      most = subst (λ x. x ≤ℚ times_largest 1 z) (let x = sum_bits ss in with1 x (λ k. omega (arith, k.le, k.lt, k.same))) most;
    } in
    record {
      arrivals_fit = arrivals_fit z end 0 V A (omega (arith, l));
      works_fit = works_fit z end zero ss A stand room;
      arrivals = arrivals_held z end 0 V h (omega (arith, l));
      works = works_held z end zero ss A stand room;
      leaves = leaves_stand z end V h;
    }

-- what the code asks of a server and of what it sees
pub record IsWatchable (net : Net) (run : SpecRun) (firsts : List ℕ) (s : ℕ) : Type 0 where
  pub arrivals : RampsFit (int (pos 0)) (arrivals_at firsts s [] run.steps)
  pub works : RampsFit (int (pos 0)) (works_at s run.steps)
  pub held : (w : Watched) → Sees w firsts s run.steps run.end → IsCurve (service net s) → IsHeld w (service net s)
  pub seen : (w : Watched) → Sees w firsts s run.steps run.end → IsSightOf (server_at (routes_of net) s) w.end (view (routes_of net) run s) w

pub known : (net : Net) (s : ℕ) → s < length net.servers → s < length (routes_of net).servers
known net s h = subst (λ (n : ℕ). s < n) (sym (length-map net.servers (server_for net.version))) h

held_by : (z : Sizes) (server : Server) (end : ℚ) (V : List ServerStep) (w : Watched) (c : SpecCurve) → AreLimited z end → IsSpanned z end V → IsSightOf server end V w → IsCurve c → Stands z (curve_numbers end c) → IsHeld w c
held_by z server end V w c A P S is stands =
    let e : end ≡ w.end = sym S.end_is in
    let L = S.lawful in record {
      sizes = z;
      limited = subst (AreLimited z) e A;
      is = is;
      curve = subst (λ t. Stands z (curve_numbers t c)) e stands;
      arrivals = record {
        ramps = record { spans = arrival_spans V; from = int (pos 0); is = S.arrivals; in_order = arrivals_in_order server end V L };
        each = subst (λ t. EachRamp (IsHeldRamp z t) w.arrivals.items) e (subst (EachRamp (IsHeldRamp z end)) (sym S.arrivals) P.arrivals);
      };
      works = record {
        ramps = record { spans = work_spans V; from = int (pos 0); is = S.works; in_order = works_in_order server end V L };
        each = subst (λ t. EachRamp (IsHeldRamp z t) w.works.items) e (subst (EachRamp (IsHeldRamp z end)) (sym S.works) P.works);
      };
      time = subst TakeTime (sym (ap spans_of S.works ∙ spans_are (int (pos 0)) (work_spans V))) (works_take_time server end V L);
      leaves = subst (λ t. EachTime (IsTime z t) w.leaves.items) e (subst (EachTime (IsTime z end)) (sym S.leaves) P.leaves);
      rise = subst (RiseFrom (int (pos 0))) (sym S.leaves) (leaves_rise server end V L);
    }

pub watchable : (net : Net) (run : SpecRun) (firsts : List ℕ) (s : ℕ) (z : Sizes) → IsLawful (routes_of net) run → RunStands z net run → AreFirsts (routes_of net) firsts → s < length net.servers → IsWatchable net run firsts s
watchable net run firsts s z L R F h =
    let V = view (routes_of net) run s in
    let server = server_at (routes_of net) s in
    let lawful = views_are_lawful (routes_of net) run s L (known net s h) in
    let stand = view_stands z run.end (routes_of net) s [] run.steps R.steps in
    let P = spanned z server run.end V R.limited lawful stand (R.bits s h) in
    let sees : (w : Watched) → Sees w firsts s run.steps run.end → IsSightOf server run.end V w = λ w k. sight_is_view (routes_of net) run firsts s w L (known net s h) F k in
    record {
      arrivals = subst (RampsFit (int (pos 0))) (arrivals_seen (routes_of net) firsts s [] run.steps F) P.arrivals_fit;
      works = subst (RampsFit (int (pos 0))) (works_seen (routes_of net) s [] run.steps) P.works_fit;
      held = λ w k is. held_by z server run.end V w (service net s) R.limited P (sees w k) is (R.services s h);
      seen = λ w k. subst (λ t. IsSightOf server t V w) (sym k.end) (sees w k);
    }

pub sees_as : (w : Watched) (firsts : List ℕ) (s : ℕ) (xs ys : List Step) (t u : ℚ) → xs ≡ ys → t ≡ u → Sees w firsts s xs t → Sees w firsts s ys u
sees_as w firsts s xs ys t u e f h = subst (Sees w firsts s ys) f (subst (λ (zs : List Step). Sees w firsts s zs t) e h)
