-- What a server sees, step by step.
use Rattle.std.specs.Prelude.{◌≡◌, ℕ, zero, suc, ◌==◌, ◌&&◌, true, false, pos, List, [], ◌∷◌, ◌++◌, map, slice_index}
use Rattle.std.proofs.Common.{inl, inr, refl, sym, ap, ap₂, ◌∙◌}
use Rattle.std.proofs.lemmas.Bool.{cases_Bool}
use Rattle.rational.specs.Rational.{ℚ, int, ◌+ℚ◌, le_q, lt_q}
use Rattle.rational.proofs.Laws.{le_or_lt, le_of_lt}
use Rattle.rational.proofs.Over.{le_q_out, lt_q_out}
use Rattle.rational.proofs.MinMax.{le_q_not, lt_q_not}
use Rattle.run_laws.specs.declared.steps.Step.{Step}
use Rattle.run_laws.specs.declared.steps.Step.TheVariants.{Enter, Reach, Work, Leave, Visit}
use Rattle.run_laws.specs.Cards.{all, ServerStep, Arrives, Works, Leaves, Visits}
use Rattle.run_laws.specs.Servers as servers
use Rattle.run_laws.specs.Counts.{when, arrived, worked}
use Rattle.run_laws.specs.Routes.{Routes, route_of, first_server}
use Rattle.run_laws.specs.Views.{Entry, entry_of, view_from, entered_after, server_of}
use Rattle.run_laws.proofs.Sums.{when_true, when_false, add_nothing}
use Rattle.flow_watch.specs.watch_laws.Times.{leave_times}
use Rattle.flow_watch.specs.watch_laws.Paces.{pace_of, pace_before, pace_after}
use Rattle.run_watch.specs.declared.span.Span.{Span}
use Rattle.run_watch.specs.Ramps.{amount, rate_before, rate_after, as_span}
use Rattle.run_watch.specs.Seen.{at_once, arrival_spans, work_spans, works_at, leaves_at, sizes_after, arrivals_at, AreFirsts}

-- no other step than one that enters adds a size
pub sizes_kept : (sizes : List ℕ) (x : Step) → ((f p : ℕ) (t : ℚ) (b : ℕ) → x ≡ Enter f p t b → ⊥) → sizes ≡ sizes_after sizes x
sizes_kept sizes (Enter f p t b) h = absurd (h f p t b refl)
sizes_kept sizes (Reach r p t) h = refl
sizes_kept sizes (Work r p a b w) h = refl
sizes_kept sizes (Leave r p t) h = refl
sizes_kept sizes (Visit r q t) h = refl

-- ---- they are those of the server's view
pub works_seen : (net : Routes) (s : ℕ) (entered : List Entry) (xs : List Step) → work_spans (view_from net s entered xs) ≡ works_at s xs
works_seen net s entered [] = refl
works_seen net s entered (Enter f p t b ∷ xs) = elim (cases_Bool (server_of net (Enter f p t b) == s)) [
  | inl e ↦ rw e (works_seen net s (entered_after entered (Enter f p t b)) xs)
  | inr e ↦ rw e (works_seen net s (entered_after entered (Enter f p t b)) xs)
]
works_seen net s entered (Reach r p t ∷ xs) = elim (cases_Bool (r == s)) [
  | inl e ↦ rw e (works_seen net s entered xs)
  | inr e ↦ rw e (works_seen net s entered xs)
]
works_seen net s entered (Work r p a b w ∷ xs) = elim (cases_Bool (r == s)) [
  | inl e ↦ rw e (ap (λ (ss : List Span). record { start = a; end = b; bits = w } ∷ ss) (works_seen net s entered xs))
  | inr e ↦ rw e (works_seen net s entered xs)
]
works_seen net s entered (Leave r p t ∷ xs) = elim (cases_Bool (r == s)) [
  | inl e ↦ rw e (works_seen net s entered xs)
  | inr e ↦ rw e (works_seen net s entered xs)
]
works_seen net s entered (Visit r q t ∷ xs) = elim (cases_Bool (r == s)) [
  | inl e ↦ rw e (works_seen net s entered xs)
  | inr e ↦ rw e (works_seen net s entered xs)
]

pub leaves_seen : (net : Routes) (s : ℕ) (entered : List Entry) (xs : List Step) → leave_times (view_from net s entered xs) ≡ leaves_at s xs
leaves_seen net s entered [] = refl
leaves_seen net s entered (Enter f p t b ∷ xs) = elim (cases_Bool (server_of net (Enter f p t b) == s)) [
  | inl e ↦ rw e (leaves_seen net s (entered_after entered (Enter f p t b)) xs)
  | inr e ↦ rw e (leaves_seen net s (entered_after entered (Enter f p t b)) xs)
]
leaves_seen net s entered (Reach r p t ∷ xs) = elim (cases_Bool (r == s)) [
  | inl e ↦ rw e (leaves_seen net s entered xs)
  | inr e ↦ rw e (leaves_seen net s entered xs)
]
leaves_seen net s entered (Work r p a b w ∷ xs) = elim (cases_Bool (r == s)) [
  | inl e ↦ rw e (leaves_seen net s entered xs)
  | inr e ↦ rw e (leaves_seen net s entered xs)
]
leaves_seen net s entered (Leave r p t ∷ xs) = elim (cases_Bool (r == s)) [
  | inl e ↦ rw e (ap (λ (ts : List ℚ). t ∷ ts) (leaves_seen net s entered xs))
  | inr e ↦ rw e (leaves_seen net s entered xs)
]
leaves_seen net s entered (Visit r q t ∷ xs) = elim (cases_Bool (r == s)) [
  | inl e ↦ rw e (leaves_seen net s entered xs)
  | inr e ↦ rw e (leaves_seen net s entered xs)
]

-- the bits of the packets that have entered
abbrev pub sizes_of : List Entry → List ℕ
sizes_of es = map (λ e. e.bits) es

size_at : (es : List Entry) (p : ℕ) → (entry_of es p).bits ≡ slice_index (sizes_of es) p
size_at [] zero = refl
size_at [] (suc p) = refl
size_at (e ∷ es) zero = refl
size_at (e ∷ es) (suc p) = size_at es p

size_more : (es : List Entry) (e : Entry) → sizes_of (es ++ e ∷ []) ≡ sizes_of es ++ e.bits ∷ []
size_more [] e = refl
size_more (x ∷ es) e = ap (λ (ns : List ℕ). x.bits ∷ ns) (size_more es e)

pub arrivals_seen : (net : Routes) (firsts : List ℕ) (s : ℕ) (entered : List Entry) (xs : List Step) → AreFirsts net firsts
    → arrival_spans (view_from net s entered xs) ≡ arrivals_at firsts s (sizes_of entered) xs
arrivals_seen net firsts s entered [] h = refl
arrivals_seen net firsts s entered (Enter f p t b ∷ xs) h =
    let grown = entered ++ record { flow = f; bits = b } ∷ [] in
    let more : sizes_of grown ≡ sizes_of entered ++ b ∷ [] = size_more entered record { flow = f; bits = b } in
    let rest = arrivals_seen net firsts s grown xs h ∙ ap (λ (ns : List ℕ). arrivals_at firsts s ns xs) more in
    let here : at_once t (entry_of grown p).bits ≡ at_once t (slice_index (sizes_of entered ++ b ∷ []) p) = ap (at_once t) (size_at grown p ∙ ap (λ (ns : List ℕ). slice_index ns p) more) in
    elim (cases_Bool (first_server (route_of net f).hops == s)) [
      | inl e ↦ rw (e, sym (ap (λ (n : ℕ). n == s) (h f)) ∙ e) (ap₂ (λ (x : Span) (ss : List Span). x ∷ ss) here rest)
      | inr e ↦ rw (e, sym (ap (λ (n : ℕ). n == s) (h f)) ∙ e) rest
    ]
arrivals_seen net firsts s entered (Reach r p t ∷ xs) h = elim (cases_Bool (r == s)) [
  | inl e ↦ rw e (ap₂ (λ (x : Span) (ss : List Span). x ∷ ss) (ap (at_once t) (size_at entered p)) (arrivals_seen net firsts s entered xs h))
  | inr e ↦ rw e (arrivals_seen net firsts s entered xs h)
]
arrivals_seen net firsts s entered (Work r p a b w ∷ xs) h = elim (cases_Bool (r == s)) [
  | inl e ↦ rw e (arrivals_seen net firsts s entered xs h)
  | inr e ↦ rw e (arrivals_seen net firsts s entered xs h)
]
arrivals_seen net firsts s entered (Leave r p t ∷ xs) h = elim (cases_Bool (r == s)) [
  | inl e ↦ rw e (arrivals_seen net firsts s entered xs h)
  | inr e ↦ rw e (arrivals_seen net firsts s entered xs h)
]
arrivals_seen net firsts s entered (Visit r q t ∷ xs) h = elim (cases_Bool (r == s)) [
  | inl e ↦ rw e (arrivals_seen net firsts s entered xs h)
  | inr e ↦ rw e (arrivals_seen net firsts s entered xs h)
]

-- ---- and they count what the view counts
at_once_is : (t u : ℚ) (b : ℕ) → servers.clip (as_span (at_once u b)) t ≡ when (lt_q u t) (int (pos b))
unfolding servers.clip
at_once_is t u b = elim (le_or_lt t u) [
  | inl h ↦ rw (le_q_out t u h, lt_q_not u t h) (sym (when_false false (int (pos b)) refl))
  | inr h ↦ rw (le_q_not t u h, lt_q_out u t h, le_q_out u t (le_of_lt h)) (sym (when_true true (int (pos b)) refl))
]

pub arrived_is : (V : List ServerStep) (t : ℚ) → arrived all V t ≡ amount (arrival_spans V) t
arrived_is [] t = refl
arrived_is (Arrives c u ∷ V) t = ap₂ (λ (x y : ℚ). x +ℚ y) (sym (at_once_is t u c.bits)) (arrived_is V t)
arrived_is (Works c a b w ∷ V) t = add_nothing (arrived all V t) ∙ arrived_is V t
arrived_is (Leaves c u ∷ V) t = add_nothing (arrived all V t) ∙ arrived_is V t
arrived_is (Visits q u ∷ V) t = add_nothing (arrived all V t) ∙ arrived_is V t

pub worked_is : (V : List ServerStep) (t : ℚ) → worked all V t ≡ amount (work_spans V) t
worked_is [] t = refl
worked_is (Arrives c u ∷ V) t = add_nothing (worked all V t) ∙ worked_is V t
worked_is (Works c a b w ∷ V) t = ap₂ (λ (x y : ℚ). x +ℚ y) (when_true true (servers.clip record { start = a; end = b; bits = w } t) refl) (worked_is V t)
worked_is (Leaves c u ∷ V) t = add_nothing (worked all V t) ∙ worked_is V t
worked_is (Visits q u ∷ V) t = add_nothing (worked all V t) ∙ worked_is V t

pub pace_before_is : (V : List ServerStep) (t : ℚ) → pace_before V t ≡ rate_before (work_spans V) t
pace_before_is [] t = refl
pace_before_is (Arrives c u ∷ V) t = add_nothing (pace_before V t) ∙ pace_before_is V t
pace_before_is (Works c a b w ∷ V) t = ap (λ z. when (lt_q a t && le_q t b) (pace_of a b w) +ℚ z) (pace_before_is V t)
pace_before_is (Leaves c u ∷ V) t = add_nothing (pace_before V t) ∙ pace_before_is V t
pace_before_is (Visits q u ∷ V) t = add_nothing (pace_before V t) ∙ pace_before_is V t

pub pace_after_is : (V : List ServerStep) (t : ℚ) → pace_after V t ≡ rate_after (work_spans V) t
pace_after_is [] t = refl
pace_after_is (Arrives c u ∷ V) t = add_nothing (pace_after V t) ∙ pace_after_is V t
pace_after_is (Works c a b w ∷ V) t = ap (λ z. when (le_q a t && lt_q t b) (pace_of a b w) +ℚ z) (pace_after_is V t)
pace_after_is (Leaves c u ∷ V) t = add_nothing (pace_after V t) ∙ pace_after_is V t
pace_after_is (Visits q u ∷ V) t = add_nothing (pace_after V t) ∙ pace_after_is V t
