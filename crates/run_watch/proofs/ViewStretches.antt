-- The stretches and the turns of a lawful view are those that are found.
use Rattle.std.specs.Prelude.{◌≡◌, ◌⊎◌, pos, true, List, [], ◌∷◌}
use Rattle.std.proofs.Common.{sym, subst, ap, ◌∙◌, inl, inr}
use Rattle.std.proofs.lemmas.Bool.{cases_Bool}
use Rattle.rational.specs.Rational.{ℚ, int, ◌≤ℚ◌, ◌<ℚ◌}
use Rattle.rational.proofs.Laws.{le_refl, le_trans, le_or_lt, lt_le_trans, le_lt_trans, lt_irrefl, antisym}
use Rattle.rational.proofs.Over.{le_q_out, le_q_in, lt_q_out}
use Rattle.rational.proofs.MinMax.{lt_q_not}
use Rattle.run_laws.specs.Cards.{all, ServerStep}
use Rattle.run_laws.specs.Servers.{Server}
use Rattle.run_laws.specs.Counts.{arrived, worked}
use Rattle.flow_watch.specs.watch_laws.Affine.{EachTime, Among}
use Rattle.flow_watch.specs.watch_laws.Stretches.{IsStretch}
use Rattle.flow_watch.proofs.watch_laws.Times.{ends_with}
use Rattle.run_watch.specs.declared.watched.Watched.{Watched}
use Rattle.run_watch.specs.Held.{IsSightOf}
use Rattle.run_watch.specs.Watching.{arrived_by, worked_by, is_caught_up, stops_in, stops, RiseFrom, next_after}
use Rattle.run_watch.proofs.ViewSpans.{leaves_rise, leaves_in_run}
use Rattle.run_laws.proofs.Times.{each_time_map}

-- ---- the next of some times
-- e is after u and a time of the list or the end, and none of the list is between
record IsNext (u end e : ℚ) (ts : List ℚ) : Type 0 where
  later : u <ℚ e
  in_run : e ≤ℚ end
  is : (e ≡ end) ⊎ Among e ts
  least : EachTime (λ t. u <ℚ t → e ≤ℚ t) ts
  before_end : EachTime (λ t. t ≤ℚ end) ts

from_first : (x e : ℚ) (ts : List ℚ) → RiseFrom x ts → Among e ts → x ≤ℚ e
from_first x e [] h k = absurd k
from_first x e (t ∷ ts) h k = elim k [ inl is ↦ subst (λ z. x ≤ℚ z) (sym is) h.0 | inr l ↦ le_trans h.0 (from_first t e ts h.1 l) ]

next_is : (x u end e : ℚ) (ts : List ℚ) → RiseFrom x ts → IsNext u end e ts → next_after u end ts ≡ e
next_is x u end e [] h n = elim n.is [ inl is ↦ sym is | inr a ↦ absurd a ]
next_is x u end e (t ∷ ts) h n = elim (le_or_lt t u) [
  | inl l ↦ rw (lt_q_not u t l) (next_is t u end e ts h.1 record {
    later = n.later;
    in_run = n.in_run;
    is = elim n.is [
      | inl is ↦ inl is
      | inr a ↦ elim a [ inl is ↦ absurd (lt_irrefl u (lt_le_trans n.later (subst (λ z. z ≤ℚ u) (sym is) l))) | inr k ↦ inr k ]
    ];
    least = n.least.1;
    before_end = n.before_end.1;
  })
  | inr l ↦
      let above : t ≤ℚ e = elim n.is [
        | inl is ↦ subst (λ z. t ≤ℚ z) (sym is) n.before_end.0
        | inr a ↦ elim a [ inl is ↦ subst (λ z. t ≤ℚ z) (sym is) (le_refl t) | inr k ↦ from_first t e ts h.1 k ]
      ] in
      rw (lt_q_out u t l) (antisym (above, n.least.0 l))
]

-- ---- stops
pub stops_rise : (w : Watched) (x : ℚ) (ts : List ℚ) → RiseFrom x ts → RiseFrom x (stops_in w ts)
stops_rise w x [] h = tt
stops_rise w x (t ∷ ts) h = elim (cases_Bool (is_caught_up w t)) [
  | inl e ↦ rw e (h.0, stops_rise w t ts h.1)
  | inr e ↦ rw e (sooner (stops_in w ts) (stops_rise w t ts h.1))
]
  where
    sooner : (us : List ℚ) → RiseFrom t us → RiseFrom x us
    sooner [] k = tt
    sooner (u ∷ us) k = (le_trans h.0 k.0, k.1)

pub stops_each : (P : ℚ → Type 0) (w : Watched) (ts : List ℚ) → EachTime (λ t. is_caught_up w t ≡ true → P t) ts → EachTime P (stops_in w ts)
stops_each P w [] h = tt
stops_each P w (t ∷ ts) h = elim (cases_Bool (is_caught_up w t)) [
  | inl e ↦ rw e (h.0 e, stops_each P w ts h.1)
  | inr e ↦ rw e (stops_each P w ts h.1)
]

stops_among : (w : Watched) (e : ℚ) (ts : List ℚ) → Among e ts → is_caught_up w e ≡ true → Among e (stops_in w ts)
stops_among w e [] h k = absurd h
stops_among w e (t ∷ ts) h k = elim h [
  | inl is ↦ rw (ap (is_caught_up w) (sym is) ∙ k) (inl is)
  | inr l ↦ elim (cases_Bool (is_caught_up w t)) [
    | inl c ↦ rw c (inr (stops_among w e ts l k))
    | inr c ↦ rw c (stops_among w e ts l k)
  ]
]

each_any : (P : ℚ → Type 0) → ((t : ℚ) → P t) → (ts : List ℚ) → EachTime P ts
each_any P f [] = tt
each_any P f (t ∷ ts) = (f t, each_any P f ts)

-- ---- where a stretch ends
pub ends_at : (server : Server) (end : ℚ) (V : List ServerStep) (w : Watched) (u e : ℚ) → IsSightOf server end V w → IsStretch end V u e → next_after u w.end (stops w) ≡ e
ends_at server end V w u e S s =
    let leaves = S.leaves in
    let caught : (t : ℚ) → is_caught_up w t ≡ true → arrived all V t ≤ℚ worked all V t = λ t k.
    subst (λ z. z ≤ℚ worked all V t) (S.arrived_is t) (subst (λ z. arrived_by w t ≤ℚ z) (S.worked_is t) (le_q_in (arrived_by w t) (worked_by w t) k)) in
    let catches : (t : ℚ) → arrived all V t ≤ℚ worked all V t → is_caught_up w t ≡ true = λ t k.
    le_q_out (arrived_by w t) (worked_by w t) (subst (λ z. z ≤ℚ worked_by w t) (sym (S.arrived_is t)) (subst (λ z. arrived all V t ≤ℚ z) (sym (S.worked_is t)) k)) in
    let least : (t : ℚ) → is_caught_up w t ≡ true → u <ℚ t → e ≤ℚ t = λ t k l. elim (le_or_lt e t) [
      | inl g ↦ g
      | inr g ↦ absurd (lt_irrefl (arrived all V t) (le_lt_trans (caught t k) (s.busy t l g)))
    ] in
    let is : (e ≡ end) ⊎ Among e (stops w) = elim s.stops [
      | inl g ↦ inl g
      | inr g ↦ elim (ends_with server end V u e S.lawful s) [
        | inl k ↦ inl k
        | inr k ↦ inr (stops_among w e w.leaves.items (subst (λ (ts : List ℚ). Among e ts) (sym leaves) k) (catches e g))
      ]
    ] in
    ap (λ z. next_after u z (stops w)) S.end_is
    ∙ next_is (int (pos 0)) u end e (stops w) (stops_rise w (int (pos 0)) w.leaves.items (subst (λ (ts : List ℚ). RiseFrom (int (pos 0)) ts) (sym leaves) (leaves_rise server end V S.lawful))) record {
      later = s.forward;
      in_run = s.in_run;
      is = is;
      least = stops_each (λ t. u <ℚ t → e ≤ℚ t) w w.leaves.items (each_any (λ t. is_caught_up w t ≡ true → u <ℚ t → e ≤ℚ t) least w.leaves.items);
      before_end = stops_each (λ t. t ≤ℚ end) w w.leaves.items
          (each_time_map (λ t. t ≤ℚ end) (λ t. is_caught_up w t ≡ true → t ≤ℚ end) (λ t k _. k) w.leaves.items (subst (λ (ts : List ℚ). EachTime (λ t. t ≤ℚ end) ts) (sym leaves) (leaves_in_run server end V S.lawful)));
    }
