-- The first of one flow, and of one server, by the order of breaches.
use Rattle.std.specs.Prelude.{◌≡◌, ℕ, ◌<◌, ◌≤◌, List, [], ◌∷◌, length, Option, Some, None}
use Rattle.std.specs.List.{slice_index_or}
use Rattle.std.proofs.Common.{arith, refl, sym, subst, ap, ◌∙◌, inl, inr}
use Rattle.std.proofs.lemmas.Bool.{cases_lt}
use Rattle.rational.specs.Rational.{ℚ, ◌≤ℚ◌}
use Rattle.rational.specs.Extended.{Ext}
use Rattle.rational.proofs.Laws.{lt_cases, lt_irrefl, lt_le_trans}
use Rattle.upp_curve.specs.Curve.{SpecCurve}
use Rattle.run_laws.specs.Runs.{SpecRun}
use Rattle.run_laws.specs.Cards.{whole, ServerStep}
use Rattle.run_laws.proofs.Sizes.{whole_lt}
use Rattle.net_model.specs.declared.breach.Breach.{Breach}
use Rattle.net_model.specs.declared.breach.Breach.TheVariants.{Size, Arrival, Service}
use Rattle.flow_watch.specs.declared.watch_laws.entering.Entering.{Entering}
use Rattle.flow_watch.specs.watch_laws.Breaches.{order_key, NoLater}
use Rattle.flow_watch.specs.watch_laws.Entries.{entries, entering, IsCrowded, EntersFrom}
use Rattle.flow_watch.proofs.watch_laws.Crowds.{times_rise}
use Rattle.flow_watch.specs.Flows.{NoneLonger, IsFirstLonger, NoneCrowded, IsFirstCrowded}
use Rattle.run_watch.specs.FirstOf.{IsBest, IsBestBefore, IsLongOn, IsCrowdOn, IsIdleOn, EnterInOrder}
use Rattle.run_watch.specs.Held.{FindsIdle, IsFirstIdle}
use Rattle.flow_watch.proofs.LeastFirst.{read_is}

-- ---- keys
same_or_more : (m n : ℕ) (xs ys : List ℚ) → m ≤ n → (m ≡ n → NoLater xs ys) → NoLater (whole m ∷ xs) (whole n ∷ ys)
same_or_more m n xs ys h f = elim (cases_lt m n) [
  | inl l ↦ inl (whole_lt m n l)
  | inr l ↦ let e : m ≡ n = omega arith in inr (ap whole e, f e)
]

timed : (s t : ℚ) (xs ys : List ℚ) → s ≤ℚ t → (s ≡ t → NoLater xs ys) → NoLater (s ∷ xs) (t ∷ ys)
timed s t xs ys h f = elim (lt_cases s t) [
  | inl l ↦ inl l
  | inr d ↦ elim d [ inl e ↦ inr (e, f e) | inr l ↦ absurd (lt_irrefl t (lt_le_trans l h)) ]
]

same_kind : (k flow : ℕ) (xs ys : List ℚ) → NoLater xs ys → NoLater (whole k ∷ whole flow ∷ xs) (whole k ∷ whole flow ∷ ys)
same_kind k flow xs ys h = inr (refl, inr (refl, h))

-- ---- sizes
pub size_none : (run : SpecRun) (flow longest : ℕ) (es : List Entering) → es ≡ entries flow run.steps → NoneLonger longest es → IsBest (IsLongOn run flow longest) run None
size_none run flow longest es e h (Size f p) is =
    let few : (entering (entries flow run.steps) p).bits ≤ longest = subst (NoneLonger longest) e h p is.1 in
    let more = is.2 in
    omega arith
size_none run flow longest es e h (Arrival f i j) is = is
size_none run flow longest es e h (Service s a b) is = is

pub size_some : (run : SpecRun) (flow longest : ℕ) (es : List Entering) (k : ℕ) (x : Entering) → es ≡ entries flow run.steps → EnterInOrder es → k < length es → x ≡ slice_index_or es k x → IsFirstLonger longest es k
    → IsBest (IsLongOn run flow longest) run (Some record { time = x.time; breach = Size flow k })
size_some run flow longest es k x e order l at h =
    let F : IsFirstLonger longest (entries flow run.steps) k = subst (λ (xs : List Entering). IsFirstLonger longest xs k) e h in
    let (t, from) = subst EnterInOrder e order in
    record {
      is = (refl, F.in_range, F.more);
      time = ap (λ (y : Entering). y.time) (read_is es k x l at) ∙ ap (λ (xs : List Entering). (entering xs k).time) e;
      least = λ y is. go t from F y is;
    }
  where
    go : (t : ℚ) → EntersFrom t (entries flow run.steps) → IsFirstLonger longest (entries flow run.steps) k → (y : Breach) → IsLongOn run flow longest y → NoLater (order_key run (Size flow k)) (order_key run y)
    go t from F (Arrival f i j) is = absurd is
    go t from F (Service s a b) is = absurd is
    go t from F (Size f q) is =
        let es = entries flow run.steps in
        let first : k ≤ q = elim (cases_lt q k) [ inl m ↦ let a = F.before q m in let b = is.2 in absurd (omega arith) | inr m ↦ m ] in
        subst (λ (g : ℕ). NoLater (order_key run (Size flow k)) (order_key run (Size g q))) (sym is.0)
        (timed (entering es k).time (entering es q).time (whole 0 ∷ whole flow ∷ whole k ∷ []) (whole 0 ∷ whole flow ∷ whole q ∷ []) (times_rise t es k q from first is.1)
        (λ _. same_kind 0 flow (whole k ∷ []) (whole q ∷ []) (same_or_more k q [] [] first (λ _. tt))))

-- ---- arrivals
pub arrival_none : (run : SpecRun) (flow : ℕ) (α : ℚ → Ext) (es : List Entering) → es ≡ entries flow run.steps → NoneCrowded α es (length es) → IsBest (IsCrowdOn run flow α) run None
arrival_none run flow α es e h (Size f p) is = is
arrival_none run flow α es e h (Arrival f i j) is =
    let none : NoneCrowded α (entries flow run.steps) (length (entries flow run.steps)) = subst (λ (xs : List Entering). NoneCrowded α xs (length xs)) e h in
    none i j is.1.entered is.1
arrival_none run flow α es e h (Service s a b) is = is

pub arrival_some : (run : SpecRun) (flow : ℕ) (α : ℚ → Ext) (es : List Entering) (first last : ℕ) (x : Entering) → es ≡ entries flow run.steps → EnterInOrder es → last < length es → x ≡ slice_index_or es last x → IsFirstCrowded α es first last
    → IsBest (IsCrowdOn run flow α) run (Some record { time = x.time; breach = Arrival flow first last })
arrival_some run flow α es first last x e order l at h =
    let F : IsFirstCrowded α (entries flow run.steps) first last = subst (λ (xs : List Entering). IsFirstCrowded α xs first last) e h in
    let (t, from) = subst EnterInOrder e order in
    record {
      is = (refl, F.first_of_it.crowded);
      time = ap (λ (y : Entering). y.time) (read_is es last x l at) ∙ ap (λ (xs : List Entering). (entering xs last).time) e;
      least = λ y is. go t from F y is;
    }
  where
    go : (t : ℚ) → EntersFrom t (entries flow run.steps) → IsFirstCrowded α (entries flow run.steps) first last → (y : Breach) → IsCrowdOn run flow α y → NoLater (order_key run (Arrival flow first last)) (order_key run y)
    go t from F (Size f p) is = absurd is
    go t from F (Service s a b) is = absurd is
    go t from F (Arrival f i j) is =
        let es = entries flow run.steps in
        let no_later : last ≤ j = elim (cases_lt j last) [ inl m ↦ absurd (F.none_before i j m is.1) | inr m ↦ m ] in
        let least : last ≡ j → first ≤ i = λ same. elim (cases_lt i first) [
          | inl m ↦ absurd (F.first_of_it.least i (omega arith) m (subst (λ (n : ℕ). IsCrowded α es i n) (sym same) is.1))
          | inr m ↦ m
        ] in
        subst (λ (g : ℕ). NoLater (order_key run (Arrival flow first last)) (order_key run (Arrival g i j))) (sym is.0)
        (timed (entering es last).time (entering es j).time (whole 1 ∷ whole flow ∷ whole last ∷ whole first ∷ []) (whole 1 ∷ whole flow ∷ whole j ∷ whole i ∷ []) (times_rise t es last j from no_later is.1.entered)
        (λ _. same_kind 1 flow (whole last ∷ whole first ∷ []) (whole j ∷ whole i ∷ [])
        (same_or_more last j (whole first ∷ []) (whole i ∷ []) no_later (λ same. same_or_more first i [] [] (least same) (λ _. tt)))))

-- ---- service
pub service_none : (run : SpecRun) (until : Option ℚ) (end : ℚ) (V : List ServerStep) (server : ℕ) (c : SpecCurve) → FindsIdle until end V c None → IsBestBefore until (IsIdleOn end V server c) run None
service_none run until end V server c h (Size f p) is = absurd is
service_none run until end V server c h (Arrival f i j) is = absurd is
service_none run until end V server c h (Service s a b) is = h a b is.1

pub service_some : (run : SpecRun) (end : ℚ) (V : List ServerStep) (server : ℕ) (c : SpecCurve) (a b : ℚ) → IsFirstIdle end V c a b → IsBest (IsIdleOn end V server c) run (Some record { time = b; breach = Service server a b })
service_some run end V server c a b h = record { is = (refl, h.is); time = refl; least = λ y is. go y is }
  where
    go : (y : Breach) → IsIdleOn end V server c y → NoLater (order_key run (Service server a b)) (order_key run y)
    go (Size f p) is = absurd is
    go (Arrival f i j) is = absurd is
    go (Service s x y) is =
        subst (λ (r : ℕ). NoLater (order_key run (Service server a b)) (order_key run (Service r x y))) (sym is.0)
        (elim (h.least x y is.1) [
          | inl l ↦ inl l
          | inr m ↦ inr (m.0, inr (refl, inr (refl, timed a x [] [] m.1 (λ _. tt))))
        ])

pub service_none_of : (run : SpecRun) (until : Option ℚ) (end : ℚ) (V : List ServerStep) (server : ℕ) (c : SpecCurve) (o : Option (ℚ × ℚ)) → o ≡ None → FindsIdle until end V c o → IsBestBefore until (IsIdleOn end V server c) run None
service_none_of run until end V server c o e h = service_none run until end V server c (subst (λ (p : Option (ℚ × ℚ)). FindsIdle until end V c p) e h)

pub service_some_of : (run : SpecRun) (until : Option ℚ) (end : ℚ) (V : List ServerStep) (server : ℕ) (c : SpecCurve) (o : Option (ℚ × ℚ)) (a b : ℚ) → o ≡ Some (a, b) → FindsIdle until end V c o
    → IsBestBefore until (IsIdleOn end V server c) run (Some record { time = b; breach = Service server a b })
service_some_of run until end V server c o a b e h = service_some run end V server c a b (subst (λ (p : Option (ℚ × ℚ)). FindsIdle until end V c p) e h)
