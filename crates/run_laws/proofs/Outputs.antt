-- What leaves in a closed window, by the service.
use Rattle.std.specs.Prelude.{◌≡◌, ℕ, pos, List, [], ◌∷◌}
use Rattle.std.proofs.Common.{arith, subst, inl, inr}
use Rattle.std.proofs.lemmas.Bool.{and_left}
use Rattle.rational.specs.Rational.{ℚ, int, ◌+ℚ◌, ◌-ℚ◌, ◌≤ℚ◌, ◌<ℚ◌, le_q}
use Rattle.rational.specs.Extended.{Ext, ◌≤ₑ◌, ◌-ₑ◌}
use Rattle.rational.specs.declared.Extended.TheVariants.{Fin}
use Rattle.rational.proofs.Laws.{le_refl, le_trans, le_of_lt, le_or_lt}
use Rattle.rational.proofs.ExtendedOrder.{le_ext_trans}
use Rattle.rational.proofs.Linear.{with1, with2, with3, with4, with7}
use Rattle.min_plus.specs.Pointwise.{packetised}
use Rattle.min_plus.specs.Convolution.{IsDeconvolution}
use Rattle.run_laws.specs.Cards.{size, whole, Class, ServerStep, Arrives, Works, Leaves, Visits, time_of}
use Rattle.run_laws.specs.Servers.{Server, ServerState, start}
use Rattle.run_laws.specs.Next.{next}
use Rattle.run_laws.specs.Allows.{IsLawfulView, AllAllowed}
use Rattle.run_laws.specs.Counts.{leaves, before, upto, within, arrived, arrived_upto, arrived_in, departed, departed_in}
use Rattle.run_laws.specs.Premises.{KeepsArrivals, KeepsSizes}
use Rattle.run_laws.specs.Serves.{Serves}
use Rattle.rational.proofs.MinMax.{le_q_not}
use Rattle.run_laws.proofs.Levels.{finite_below, minus_le}
use Rattle.run_laws.proofs.Sums.{each_all, total_sum, Each, total_none, nothing}
use Rattle.run_laws.proofs.Counts.{arrived_le, arrived_nonneg, before_upto, arrived_in_is, window_nonneg, window_term, departed_upto}
use Rattle.run_laws.proofs.Cuts.{time_in_order, no_leaves}
use Rattle.run_laws.proofs.Orders.{left_worked, left_upto_worked, worked_arrived}
use Rattle.run_laws.proofs.Backlogged.{none_at_first}
use Rattle.run_laws.proofs.Service.{packets_are_served}

left_window_step : (C : Class) (s t : ℚ) → s ≤ℚ t → (x : ServerStep)
    → leaves C (upto t) x ≡ leaves C (before s) x +ℚ leaves C (within s t) x
left_window_step C s t h (Arrives c u) = nothing
left_window_step C s t h (Works c a b w) = nothing
left_window_step C s t h (Leaves c u) = window_term (C c) s t u (size c) h
left_window_step C s t h (Visits q u) = nothing

pub departed_in_is : (C : Class) (V : List ServerStep) (s t : ℚ) → s ≤ℚ t → departed_upto C V t ≡ departed C V s +ℚ departed_in C V s t
departed_in_is C V s t h =
    total_sum (leaves C (upto t)) (leaves C (before s)) (leaves C (within s t)) V
    (each_all (λ x. leaves C (upto t) x ≡ leaves C (before s) x +ℚ leaves C (within s t) x) (left_window_step C s t h) V)

pub left_came : (server : Server) (end : ℚ) (V : List ServerStep) (C : Class) (t : ℚ) → IsLawfulView server end V
    → departed_upto C V t ≤ℚ arrived_upto C V t
left_came server end V C t h = le_trans (left_upto_worked server end V C t h) (le_trans (worked_arrived server end V C t h) (arrived_le C V (before t) (upto t) (before_upto t)))

-- ---- by the service
spread : (out left gone came before_r window γ : ℚ) → gone ≡ left +ℚ out → came ≡ before_r +ℚ window → gone ≤ℚ came → before_r +ℚ γ ≤ℚ left
    → out ≤ℚ window -ℚ γ
spread out left gone came before_r window γ e f h k = with7 out left gone came before_r window γ (λ c. omega (arith, c.le, c.lt, c.same))

-- a member of the deconvolution, at a time at which the curve less one packet is γ
member : (α P : ℚ → Ext) (x y γ came few : ℚ) (most : Ext) → int (pos 0) ≤ℚ y → P y ≡ Fin γ → Fin came ≤ₑ α (x +ℚ y) → few ≤ℚ came -ℚ γ
    → IsDeconvolution α P x most → Fin few ≤ₑ most
member α P x y γ came few most on e keep less is =
    le_ext_trans (Fin few) (Fin (came -ℚ γ)) most less
    (le_ext_trans (Fin (came -ℚ γ)) (α (x +ℚ y) -ₑ γ) most (minus_le came γ (α (x +ℚ y)) keep) (is.above record { at = y; nonneg = on; level = γ; is = e }))

in_run : (server : Server) (end : ℚ) (V : List ServerStep) (C : Class) (bits : ℕ) (α β : ℚ → Ext) (s t : ℚ) (most : Ext)
    → IsLawfulView server end V → KeepsSizes C bits V → KeepsArrivals C α V → Serves C β end V
    → s ≤ℚ t → s ≤ℚ end → IsDeconvolution α (packetised β (whole bits)) (t -ℚ s) most → Fin (departed_in C V s t) ≤ₑ most
in_run server end V C bits α β s t most lawful sizes keeps serves h l is =
    let P = packetised β (whole bits) in
    let (r, served) = packets_are_served server end V C β bits lawful sizes serves s l in
    let (γ, e, up) = finite_below (arrived C V r) (departed C V s) (P (s -ℚ r)) served.kept_up in
    let early = served.earlier in
    let all : r ≤ℚ t = le_trans early h in
    let on : int (pos 0) ≤ℚ s -ℚ r = with2 s r (λ c. omega (arith, c.le, c.lt, c.same)) in
    let sum : t -ℚ r ≡ (t -ℚ s) +ℚ (s -ℚ r) = with3 r s t (λ c. omega (arith, c.le, c.lt, c.same)) in
    let keep = subst (λ (x : ℚ). Fin (arrived_in C V r t) ≤ₑ α x) sum (keeps r t all) in
    member α P (t -ℚ s) (s -ℚ r) γ (arrived_in C V r t) (departed_in C V s t) most on e keep
    (spread (departed_in C V s t) (departed C V s) (departed_upto C V t) (arrived_upto C V t) (arrived C V r) (arrived_in C V r t) γ (departed_in_is C V s t h) (arrived_in_is C V r t all) (left_came server end V C t lawful) up)
    is

-- ---- after the end nothing leaves
none_after : (server : Server) (end : ℚ) (σ : ServerState) (V : List ServerStep) (C : Class) (s t : ℚ) → end <ℚ s
    → AllAllowed server end σ V → Each (λ x. leaves C (within s t) x ≡ int (pos 0)) V
none_after server end σ [] C s t l a = tt
none_after server end σ (x ∷ V) C s t l a =
    let i = (time_in_order server end σ x a.0).in_run in
    (no_leaves C (within s t) x (and_left (le_q s (time_of x)) (le_q (time_of x) t) (le_q_not _ _ (with3 s (time_of x) end (λ c. omega (arith, c.le, c.lt, c.same))))), none_after server end (next server.discipline σ x) V C s t l a.1)

pub nothing_leaves : (server : Server) (end : ℚ) (V : List ServerStep) (C : Class) (s t : ℚ) → IsLawfulView server end V → end <ℚ s
    → departed_in C V s t ≡ int (pos 0)
nothing_leaves server end V C s t lawful l = total_none (leaves C (within s t)) V (none_after server end (start server.discipline) V C s t l lawful.allowed)

-- a time in the run at which nothing has come yet
early_time : (end : ℚ) → (m : ℚ) × (m ≤ℚ end) × (m ≤ℚ int (pos 0))
early_time end = elim (le_or_lt end (int (pos 0))) [
  | inl h ↦ (end, le_refl end, h)
  | inr h ↦ (int (pos 0), le_of_lt h, le_refl (int (pos 0)))
]

past_run : (server : Server) (end : ℚ) (V : List ServerStep) (C : Class) (bits : ℕ) (α β : ℚ → Ext) (s t : ℚ) (most : Ext)
    → IsLawfulView server end V → KeepsSizes C bits V → KeepsArrivals C α V → Serves C β end V
    → s ≤ℚ t → end <ℚ s → IsDeconvolution α (packetised β (whole bits)) (t -ℚ s) most → Fin (departed_in C V s t) ≤ₑ most
past_run server end V C bits α β s t most lawful sizes keeps serves h l is =
    let P = packetised β (whole bits) in
    let (m, in_time, early) = early_time end in
    let (r, served) = packets_are_served server end V C β bits lawful sizes serves m in_time in
    let (γ, e, up) = finite_below (arrived C V r) (departed C V m) (P (m -ℚ r)) served.kept_up in
    let before_m = served.earlier in
    let on : int (pos 0) ≤ℚ m -ℚ r = with2 m r (λ c. omega (arith, c.le, c.lt, c.same)) in
    let none = nothing_leaves server end V C s t lawful l in
    let none_yet = none_at_first server end V C m lawful early in
    let left = left_worked server end V C m lawful in
    let few = worked_arrived server end V C m lawful in
    let some = arrived_nonneg C V r in
    let low : γ ≤ℚ int (pos 0) = low_level (arrived C V r) (departed C V m) (arrived C V m) γ some up (le_trans left few) none_yet in
    let x = (t -ℚ s) +ℚ (m -ℚ r) in
    let x_on : int (pos 0) ≤ℚ x = with4 s t m r (λ c. omega (arith, c.le, c.lt, c.same)) in
    let span : x -ℚ int (pos 0) ≡ x = with1 x (λ c. omega (arith, c.le, c.lt, c.same)) in
    let keep = subst (λ (y : ℚ). Fin (arrived_in C V (int (pos 0)) x) ≤ₑ α y) span (keeps (int (pos 0)) x x_on) in
    let came = window_nonneg C V (int (pos 0)) x in
    member α P (t -ℚ s) (m -ℚ r) γ (arrived_in C V (int (pos 0)) x) (departed_in C V s t) most on e keep (with3 (departed_in C V s t) (arrived_in C V (int (pos 0)) x) γ (λ c. omega (arith, c.le, c.lt, c.same))) is
  where
    low_level : (A L B γ : ℚ) → int (pos 0) ≤ℚ A → A +ℚ γ ≤ℚ L → L ≤ℚ B → B ≡ int (pos 0) → γ ≤ℚ int (pos 0)
    low_level A L B γ h k l e = with4 A L B γ (λ c. omega (arith, c.le, c.lt, c.same))

pub output_from_service : (server : Server) (end : ℚ) (V : List ServerStep) (C : Class) (bits : ℕ) (α β : ℚ → Ext) (s t : ℚ) (most : Ext)
    → IsLawfulView server end V → KeepsSizes C bits V → KeepsArrivals C α V → Serves C β end V
    → s ≤ℚ t → IsDeconvolution α (packetised β (whole bits)) (t -ℚ s) most → Fin (departed_in C V s t) ≤ₑ most
output_from_service server end V C bits α β s t most lawful sizes keeps serves h is = elim (le_or_lt s end) [
  | inl l ↦ in_run server end V C bits α β s t most lawful sizes keeps serves h l is
  | inr l ↦ past_run server end V C bits α β s t most lawful sizes keeps serves h l is
]
