-- A class of packets is served by what those before it leave, less so many bits of those after it: the law of priority,
-- and of what any server leaves.
use Rattle.std.specs.Prelude.{◌≡◌, ℕ, pos, List}
use Rattle.std.proofs.Common.{arith, refl, inl, inr, subst}
use Rattle.rational.specs.Rational.{ℚ, int, ◌+ℚ◌, ◌-ℚ◌, ◌≤ℚ◌, ◌<ℚ◌}
use Rattle.rational.specs.MinMax.{max_q}
use Rattle.rational.specs.Extended.{Ext, ◌≤ₑ◌, ◌+ₑ◌}
use Rattle.rational.specs.declared.Extended.TheVariants.{Fin, Inf}
use Rattle.rational.proofs.MinMax.{max_q_le}
use Rattle.rational.proofs.Bounds.{smallest}
use Rattle.rational.proofs.ExtendedOrder.{le_ext_trans, le_ext_refl, add_le_ext}
use Rattle.rational.proofs.Laws.{le_refl, le_trans, le_of_lt, le_or_lt, antisym}
use Rattle.rational.proofs.Linear.{with1, with2, with3, with4, with6, with7, with8}
use Rattle.min_plus.specs.Pointwise.{excess}
use Rattle.run_laws.specs.Cards.{whole, Class, all, ServerStep}
use Rattle.run_laws.proofs.Always.{AreAlwaysParts}
use Rattle.run_laws.specs.Servers.{Server, start}
use Rattle.run_laws.specs.Allows.{IsLawfulView}
use Rattle.run_laws.specs.Counts.{before, upto, arrived, arrived_upto, arrived_in, worked, departed}
use Rattle.run_laws.specs.Premises.{KeepsArrivals, KeepsService, IsBusy, IsZeroAtStart}
use Rattle.run_laws.specs.Serves.{Serves, IsServed}
use Rattle.run_laws.proofs.Sizes.{whole_nonneg}
use Rattle.run_laws.proofs.Levels.{finite_below, add_low}
use Rattle.run_laws.proofs.Counts.{arrived_le, before_upto, arrived_in_is, worked_rises, window_nonneg}
use Rattle.run_laws.proofs.Cuts.{all_works}
use Rattle.run_laws.proofs.Orders.{left_worked, worked_arrived}
use Rattle.run_laws.proofs.Gone.{gone_before}
use Rattle.run_laws.specs.Backlogged.{IsBacklogged}
use Rattle.run_laws.proofs.Backlogged.{backlogged_since}
use Rattle.run_laws.proofs.Parts.{arrived_parts, worked_parts, departed_parts}
use Rattle.run_laws.proofs.Service.{itself}
use Rattle.residual_laws.specs.PriorityLaws.{priority_left, IsPriorityService}

-- the server's packets in three classes: those of a class of its own, those before them, and those after them, which get
-- no more than so many bits of work while something of the others is there
pub record AreInTurn (server : Server) (end : ℚ) (V : List ServerStep) (own first last up_to : Class) (bits : ℕ) : Type 0 where
  pub lawful : IsLawfulView server end V
  pub all_parts : AreAlwaysParts all up_to last
  pub upto_parts : AreAlwaysParts up_to own first
  pub last_work : (s z : ℚ) → s <ℚ z → ((x : ℚ) → s <ℚ x → x <ℚ z → worked up_to V x <ℚ arrived up_to V x)
      → worked last V z ≤ℚ worked last V s +ℚ int (pos bits)

-- ---- the law
-- of a service that is finite
member : (b most : ℚ) (lower : ℕ) (y : Ext) → int (pos 0) ≤ℚ most → ((h : ℚ) → y ≡ Fin h → b ≤ℚ most +ℚ h +ℚ whole lower)
    → excess (excess (Fin b) y) (Fin (whole lower)) ≤ₑ Fin most
member b most lower Inf on f =
    let low = whole_nonneg lower in
    max_q_le (int (pos 0)) (int (pos 0) -ℚ whole lower) most on (with2 (whole lower) most (λ c. omega (arith, c.le, c.lt, c.same)))
member b most lower (Fin h) on f =
    let low = whole_nonneg lower in
    let g = f h refl in
    max_q_le (int (pos 0)) (max_q (int (pos 0)) (b -ℚ h) -ℚ whole lower) most on
    (minus_le_q (max_q (int (pos 0)) (b -ℚ h)) (whole lower) most
    (max_q_le (int (pos 0)) (b -ℚ h) (most +ℚ whole lower) (with2 (whole lower) most (λ c. omega (arith, c.le, c.lt, c.same))) (with4 b h most (whole lower) (λ c. omega (arith, c.le, c.lt, c.same)))))
  where
    minus_le_q : (x l m : ℚ) → x ≤ℚ m +ℚ l → x -ℚ l ≤ℚ m
    minus_le_q x l m h = with3 x l m (λ c. omega (arith, c.le, c.lt, c.same))

-- what the queue's work has gained by z
gained : (server : Server) (end : ℚ) (V : List ServerStep) (own first last up_to : Class) (bits : ℕ) (higher : ℚ → Ext) (t s z b : ℚ)
    → AreInTurn server end V own first last up_to bits → KeepsArrivals first higher V
    → IsBacklogged up_to V s t → s <ℚ z → z ≤ℚ t → worked all V s +ℚ b ≤ℚ worked all V z → (h : ℚ) → higher (z -ℚ s) ≡ Fin h
    → arrived own V s +ℚ b ≤ℚ worked own V z +ℚ h +ℚ whole bits
gained server end V own first last up_to bits higher t s z b turn keeps is l m served h e =
    let lawful = turn.lawful in
    let up = turn.all_parts in
    let parts = turn.upto_parts in
    let busy : (x : ℚ) → s <ℚ x → x <ℚ z
    → worked up_to V x <ℚ arrived up_to V x = λ x o p. is.busy x o (with3 x z t (λ c. omega (arith, c.le, c.lt, c.same))) in
    let low = turn.last_work s z l busy in
    let came = arrived_in_is first V s z (le_of_lt l) in
    let high : arrived_in first V s z ≤ℚ h = through_eq (arrived_in first V s z) (higher (z -ℚ s)) h e (keeps s z (le_of_lt l)) in
    let most_first = worked_arrived server end V first z lawful in
    let upto_first = arrived_le first V (before z) (upto z) (before_upto z) in
    let caught = is.caught_up in
    let own_at_s = worked_arrived server end V own s lawful in
    let first_at_s = worked_arrived server end V first s lawful in
    summed (worked all V s) (worked all V z) (worked up_to V s) (worked up_to V z) (worked last V s) (worked last V z) (worked own V s) (worked own V z) (worked first V s) (worked first V z) (arrived up_to V s) (arrived own V s) (arrived first V s) (arrived first V z) (arrived_upto first V z) (arrived_in first V s z) b h (whole bits)
    (worked_parts all up_to last V s up) (worked_parts all up_to last V z up) (worked_parts up_to own first V s parts) (worked_parts up_to own first V z parts) (arrived_parts up_to own first V s parts)
    served low came high most_first upto_first caught own_at_s first_at_s
  where
    through_eq : (x : ℚ) (y : Ext) (h : ℚ) → y ≡ Fin h → Fin x ≤ₑ y → x ≤ℚ h
    through_eq x y h e k = subst (λ (v : Ext). Fin x ≤ₑ v) e k

    summed : (Us Uz Cs Cz Ls Lz Is Iz Hs Hz Ac Ai Ah Bh Bu N b h l : ℚ) → Us ≡ Cs +ℚ Ls → Uz ≡ Cz +ℚ Lz → Cs ≡ Is +ℚ Hs → Cz ≡ Iz +ℚ Hz
        → Ac ≡ Ai +ℚ Ah → Us +ℚ b ≤ℚ Uz → Lz ≤ℚ Ls +ℚ l → Bu ≡ Ah +ℚ N → N ≤ℚ h → Hz ≤ℚ Bh → Bh ≤ℚ Bu → Ac ≤ℚ Cs → Is ≤ℚ Ai → Hs ≤ℚ Ah
        → Ai +ℚ b ≤ℚ Iz +ℚ h +ℚ l
    summed Us Uz Cs Cz Ls Lz Is Iz Hs Hz Ac Ai Ah Bh Bu N b h l e1 e2 e3 e4 e5 h1 h2 e6 h3 h4 h5 h6 h7 h8 =
        let one : Cs +ℚ b ≤ℚ Cz +ℚ l = with8 Us Uz Cs Cz Ls Lz b l (λ c. omega (arith, c.le, c.lt, c.same)) in
        let two : Hz ≤ℚ Ah +ℚ h = with6 Hz Bh Bu Ah N h (λ c. omega (arith, c.le, c.lt, c.same)) in
        let three : Ai +ℚ Ah ≤ℚ Cs = with4 Ac Ai Ah Cs (λ c. omega (arith, c.le, c.lt, c.same)) in
        let four : Ai +ℚ Ah +ℚ b ≤ℚ Cz +ℚ l = with6 Ai Ah b Cs Cz l (λ c. omega (arith, c.le, c.lt, c.same)) in
        with8 Ai Ah b Cz l Iz Hz h (λ c. omega (arith, c.le, c.lt, c.same))

-- in a backlogged period of the others the server is busy, so it works by its curve
at_work : (server : Server) (end : ℚ) (V : List ServerStep) (own first last up_to : Class) (bits : ℕ) (β : ℚ → Ext) (t s z : ℚ)
    → AreInTurn server end V own first last up_to bits → KeepsService β end V → t ≤ℚ end → IsBacklogged up_to V s t → s <ℚ z → z ≤ℚ t
    → (Fin (worked all V s) +ₑ β (z -ℚ s)) ≤ₑ Fin (worked all V z)
at_work server end V own first last up_to bits β t s z turn service in_run is l m = service s z l (le_trans m in_run) all_busy
  where
    all_busy : IsBusy V s z
    all_busy x o p =
        let one = is.busy x o (with3 x z t (λ c. omega (arith, c.le, c.lt, c.same))) in
        let two = worked_arrived server end V last x turn.lawful in
        let sum_w = worked_parts all up_to last V x turn.all_parts in
        let sum_a = arrived_parts all up_to last V x turn.all_parts in
        with6 (worked all V x) (arrived all V x) (worked up_to V x) (arrived up_to V x) (worked last V x) (arrived last V x) (λ c. omega (arith, c.le, c.lt, c.same))

-- no arrival curve is below 0
higher_nonneg : (V : List ServerStep) (C : Class) (higher : ℚ → Ext) (h : ℚ) → KeepsArrivals C higher V → higher (int (pos 0)) ≡ Fin h
    → int (pos 0) ≤ℚ h
higher_nonneg V C higher h keeps e =
    let none : int (pos 0) -ℚ int (pos 0) ≡ int (pos 0) = with1 (int (pos 0)) (λ c. omega (arith, c.le, c.lt, c.same)) in
    let came = subst (λ (x : ℚ). Fin (arrived_in C V (int (pos 0)) (int (pos 0))) ≤ₑ higher x) none (keeps (int (pos 0)) (int (pos 0)) (le_refl (int (pos 0)))) in
    le_trans (window_nonneg C V (int (pos 0)) (int (pos 0))) (subst (λ (y : Ext). Fin (arrived_in C V (int (pos 0)) (int (pos 0))) ≤ₑ y) e came)

-- at 0 the curve gives nothing
first_member : (V : List ServerStep) (C : Class) (β higher : ℚ → Ext) (bits : ℕ) (most : ℚ) → IsZeroAtStart β → KeepsArrivals C higher V
    → int (pos 0) ≤ℚ most → priority_left β higher bits (int (pos 0)) ≤ₑ Fin most
first_member V C β higher bits most flat keeps on = by_start (β (int (pos 0))) flat
  where
    by_start : (x : Ext) → x ≤ₑ Fin (int (pos 0)) → excess (excess x (higher (int (pos 0)))) (Fin (whole bits)) ≤ₑ Fin most
    by_start Inf h = absurd h
    by_start (Fin b) h = member b most bits (higher (int (pos 0))) on (λ y e. enough y (higher_nonneg V C higher y keeps e) (whole_nonneg bits))
      where
        enough : (y : ℚ) → int (pos 0) ≤ℚ y → int (pos 0) ≤ℚ whole bits → b ≤ℚ most +ℚ y +ℚ whole bits
        enough y y_on l_on = with4 b most y (whole bits) (λ c. omega (arith, c.le, c.lt, c.same))

-- in a backlogged period that begins at s, later
later_member : (server : Server) (end : ℚ) (V : List ServerStep) (own first last up_to : Class) (bits : ℕ) (β higher : ℚ → Ext) (t s y : ℚ)
    → AreInTurn server end V own first last up_to bits → KeepsService β end V → KeepsArrivals first higher V
    → t ≤ℚ end → IsBacklogged up_to V s t → arrived own V s ≤ℚ worked own V s → int (pos 0) <ℚ y → y ≤ℚ t -ℚ s
    → priority_left β higher bits y ≤ₑ Fin (worked own V t -ℚ arrived own V s)
later_member server end V own first last up_to bits β higher t s y turn service keeps in_run is caught l upto_y =
    let lawful = turn.lawful in
    let z_past : s <ℚ s +ℚ y = with2 s y (λ c. omega (arith, c.le, c.lt, c.same)) in
    let z_upto : s +ℚ y ≤ℚ t = with3 s y t (λ c. omega (arith, c.le, c.lt, c.same)) in
    let same : (s +ℚ y) -ℚ s ≡ y = with2 s y (λ c. omega (arith, c.le, c.lt, c.same)) in
    let works = all_works server end (start server.discipline) V lawful.allowed in
    let rise = worked_rises own V s t works (le_of_lt is.begins) in
    let z_rise = worked_rises own V (s +ℚ y) t works z_upto in
    let on : int (pos 0) ≤ℚ worked own V t -ℚ arrived own V s = with3 (worked own V t) (worked own V s) (arrived own V s) (λ c. omega (arith, c.le, c.lt, c.same)) in
    let (b, level, served) = finite_below (worked all V s) (worked all V (s +ℚ y)) (β ((s +ℚ y) -ℚ s)) (at_work server end V own first last up_to bits β t s (s +ℚ y) turn service in_run is z_past z_upto) in
    let one = member b (worked own V t -ℚ arrived own V s) bits (higher ((s +ℚ y) -ℚ s)) on
    (λ h e. enough (arrived own V s) b (worked own V (s +ℚ y)) (worked own V t) h (gained server end V own first last up_to bits higher t s (s +ℚ y) b turn keeps is z_past z_upto served h e) z_rise) in
    subst (λ (x : ℚ). priority_left β higher bits x ≤ₑ Fin (worked own V t -ℚ arrived own V s)) same (rw level one)
  where
    enough : (A b Wz Wt h : ℚ) → A +ℚ b ≤ℚ Wz +ℚ h +ℚ whole bits → Wz ≤ℚ Wt → b ≤ℚ Wt -ℚ A +ℚ h +ℚ whole bits
    enough A b Wz Wt h e k = with6 A b Wz Wt h (whole bits) (λ c. omega (arith, c.le, c.lt, c.same))

in_period : (server : Server) (end : ℚ) (V : List ServerStep) (own first last up_to : Class) (bits : ℕ) (β higher R : ℚ → Ext) (t s : ℚ)
    → AreInTurn server end V own first last up_to bits → KeepsService β end V → IsZeroAtStart β → KeepsArrivals first higher V
    → IsPriorityService β higher bits R → t ≤ℚ end → IsBacklogged up_to V s t → IsServed own R V t s
in_period server end V own first last up_to bits β higher R t s turn service flat keeps running in_run is =
    let lawful = turn.lawful in
    let sum_A = arrived_parts up_to own first V s turn.upto_parts in
    let sum_W = worked_parts up_to own first V s turn.upto_parts in
    let before = worked_arrived server end V first s lawful in
    let works = all_works server end (start server.discipline) V lawful.allowed in
    let caught : arrived own V s ≤ℚ worked own V s =
    part_caught (arrived up_to V s) (arrived own V s) (arrived first V s) (worked up_to V s) (worked own V s) (worked first V s) sum_A sum_W before is.caught_up in
    let rise = worked_rises own V s t works (le_of_lt is.begins) in
    let x_on : int (pos 0) ≤ℚ t -ℚ s = let b = is.begins in with2 s t (λ c. omega (arith, c.le, c.lt, c.same)) in
    let on : int (pos 0) ≤ℚ worked own V t -ℚ arrived own V s = with3 (worked own V t) (worked own V s) (arrived own V s) (λ c. omega (arith, c.le, c.lt, c.same)) in
    let bound : R (t -ℚ s) ≤ₑ Fin (worked own V t -ℚ arrived own V s) =
    smallest (λ y. priority_left β higher bits y.at) (R (t -ℚ s)) (Fin (worked own V t -ℚ arrived own V s)) (running (t -ℚ s) x_on)
    (λ y. elim (le_or_lt y.at (int (pos 0))) [
      | inl l ↦
          let zero : int (pos 0) ≡ y.at = antisym (y.nonneg, l) in
          subst (λ (x : ℚ). priority_left β higher bits x ≤ₑ Fin (worked own V t -ℚ arrived own V s)) zero (first_member V first β higher bits (worked own V t -ℚ arrived own V s) flat keeps on)
      | inr l ↦ later_member server end V own first last up_to bits β higher t s y.at turn service keeps in_run is caught l y.most
    ]) in
    record {
      earlier = le_of_lt is.begins;
      left = gone_before server end V own s t lawful caught is.begins;
      kept_up = le_ext_trans (Fin (arrived own V s) +ₑ R (t -ℚ s)) (Fin (arrived own V s) +ₑ Fin (worked own V t -ℚ arrived own V s)) (Fin (worked own V t))
          (add_le_ext (Fin (arrived own V s)) (Fin (arrived own V s)) (R (t -ℚ s)) (Fin (worked own V t -ℚ arrived own V s)) (le_ext_refl (Fin (arrived own V s))) bound)
          (with2 (arrived own V s) (worked own V t) (λ c. omega (arith, c.le, c.lt, c.same)));
    }
  where
    part_caught : (A Ai Ah W Wi Wh : ℚ) → A ≡ Ai +ℚ Ah → W ≡ Wi +ℚ Wh → Wh ≤ℚ Ah → A ≤ℚ W → Ai ≤ℚ Wi
    part_caught A Ai Ah W Wi Wh e f h k = with6 A Ai Ah W Wi Wh (λ c. omega (arith, c.le, c.lt, c.same))

-- where something of the class is there, it is served since the backlogged period of it and those before it
-- began
pub turn_served_since : (server : Server) (end : ℚ) (V : List ServerStep) (own first last up_to : Class) (bits : ℕ) (β higher R : ℚ → Ext)
    → AreInTurn server end V own first last up_to bits → KeepsService β end V → IsZeroAtStart β → KeepsArrivals first higher V
    → IsPriorityService β higher bits R → (t : ℚ) → t ≤ℚ end → departed own V t <ℚ arrived own V t
    → (s : ℚ) × IsBacklogged up_to V s t × IsServed own R V t s
turn_served_since server end V own first last up_to bits β higher R turn service flat keeps running t l waits =
    let lawful = turn.lawful in
    let sum_A = arrived_parts up_to own first V t turn.upto_parts in
    let sum_L = departed_parts up_to own first V t turn.upto_parts in
    let before_L = left_worked server end V first t lawful in
    let before_A = worked_arrived server end V first t lawful in
    let behind : departed up_to V t <ℚ arrived up_to V t =
    below (arrived up_to V t) (arrived own V t) (arrived first V t) (departed up_to V t) (departed own V t) (departed first V t) (worked first V t) sum_A sum_L before_L before_A waits in
    let found = backlogged_since server end V up_to t lawful behind in
    (found.0, found.1, in_period server end V own first last up_to bits β higher R t found.0 turn service flat keeps running l found.1)
  where
    below : (A Ai Ah L Li Lh Wh : ℚ) → A ≡ Ai +ℚ Ah → L ≡ Li +ℚ Lh → Lh ≤ℚ Wh → Wh ≤ℚ Ah → Li <ℚ Ai → L <ℚ A
    below A Ai Ah L Li Lh Wh e f h k m = with7 A Ai Ah L Li Lh Wh (λ c. omega (arith, c.le, c.lt, c.same))

pub turn_serves : (server : Server) (end : ℚ) (V : List ServerStep) (own first last up_to : Class) (bits : ℕ) (β higher R : ℚ → Ext)
    → AreInTurn server end V own first last up_to bits → KeepsService β end V → IsZeroAtStart β → KeepsArrivals first higher V
    → IsPriorityService β higher bits R → Serves own R end V
turn_serves server end V own first last up_to bits β higher R turn service flat keeps running t l =
    elim (le_or_lt (arrived own V t) (departed own V t)) [
      | inl m ↦
          let at_0 : R (int (pos 0)) ≤ₑ Fin (int (pos 0)) =
          smallest (λ y. priority_left β higher bits y.at) (R (int (pos 0))) (Fin (int (pos 0))) (running (int (pos 0)) (le_refl (int (pos 0))))
          (λ y.
          let zero : int (pos 0) ≡ y.at = antisym (y.nonneg, y.most) in
          subst (λ (x : ℚ). priority_left β higher bits x ≤ₑ Fin (int (pos 0))) zero (first_member V first β higher bits (int (pos 0)) flat keeps (le_refl (int (pos 0))))) in
          (t, record { earlier = le_refl t; left = m; kept_up = add_low (arrived own V t) (worked own V t) (R (t -ℚ t)) (itself R t at_0) (le_trans m (left_worked server end V own t turn.lawful)) })
      | inr m ↦
          let since = turn_served_since server end V own first last up_to bits β higher R turn service flat keeps running t l m in
          (since.0, since.2)
    ]
