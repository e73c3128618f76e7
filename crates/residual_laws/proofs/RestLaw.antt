-- A class of packets is served by what all others leave: it is the law of classes in turn with none after the two.
use Rattle.std.specs.Prelude.{◌≡◌, pos, false, List, [], ◌∷◌}
use Rattle.std.proofs.Common.{arith, sym, ap, ◌∙◌, refl}
use Rattle.rational.specs.Rational.{ℚ, int, ◌+ℚ◌, ◌-ℚ◌, ◌≤ℚ◌}
use Rattle.rational.specs.MinMax.{max_q}
use Rattle.rational.specs.Extended.{Ext}
use Rattle.rational.specs.declared.Extended.TheVariants.{Fin, Inf}
use Rattle.rational.proofs.Bounds.{same_supremum}
use Rattle.rational.proofs.ExtendedOrder.{same_le_ext}
use Rattle.rational.proofs.Laws.{le_refl}
use Rattle.rational.proofs.Linear.{with1, with2}
use Rattle.rational.proofs.MinMax.{max_q_right, max_q_ge_left}
use Rattle.min_plus.specs.Functions.{UpTo}
use Rattle.min_plus.specs.Pointwise.{excess}
use Rattle.run_laws.specs.Cards.{Class, all, whole, ServerStep, Arrives, Works, Leaves, Visits}
use Rattle.run_laws.specs.Servers.{Server, start}
use Rattle.run_laws.specs.Allows.{IsLawfulView}
use Rattle.run_laws.specs.Counts.{before, worked}
use Rattle.run_laws.specs.Premises.{EachArrival}
use Rattle.run_laws.proofs.Always.{AreAlwaysParts, always_all}
use Rattle.run_laws.proofs.Arrivals.{none_arrive}
use Rattle.run_laws.proofs.Counts.{worked_nonneg}
use Rattle.run_laws.proofs.Cuts.{all_works}
use Rattle.run_laws.proofs.Orders.{worked_arrived}
use Rattle.residual_laws.specs.PriorityLaws.{priority_left, IsPriorityService}
use Rattle.residual_laws.specs.RestLaws.{others, rest_left, IsRestService, RestServes, RestServesSince}
use Rattle.residual_laws.proofs.InTurn.{AreInTurn, turn_served_since, turn_serves}

-- ---- the classes
abbrev none : Class
none c = false

all_parts : AreAlwaysParts all all none
all_parts = record { of_one = λ c. refl; apart = λ c. refl }

nothing_comes : (V : List ServerStep) → EachArrival (λ c. none c ≡ false) V
nothing_comes [] = tt
nothing_comes (Arrives c t ∷ V) = (refl, nothing_comes V)
nothing_comes (Works c a b w ∷ V) = nothing_comes V
nothing_comes (Leaves c t ∷ V) = nothing_comes V
nothing_comes (Visits q t ∷ V) = nothing_comes V

-- no work is on none
no_work : (server : Server) (end : ℚ) (V : List ServerStep) (s z : ℚ) → IsLawfulView server end V
    → worked none V z ≤ℚ worked none V s +ℚ int (pos 0)
no_work server end V s z lawful =
    let few = worked_arrived server end V none z lawful in
    let nothing = none_arrive none (before z) V (nothing_comes V) in
    let some = worked_nonneg none V s (all_works server end (start server.discipline) V lawful.allowed) in
    let at_most : worked none V z ≤ℚ int (pos 0) = rw nothing at few in
    with2 (worked none V z) (worked none V s) (λ c. omega (arith, c.le, c.lt, c.same))

-- ---- what is left
-- less no bits
same_less : (m : ℚ) → int (pos 0) ≤ℚ m → max_q (int (pos 0)) (m -ℚ int (pos 0)) ≡ m
same_less m on =
    let less : m -ℚ int (pos 0) ≡ m = with1 m (λ c. omega (arith, c.le, c.lt, c.same)) in
    ap (max_q (int (pos 0))) less ∙ max_q_right (int (pos 0)) m on

less_nothing : (x y : Ext) → excess (excess x y) (Fin (whole 0)) ≡ excess x y
less_nothing x Inf = ap Fin (same_less (int (pos 0)) (le_refl (int (pos 0))))
less_nothing Inf (Fin y) = refl
less_nothing (Fin x) (Fin y) = ap Fin (same_less (max_q (int (pos 0)) (x -ℚ y)) (max_q_ge_left (int (pos 0)) (x -ℚ y)))

rest_in_turn : (β brought R : ℚ → Ext) → IsRestService β brought R → IsPriorityService β brought 0 R
rest_in_turn β brought R is t on =
    same_supremum (λ (y : UpTo t). rest_left β brought y.at) (λ (y : UpTo t). priority_left β brought 0 y.at) (R t)
    (λ y. (y, same_le_ext (sym (less_nothing (β y.at) (brought y.at)))))
    (λ y. (y, same_le_ext (less_nothing (β y.at) (brought y.at))))
    (is t on)

-- ---- the laws
in_turn : (server : Server) (end : ℚ) (V : List ServerStep) (C : Class) → IsLawfulView server end V
    → AreInTurn server end V C (others C) none all 0
in_turn server end V C lawful = record {
  lawful = lawful;
  all_parts = all_parts;
  upto_parts = always_all C;
  last_work = λ s z l busy. no_work server end V s z lawful;
}

pub rest_serves : RestServes
rest_serves server end V C β brought R lawful service flat keeps is =
    turn_serves server end V C (others C) none all 0 β brought R (in_turn server end V C lawful) service flat keeps
    (rest_in_turn β brought R is)

pub rest_serves_since : RestServesSince
rest_serves_since server end V C β brought R lawful service flat keeps is =
    turn_served_since server end V C (others C) none all 0 β brought R (in_turn server end V C lawful) service flat keeps
    (rest_in_turn β brought R is)
