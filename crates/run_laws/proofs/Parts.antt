-- The counts of a class are the sums of its parts'.
use Rattle.std.specs.Prelude.{◌≡◌, Bool, true, false, ◌&&◌, ◌||◌, List}
use Rattle.std.proofs.Common.{arith}
use Rattle.rational.specs.Rational.{ℚ, ◌+ℚ◌}
use Rattle.rational.proofs.Linear.{with1}
use Rattle.run_laws.specs.Cards.{size, Class, ServerStep, Arrives, Works, Leaves, Visits}
use Rattle.run_laws.proofs.Always.{AreAlwaysParts}
use Rattle.run_laws.specs.Servers.{clip}
use Rattle.run_laws.specs.Counts.{when, total, arrives, leaves, works, before, arrived, worked, departed}
use Rattle.run_laws.proofs.Sums.{each_all, total_sum, nothing}

-- ---- the counts of the parts add up
part_when : (Q f g test : Bool) (x : ℚ) → Q ≡ (f || g) → (f && g) ≡ false → when (Q && test) x ≡ when (f && test) x +ℚ when (g && test) x
unfolding when
part_when Q true true test x h k = absurd (cc)
part_when Q true false true x h k = rw h (with1 x (λ c. omega (arith, c.le, c.lt, c.same)))
part_when Q true false false x h k = rw h (with1 x (λ c. omega (arith, c.le, c.lt, c.same)))
part_when Q false true true x h k = rw h (with1 x (λ c. omega (arith, c.le, c.lt, c.same)))
part_when Q false true false x h k = rw h (with1 x (λ c. omega (arith, c.le, c.lt, c.same)))
part_when Q false false test x h k = rw h (with1 x (λ c. omega (arith, c.le, c.lt, c.same)))

part_all : (Q f g : Bool) (x : ℚ) → Q ≡ (f || g) → (f && g) ≡ false → when Q x ≡ when f x +ℚ when g x
unfolding when
part_all Q true true x h k = absurd (cc)
part_all Q true false x h k = rw h (with1 x (λ c. omega (arith, c.le, c.lt, c.same)))
part_all Q false true x h k = rw h (with1 x (λ c. omega (arith, c.le, c.lt, c.same)))
part_all Q false false x h k = rw h (with1 x (λ c. omega (arith, c.le, c.lt, c.same)))

arrives_parts : (Q f g : Class) (p : ℚ → Bool) → AreAlwaysParts Q f g → (x : ServerStep) → arrives Q p x ≡ arrives f p x +ℚ arrives g p x
arrives_parts Q f g p a (Arrives c t) = part_when (Q c) (f c) (g c) (p t) (size c) (a.of_one c) (a.apart c)
arrives_parts Q f g p a (Works c b e w) = nothing
arrives_parts Q f g p a (Leaves c t) = nothing
arrives_parts Q f g p a (Visits q t) = nothing

works_parts : (Q f g : Class) (t : ℚ) → AreAlwaysParts Q f g → (x : ServerStep) → works Q t x ≡ works f t x +ℚ works g t x
works_parts Q f g t a (Arrives c u) = nothing
works_parts Q f g t a (Works c b e w) = part_all (Q c) (f c) (g c) (clip record { start = b; end = e; bits = w } t) (a.of_one c) (a.apart c)
works_parts Q f g t a (Leaves c u) = nothing
works_parts Q f g t a (Visits q u) = nothing

pub arrivals_parts : (Q f g : Class) (p : ℚ → Bool) (V : List ServerStep) → AreAlwaysParts Q f g
    → total (arrives Q p) V ≡ total (arrives f p) V +ℚ total (arrives g p) V
arrivals_parts Q f g p V a = total_sum (arrives Q p) (arrives f p) (arrives g p) V (each_all (λ x. arrives Q p x ≡ arrives f p x +ℚ arrives g p x) (arrives_parts Q f g p a) V)

pub arrived_parts : (Q f g : Class) (V : List ServerStep) (t : ℚ) → AreAlwaysParts Q f g → arrived Q V t ≡ arrived f V t +ℚ arrived g V t
arrived_parts Q f g V t a = arrivals_parts Q f g (before t) V a

pub worked_parts : (Q f g : Class) (V : List ServerStep) (t : ℚ) → AreAlwaysParts Q f g → worked Q V t ≡ worked f V t +ℚ worked g V t
worked_parts Q f g V t a = total_sum (works Q t) (works f t) (works g t) V (each_all (λ x. works Q t x ≡ works f t x +ℚ works g t x) (works_parts Q f g t a) V)

leaves_parts : (Q f g : Class) (p : ℚ → Bool) → AreAlwaysParts Q f g → (x : ServerStep) → leaves Q p x ≡ leaves f p x +ℚ leaves g p x
leaves_parts Q f g p a (Arrives c t) = nothing
leaves_parts Q f g p a (Works c b e w) = nothing
leaves_parts Q f g p a (Leaves c t) = part_when (Q c) (f c) (g c) (p t) (size c) (a.of_one c) (a.apart c)
leaves_parts Q f g p a (Visits q t) = nothing

pub departed_parts : (Q f g : Class) (V : List ServerStep) (t : ℚ) → AreAlwaysParts Q f g → departed Q V t ≡ departed f V t +ℚ departed g V t
departed_parts Q f g V t a = total_sum (leaves Q (before t)) (leaves f (before t)) (leaves g (before t)) V (each_all (λ x. leaves Q (before t) x ≡ leaves f (before t) x +ℚ leaves g (before t) x) (leaves_parts Q f g (before t) a) V)
