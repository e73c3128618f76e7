-- Examples of the linear automation, each of another kind of goal or hypothesis; nothing stands on them.
use Rattle.std.specs.Prelude.{◌≡◌}
use Rattle.std.proofs.Common.{arith}
use Rattle.rational.specs.Rational.{ℚ, ◌+ℚ◌, ◌-ℚ◌, ◌≤ℚ◌, ◌<ℚ◌}
use Rattle.rational.proofs.Linear.{with3, with4, with5, with6}

-- a term to the other side
moved : (x y z : ℚ) → x +ℚ y ≤ℚ z → x ≤ℚ z -ℚ y
moved x y z h = with3 x y z (λ c. omega (arith, c.le, c.lt, c.same))

-- a chain of six
chain : (x y z w u v : ℚ) → x -ℚ y ≤ℚ z → u <ℚ v → w ≤ℚ u -ℚ z → x +ℚ w <ℚ v +ℚ y
chain x y z w u v h k l = with6 x y z w u v (λ c. omega (arith, c.le, c.lt, c.same))

-- two halves of an epsilon
halves : (x y a b e h : ℚ) → e ≡ h +ℚ h → a <ℚ x +ℚ h → b <ℚ y +ℚ h → a +ℚ b <ℚ (x +ℚ y) +ℚ e
halves x y a b e h q p r = with5 x y a b h (λ c. omega (arith, c.le, c.lt, c.same))

-- an equation proved outright
equation : (x y z w : ℚ) → x -ℚ (y -ℚ z) ≡ w → (x +ℚ z) -ℚ w ≡ y
equation x y z w h = with4 x y z w (λ o. omega (arith, o.le, o.lt, o.same))

-- a step from each hypothesis that is a function
applied : (f : ℚ → ℚ) (x y : ℚ) → ((e : ℚ) → f e ≤ℚ e +ℚ x) → f y ≤ℚ x +ℚ y
applied f x y h = let k = h y in with3 (f y) x y (λ o. omega (arith, o.le, o.lt, o.same))
