-- Stairs grow along a tree by a jitter that takes up the stay.
use Rattle.std.specs.Prelude.{◌≤◌, suc, pos}
use Rattle.std.proofs.Common.{arith, inl, inr}
use Rattle.rational.specs.Rational.{ℚ, int, ◌+ℚ◌, ◌≤ℚ◌, ◌<ℚ◌}
use Rattle.rational.specs.Extended.{Ext, ◌≤ₑ◌, ◌+ₑ◌}
use Rattle.rational.specs.declared.Extended.TheVariants.{Fin, Inf}
use Rattle.rational.specs.Whole.{whole_part}
use Rattle.rational.proofs.Integers.{nat_le, nat_lt_out}
use Rattle.rational.proofs.Laws.{le_or_lt, le_trans, le_lt_trans, mul_le_mul}
use Rattle.rational.proofs.Linear.{with2, with4}
use Rattle.rational.proofs.Quotients.{div_mono}
use Rattle.rational.proofs.Whole.{whole_le, whole_gt, whole_small}
use Rattle.min_plus.specs.Formulas.{stair_value}
use Rattle.min_plus.specs.Pointwise.{shifted}
use Rattle.run_laws.specs.Routes.{queue_at}
use Rattle.tree_runs.specs.Trees.{tree_of, hops_in}
use Rattle.tree_runs.specs.Stairs.{stair_of, StairsGrow}

-- a whole part rises
pub whole_rises : (x y : ℚ) → x ≤ℚ y → whole_part x ≤ whole_part y
whole_rises x y l = elim (le_or_lt (int (pos 0)) x) [
  | inl on ↦
      let below = nat_lt_out (whole_part x) (suc (whole_part y)) (le_lt_trans (le_trans (whole_le x on) l) (whole_gt y)) in
      omega arith
  | inr under ↦
      let none = whole_small x (with2 x (int (pos 0)) (λ c. omega (arith, c.le, c.lt, c.same))) in
      omega arith
]

pub stair_rises : (packet period jitter later t u : ℚ) → int (pos 0) ≤ℚ packet → int (pos 0) <ℚ period → t +ℚ jitter ≤ℚ u +ℚ later
    → stair_value packet period jitter t ≤ₑ stair_value packet period later u
stair_rises packet period jitter later t u some on l =
    let steps = whole_rises _ _ (div_mono (t +ℚ jitter) (u +ℚ later) period on l) in
    mul_le_mul packet some (nat_le _ _ (omega arith))

-- a stair is at most a later one whose jitter takes up the stay
pub moved_stair : (packet period : ℚ) (jitter stay later : Ext) (t : ℚ) → int (pos 0) ≤ℚ packet → int (pos 0) <ℚ period
    → (jitter +ₑ stay) ≤ₑ later → shifted (stair_of packet period jitter) stay t ≤ₑ stair_of packet period later t
moved_stair packet period jitter stay Inf t some on h = tt
moved_stair packet period Inf Inf (Fin later) t some on h = absurd h
moved_stair packet period Inf (Fin stay) (Fin later) t some on h = absurd h
moved_stair packet period (Fin jitter) Inf (Fin later) t some on h = absurd h
moved_stair packet period (Fin jitter) (Fin stay) (Fin later) t some on h =
    stair_rises packet period jitter later (t +ℚ stay) t some on (with4 jitter stay later t (λ c. omega (arith, c.le, c.lt, c.same)))

pub stairs_grow : StairsGrow
stairs_grow net packet period jitter delay some on grow i a b live hangs t from =
    moved_stair (packet i) (period i) (jitter i a) (delay a (queue_at a (hops_in (tree_of net i).nodes))) (jitter i b) t (some i) (on i)
    (grow i a b live hangs)
