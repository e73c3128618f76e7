-- Meanings of formulas, put together from those of their parts; and the cells that a small network has.
use Rattle.std.specs.Prelude.{◌≡◌, ℕ, ◌+◌, ◌==◌, ◌&&◌, nat_lt, Bool, IsTrue, List, [], ◌∷◌}
use Rattle.std.proofs.Common.{zero, suc, arith, sym, ap, subst}
use Rattle.std.proofs.lemmas.Bool.{ltb-true, eqb-true, and_parts}
use Rattle.rational.specs.Rational.{ℚ}
use Rattle.rational.specs.Extended.{Ext, min_ext}
use Rattle.min_plus.specs.Deviations.{IsHorizontalDeviation, IsVerticalDeviation}
use Rattle.upp_limits.specs.declared.op_kind.OpKind.{OpKind}
use Rattle.upp_limits.specs.declared.op_kind.OpKind.TheVariants.{Shift, FifoLeft}
use Rattle.upp_curve.specs.Curve.{SpecCurve, value_at}
use Rattle.curve_call.specs.Answers.{IsMadeBy}
use Rattle.net_cells.specs.declared.cell.Cell.{Cell}
use Rattle.net_cells.specs.Formulas.{Formula, made, made_of, moved, leftover, horizontal, vertical, smaller, along, delayed}
use Rattle.net_cells.specs.Meanings.{curve, number, CellTable}
use Rattle.net_cells.specs.Means.{Means, HaveNumbers, with_links}
use Rattle.net_cells.specs.NumberSums.{sum_of_numbers}

-- ---- formulas
module _ (at : CellTable) where
  pub of_two : (op : OpKind) (F G : Formula) (f g h : SpecCurve) → Means at F (curve f) → Means at G (curve g) → IsMadeBy op f g h
      → Means at (made op F G) (curve h)
  of_two op F G f g h p q m = record { operand = f; is = p; gives = record { operand = g; is = q; gives = m } }

  pub of_one : (op : OpKind) (F : Formula) (f h : SpecCurve) → Means at F (curve f) → IsMadeBy op f f h
      → Means at (made_of op F) (curve h)
  of_one op F f h p m = record { operand = f; is = p; gives = m }

  pub of_move : (F T : Formula) (f h : SpecCurve) (x : Ext) → Means at F (curve f) → Means at T (number x) → IsMadeBy (Shift x) f f h
      → Means at (moved F T) (curve h)
  of_move F T f h x p q m = record { operand = f; is = p; gives = record { operand = x; is = q; gives = m } }

  pub of_left : (F G T : Formula) (f g h : SpecCurve) (x : Ext) → Means at F (curve f) → Means at G (curve g) → Means at T (number x)
      → IsMadeBy (FifoLeft x) f g h → Means at (leftover F G T) (curve h)
  of_left F G T f g h x p q r m =
      record { operand = f; is = p; gives = record { operand = g; is = q; gives = record { operand = x; is = r; gives = m } } }

  pub of_horizontal : (F G : Formula) (f g : SpecCurve) (x : Ext) → Means at F (curve f) → Means at G (curve g)
      → IsHorizontalDeviation (value_at f) (value_at g) x → Means at (horizontal F G) (number x)
  of_horizontal F G f g x p q m = record { operand = f; is = p; gives = record { operand = g; is = q; gives = m } }

  pub of_vertical : (F G : Formula) (f g : SpecCurve) (x : Ext) → Means at F (curve f) → Means at G (curve g)
      → IsVerticalDeviation (value_at f) (value_at g) x → Means at (vertical F G) (number x)
  of_vertical F G f g x p q m = record { operand = f; is = p; gives = record { operand = g; is = q; gives = m } }

  pub of_smaller : (F G : Formula) (x y z : Ext) → Means at F (number x) → Means at G (number y) → min_ext x y ≡ z
      → Means at (smaller F G) (number z)
  of_smaller F G x y z p q e =
      record { operand = x; is = p; gives = record { operand = y; is = q; gives = ap number (sym e) } }

  pub of_along : (cells : List Cell) (links : List ℚ) (xs : List Ext) (z : Ext) → HaveNumbers at cells xs
      → sum_of_numbers (with_links xs links) ≡ z → Means at (along cells links) (number z)
  of_along cells links xs z p e = record { numbers = xs; are = p; gives = ap number (sym e) }

  pub of_delayed : (F : Formula) (links : List ℚ) (x z : Ext) → Means at F (number x)
      → sum_of_numbers (with_links (x ∷ []) links) ≡ z → Means at (delayed F links) (number z)
  of_delayed F links x z p e = record { operand = x; is = p; gives = ap number (sym e) }

-- ---- numbers below a small one
-- one for 0, another for what is more
abbrev pub by_number : {X : Type 0} → X → X → ℕ → X
by_number x y zero = x
by_number x y (suc k) = y

pub none_below : (P : ℕ → Type 0) (b : ℕ) → IsTrue (nat_lt b 0) → P b
none_below P b h = let l = ltb-true b 0 h in absurd (omega (arith, l))

pub below_one : (P : ℕ → Type 0) → P 0 → (b : ℕ) → IsTrue (nat_lt b 1) → P b
below_one P p b h = let l = ltb-true b 1 h in let e : 0 ≡ b = omega (arith, l) in subst P e p

pub below_two : (P : ℕ → Type 0) → P 0 → P 1 → (b : ℕ) → IsTrue (nat_lt b 2) → P b
below_two P p q zero h = p
below_two P p q (suc zero) h = q
below_two P p q (suc (suc b)) h = let l = ltb-true (suc (suc b)) 2 h in absurd (omega (arith, l))

-- whose next is below it
pub none_before : (P : ℕ → Type 0) (b : ℕ) → IsTrue (nat_lt (b + 1) 0) → P b
none_before P b h = let l = ltb-true (b + 1) 0 h in absurd (omega (arith, l))

pub none_before_one : (P : ℕ → Type 0) (b : ℕ) → IsTrue (nat_lt (b + 1) 1) → P b
none_before_one P b h = let l = ltb-true (b + 1) 1 h in absurd (omega (arith, l))

pub before_two : (P : ℕ → Type 0) → P 0 → (b : ℕ) → IsTrue (nat_lt (b + 1) 2) → P b
before_two P p b h = let l = ltb-true (b + 1) 2 h in let e : 0 ≡ b = omega (arith, l) in subst P e p

-- 0, and only where a test holds
pub only_zero : (P : ℕ → Type 0) (test : Bool) → P 0 → (b : ℕ) → IsTrue (test && (b == 0)) → P b
only_zero P test p b h =
    let parts = and_parts test (b == 0) h in
    subst P (sym (eqb-true b 0 parts.1)) p
