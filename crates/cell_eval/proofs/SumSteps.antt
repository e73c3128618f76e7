-- Sums of cells' curves, one cell after the other.
use Rattle.std.proofs.Common.{◌≡◌, ℕ, ◌+◌, ◌-◌, ◌≤◌, List, [], ◌∷◌, ◌++◌, length, refl, sym, ap, subst, arith, append_assoc, append-nil, length-append, inl, inr}
use Rattle.std.specs.Prelude.{Some, Result, Ok, Err}
use Rattle.upp_limits.specs.declared.op_kind.OpKind.TheVariants.{Sum}
use Rattle.upp_limits.specs.declared.op_kind.OpFault.{OpFault}
use Rattle.upp_limits.specs.declared.op_kind.OpFault.TheVariants.{NoMemory}
use Rattle.upp_curve.specs.Curve.{SpecCurve}
use Rattle.curve_call.specs.Calls.{Applies, IsApplied}
use Rattle.plain_operators.specs.declared.pointwise.straight.Straight.{Straight}
use Rattle.plain_operators.specs.pointwise.Straight.{straight_curve}
use Rattle.outcomes.specs.Calls.{goes_on}
use Rattle.residuals.specs.calls.InTurn.{on_the_way}
use Rattle.net_cells.specs.declared.cell.Cell.{Cell}
use Rattle.net_cells.specs.Meanings.{curve, CellTable}
use Rattle.curve_call.specs.Again.{IsAgain}
use Rattle.net_cells.specs.Numbered.{zero_curve}
use Rattle.net_cells.specs.Formulas.{Formula, operators, value_of, given, empty_sum, made, made_of, moved, cut, part, no_part, leftover, priority, deficit, horizontal, vertical, smaller, along, delayed}
use Rattle.net_cells.specs.CellFormulas.{sum_of_cells, sum_from}
use Rattle.net_cells.specs.Answers.{Answer, Answers, MakesCurve}
use Rattle.net_cells.specs.Refusals.{RefusedAt, Stops}
use Rattle.net_cells.proofs.Placing.{refusals_placed}
use Rattle.net_cells.proofs.Works.{terms}
use Rattle.net_cells.specs.cell_table.Gives.{Gives}
use Rattle.cell_eval.specs.declared.curve_sums.Partial.{Partial}
use Rattle.cell_eval.specs.declared.curve_sums.Partial.TheVariants.{Nothing, One, Made}
use Rattle.cell_eval.specs.Sharing.{IsShared}
use Rattle.cell_eval.specs.Partial.{IsSumOf, IsSummed, IsPartial, Fails, FailsAt, Adds, sum_made}
use Rattle.cell_eval.proofs.OperatorStopping.{both_refused}

-- ---- formulas
from_join : (F : Formula) (xs ys : List Cell) → sum_from F (xs ++ ys) ≡ sum_from (sum_from F xs) ys
from_join F [] ys = refl
from_join F (x ∷ xs) ys = from_join (made Sum F (value_of x)) xs ys

sum_more : (x : Cell) (xs : List Cell) (y : Cell) → sum_of_cells ((x ∷ xs) ++ y ∷ []) ≡ made Sum (sum_of_cells (x ∷ xs)) (value_of y)
sum_more x xs y = from_join (value_of x) xs (y ∷ [])

-- a sum that is refused is refused whatever comes after
left_over : (at : CellTable) (F : Formula) (rest : List Cell) (fault : OpFault) (n : ℕ) → RefusedAt at F fault n
    → RefusedAt at (sum_from F rest) fault n
left_over at F [] fault n a = a
left_over at F (c ∷ cs) fault n a = left_over at (made Sum F (value_of c)) cs fault n (on_the_way a)

fails : (at : CellTable) (cells : List Cell) (fault : OpFault) (n : ℕ) → 1 ≤ length cells → RefusedAt at (sum_of_cells cells) fault n
    → Fails at cells fault n
fails at [] fault n some a rest = absurd (omega (arith, some))
fails at (x ∷ xs) fault n some a rest =
    subst (λ (F : Formula). RefusedAt at F fault n) (sym (from_join (value_of x) xs rest))
    (left_over at (sum_from (value_of x) xs) rest fault n a)

fails_more : (at : CellTable) (cells more : List Cell) (fault : OpFault) (n : ℕ) → Fails at cells fault n → Fails at (cells ++ more) fault n
fails_more at cells more fault n f rest =
    subst (λ (cs : List Cell). RefusedAt at (sum_of_cells cs) fault n) (sym (append_assoc cells more rest)) (f (more ++ rest))

-- of the sum of these cells itself
pub failed_at : (at : CellTable) (cells : List Cell) (old new : ℕ) (fault : OpFault) → FailsAt at [] cells old new fault
    → RefusedAt at (sum_of_cells cells) fault (new - old)
failed_at at cells old new fault f =
    let count = f.count in
    let same : f.counted ≡ new - old = omega (arith, count) in
    subst (λ n. RefusedAt at (sum_of_cells cells) fault n) same
    (subst (λ (cs : List Cell). RefusedAt at (sum_of_cells cs) fault f.counted) (append-nil cells) (f.fails []))

pub failed_answer : (at : CellTable) (cells : List Cell) (old new : ℕ) (fault : OpFault) → FailsAt at [] cells old new fault
    → Answers at (sum_of_cells cells) (Err fault)
failed_answer at cells old new fault f =
    (refusals_placed at (sum_of_cells cells)).refused fault (new - old) (failed_at at cells old new fault f)

-- ---- a cell more
step : (at : CellTable) (cells : List Cell) (f g : SpecCurve) (cell : Cell) (r : Answer) → IsSummed at cells f → at cell ≡ Some (curve g)
    → ((F : Formula) → Answers at F (Ok (curve f)) → Answers at (made Sum F (value_of cell)) r) → Answers at (sum_of_cells (cells ++ cell ∷ [])) r
step at [] f g cell r s is to = let some = s.some in absurd (omega (arith, some))
step at (x ∷ xs) f g cell r s is to = subst (λ (F : Formula). Answers at F r) (sym (sum_more x xs cell)) (to (sum_of_cells (x ∷ xs)) s.answers)

-- and with a refusal, where so many operators are counted
step_refused : (at : CellTable) (cells : List Cell) (f g : SpecCurve) (cell : Cell) (fault : OpFault) → IsSummed at cells f
    → at cell ≡ Some (curve g) → Applies Sum f g (Err fault) → RefusedAt at (sum_of_cells (cells ++ cell ∷ [])) fault (length cells)
step_refused at [] f g cell fault s is a = let some = s.some in absurd (omega (arith, some))
step_refused at (x ∷ xs) f g cell fault s is a =
    let before = terms (x ∷ xs) in
    let count : operators (sum_of_cells (x ∷ xs)) + (0 + 1) ≡ length (x ∷ xs) = omega (arith, before) in
    subst (λ (F : Formula). RefusedAt at F fault (length (x ∷ xs))) (sym (sum_more x xs cell))
    (subst (λ n. RefusedAt at (made Sum (sum_of_cells (x ∷ xs)) (value_of cell)) fault n) count
    (both_refused at (sum_of_cells (x ∷ xs)) (value_of cell) Sum f g fault s.answers is a))

longer : (cells : List Cell) (cell : Cell) → length (cells ++ cell ∷ []) ≡ length cells + 1
longer cells cell = length-append cells (cell ∷ [])

adds_made : (at : CellTable) (cells : List Cell) (f g h : SpecCurve) (cell : Cell) (old new : ℕ) → IsSummed at cells f
    → at cell ≡ Some (curve g) → Applies Sum f g (Ok h) → new ≡ old + 1 → Adds at cells (cell ∷ []) old new (Ok (Made h))
adds_made at cells f g h cell old new s is a count = (
  record {
    some = let some = s.some in let l = longer cells cell in omega (arith, some, l);
    answers = step at cells f g cell (Ok (curve h)) s is (λ F p. goes_on (curve f) p (goes_on (curve g) is a));
    lacks = let l = longer cells cell in
        let same : length cells ≡ length (cells ++ cell ∷ []) - 1 = omega (arith, l) in
        subst (λ n. RefusedAt at (sum_of_cells (cells ++ cell ∷ [])) NoMemory n) same
        (step_refused at cells f g cell NoMemory s is a.within);
  },
  let some = s.some in let l = longer cells cell in omega (arith, some, l, count),
)

adds_refused : (at : CellTable) (cells : List Cell) (f g : SpecCurve) (fault : OpFault) (cell : Cell) (old new : ℕ) → IsSummed at cells f
    → at cell ≡ Some (curve g) → Applies Sum f g (Err fault) → new ≡ old + 1 → Adds at cells (cell ∷ []) old new (Err fault)
adds_refused at cells f g fault cell old new s is a count =
    let some = s.some in
    let l = longer cells cell in (
      record {
        counted = length cells;
        fails = fails at (cells ++ cell ∷ []) fault (length cells) (omega (arith, l)) (step_refused at cells f g cell fault s is a);
        count = omega (arith, some, count);
      },
      omega (arith, count),
      omega (arith, some, l, count),
    )

pub adds_sum : (at : CellTable) (cells : List Cell) (f g : SpecCurve) (cell : Cell) (old new : ℕ) (r : Result SpecCurve OpFault)
    → IsSummed at cells f → at cell ≡ Some (curve g) → Applies Sum f g r → new ≡ old + 1 → Adds at cells (cell ∷ []) old new (sum_made r)
adds_sum at cells f g cell old new (Ok h) = adds_made at cells f g h cell old new
adds_sum at cells f g cell old new (Err fault) = adds_refused at cells f g fault cell old new

-- of lines whose numbers alone are kept
pub adds_line : (at : CellTable) (cells : List Cell) (f g : SpecCurve) (s : Straight) (cell : Cell) (old new : ℕ) → IsSummed at cells f
    → at cell ≡ Some (curve g) → IsApplied Sum f g (straight_curve s) → new ≡ old + 1
    → Adds at cells (cell ∷ []) old new (Ok (Made (straight_curve s)))
adds_line at cells f g s cell old new = adds_made at cells f g (straight_curve s) cell old new

-- where there is no memory for the curve of those so far
pub adds_unmade : (at : CellTable) (cells : List Cell) (f : SpecCurve) (cell : Cell) (old : ℕ) → IsSumOf at cells f
    → Adds at cells (cell ∷ []) old old (Err NoMemory)
adds_unmade at cells f cell old s =
    let some = s.some in
    let l = longer cells cell in (
      record {
        counted = length cells - 1;
        fails = fails_more at cells (cell ∷ []) NoMemory (length cells - 1) (fails at cells NoMemory (length cells - 1) (omega (arith, some)) s.lacks);
        count = omega arith;
      },
      omega arith,
      omega (arith, l),
    )

pub all_unmade : (at : CellTable) (cells : List Cell) (old new : ℕ) (f : SpecCurve) → Adds at [] cells old new (Ok (Made f))
    → Adds at [] cells old new (Err NoMemory)
all_unmade at cells old new f a =
    let s = a.0 in
    let some = s.some in
    let count = a.1 in (
      record {
        counted = length cells - 1;
        fails = fails at cells NoMemory (length cells - 1) (omega (arith, some)) s.lacks;
        count = omega (arith, count);
      },
      omega (arith, count),
      omega (arith, count),
    )

pub adds_first : (at : CellTable) (cells : List Cell) (cell : Cell) (old : ℕ) → cells ≡ [] → Adds at cells (cell ∷ []) old old (Ok (One cell))
adds_first at cells cell old e = subst (λ (cs : List Cell). Adds at cs (cell ∷ []) old old (Ok (One cell))) (sym e) (refl, refl)

pub one_summed : (at : CellTable) (cells : List Cell) (cell : Cell) (f : SpecCurve) → cells ≡ cell ∷ [] → at cell ≡ Some (curve f) → IsSummed at cells f
one_summed at cells cell f e is =
    subst (λ (cs : List Cell). IsSummed at cs f) (sym e) (record { some = omega arith; answers = is })

pub made_summed : (at : CellTable) (cells : List Cell) (f : SpecCurve) → IsSumOf at cells f → IsSummed at cells f
made_summed at cells f s = record { some = let some = s.some in omega (arith, some); answers = s.answers }

-- ---- more cells
pub adds_none : (at : CellTable) (cells : List Cell) (p : Partial) (old : ℕ) → IsPartial at cells p → Adds at cells [] old old (Ok p)
adds_none at cells p old is = (
  subst (λ (cs : List Cell). IsPartial at cs p) (sym (append-nil cells)) is,
  ap (λ (cs : List Cell). old + (length cs - 1)) (sym (append-nil cells)),
)

pub adds_then : (at : CellTable) (cells more next : List Cell) (old mid new : ℕ) (p : Partial) (r : Result Partial OpFault)
    → Adds at cells more old mid (Ok p) → Adds at (cells ++ more) next mid new r → Adds at cells (more ++ next) old new r
adds_then at cells more next old mid new p (Ok q) a b =
    let same = append_assoc cells more next in (
      subst (λ (cs : List Cell). IsPartial at cs q) same b.0,
      let e = ap (λ (cs : List Cell). length cs) same in let l = length-append cells more in let n = length-append (cells ++ more) next in
          omega (arith, a.1, b.1, e, l, n),
    )
adds_then at cells more next old mid new p (Err fault) a b =
    let same = append_assoc cells more next in
    let e = ap (λ (cs : List Cell). length cs) same in
    let l = length-append cells more in
    let n = length-append (cells ++ more) next in (
      record {
        counted = b.0.counted;
        fails = subst (λ (cs : List Cell). Fails at cs fault b.0.counted) same b.0.fails;
        count = let made = b.0.count in omega (arith, a.1, made);
      },
      omega (arith, a.1, b.1, e, l, n),
      omega (arith, a.1, b.1, b.2, e, l, n),
    )

pub adds_rest : (at : CellTable) (cells more rest : List Cell) (old new : ℕ) (fault : OpFault)
    → Adds at cells more old new (Err fault) → Adds at cells (more ++ rest) old new (Err fault)
adds_rest at cells more rest old new fault a =
    let same = append_assoc cells more rest in
    let e = ap (λ (cs : List Cell). length cs) same in
    let n = length-append (cells ++ more) rest in (
      record {
        counted = a.0.counted;
        fails = subst (λ (cs : List Cell). Fails at cs fault a.0.counted) same (fails_more at (cells ++ more) rest fault a.0.counted a.0.fails);
        count = a.0.count;
      },
      a.1,
      omega (arith, a.2, e, n),
    )

-- ---- the value of a sum
made_gives : (at : CellTable) (F G : Formula) (rest : List Cell) (r : Answer) → Answers at (sum_from (made Sum F G) rest) r
    → Gives at (sum_from (made Sum F G) rest) r
made_gives at F G [] r a = a
made_gives at F G (c ∷ cs) r a = made_gives at (made Sum F G) (value_of c) cs r a

sum_gives : (at : CellTable) (cells : List Cell) (r : Answer) → 2 ≤ length cells → Answers at (sum_of_cells cells) r → Gives at (sum_of_cells cells) r
sum_gives at [] r h a = absurd (omega (arith, h))
sum_gives at (x ∷ []) r h a = absurd (omega (arith, h))
sum_gives at (x ∷ y ∷ cells) r h a = made_gives at (value_of x) (value_of y) cells r a

pub none_given : (at : CellTable) (cells : List Cell) (r : Answer) → cells ≡ [] → MakesCurve (IsAgain zero_curve) r → Gives at (sum_of_cells cells) r
none_given at cells r e a = subst (λ (cs : List Cell). Gives at (sum_of_cells cs) r) (sym e) a

pub one_given : (at : CellTable) (cells : List Cell) (c : Cell) (r : Answer) → cells ≡ c ∷ [] → Gives at (value_of c) r → Gives at (sum_of_cells cells) r
one_given at cells c r e a = subst (λ (cs : List Cell). Gives at (sum_of_cells cs) r) (sym e) a

pub made_given : (at : CellTable) (cells : List Cell) (f : SpecCurve) (r : Answer) → IsSumOf at cells f → IsShared (Ok f) r → Gives at (sum_of_cells cells) r
made_given at cells f (Ok v) s e = sum_gives at cells (Ok v) s.some (subst (λ w. Answers at (sum_of_cells cells) (Ok w)) (sym e) s.answers)
made_given at cells f (Err fault) s e =
    sum_gives at cells (Err fault) s.some
    (subst (λ d. Answers at (sum_of_cells cells) (Err d)) (sym e)
    ((refusals_placed at (sum_of_cells cells)).refused NoMemory (length cells - 1) s.lacks))

err_gives : (at : CellTable) (F : Formula) (fault : OpFault) → Answers at F (Err fault) → Gives at F (Err fault)
err_gives at (value_of c) fault a = absurd a
err_gives at (given f) fault a = a
err_gives at empty_sum fault a = a
err_gives at (made op F G) fault a = a
err_gives at (made_of op F) fault a = a
err_gives at (moved F T) fault a = a
err_gives at (cut F server bits rate) fault a = a
err_gives at (part F G) fault a = a
err_gives at no_part fault a = a
err_gives at (leftover F G T) fault a = a
err_gives at (priority f F lower) fault a = a
err_gives at (deficit f quanta longest queue) fault a = a
err_gives at (horizontal F G) fault a = a
err_gives at (vertical F G) fault a = a
err_gives at (smaller F G) fault a = a
err_gives at (along cells links) fault a = a
err_gives at (delayed F links) fault a = a

pub failed_given : (at : CellTable) (cells : List Cell) (old new : ℕ) (fault : OpFault) → FailsAt at [] cells old new fault
    → Gives at (sum_of_cells cells) (Err fault)
failed_given at cells old new fault f = err_gives at (sum_of_cells cells) fault (failed_answer at cells old new fault f)

-- a sum that was made, where there is no memory to keep it
pub made_stops : (at : CellTable) (cells : List Cell) (p : Partial) (old new : ℕ) → Adds at [] cells old new (Ok p)
    → Stops at (sum_of_cells cells) NoMemory (new - old)
made_stops at cells Nothing old new a =
    let none = ap (λ (cs : List Cell). length cs) a.0 in
    let count = a.1 in
    inl (omega (arith, count, none), refl)
made_stops at cells (One c) old new a =
    let one = ap (λ (cs : List Cell). length cs) a.0 in
    let count = a.1 in
    inl (omega (arith, count, one), refl)
made_stops at cells (Made f) old new a =
    let count = a.1 in
    let same : length cells - 1 ≡ new - old = omega (arith, count) in
    inr (subst (λ n. RefusedAt at (sum_of_cells cells) NoMemory n) same a.0.lacks)
