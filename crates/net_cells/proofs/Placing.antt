-- Where the making of a formula's value is refused has a place among its operators.
use Rattle.std.proofs.Common.{◌≡◌, ℕ, ◌+◌, ◌-◌, ◌≤◌, List, [], ◌∷◌, ◌++◌, length, refl, arith, length-append}
use Rattle.std.specs.Prelude.{Some, Result, if◌then◌else◌}
use Rattle.rational.specs.Extended.{Ext, min_ext}
use Rattle.upp_limits.specs.declared.op_kind.OpKind.{OpKind}
use Rattle.upp_limits.specs.declared.op_kind.OpKind.TheVariants.{Sum, Min, Shift, FifoLeft, Horizontal, Vertical}
use Rattle.upp_limits.specs.declared.op_kind.OpFault.{OpFault}
use Rattle.upp_curve.specs.Curve.{SpecCurve}
use Rattle.upp_curve.specs.Kinds.{bucket}
use Rattle.run_laws.specs.Cards.{whole}
use Rattle.min_plus.specs.Deviations.{IsHorizontalDeviation, IsVerticalDeviation}
use Rattle.residuals.specs.CurveCalls.{IsAgain, again_determined, Applies, AppliesTo}
use Rattle.residuals.specs.calls.PriorityCalls.{MakesPriority}
use Rattle.residuals.specs.calls.DrrCalls.{MakesDrr}
use Rattle.residuals.specs.calls.InTurn.{AtCall, InTurn, IsPlaced, PriorityRefused, DrrRefused}
use Rattle.residuals.proofs.calls.Placed.{call_placed, applies_placed, then_placed, placed_within, services_placed}
use Rattle.net_cells.specs.Numbered.{zero_curve}
use Rattle.net_cells.specs.Meanings.{Meaning, curve, number, CellTable}
use Rattle.net_cells.specs.NumberSums.{Sums}
use Rattle.net_cells.specs.Formulas.{Formula, is_more, operators, value_of, given, empty_sum, made, made_of, moved, cut, part, no_part, leftover, priority, deficit, horizontal, vertical, smaller, along, delayed}
use Rattle.net_cells.specs.Means.{with_links}
use Rattle.net_cells.specs.Answers.{Answer, Answers, AnswersFrom, SumsOnto, SumsOf, IsOnly, MakesCurve, MakesNumber, Deviates, OnCurve, OnNumber, ThenCurve, ThenNumber}
use Rattle.net_cells.specs.Refusals.{AtNone, FromCurve, FromNumber, SumsOntoRefused, SumsRefused, RefusedFrom, RefusedAt}
use Rattle.net_cells.specs.Laws.{RefusalsArePlaced}
use Rattle.net_cells.proofs.OneAnswer.{answers_one, curve_determined, made_determined}

-- ---- one call
curve_placed : (R : OpFault → ℕ → Type 0) (P : Result SpecCurve OpFault → Type 0) (k : ℕ) → IsPlaced R P k → IsPlaced R (MakesCurve P) k
curve_placed R P k p = record { place = p.place; refused = p.refused; most = p.most; least = p.least; sooner = p.sooner }

number_placed : (R : OpFault → ℕ → Type 0) (P : Result Ext OpFault → Type 0) (k : ℕ) → IsPlaced R P k → IsPlaced R (MakesNumber P) k
number_placed R P k p = record { place = p.place; refused = p.refused; most = p.most; least = p.least; sooner = p.sooner }

made_placed : (op : OpKind) (f g : SpecCurve) → IsPlaced (AtCall (Applies op f g)) (MakesCurve (Applies op f g)) 1
made_placed op f g = curve_placed (AtCall (Applies op f g)) (Applies op f g) 1 (applies_placed op f g)

again_placed : (f : SpecCurve) → IsPlaced AtNone (MakesCurve (IsAgain f)) 0
again_placed f = record {
  place = λ fault p. (0, (refl, p));
  refused = λ fault n r. r.1;
  most = λ n r. let e = r.0 in omega (arith, e);
  least = λ fault n limit r. absurd (limit r.1);
  sooner = λ fault n m limit r s. absurd (limit s.1);
}

only_placed : (P : Meaning → Type 0) → IsPlaced (λ fault n. ⊥) (IsOnly P) 0
only_placed P = record {
  place = λ fault p. absurd p;
  refused = λ fault n r. absurd r;
  most = λ n r. absurd r;
  least = λ fault n limit r. absurd r;
  sooner = λ fault n m limit r s. absurd r;
}

-- a sum of numbers is never refused for want of memory
numbers_placed : (xs : List Ext) → IsPlaced (AtCall (Sums xs)) (MakesNumber (Sums xs)) 0
numbers_placed xs = record {
  place = λ fault p. (1, (refl, p));
  refused = λ fault n r. r.1;
  most = λ n r. absurd r.1;
  least = λ fault n limit r. let e = r.0 in omega (arith, e);
  sooner = λ fault n m limit r s. absurd r.1;
}

-- ---- after a curve, after a number
after_curve : (R : SpecCurve → OpFault → ℕ → Type 0) (Q : SpecCurve → Answer → Type 0) (j : ℕ) → ((f : SpecCurve) → IsPlaced (R f) (Q f) j)
    → (v : Meaning) → IsPlaced (FromCurve R v) (OnCurve Q v) j
after_curve R Q j h (curve f) =
    let p = h f in record { place = p.place; refused = p.refused; most = p.most; least = p.least; sooner = p.sooner }
after_curve R Q j h (number x) = record {
  place = λ fault p. absurd p;
  refused = λ fault n r. absurd r;
  most = λ n r. absurd r;
  least = λ fault n limit r. absurd r;
  sooner = λ fault n m limit r s. absurd r;
}

after_number : (R : Ext → OpFault → ℕ → Type 0) (Q : Ext → Answer → Type 0) (j : ℕ) → ((x : Ext) → IsPlaced (R x) (Q x) j)
    → (v : Meaning) → IsPlaced (FromNumber R v) (OnNumber Q v) j
after_number R Q j h (curve f) = record {
  place = λ fault p. absurd p;
  refused = λ fault n r. absurd r;
  most = λ n r. absurd r;
  least = λ fault n limit r. absurd r;
  sooner = λ fault n m limit r s. absurd r;
}
after_number R Q j h (number x) =
    let p = h x in record { place = p.place; refused = p.refused; most = p.most; least = p.least; sooner = p.sooner }

-- on what a formula answers, where that is a curve, a number
module _ (at : CellTable) (F : Formula) (p : IsPlaced (RefusedAt at F) (Answers at F) (operators F)) where
  on_curve : (R : SpecCurve → OpFault → ℕ → Type 0) (Q : SpecCurve → Answer → Type 0) (j : ℕ) → ((f : SpecCurve) → IsPlaced (R f) (Q f) j)
      → IsPlaced (InTurn (RefusedAt at F) (Answers at F) (operators F) (FromCurve R)) (ThenCurve (Answers at F) Q) (operators F + j)
  on_curve R Q j q =
      then_placed (RefusedAt at F) (Answers at F) (operators F) (FromCurve R) (OnCurve Q) j p (after_curve R Q j q) (answers_one at F)

  on_number : (R : Ext → OpFault → ℕ → Type 0) (Q : Ext → Answer → Type 0) (j : ℕ) → ((x : Ext) → IsPlaced (R x) (Q x) j)
      → IsPlaced (InTurn (RefusedAt at F) (Answers at F) (operators F) (FromNumber R)) (ThenNumber (Answers at F) Q) (operators F + j)
  on_number R Q j q =
      then_placed (RefusedAt at F) (Answers at F) (operators F) (FromNumber R) (OnNumber Q) j p (after_number R Q j q) (answers_one at F)

-- ---- sums of curves
onto_placed : (f : SpecCurve) (gs : List SpecCurve) → IsPlaced (SumsOntoRefused f gs) (SumsOnto f gs) (length gs)
onto_placed f [] = again_placed f
onto_placed f (g ∷ gs) =
    placed_within _ _ (1 + length gs) (length (g ∷ gs)) (omega arith)
    (then_placed (AtCall (Applies Sum f g)) (MakesCurve (Applies Sum f g)) 1 (FromCurve (λ h. SumsOntoRefused h gs)) (OnCurve (λ h. SumsOnto h gs))
    (length gs) (made_placed Sum f g)
    (after_curve (λ h. SumsOntoRefused h gs) (λ h. SumsOnto h gs) (length gs) (λ h. onto_placed h gs)) (made_determined Sum f g))

sums_placed : (fs : List SpecCurve) → IsPlaced (SumsRefused fs) (SumsOf fs) (length fs - 1)
sums_placed [] = again_placed zero_curve
sums_placed (f ∷ fs) = placed_within _ _ (length fs) (length (f ∷ fs) - 1) (omega arith) (onto_placed f fs)

-- ---- formulas
-- the operators that n parts before it add
abbrev held : Formula → ℕ → ℕ
held (part F G) n = n
held no_part n = n - 1
held _ n = 0

none_held : (F : Formula) → held F 0 ≤ 0
none_held (part F G) = omega arith
none_held no_part = omega arith
none_held _ = omega arith

held_more : (G : Formula) (n : ℕ) → held G (n + 1) ≤ (if is_more G then 1 else 0) + n
held_more (part F G) n = omega arith
held_more no_part n = omega arith
held_more _ n = omega arith

bare : (at : CellTable) (F : Formula) → IsPlaced (RefusedFrom at F []) (AnswersFrom at F []) (operators F + held F 0)
    → IsPlaced (RefusedAt at F) (Answers at F) (operators F)
bare at F p = let none = none_held F in placed_within _ _ (operators F + held F 0) (operators F) (omega (arith, none)) p

placed : (at : CellTable) (F : Formula) (fs : List SpecCurve) → IsPlaced (RefusedFrom at F fs) (AnswersFrom at F fs) (operators F + held F (length fs))
placed at (value_of c) fs = only_placed (λ v. at c ≡ Some v)
placed at (given f) fs = again_placed f
placed at empty_sum fs = again_placed zero_curve
placed at (made op F G) fs =
    placed_within _ _ (operators F + (operators G + 1)) (operators F + operators G + 1 + 0) (omega arith)
    (on_curve at F (bare at F (placed at F [])) (λ f. InTurn (RefusedAt at G) (Answers at G) (operators G) (FromCurve (λ g. AtCall (Applies op f g))))
    (λ f. ThenCurve (Answers at G) (λ g. MakesCurve (Applies op f g))) (operators G + 1)
    (λ f. on_curve at G (bare at G (placed at G [])) (λ g. AtCall (Applies op f g)) (λ g. MakesCurve (Applies op f g)) 1 (λ g. made_placed op f g)))
placed at (made_of op F) fs =
    placed_within _ _ (operators F + 1) (operators F + 1 + 0) (omega arith)
    (on_curve at F (bare at F (placed at F [])) (λ f. AtCall (AppliesTo op f)) (λ f. MakesCurve (AppliesTo op f)) 1 (λ f. made_placed op f f))
placed at (moved F T) fs =
    placed_within _ _ (operators F + (operators T + 1)) (operators F + operators T + 1 + 0) (omega arith)
    (on_curve at F (bare at F (placed at F []))
    (λ f. InTurn (RefusedAt at T) (Answers at T) (operators T) (FromNumber (λ x. AtCall (AppliesTo (Shift x) f))))
    (λ f. ThenNumber (Answers at T) (λ x. MakesCurve (AppliesTo (Shift x) f))) (operators T + 1)
    (λ f. on_number at T (bare at T (placed at T [])) (λ x. AtCall (AppliesTo (Shift x) f)) (λ x. MakesCurve (AppliesTo (Shift x) f)) 1
    (λ x. made_placed (Shift x) f f)))
placed at (cut F server bits rate) fs =
    let B = bucket (whole bits) rate in
    placed_within _ _ (operators F + 1) (operators F + 1 + 0) (omega arith)
    (on_curve at F (bare at F (placed at F []))
    (λ f. InTurn AtNone (MakesCurve (IsAgain B)) 0 (FromCurve (λ g. AtCall (Applies Min f g))))
    (λ f. ThenCurve (MakesCurve (IsAgain B)) (λ g. MakesCurve (Applies Min f g))) 1
    (λ f. then_placed AtNone (MakesCurve (IsAgain B)) 0 (FromCurve (λ g. AtCall (Applies Min f g))) (OnCurve (λ g. MakesCurve (Applies Min f g))) 1
    (again_placed B) (after_curve (λ g. AtCall (Applies Min f g)) (λ g. MakesCurve (Applies Min f g)) 1 (λ g. made_placed Min f g))
    (curve_determined (IsAgain B) (again_determined B))))
placed at (part F G) fs =
    let more = (if is_more G then 1 else 0) in
    let rest = held_more G (length fs) in
    placed_within _ _ (operators F + (operators G + (more + length fs))) (operators F + operators G + more + length fs) (omega arith)
    (on_curve at F (bare at F (placed at F [])) (λ f. RefusedFrom at G (fs ++ f ∷ [])) (λ f. AnswersFrom at G (fs ++ f ∷ []))
    (operators G + (more + length fs))
    (λ f. let one = length-append fs (f ∷ []) in
    let few : operators G + held G (length (fs ++ f ∷ [])) ≤ operators G + (more + length fs) = rw one (omega (arith, rest)) in
    placed_within _ _ (operators G + held G (length (fs ++ f ∷ []))) (operators G + (more + length fs)) few (placed at G (fs ++ f ∷ []))))
placed at no_part fs = placed_within _ _ (length fs - 1) (0 + (length fs - 1)) (omega arith) (sums_placed fs)
placed at (leftover F G T) fs =
    placed_within _ _ (operators F + (operators G + (operators T + 1))) (operators F + operators G + operators T + 1 + 0) (omega arith)
    (on_curve at F (bare at F (placed at F []))
    (λ f. InTurn (RefusedAt at G) (Answers at G) (operators G)
    (FromCurve (λ g. InTurn (RefusedAt at T) (Answers at T) (operators T) (FromNumber (λ x. AtCall (Applies (FifoLeft x) f g))))))
    (λ f. ThenCurve (Answers at G) (λ g. ThenNumber (Answers at T) (λ x. MakesCurve (Applies (FifoLeft x) f g)))) (operators G + (operators T + 1))
    (λ f. on_curve at G (bare at G (placed at G []))
    (λ g. InTurn (RefusedAt at T) (Answers at T) (operators T) (FromNumber (λ x. AtCall (Applies (FifoLeft x) f g))))
    (λ g. ThenNumber (Answers at T) (λ x. MakesCurve (Applies (FifoLeft x) f g))) (operators T + 1)
    (λ g. on_number at T (bare at T (placed at T [])) (λ x. AtCall (Applies (FifoLeft x) f g)) (λ x. MakesCurve (Applies (FifoLeft x) f g)) 1
    (λ x. made_placed (FifoLeft x) f g))))
placed at (priority f F lower) fs =
    placed_within _ _ (operators F + 3) (operators F + 3 + 0) (omega arith)
    (on_curve at F (bare at F (placed at F [])) (λ g. PriorityRefused f g lower) (λ g. MakesCurve (MakesPriority f g lower)) 3
    (λ g. curve_placed (PriorityRefused f g lower) (MakesPriority f g lower) 3 (services_placed.priority f g lower)))
placed at (deficit f quanta longest queue) fs =
    curve_placed (DrrRefused f quanta longest queue) (MakesDrr f quanta longest queue) 2 (services_placed.deficit f quanta longest queue)
placed at (horizontal F G) fs =
    placed_within _ _ (operators F + (operators G + 1)) (operators F + operators G + 1 + 0) (omega arith)
    (on_curve at F (bare at F (placed at F []))
    (λ f. InTurn (RefusedAt at G) (Answers at G) (operators G) (FromCurve (λ g. AtCall (Deviates Horizontal IsHorizontalDeviation f g))))
    (λ f. ThenCurve (Answers at G) (λ g. MakesNumber (Deviates Horizontal IsHorizontalDeviation f g))) (operators G + 1)
    (λ f. on_curve at G (bare at G (placed at G [])) (λ g. AtCall (Deviates Horizontal IsHorizontalDeviation f g))
    (λ g. MakesNumber (Deviates Horizontal IsHorizontalDeviation f g)) 1
    (λ g. let D = Deviates Horizontal IsHorizontalDeviation f g in number_placed (AtCall D) D 1 (call_placed D (λ fault limit p q. p.1 refl)))))
placed at (vertical F G) fs =
    placed_within _ _ (operators F + (operators G + 1)) (operators F + operators G + 1 + 0) (omega arith)
    (on_curve at F (bare at F (placed at F []))
    (λ f. InTurn (RefusedAt at G) (Answers at G) (operators G) (FromCurve (λ g. AtCall (Deviates Vertical IsVerticalDeviation f g))))
    (λ f. ThenCurve (Answers at G) (λ g. MakesNumber (Deviates Vertical IsVerticalDeviation f g))) (operators G + 1)
    (λ f. on_curve at G (bare at G (placed at G [])) (λ g. AtCall (Deviates Vertical IsVerticalDeviation f g))
    (λ g. MakesNumber (Deviates Vertical IsVerticalDeviation f g)) 1
    (λ g. let D = Deviates Vertical IsVerticalDeviation f g in number_placed (AtCall D) D 1 (call_placed D (λ fault limit p q. p.1 refl)))))
placed at (smaller F G) fs =
    placed_within _ _ (operators F + (operators G + 0)) (operators F + operators G + 0) (omega arith)
    (on_number at F (bare at F (placed at F []))
    (λ x. InTurn (RefusedAt at G) (Answers at G) (operators G) (FromNumber (λ y fault n. ⊥)))
    (λ x. ThenNumber (Answers at G) (λ y. IsOnly (λ v. v ≡ number (min_ext x y)))) (operators G + 0)
    (λ x. on_number at G (bare at G (placed at G [])) (λ y fault n. ⊥) (λ y. IsOnly (λ v. v ≡ number (min_ext x y))) 0
    (λ y. only_placed (λ v. v ≡ number (min_ext x y)))))
placed at (along cells links) fs = record {
  place = λ fault a. let found = (numbers_placed (with_links a.numbers links)).place fault a.answers in
      (found.0, record { numbers = a.numbers; are = a.are; refused = found.1 });
  refused = λ fault n r. record { numbers = r.numbers; are = r.are; answers = r.refused.1 };
  most = λ n r. absurd r.refused.1;
  least = λ fault n limit r. let e = r.refused.0 in omega (arith, e);
  sooner = λ fault n m limit r s. absurd r.refused.1;
}
placed at (delayed F links) fs =
    on_number at F (bare at F (placed at F [])) (λ x. AtCall (Sums (with_links (x ∷ []) links))) (λ x. MakesNumber (Sums (with_links (x ∷ []) links))) 0
    (λ x. numbers_placed (with_links (x ∷ []) links))

pub refusals_placed : RefusalsArePlaced
refusals_placed at F = bare at F (placed at F [])
