-- An operator after its parts.
use Rattle.std.specs.Prelude.{◌≡◌, ◌<◌, ℕ, Result, Ok, Err}
use Rattle.std.proofs.Common.{arith, sym, ap, subst}
use Rattle.rational.specs.Rational.{ℚ}
use Rattle.upp_curve.specs.Curve.{SpecCurve}
use Rattle.input_texts.specs.declared.curve_script.keyword.CurveOperator.{CurveOperator}
use Rattle.input_texts.specs.declared.curve_script.keyword.NumberOperator.{NumberOperator}
use Rattle.input_texts.specs.declared.curve_script.keyword.PairOperator.{PairOperator}
use Rattle.input_texts.specs.declared.curve_script.keyword.TwoAsked.{TwoAsked}
use Rattle.input_texts.specs.declared.curve_script.fault.LangKind.{LangKind}
use Rattle.curve_lang.specs.Answers.{Answered}
use Rattle.input_texts.specs.curve_script.Grammar.{Expression, OnCurve, OnNumber, OnTwo, depth}
use Rattle.curve_lang.specs.Finding.{Found, Still, Then, goes_on, stops}
use Rattle.curve_lang.specs.Found.{OneMade, NumberMade, TwoMade, TwoFinds}
use Rattle.curve_lang.specs.After.{OneAfter, NumberAfter, TwoAfter, AskedAfter}

-- the part found nothing
part_stops : {B : Type 0} (P : Found → (old new : ℕ) → Type 0) (Q : SpecCurve → Result B LangKind → (old new : ℕ) → Type 0) (j : LangKind)
    (r : Result B LangKind) (old between new : ℕ) → P (Err j) old between → Still (λ s. s ≡ Err j) r between new → Then P Q r old new
part_stops P Q j r old between new p (e, same) = stops j (subst (λ n. P (Err j) old n) (sym same) p) e

pub one_then : (P : Found → (old new : ℕ) → Type 0) (k : CurveOperator) (part r : Found) (old between new : ℕ) → P part old between
    → OneAfter k part r between new → Then P (OneMade k) r old new
one_then P k (Ok f) r old between new p h = goes_on f between p h
one_then P k (Err j) r old between new p h = part_stops P (OneMade k) j r old between new p h

pub number_then : (P : Found → (old new : ℕ) → Type 0) (k : NumberOperator) (x : ℚ) (part r : Found) (old between new : ℕ) → P part old between
    → NumberAfter k x part r between new → Then P (λ f. NumberMade k f x) r old new
number_then P k x (Ok f) r old between new p h = goes_on f between p h
number_then P k x (Err j) r old between new p h = part_stops P (λ f. NumberMade k f x) j r old between new p h

pub two_then : (P : Found → (old new : ℕ) → Type 0) (k : PairOperator) (f : SpecCurve) (part r : Found) (old between new : ℕ) → P part old between
    → TwoAfter k f part r between new → Then P (TwoMade k f) r old new
two_then P k f (Ok g) r old between new p h = goes_on g between p h
two_then P k f (Err j) r old between new p h = part_stops P (TwoMade k f) j r old between new p h

pub asked_then : (P : Found → (old new : ℕ) → Type 0) (q : TwoAsked) (f : SpecCurve) (part : Found) (r : Result Answered LangKind) (old between new : ℕ)
    → P part old between → AskedAfter q f part r between new → Then P (TwoFinds q f) r old new
asked_then P q f (Ok g) r old between new p h = goes_on g between p h
asked_then P q f (Err j) r old between new p h = part_stops P (TwoFinds q f) j r old between new p h

-- ---- a part nests less deep
pub on_curve_deeper : (e : Expression ℚ) (k : CurveOperator) (a : Expression ℚ) → e ≡ OnCurve k a → depth a < depth e
on_curve_deeper e k a same = let d = ap depth same in omega arith

pub on_number_deeper : (e : Expression ℚ) (k : NumberOperator) (a : Expression ℚ) (x : ℚ) → e ≡ OnNumber k a x → depth a < depth e
on_number_deeper e k a x same = let d = ap depth same in omega arith

pub first_deeper : (e : Expression ℚ) (k : PairOperator) (a b : Expression ℚ) → e ≡ OnTwo k a b → depth a < depth e
first_deeper e k a b same = let d = ap depth same in omega arith

pub second_deeper : (e : Expression ℚ) (k : PairOperator) (a b : Expression ℚ) → e ≡ OnTwo k a b → depth b < depth e
second_deeper e k a b same = let d = ap depth same in omega arith
