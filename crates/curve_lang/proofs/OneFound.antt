-- Want of memory apart, one thing is found at most.
use Rattle.std.specs.Prelude.{◌≡◌, ◌≢◌, ◌⊎◌, ◌↔◌, IsTrue, ℕ, ◌<◌, ◌≤◌, ◌^◌, List, [], ◌∷◌, ◌++◌, Bool, true, false, Option, Some, None, Result, Ok, Err}
use Rattle.std.proofs.Common.{arith, refl, sym, ap, subst, ◌∙◌, inl, inr, true≢false}
use Rattle.rational.specs.Rational.{ℚ, ◌≤ℚ◌}
use Rattle.rational.specs.Extended.{Ext, ◌≤ₑ◌}
use Rattle.min_plus.specs.Functions.{zero_q, IsFinite, IsNonnegative}
use Rattle.min_plus.specs.Deviations.{IsVerticalDeviation}
use Rattle.min_plus.proofs.Unambiguous.{deviations_are_unique}
use Rattle.upp_curve.specs.Curve.{SpecCurve, value_at, HasSameValues}
use Rattle.upp_curve.specs.Kinds.{bucket, rate_latency, stair, gate}
use Rattle.upp_limits.specs.declared.op_kind.OpKind.{OpKind}
use Rattle.upp_limits.specs.declared.op_kind.OpKind.TheVariants as calls
use Rattle.upp_limits.specs.declared.op_kind.OpFault.{OpFault}
use Rattle.upp_limits.specs.declared.op_kind.OpFault.TheVariants as call_faults
use Rattle.upp_limits.specs.declared.own_limits.OverLimit.TheVariants as limits
use Rattle.upp_limits.specs.Outcome.{IsWithin}
use Rattle.upp_limits.specs.Gauges.{IsTooMany, IsTooWide}
use Rattle.upp_limits.specs.OwnLimits.{IsOver, IsWithinOwn}
use Rattle.curve_call.specs.Answers.{IsMadeBy}
use Rattle.curve_call.proofs.InTurn.{applies_determined}
use Rattle.subadd_closure.specs.Folds.{CloseAnswer}
use Rattle.subadd_closure.proofs.OneFold.{close_once}
use Rattle.curve_library.specs.Causes.{OneNegative}
use Rattle.input_texts.specs.declared.curve_script.keyword.NumberPair.{NumberPair}
use Rattle.input_texts.specs.declared.curve_script.keyword.NumberPair.TheVariants.{Bucket, Latency}
use Rattle.input_texts.specs.declared.curve_script.keyword.NumberTriple.{NumberTriple}
use Rattle.input_texts.specs.declared.curve_script.keyword.NumberTriple.TheVariants.{Stair, Gate}
use Rattle.input_texts.specs.declared.curve_script.keyword.CurveOperator.{CurveOperator}
use Rattle.input_texts.specs.declared.curve_script.keyword.CurveOperator.TheVariants.{Close, RunSup, RunInf}
use Rattle.input_texts.specs.declared.curve_script.keyword.NumberOperator.{NumberOperator}
use Rattle.input_texts.specs.declared.curve_script.keyword.PairOperator.{PairOperator}
use Rattle.input_texts.specs.declared.curve_script.keyword.TwoAsked.{TwoAsked}
use Rattle.input_texts.specs.declared.curve_script.keyword.TwoAsked.TheVariants.{Delay, Backlog, Equal, Below}
use Rattle.input_texts.specs.declared.curve_script.fault.LangKind.{LangKind}
use Rattle.input_texts.specs.declared.curve_script.fault.LangKind.TheVariants.{C7, TooMany, TooWide, NoMemory}
use Rattle.input_texts.specs.curve_script.Grammar.{Expression, Named, Nought, OfPair, OfTriple, OnCurve, OnNumber, OnTwo, Statement, Lets, ValueAt, AsksOne, AsksTwo}
use Rattle.input_texts.specs.curve_script.Scripts.{Numbered, out_of_memory}
use Rattle.curve_lang.specs.declared.answer.Word.TheVariants as words
use Rattle.curve_lang.specs.Answers.{Answered, NumberIs, TruthIs, one_answer}
use Rattle.curve_lang.specs.Meaning.{FromZero, call_with, call_of_two}
use Rattle.curve_lang.specs.Finding.{Found, Still, Once, Then, goes_on, stops, Gives, Guarded, CallFinds, CurveFinds, TestFinds, KindFinds, BucketFinds, PairFinds, TripleFinds, NoStair, NoGate, OneFinds, CloseFinds, MayCall, MayCallWith, MayWait, ValueFinds, value_gauge, zero_curve}
use Rattle.curve_lang.specs.Found.{Let, NameFinds, curve_named, Finds, Tested, OneMade, NumberMade, TwoMade, TwoFinds, TellsEqual, IsDelay, IsBacklog, IsBelow, TellsValue, TimeFinds, AsksTime, AsksOf, AsksBoth, Kept, NewName, Added, AddsName, AddsAnswer, StatementFinds, Told, LineThen, goes_on as line_on, stops as line_stops, fault_at, after_added, ScriptFinds}
use Rattle.curve_lang.specs.Laws.{ScriptsFindOne}

-- two findings that P allows are one, where neither is want of memory
abbrev pub IsOneAlone : {A : Type 0} → (Result A LangKind → Type 0) → Type 0
IsOneAlone {A} P = (r s : Result A LangKind) → P r → P s → r ≢ Err NoMemory → s ≢ Err NoMemory → r ≡ s

-- whatever they count
abbrev pub IsOne : {A : Type 0} → (Result A LangKind → (old new : ℕ) → Type 0) → Type 0
IsOne {A} P = (r s : Result A LangKind) (a b v w : ℕ) → P r a b → P s v w → r ≢ Err NoMemory → s ≢ Err NoMemory → r ≡ s

-- ---- words
found_not_none : {A : Type 0} (x : A) → Ok x ≢ Err NoMemory
found_not_none x e = absurd (cc e)

-- a kind that is want of memory here is so there
err_lost : {A B : Type 0} (k : LangKind) → ◌≡◌ {A = Result A LangKind} (Err k) (Err NoMemory) → ◌≡◌ {A = Result B LangKind} (Err k) (Err NoMemory)
err_lost k w = let e : k ≡ NoMemory = cc w in ap Err e

then_one : {A B : Type 0} (P : Result A LangKind → (old new : ℕ) → Type 0) (Q : A → Result B LangKind → (old new : ℕ) → Type 0) → IsOne P
    → ((x : A) → IsOne (Q x)) → IsOne (Then P Q)
then_one P Q p q r s a b v w (goes_on x i px qx) (goes_on y j py qy) m n =
    let same = p (Ok x) (Ok y) a i v j px py (found_not_none x) (found_not_none y) in
    let e : x ≡ y = cc same in
    q y r s i b j w (subst (λ z. Q z r i b) e qx) qy m n
then_one P Q p q r s a b v w (goes_on x i px qx) (stops k pk e) m n =
    let same = p (Ok x) (Err k) a i v w px pk (found_not_none x) (λ l. n (e ∙ err_lost k l)) in absurd (cc same)
then_one P Q p q r s a b v w (stops k pk e) (goes_on y j py qy) m n =
    let same = p (Err k) (Ok y) a b v j pk py (λ l. m (e ∙ err_lost k l)) (found_not_none y) in absurd (cc same)
then_one P Q p q r s a b v w (stops j pj d) (stops k pk e) m n =
    let same = p (Err j) (Err k) a b v w pj pk (λ l. m (d ∙ err_lost j l)) (λ l. n (e ∙ err_lost k l)) in
    let kinds : j ≡ k = cc same in
    d ∙ ap Err kinds ∙ sym e

still_one : {A : Type 0} (P : Result A LangKind → Type 0) → IsOneAlone P → IsOne (Still P)
still_one P one r s a b v w h k m n = one r s h.0 k.0 m n

once_one : {A : Type 0} (P : Result A LangKind → Type 0) → IsOneAlone P → IsOne (Once P)
once_one P one r s a b v w h k m n = one r s h.0 k.0 m n

gives_one : {A : Type 0} (x : A) → IsOneAlone (Gives x)
gives_one x r s (inl e) (inl d) m n = e ∙ sym d
gives_one x r s (inr e) k m n = absurd (m e)
gives_one x r s (inl e) (inr d) m n = absurd (n d)

guarded_one : {A : Type 0} (P : Type 0) (next : Result A LangKind → (old new : ℕ) → Type 0) → IsOne next → IsOne (Guarded P next)
guarded_one P next one r s a b v w (inl h) (inl k) m n = one r s a b v w h.1 k.1 m n
guarded_one P next one r s a b v w (inl h) (inr k) m n = absurd (k.0 h.0)
guarded_one P next one r s a b v w (inr h) (inl k) m n = absurd (h.0 k.0)
guarded_one P next one r s a b v w (inr h) (inr k) m n = h.1.0 ∙ sym k.1.0

-- ---- answers by limits: something that is one at most, or the limit that is passed
data Limited {A : Type 0} (Is : A → Type 0) (Refused : LangKind → Type 0) (r : Result A LangKind) : Type 0 where
  is : (x : A) → Is x → r ≡ Ok x → Limited Is Refused r
  fault : (k : LangKind) → Refused k → r ≡ Err k → Limited Is Refused r
  memory : r ≡ Err NoMemory → Limited Is Refused r

-- the causes exclude each other, and what is found
record Exclusive {A : Type 0} (Is : A → Type 0) (Refused : LangKind → Type 0) : Type 0 where
  same : (x y : A) → Is x → Is y → x ≡ y
  either : (x : A) (k : LangKind) → Is x → Refused k → ⊥
  one : (j k : LangKind) → Refused j → Refused k → j ≡ k

limited_one : {A : Type 0} (Is : A → Type 0) (Refused : LangKind → Type 0) → Exclusive Is Refused → (r s : Result A LangKind)
    → Limited Is Refused r → Limited Is Refused s → r ≢ Err NoMemory → s ≢ Err NoMemory → r ≡ s
limited_one Is R e r s (is x p d) (is y q f) m n = d ∙ ap Ok (e.same x y p q) ∙ sym f
limited_one Is R e r s (is x p d) (fault k q f) m n = absurd (e.either x k p q)
limited_one Is R e r s (fault j p d) (is y q f) m n = absurd (e.either y j q p)
limited_one Is R e r s (fault j p d) (fault k q f) m n = d ∙ ap Err (e.one j k p q) ∙ sym f
limited_one Is R e r s (memory d) k m n = absurd (m d)
limited_one Is R e r s (is x p d) (memory f) m n = absurd (n f)
limited_one Is R e r s (fault j p d) (memory f) m n = absurd (n f)

-- ---- calls
abbrev OverCall : OpKind → SpecCurve → SpecCurve → LangKind → Type 0
OverCall op f g TooMany = IsTooMany op f g
OverCall op f g TooWide = IsTooWide op f g
OverCall op f g k = ⊥

call_limited : {A : Type 0} (op : OpKind) (f g : SpecCurve) (Q : A → Type 0) (r : Result A LangKind) → CallFinds op f g Q r
    → Limited (λ x. IsWithin op f g × Q x) (OverCall op f g) r
call_limited op f g Q (Ok x) h = is x h refl
call_limited op f g Q (Err TooMany) h = fault TooMany h refl
call_limited op f g Q (Err TooWide) h = fault TooWide h refl
call_limited op f g Q (Err NoMemory) h = memory refl
call_limited op f g Q (Err k) h = absurd h

one_limit : (op : OpKind) (f g : SpecCurve) (j k : LangKind) → OverCall op f g j → OverCall op f g k → j ≡ k
one_limit op f g TooMany TooMany a b = refl
one_limit op f g TooWide TooWide a b = refl
one_limit op f g TooMany TooWide a b = absurd (applies_determined.limits op f g a b)
one_limit op f g TooWide TooMany a b = absurd (applies_determined.limits op f g b a)
one_limit op f g TooMany k a b = absurd b
one_limit op f g TooWide k a b = absurd b
one_limit op f g j k a b = absurd a

not_over : (op : OpKind) (f g : SpecCurve) (k : LangKind) → IsWithin op f g → OverCall op f g k → ⊥
not_over op f g TooMany w h = w.few h
not_over op f g TooWide w h = w.narrow h
not_over op f g k w h = h

call_one : {A : Type 0} (op : OpKind) (f g : SpecCurve) (Q : A → Type 0) → ((x y : A) → Q x → Q y → x ≡ y) → IsOneAlone (CallFinds op f g Q)
call_one op f g Q same r s h k m n =
    limited_one (λ x. IsWithin op f g × Q x) (OverCall op f g)
    record {
      same = λ x y a b. same x y a.1 b.1;
      either = λ x j a b. not_over op f g j a.0 b;
      one = one_limit op f g;
    }
    r s (call_limited op f g Q r h) (call_limited op f g Q s k) m n

curve_one : (op : OpKind) (f g : SpecCurve) → IsOneAlone (CurveFinds op f g)
curve_one op f g = call_one op f g (IsMadeBy op f g) (λ x y a b. applies_determined.curve op f g x y a b)

test_one : (z f : SpecCurve) → IsOneAlone (TestFinds z f)
test_one z f = call_one calls.Vertical z f (IsVerticalDeviation (value_at z) (value_at f)) (λ x y a b. (deviations_are_unique (value_at z) (value_at f) x y).1 a b)

-- ---- kinds
abbrev OverKind : Type 0 → SpecCurve → LangKind → Type 0
OverKind R c C7 = R
OverKind R c TooMany = ¬ R × IsOver c limits.TooMany
OverKind R c TooWide = ¬ R × IsOver c limits.TooWide
OverKind R c k = ⊥

kind_limited : (R : Type 0) (c : SpecCurve) (r : Found) → KindFinds R c r → Limited (λ x. ¬ R × IsWithinOwn c × (x ≡ c)) (OverKind R c) r
kind_limited R c (Ok x) h = is x h refl
kind_limited R c (Err C7) h = fault C7 h refl
kind_limited R c (Err TooMany) h = fault TooMany h refl
kind_limited R c (Err TooWide) h = fault TooWide h refl
kind_limited R c (Err NoMemory) h = memory refl
kind_limited R c (Err k) h = absurd h

one_kind : (R : Type 0) (c : SpecCurve) (j k : LangKind) → OverKind R c j → OverKind R c k → j ≡ k
one_kind R c C7 C7 a b = refl
one_kind R c TooMany TooMany a b = refl
one_kind R c TooWide TooWide a b = refl
one_kind R c C7 TooMany a b = absurd (b.0 a)
one_kind R c C7 TooWide a b = absurd (b.0 a)
one_kind R c TooMany C7 a b = absurd (a.0 b)
one_kind R c TooWide C7 a b = absurd (a.0 b)
one_kind R c TooMany TooWide a b = absurd (both a.1.0 b.1)
  where
    both : {x y : ℕ} → x < y → y ≤ x → ⊥
    both p q = omega arith
one_kind R c TooWide TooMany a b = absurd (both b.1.0 a.1)
  where
    both : {x y : ℕ} → x < y → y ≤ x → ⊥
    both p q = omega arith
one_kind R c C7 k a b = absurd b
one_kind R c TooMany k a b = absurd b
one_kind R c TooWide k a b = absurd b
one_kind R c j k a b = absurd a

kind_either : (R : Type 0) (c : SpecCurve) (k : LangKind) → ¬ R → IsWithinOwn c → OverKind R c k → ⊥
kind_either R c C7 fine w h = fine h
kind_either R c TooMany fine w h = absurd (omega (arith, w.few, h.1.1))
kind_either R c TooWide fine w h = absurd (omega (arith, w.narrow, h.1))
kind_either R c k fine w h = h

kind_one : (R : Type 0) (c : SpecCurve) → IsOneAlone (KindFinds R c)
kind_one R c r s h k m n =
    limited_one (λ x. ¬ R × IsWithinOwn c × (x ≡ c)) (OverKind R c)
    record {
      same = λ x y a b. a.2 ∙ sym b.2;
      either = λ x j a b. kind_either R c j a.0 a.1 b;
      one = one_kind R c;
    }
    r s (kind_limited R c r h) (kind_limited R c s k) m n

bucket_one : (R : Type 0) (c : SpecCurve) → IsOneAlone (BucketFinds R c)
bucket_one R c r s (inl h) (inl k) m n = h.1 ∙ sym k.1
bucket_one R c r s (inl h) (inr k) m n = absurd (k.0 h.0)
bucket_one R c r s (inr h) (inl k) m n = absurd (h.0 k.0)
bucket_one R c r s (inr h) (inr k) m n = gives_one c r s h.1 k.1 m n

pair_one : (k : NumberPair) (x y : ℚ) → IsOneAlone (PairFinds k x y)
pair_one Bucket x y = bucket_one (OneNegative x y) (bucket x y)
pair_one Latency x y = kind_one (OneNegative x y) (rate_latency x y)

triple_one : (k : NumberTriple) (x y z : ℚ) → IsOneAlone (TripleFinds k x y z)
triple_one Stair x y z = kind_one (NoStair x y z) (stair x y z)
triple_one Gate x y z = kind_one (NoGate x y z) (gate x y z)

-- ---- closures
abbrev OverClose : SpecCurve → LangKind → Type 0
OverClose f TooMany = CloseAnswer f (Err call_faults.TooMany)
OverClose f TooWide = CloseAnswer f (Err call_faults.TooWide)
OverClose f k = ⊥

close_limited : (f : SpecCurve) (r : Found) (old new : ℕ) → CloseFinds f r old new → Limited (λ h. CloseAnswer f (Ok h)) (OverClose f) r
close_limited f (Ok x) old new h = is x h.0 refl
close_limited f (Err TooMany) old new h = fault TooMany h.0 refl
close_limited f (Err TooWide) old new h = fault TooWide h.0 refl
close_limited f (Err NoMemory) old new h = memory refl
close_limited f (Err k) old new h = absurd h

fold_one : (f : SpecCurve) (r s : Result SpecCurve OpFault) → CloseAnswer f r → CloseAnswer f s → r ≢ Err call_faults.NoMemory
    → s ≢ Err call_faults.NoMemory → r ≡ s
fold_one f r s h k m n = close_once f r s h k m n

close_same : (f x y : SpecCurve) → CloseAnswer f (Ok x) → CloseAnswer f (Ok y) → x ≡ y
close_same f x y a b = let e = fold_one f (Ok x) (Ok y) a b (λ e. absurd (cc e)) (λ e. absurd (cc e)) in cc e

close_either : (f x : SpecCurve) (k : LangKind) → CloseAnswer f (Ok x) → OverClose f k → ⊥
close_either f x TooMany a b = let e = fold_one f (Ok x) (Err call_faults.TooMany) a b (λ e. absurd (cc e)) (λ e. absurd (cc e)) in cc e
close_either f x TooWide a b = let e = fold_one f (Ok x) (Err call_faults.TooWide) a b (λ e. absurd (cc e)) (λ e. absurd (cc e)) in cc e
close_either f x k a b = b

close_limit : (f : SpecCurve) (j k : LangKind) → OverClose f j → OverClose f k → j ≡ k
close_limit f TooMany TooMany a b = refl
close_limit f TooWide TooWide a b = refl
close_limit f TooMany TooWide a b =
    let e = fold_one f (Err call_faults.TooMany) (Err call_faults.TooWide) a b (λ e. absurd (cc e)) (λ e. absurd (cc e)) in absurd (cc e)
close_limit f TooWide TooMany a b =
    let e = fold_one f (Err call_faults.TooWide) (Err call_faults.TooMany) a b (λ e. absurd (cc e)) (λ e. absurd (cc e)) in absurd (cc e)
close_limit f TooMany k a b = absurd b
close_limit f TooWide k a b = absurd b
close_limit f j k a b = absurd a

close_one : (f : SpecCurve) → IsOne (CloseFinds f)
close_one f r s a b v w h k m n =
    limited_one (λ x. CloseAnswer f (Ok x)) (OverClose f) record { same = close_same f; either = close_either f; one = close_limit f } r s
    (close_limited f r a b h) (close_limited f s v w k) m n

-- ---- operators
one_one : (k : CurveOperator) (f : SpecCurve) → IsOne (OneFinds k f)
one_one Close f = close_one f
one_one RunSup f = once_one (CurveFinds calls.RunSup f f) (curve_one calls.RunSup f f)
one_one RunInf f = once_one (CurveFinds calls.RunInf f f) (curve_one calls.RunInf f f)

one_made_one : (k : CurveOperator) (f : SpecCurve) → IsOne (OneMade k f)
one_made_one k f =
    guarded_one (IsFinite (value_at f)) (Tested f (OneFinds k f))
    (then_one (Still (Gives zero_curve)) (λ z. Then (Once (TestFinds z f)) (λ v. Guarded (IsNonnegative (value_at f)) (OneFinds k f)))
    (still_one (Gives zero_curve) (gives_one zero_curve))
    (λ z. then_one (Once (TestFinds z f)) (λ v. Guarded (IsNonnegative (value_at f)) (OneFinds k f)) (once_one (TestFinds z f) (test_one z f))
    (λ v. guarded_one (IsNonnegative (value_at f)) (OneFinds k f) (one_one k f))))

number_one : (k : NumberOperator) (f : SpecCurve) (x : ℚ) → IsOne (NumberMade k f x)
number_one k f x =
    guarded_one (MayCallWith k f x) (Once (CurveFinds (call_with k x) f f)) (once_one (CurveFinds (call_with k x) f f) (curve_one (call_with k x) f f))

two_one : (k : PairOperator) (f g : SpecCurve) → IsOne (TwoMade k f g)
two_one k f g =
    guarded_one (MayCall k f g) (Once (CurveFinds (call_of_two k) f g)) (once_one (CurveFinds (call_of_two k) f g) (curve_one (call_of_two k) f g))

-- ---- expressions
name_one : (o : Option SpecCurve) → IsOneAlone (NameFinds o)
name_one None r s h k m n = h ∙ sym k
name_one (Some c) r s h k m n = gives_one c r s h k m n

pub finds_one : (ls : List Let) (e : Expression ℚ) → IsOne (Finds ls e)
finds_one ls (Named w) = still_one (NameFinds (curve_named ls w)) (name_one (curve_named ls w))
finds_one ls Nought = still_one (Gives zero_curve) (gives_one zero_curve)
finds_one ls (OfPair k x y) = still_one (PairFinds k x y) (pair_one k x y)
finds_one ls (OfTriple k x y z) = still_one (TripleFinds k x y z) (triple_one k x y z)
finds_one ls (OnCurve k e) = then_one (Finds ls e) (OneMade k) (finds_one ls e) (one_made_one k)
finds_one ls (OnNumber k e x) = then_one (Finds ls e) (λ f. NumberMade k f x) (finds_one ls e) (λ f. number_one k f x)
finds_one ls (OnTwo k d e) =
    then_one (Finds ls d) (λ f. Then (Finds ls e) (TwoMade k f)) (finds_one ls d) (λ f. then_one (Finds ls e) (TwoMade k f) (finds_one ls e) (two_one k f))

-- ---- questions
value_limited : (f : SpecCurve) (t : ℚ) (r : Result Ext LangKind) → ValueFinds f t r
    → ((value_gauge f t < 2 ^ 120) × (r ≡ Ok (value_at f t))) ⊎ ((2 ^ 120 ≤ value_gauge f t) × (r ≡ Err TooWide))
value_limited f t (Ok v) h = inl (h.0, ap Ok h.1)
value_limited f t (Err TooWide) h = inr (h, refl)
value_limited f t (Err k) h = absurd h

value_one : (f : SpecCurve) (t : ℚ) → IsOneAlone (ValueFinds f t)
value_one f t r s h k m n = elim (value_limited f t r h) [
  | inl a ↦ elim (value_limited f t s k) [ inl b ↦ a.1 ∙ sym b.1 | inr b ↦ absurd (apart a.0 b.0) ]
  | inr a ↦ elim (value_limited f t s k) [ inl b ↦ absurd (apart b.0 a.0) | inr b ↦ a.1 ∙ sym b.1 ]
]
  where
    apart : {x y : ℕ} → x < y → y ≤ x → ⊥
    apart p q = omega arith

equation_one : {A : Type 0} (x : A) → IsOneAlone (λ r. r ≡ Ok x)
equation_one x r s h k m n = h ∙ sym k

time_one : (f : SpecCurve) (t : ℚ) → IsOne (TimeFinds f t)
time_one f t =
    guarded_one (zero_q ≤ℚ t) (TellsValue f t)
    (then_one (Still (ValueFinds f t)) (λ v. Still (λ s. s ≡ Ok (NumberIs words.Value v))) (still_one (ValueFinds f t) (value_one f t))
    (λ v. still_one (λ s. s ≡ Ok (NumberIs words.Value v)) (equation_one (NumberIs words.Value v))))

same_truth : (P : Type 0) (a b : Bool) → (IsTrue a ↔ P) → (IsTrue b ↔ P) → a ≡ b
same_truth P true true h k = refl
same_truth P false false h k = refl
same_truth P true false h k = absurd (true≢false (sym (k.1 (h.0 refl))))
same_truth P false true h k = absurd (true≢false (sym (h.1 (k.0 refl))))

delay_same : (f g : SpecCurve) (x y : Answered) → IsDelay f g x → IsDelay f g y → x ≡ y
delay_same f g x y (v, d, e) (w, c, k) = e ∙ ap (λ z. NumberIs words.Delay z) ((deviations_are_unique (value_at f) (value_at g) v w).0 d c) ∙ sym k

backlog_same : (f g : SpecCurve) (x y : Answered) → IsBacklog f g x → IsBacklog f g y → x ≡ y
backlog_same f g x y (v, d, e) (w, c, k) = e ∙ ap (λ z. NumberIs words.Backlog z) ((deviations_are_unique (value_at f) (value_at g) v w).1 d c) ∙ sym k

below_same : (f g : SpecCurve) (x y : Answered) → IsBelow f g x → IsBelow f g y → x ≡ y
below_same f g x y (a, h, e) (b, k, d) =
    e ∙ ap (λ z. TruthIs words.Below z) (same_truth (FromZero (λ t. value_at f t ≤ₑ value_at g t)) a b h k) ∙ sym d

equal_one : (f g : SpecCurve) → IsOneAlone (TellsEqual f g)
equal_one f g r s (a, h, e) (b, k, d) m n = e ∙ ap (λ z. Ok (TruthIs words.Equal z)) (same_truth (HasSameValues f g) a b h k) ∙ sym d

asked_one : (q : TwoAsked) (f g : SpecCurve) → IsOne (TwoFinds q f g)
asked_one Delay f g =
    guarded_one (MayWait f g) (Once (CallFinds calls.Horizontal f g (IsDelay f g)))
    (once_one (CallFinds calls.Horizontal f g (IsDelay f g)) (call_one calls.Horizontal f g (IsDelay f g) (delay_same f g)))
asked_one Backlog f g =
    guarded_one (IsFinite (value_at g)) (Once (CallFinds calls.Vertical f g (IsBacklog f g)))
    (once_one (CallFinds calls.Vertical f g (IsBacklog f g)) (call_one calls.Vertical f g (IsBacklog f g) (backlog_same f g)))
asked_one Equal f g = still_one (TellsEqual f g) (equal_one f g)
asked_one Below f g = once_one (CallFinds calls.Min f g (IsBelow f g)) (call_one calls.Min f g (IsBelow f g) (below_same f g))

-- ---- statements
kept_one : (P : Result Answered LangKind → (old new : ℕ) → Type 0) → IsOne P → IsOne (Kept P)
kept_one P one = then_one P (λ a. Still (Gives (AddsAnswer a))) one (λ a. still_one (Gives (AddsAnswer a)) (gives_one (AddsAnswer a)))

new_one : (o : Option SpecCurve) (next : Result Added LangKind → (old new : ℕ) → Type 0) → IsOne next → IsOne (NewName o next)
new_one None next one r s a b v w h k m n = one r s a b v w h k m n
new_one (Some c) next one r s a b v w h k m n = h.0 ∙ sym k.0

statement_one : (ls : List Let) (s : Statement ℚ) → IsOne (StatementFinds ls s)
statement_one ls (Lets w e) =
    new_one (curve_named ls w) (Then (Finds ls e) (λ c. Still (Gives (AddsName record { name = w; curve = c }))))
    (then_one (Finds ls e) (λ c. Still (Gives (AddsName record { name = w; curve = c }))) (finds_one ls e)
    (λ c. still_one (Gives (AddsName record { name = w; curve = c })) (gives_one (AddsName record { name = w; curve = c }))))
statement_one ls (ValueAt e t) = kept_one (AsksTime ls e t) (then_one (Finds ls e) (λ f. TimeFinds f t) (finds_one ls e) (λ f. time_one f t))
statement_one ls (AsksOne q e) =
    kept_one (AsksOf ls q e)
    (then_one (Finds ls e) (λ f. Still (λ s. s ≡ Ok (one_answer q f))) (finds_one ls e)
    (λ f. still_one (λ s. s ≡ Ok (one_answer q f)) (equation_one (one_answer q f))))
statement_one ls (AsksTwo q d e) =
    kept_one (AsksBoth ls q d e)
    (then_one (Finds ls d) (λ f. Then (Finds ls e) (TwoFinds q f)) (finds_one ls d) (λ f. then_one (Finds ls e) (TwoFinds q f) (finds_one ls e) (asked_one q f)))

-- ---- scripts
-- the same of what is told of a script
abbrev IsToldOnce : (Told → (old new : ℕ) → Type 0) → Type 0
IsToldOnce P = (r s : Told) (a b v w : ℕ) → P r a b → P s v w → r ≢ Err out_of_memory → s ≢ Err out_of_memory → r ≡ s

fault_not : (k : LangKind) (line : ℕ) (r : Told) → r ≡ Err (fault_at k line) → r ≢ Err out_of_memory → ◌≢◌ {A = Result Added LangKind} (Err k) (Err NoMemory)
fault_not k line r e m w = let same : k ≡ NoMemory = cc w in m (e ∙ ap (λ j. Err (fault_at j line)) same)

line_one : (line : ℕ) (P : Result Added LangKind → (old new : ℕ) → Type 0) (next : Added → Told → (old new : ℕ) → Type 0) → IsOne P
    → ((x : Added) → IsToldOnce (next x)) → IsToldOnce (LineThen line P next)
line_one line P next p q r s a b v w (line_on x i px qx) (line_on y j py qy) m n =
    let same = p (Ok x) (Ok y) a i v j px py (found_not_none x) (found_not_none y) in
    let e : x ≡ y = cc same in
    q y r s i b j w (subst (λ z. next z r i b) e qx) qy m n
line_one line P next p q r s a b v w (line_on x i px qx) (line_stops k pk e) m n =
    let same = p (Ok x) (Err k) a i v w px pk (found_not_none x) (fault_not k line s e n) in absurd (cc same)
line_one line P next p q r s a b v w (line_stops k pk e) (line_on y j py qy) m n =
    let same = p (Err k) (Ok y) a b v j pk py (fault_not k line r e m) (found_not_none y) in absurd (cc same)
line_one line P next p q r s a b v w (line_stops j pj d) (line_stops k pk e) m n =
    let same = p (Err j) (Err k) a b v w pj pk (fault_not j line r d m) (fault_not k line s e n) in
    let kinds : j ≡ k = cc same in
    d ∙ ap (λ i. Err (fault_at i line)) kinds ∙ sym e

added_one : (next : List Let → List Answered → Told → (old new : ℕ) → Type 0) → ((ls : List Let) (out : List Answered) → IsToldOnce (next ls out))
    → (ls : List Let) (out : List Answered) (x : Added) → IsToldOnce (λ s m n. after_added (λ ms more. next ms more s m n) ls out x)
added_one next one ls out (AddsName l) = one (ls ++ l ∷ []) out
added_one next one ls out (AddsAnswer a) = one ls (out ++ a ∷ [])

script_one : (lines : List Numbered) (ls : List Let) (out : List Answered) → IsToldOnce (ScriptFinds ls out lines)
script_one [] ls out r s a b v w h k m n = h.0 ∙ sym k.0
script_one (l ∷ rest) ls out r s a b v w h k m n =
    line_one l.0 (StatementFinds ls l.1) (λ x t i j. after_added (λ ms more. ScriptFinds ms more rest t i j) ls out x) (statement_one ls l.1)
    (added_one (λ ms more t i j. ScriptFinds ms more rest t i j) (λ ms more. script_one rest ms more) ls out) r s a b v w h k m n

pub scripts_find_one : ScriptsFindOne
scripts_find_one lines r s h k m n = script_one lines [] [] r s h.old h.new k.old k.new h.finds k.finds m n
