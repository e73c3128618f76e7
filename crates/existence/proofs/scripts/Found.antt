-- What an expression finds is there: a curve or a fault, and no want of memory.
use Rattle.std.proofs.Common.{◌≡◌, ◌≢◌, ◌⊎◌, ℕ, ◌+◌, ◌≤◌, List, [], ◌∷◌, ◌++◌, Option, Some, None, Result, Ok, Err, IfOk, Bool, true, false, cond, refl, sym, subst, arith, inl, inr}
use Rattle.std.specs.Prelude.{IfErr, option_map}
use Rattle.std.specs.Str.{bytes_eq}
use Rattle.rational.specs.Rational.{ℚ}
use Rattle.rational.specs.Extended.{Ext}
use Rattle.rational.specs.declared.Extended.TheVariants.{Fin}
use Rattle.rational.specs.Ratio.{IsSmall}
use Rattle.rational.proofs.Laws.{le_of_not_lt}
use Rattle.rational.proofs.ExtendedOrder.{le_or_lt_ext}
use Rattle.min_plus.specs.Deviations.{IsVerticalDeviation}
use Rattle.min_plus.specs.Functions.{zero_q, IsFinite, IsNonnegative}
use Rattle.upp_curve.specs.Curve.{SpecCurve, value_at}
use Rattle.upp_curve.specs.Curves.{IsCurve}
use Rattle.upp_curve.specs.Kinds.{bucket, rate_latency, stair, gate}
use Rattle.upp_curve.specs.Normal.{IsNormal}
use Rattle.upp_curve.proofs.KindsAre.{kinds_are_normal}
use Rattle.upp_curve.proofs.ReadableKinds.{zero_small, bucket_curve}
use Rattle.upp_limits.specs.declared.op_kind.OpKind.{OpKind}
use Rattle.upp_limits.specs.declared.op_kind.OpKind.TheVariants as calls
use Rattle.upp_limits.specs.declared.op_kind.OpFault.{OpFault}
use Rattle.upp_limits.specs.declared.op_kind.OpFault.TheVariants as faults
use Rattle.upp_limits.specs.declared.own_limits.OverLimit.{OverLimit}
use Rattle.upp_limits.specs.declared.own_limits.OverLimit.TheVariants as limits
use Rattle.upp_limits.specs.OwnLimits.{IsOver}
use Rattle.curve_call.specs.Calls.{Applies}
use Rattle.curve_library.specs.Causes.{OneNegative}
use Rattle.subadd_closure.specs.Folds.{CloseAnswer}
use Rattle.subadd_closure.specs.FoldWork.{fold_work}
use Rattle.net_text.proofs.Folding.{keeps_closing}
use Rattle.input_texts.specs.declared.curve_script.keyword.NumberPair.{NumberPair}
use Rattle.input_texts.specs.declared.curve_script.keyword.NumberPair.TheVariants as pairs
use Rattle.input_texts.specs.declared.curve_script.keyword.NumberTriple.{NumberTriple}
use Rattle.input_texts.specs.declared.curve_script.keyword.NumberTriple.TheVariants as triples
use Rattle.input_texts.specs.declared.curve_script.keyword.CurveOperator.{CurveOperator}
use Rattle.input_texts.specs.declared.curve_script.keyword.CurveOperator.TheVariants as ones
use Rattle.input_texts.specs.declared.curve_script.keyword.NumberOperator.{NumberOperator}
use Rattle.input_texts.specs.declared.curve_script.keyword.NumberOperator.TheVariants as numbers
use Rattle.input_texts.specs.declared.curve_script.keyword.PairOperator.{PairOperator}
use Rattle.input_texts.specs.declared.curve_script.keyword.PairOperator.TheVariants as twos
use Rattle.input_texts.specs.declared.curve_script.fault.LangKind.{LangKind}
use Rattle.input_texts.specs.declared.curve_script.fault.LangKind.TheVariants.{C6, C7, C8, TooMany, TooWide, NoMemory}
use Rattle.input_texts.specs.curve_script.Grammar.{Expression, Named, Nought, OfPair, OfTriple, OnCurve, OnNumber, OnTwo}
use Rattle.curve_lang.specs.Finding.{Still, Once, Then, goes_on, stops, Gives, Guarded, CallFinds, CurveFinds, TestFinds, KindFinds, BucketFinds, PairFinds, TripleFinds, NoStair, NoGate, CloseFinds, OneFinds, MayCall, MayCallWith, zero_curve}
use Rattle.curve_lang.specs.Found.{Let, curve_named, NameFinds, TestedBy, Tested, OneMade, NumberMade, TwoMade, Finds}
use Rattle.curve_lang.proofs.Below.{tested_nonneg, above_is_negative}
use Rattle.curve_lang.proofs.Meant.{stair_numbers, gate_numbers}
use Rattle.existence.specs.curves.Answered.{HasAnswer}
use Rattle.net_cells.specs.Answers.{Deviates}
use Rattle.existence.proofs.closures.Folds.{closures_exist}
use Rattle.existence.proofs.curves.Convolutions.{convolution_answered}
use Rattle.existence.proofs.curves.Deciding.{both}
use Rattle.existence.proofs.curves.Deconvolutions.{deconvolution_answered}
use Rattle.existence.proofs.curves.Infima.{infimum_answered}
use Rattle.existence.proofs.curves.Lattices.{lower_answered, upper_answered, above_answered}
use Rattle.existence.proofs.curves.Levels.{minus_answered}
use Rattle.existence.proofs.curves.Moves.{scale_answered, shift_answered}
use Rattle.existence.proofs.curves.Runs.{supremum_answered}
use Rattle.existence.proofs.curves.Sums.{sum_answered}
use Rattle.existence.proofs.curves.Verticals.{finite_or_not, vertical_answered}
use Rattle.existence.proofs.scripts.Numbers.{AreSmall}
use Rattle.existence.proofs.scripts.Tests.{le_q_or, negative_or, no_stair_or, no_gate_or, own_or}

-- ---- what is found
-- something of which K holds, or why there is nothing; and no want of memory
pub record Has {A : Type 0} (K : A → Type 0) (P : Result A LangKind → (old new : ℕ) → Type 0) (old : ℕ) : Type 0 where
  pub result : Result A LangKind
  pub new : ℕ
  pub is : P result old new
  pub told : IfErr result (λ k. k ≢ NoMemory)
  pub keeps : IfOk result K

-- faults that are no want of memory
pub name_told : C6 ≢ NoMemory
name_told e = cc

kind_told : C7 ≢ NoMemory
kind_told e = cc

pub condition_told : C8 ≢ NoMemory
condition_told e = cc

pub many_told : TooMany ≢ NoMemory
many_told e = cc

pub wide_told : TooWide ≢ NoMemory
wide_told e = cc

-- one finding after another
then_by : {A B : Type 0} (K : A → Type 0) (L : B → Type 0) (P : Result A LangKind → (old new : ℕ) → Type 0)
    (Q : A → Result B LangKind → (old new : ℕ) → Type 0) (old between : ℕ) (r : Result A LangKind) → P r old between
    → IfErr r (λ k. k ≢ NoMemory) → IfOk r K → ((x : A) (n : ℕ) → K x → Has L (Q x) n) → Has L (Then P Q) old
then_by K L P Q old between (Ok x) is told keeps next =
    let h = next x between keeps in
    record { result = h.result; new = h.new; is = goes_on x between is h.is; told = h.told; keeps = h.keeps }
then_by K L P Q old between (Err k) is told keeps next =
    record { result = Err k; new = between; is = stops k is refl; told = told; keeps = tt }

pub then_has : {A B : Type 0} (K : A → Type 0) (L : B → Type 0) (P : Result A LangKind → (old new : ℕ) → Type 0)
    (Q : A → Result B LangKind → (old new : ℕ) → Type 0) (old : ℕ) → Has K P old
    → ((x : A) (n : ℕ) → K x → Has L (Q x) n) → Has L (Then P Q) old
then_has K L P Q old h next = then_by K L P Q old h.new h.result h.is h.told h.keeps next

-- under a condition
pub guarded_has : {B : Type 0} (L : B → Type 0) (C : Type 0) (next : Result B LangKind → (old new : ℕ) → Type 0) (old : ℕ)
    → C ⊎ ¬ C → (C → Has L next old) → Has L (Guarded C next) old
guarded_has L C next old (inl c) f =
    let h = f c in
    record { result = h.result; new = h.new; is = inl (c, h.is); told = h.told; keeps = h.keeps }
guarded_has L C next old (inr n) f =
    record { result = Err C8; new = old; is = inr (n, (refl, refl)); told = condition_told; keeps = tt }

-- ---- calls
call_by : (op : OpKind) (f g : SpecCurve) (old : ℕ) (r : Result SpecCurve OpFault) → Applies op f g r → r ≢ Err faults.NoMemory
    → Has IsCurve (Once (CurveFinds op f g)) old
call_by op f g old (Ok c) a found =
    record { result = Ok c; new = old + 1; is = ((a.within, a.made), refl); told = tt; keeps = a.made.curve }
call_by op f g old (Err faults.TooMany) a found =
    record { result = Err TooMany; new = old + 1; is = (a, refl); told = many_told; keeps = tt }
call_by op f g old (Err faults.TooWide) a found =
    record { result = Err TooWide; new = old + 1; is = (a, refl); told = wide_told; keeps = tt }
call_by op f g old (Err faults.NoMemory) a found = absurd (found refl)

call_has : (op : OpKind) (f g : SpecCurve) (old : ℕ) → HasAnswer (Applies op f g) → Has IsCurve (Once (CurveFinds op f g)) old
call_has op f g old h = call_by op f g old h.answer h.is h.found

-- a deviation
pub measure_has : {A : Type 0} (op : OpKind) (D : (ℚ → Ext) → (ℚ → Ext) → Ext → Type 0) (f g : SpecCurve) (Q K : A → Type 0)
    (old : ℕ) → ((x : Ext) → D (value_at f) (value_at g) x → (a : A) × Q a × K a)
    → (r : Result Ext OpFault) → Deviates op D f g r → Has K (Once (CallFinds op f g Q)) old
measure_has op D f g Q K old tells (Ok x) m =
    let (a, is, keeps) = tells x m.1 in
    record { result = Ok a; new = old + 1; is = ((m.0, is), refl); told = tt; keeps = keeps }
measure_has op D f g Q K old tells (Err faults.TooMany) m =
    record { result = Err TooMany; new = old + 1; is = (m.0, refl); told = many_told; keeps = tt }
measure_has op D f g Q K old tells (Err faults.TooWide) m =
    record { result = Err TooWide; new = old + 1; is = (m.0, refl); told = wide_told; keeps = tt }
measure_has op D f g Q K old tells (Err faults.NoMemory) m = absurd (m.1 refl)

-- ---- kinds of curve
limited : (N : Type 0) (c : SpecCurve) (old : ℕ) (limit : OverLimit) → ¬ N → IsOver c limit → Has IsCurve (Still (KindFinds N c)) old
limited N c old limits.TooMany fine over =
    record { result = Err TooMany; new = old; is = ((fine, over), refl); told = many_told; keeps = tt }
limited N c old limits.TooWide fine over =
    record { result = Err TooWide; new = old; is = ((fine, over), refl); told = wide_told; keeps = tt }

kind_has : (N : Type 0) (c : SpecCurve) (old : ℕ) → N ⊎ ¬ N → (¬ N → IsNormal c) → Has IsCurve (Still (KindFinds N c)) old
kind_has N c old (inl n) normal =
    record { result = Err C7; new = old; is = (n, refl); told = kind_told; keeps = tt }
kind_has N c old (inr fine) normal = elim (own_or c (normal fine)) [
  | inl w ↦ record { result = Ok c; new = old; is = ((fine, w.0, refl), refl); told = tt; keeps = w.1 }
  | inr over ↦ limited N c old over.0 fine over.1
]

bucket_has : (burst rate : ℚ) (old : ℕ) → IsSmall burst → OneNegative burst rate ⊎ ¬ (OneNegative burst rate)
    → Has IsCurve (Still (BucketFinds (OneNegative burst rate) (bucket burst rate))) old
bucket_has burst rate old small (inl n) =
    record { result = Err C7; new = old; is = (inl (n, refl), refl); told = kind_told; keeps = tt }
bucket_has burst rate old small (inr fine) = record {
  result = Ok (bucket burst rate);
  new = old;
  is = (inr (fine, inl refl), refl);
  told = tt;
  keeps = bucket_curve burst rate small;
}

pair_has : (k : NumberPair) (x y : ℚ) (old : ℕ) → IsSmall x → Has IsCurve (Still (PairFinds k x y)) old
pair_has pairs.Bucket x y old small = bucket_has x y old small (negative_or x y)
pair_has pairs.Latency x y old small =
    kind_has (OneNegative x y) (rate_latency x y) old (negative_or x y)
    (λ fine. kinds_are_normal.rate_latency x y (le_of_not_lt (λ l. fine (inl l))) (le_of_not_lt (λ l. fine (inr l))))

triple_has : (k : NumberTriple) (x y z : ℚ) (old : ℕ) → Has IsCurve (Still (TripleFinds k x y z)) old
triple_has triples.Stair x y z old =
    kind_has (NoStair x y z) (stair x y z) old (no_stair_or x y z)
    (λ fine. let n = stair_numbers x y z fine in kinds_are_normal.stair x y z n.packet n.period n.jitter)
triple_has triples.Gate x y z old =
    kind_has (NoGate x y z) (gate x y z) old (no_gate_or x y z)
    (λ fine. let n = gate_numbers x y z fine in kinds_are_normal.gate x y z n.rate n.slot n.within)

-- ---- operators on one curve
close_by : (f : SpecCurve) (old : ℕ) (r : Result SpecCurve OpFault) → IsCurve f → IsFinite (value_at f)
    → IsNonnegative (value_at f) → CloseAnswer f r → r ≢ Err faults.NoMemory → Has IsCurve (CloseFinds f) old
close_by f old (Ok h) c fin low a found =
    let k = keeps_closing f (Ok h) c fin low a in
    record { result = Ok h; new = old + fold_work f; is = (a, k.curve, k.value, refl); told = tt; keeps = k.curve }
close_by f old (Err faults.TooMany) c fin low a found =
    record { result = Err TooMany; new = old; is = (a, (let l : old ≤ old + fold_work f = omega arith in l)); told = many_told; keeps = tt }
close_by f old (Err faults.TooWide) c fin low a found =
    record { result = Err TooWide; new = old; is = (a, (let l : old ≤ old + fold_work f = omega arith in l)); told = wide_told; keeps = tt }
close_by f old (Err faults.NoMemory) c fin low a found = absurd (found refl)

one_found : (k : CurveOperator) (f : SpecCurve) (old : ℕ) → IsCurve f → IsFinite (value_at f) → IsNonnegative (value_at f)
    → Has IsCurve (OneFinds k f) old
one_found ones.Close f old c fin low =
    let a = closures_exist f c fin low in close_by f old a.answer c fin low a.is a.found
one_found ones.RunSup f old c fin low = call_has calls.RunSup f f old (supremum_answered f c fin low)
one_found ones.RunInf f old c fin low = call_has calls.RunInf f f old (infimum_answered f c fin low)

zero_is : IsCurve zero_curve
zero_is = bucket_curve zero_q zero_q zero_small

-- how far the zero curve is above f tells whether f is nowhere below 0
abbrev IsAbove : SpecCurve → Ext → Type 0
IsAbove f v = IsVerticalDeviation (value_at zero_curve) (value_at f) v

low_or : (f : SpecCurve) (v : Ext) → IsFinite (value_at f) → IsAbove f v → IsNonnegative (value_at f) ⊎ ¬ (IsNonnegative (value_at f))
low_or f v fin dev = elim (le_or_lt_ext v (Fin zero_q)) [
  | inl l ↦ inl ((tested_nonneg f v fin dev).0 l)
  | inr l ↦ inr (above_is_negative f zero_curve v fin refl dev l)
]

tested_has : (k : CurveOperator) (f : SpecCurve) (old : ℕ) → IsCurve f → IsFinite (value_at f)
    → Has IsCurve (TestedBy zero_curve f (OneFinds k f)) old
tested_has k f old c fin =
    let v = vertical_answered zero_curve f zero_is c fin in
    then_has (IsAbove f) IsCurve (Once (TestFinds zero_curve f)) (λ v. Guarded (IsNonnegative (value_at f)) (OneFinds k f)) old
    (measure_has calls.Vertical IsVerticalDeviation zero_curve f (IsAbove f) (IsAbove f) old (λ x dev. (x, dev, dev)) v.0 v.1)
    (λ x n dev. guarded_has IsCurve (IsNonnegative (value_at f)) (OneFinds k f) n (low_or f x fin dev) (λ low. one_found k f n c fin low))

abbrev IsZero : SpecCurve → Type 0
IsZero z = z ≡ zero_curve

zero_has : (old : ℕ) → Has IsZero (Still (Gives zero_curve)) old
zero_has old = record { result = Ok zero_curve; new = old; is = (inl refl, refl); told = tt; keeps = refl }

one_has : (k : CurveOperator) (f : SpecCurve) (old : ℕ) → IsCurve f → Has IsCurve (OneMade k f) old
one_has k f old c =
    guarded_has IsCurve (IsFinite (value_at f)) (Tested f (OneFinds k f)) old (finite_or_not f c)
    (λ fin. then_has IsZero IsCurve (Still (Gives zero_curve)) (λ z. TestedBy z f (OneFinds k f)) old (zero_has old)
    (λ z n e. subst (λ (y : SpecCurve). Has IsCurve (TestedBy y f (OneFinds k f)) n) (sym e) (tested_has k f n c fin)))

-- ---- operators on a curve and a number, and on two curves
number_has : (k : NumberOperator) (f : SpecCurve) (x : ℚ) (old : ℕ) → IsCurve f → Has IsCurve (NumberMade k f x) old
number_has numbers.PosMinus f x old c =
    guarded_has IsCurve (MayCallWith numbers.PosMinus f x) (Once (CurveFinds (calls.PosMinus x) f f)) old
    (both (finite_or_not f c) (le_q_or zero_q x)) (λ may. call_has (calls.PosMinus x) f f old (minus_answered x f c may.0))
number_has numbers.Scale f x old c =
    guarded_has IsCurve (MayCallWith numbers.Scale f x) (Once (CurveFinds (calls.Scale x) f f)) old
    (both (finite_or_not f c) (le_q_or zero_q x)) (λ may. call_has (calls.Scale x) f f old (scale_answered x f c))
number_has numbers.Shift f x old c =
    guarded_has IsCurve (MayCallWith numbers.Shift f x) (Once (CurveFinds (calls.Shift (Fin x)) f f)) old
    (le_q_or zero_q x) (λ may. call_has (calls.Shift (Fin x)) f f old (shift_answered (Fin x) f may c))

two_has : (k : PairOperator) (f g : SpecCurve) (old : ℕ) → IsCurve f → IsCurve g → Has IsCurve (TwoMade k f g) old
two_has twos.Sum f g old c d =
    guarded_has IsCurve (MayCall twos.Sum f g) (Once (CurveFinds calls.Sum f g)) old (inl tt)
    (λ may. call_has calls.Sum f g old (sum_answered f g c d))
two_has twos.Min f g old c d =
    guarded_has IsCurve (MayCall twos.Min f g) (Once (CurveFinds calls.Min f g)) old (inl tt)
    (λ may. call_has calls.Min f g old (lower_answered f g c d))
two_has twos.Max f g old c d =
    guarded_has IsCurve (MayCall twos.Max f g) (Once (CurveFinds calls.Max f g)) old (inl tt)
    (λ may. call_has calls.Max f g old (upper_answered f g c d))
two_has twos.Conv f g old c d =
    guarded_has IsCurve (MayCall twos.Conv f g) (Once (CurveFinds calls.Convolve f g)) old (inl tt)
    (λ may. call_has calls.Convolve f g old (convolution_answered f g c d))
two_has twos.PosDiff f g old c d =
    guarded_has IsCurve (MayCall twos.PosDiff f g) (Once (CurveFinds calls.PosDiff f g)) old (finite_or_not f c)
    (λ may. call_has calls.PosDiff f g old (above_answered f g c d may))
two_has twos.Deconv f g old c d =
    guarded_has IsCurve (MayCall twos.Deconv f g) (Once (CurveFinds calls.Deconvolve f g)) old (finite_or_not g d)
    (λ may. call_has calls.Deconvolve f g old (deconvolution_answered f g c d may))

-- ---- names
-- the curve of each name is a curve
abbrev pub AreCurves : List Let → Type 0
AreCurves [] = Unit {0}
AreCurves (l ∷ ls) = IsCurve l.curve × AreCurves ls

pub one_more : (ls : List Let) (l : Let) → AreCurves ls → IsCurve l.curve → AreCurves (ls ++ l ∷ [])
one_more [] l each here = (here, tt)
one_more (m ∷ ls) l each here = (each.0, one_more ls l each.1 here)

curve_or : (b : Bool) (l : Let) (o : Option Let) (c : SpecCurve) → option_map (λ m. m.curve) (cond b (Some l) o) ≡ Some c
    → IsCurve l.curve → (option_map (λ m. m.curve) o ≡ Some c → IsCurve c) → IsCurve c
curve_or true l o c e here later = let same : l.curve ≡ c = cc e in subst IsCurve same here
curve_or false l o c e here later = later e

named_curve : (ls : List Let) (w : List ℕ) (c : SpecCurve) → AreCurves ls → curve_named ls w ≡ Some c → IsCurve c
named_curve [] w c each e = absurd (cc e)
named_curve (l ∷ ls) w c each e = curve_or (bytes_eq l.name w) l _ c e each.0 (named_curve ls w c each.1)

name_by : (o : Option SpecCurve) (old : ℕ) → ((c : SpecCurve) → o ≡ Some c → IsCurve c) → Has IsCurve (Still (NameFinds o)) old
name_by None old kept = record { result = Err C6; new = old; is = (refl, refl); told = name_told; keeps = tt }
name_by (Some c) old kept = record { result = Ok c; new = old; is = (inl refl, refl); told = tt; keeps = kept c refl }

-- ---- expressions
pub finds_has : (ls : List Let) (e : Expression ℚ) (old : ℕ) → AreCurves ls → AreSmall e → Has IsCurve (Finds ls e) old
finds_has ls (Named w) old each small = name_by (curve_named ls w) old (λ c e. named_curve ls w c each e)
finds_has ls Nought old each small =
    record { result = Ok zero_curve; new = old; is = (inl refl, refl); told = tt; keeps = zero_is }
finds_has ls (OfPair k x y) old each small = pair_has k x y old small
finds_has ls (OfTriple k x y z) old each small = triple_has k x y z old
finds_has ls (OnCurve k e) old each small =
    then_has IsCurve IsCurve (Finds ls e) (OneMade k) old (finds_has ls e old each small) (λ f n c. one_has k f n c)
finds_has ls (OnNumber k e x) old each small =
    then_has IsCurve IsCurve (Finds ls e) (λ f. NumberMade k f x) old (finds_has ls e old each small) (λ f n c. number_has k f x n c)
finds_has ls (OnTwo k a b) old each small =
    then_has IsCurve IsCurve (Finds ls a) (λ f. Then (Finds ls b) (TwoMade k f)) old (finds_has ls a old each small.0)
    (λ f n c. then_has IsCurve IsCurve (Finds ls b) (TwoMade k f) n (finds_has ls b n each small.1) (λ g m d. two_has k f g m c d))
