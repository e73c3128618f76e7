-- A curve that is found is in normal form, where those of the names are.
use Rattle.std.specs.Prelude.{◌≡◌, ℕ, List, [], ◌∷◌, ◌++◌, Option, Some, option_map, cond, Bool, true, false, Ok}
use Rattle.std.specs.Str.{bytes_eq}
use Rattle.std.proofs.Common.{sym, subst, inl, inr}
use Rattle.rational.specs.Rational.{ℚ}
use Rattle.rational.proofs.Laws.{le_of_not_lt}
use Rattle.upp_curve.specs.Curve.{SpecCurve}
use Rattle.upp_curve.specs.Normal.{IsNormal}
use Rattle.upp_curve.proofs.KindsAre.{kinds_are_normal}
use Rattle.input_texts.specs.declared.curve_script.keyword.NumberPair.{NumberPair}
use Rattle.input_texts.specs.declared.curve_script.keyword.NumberPair.TheVariants.{Bucket, Latency}
use Rattle.input_texts.specs.declared.curve_script.keyword.NumberTriple.{NumberTriple}
use Rattle.input_texts.specs.declared.curve_script.keyword.NumberTriple.TheVariants.{Stair, Gate}
use Rattle.input_texts.specs.declared.curve_script.keyword.CurveOperator.{CurveOperator}
use Rattle.input_texts.specs.declared.curve_script.keyword.CurveOperator.TheVariants.{Close, RunSup, RunInf}
use Rattle.input_texts.specs.curve_script.Grammar.{Expression, Named, Nought, OfPair, OfTriple, OnCurve, OnNumber, OnTwo}
use Rattle.min_plus.specs.Functions.{zero_q}
use Rattle.upp_curve.specs.Kinds.{bucket}
use Rattle.curve_library.specs.Causes.{OneNegative}
use Rattle.curve_lang.specs.Meaning.{call_with, call_of_two}
use Rattle.curve_lang.specs.Finding.{Once, PairFinds, TripleFinds, OneFinds, CurveFinds, MayCall, MayCallWith, zero_curve}
use Rattle.curve_lang.specs.Found.{Let, curve_named, Finds}
use Rattle.curve_lang.proofs.Findings.{then_ok, gives_ok, guarded_ok, bucket_ok}
use Rattle.curve_lang.proofs.Meant.{name_ok, one_made, stair_numbers, gate_numbers}

-- the curve of each name is
abbrev pub EachNormal : List Let → Type 0
EachNormal [] = Unit {0}
EachNormal (l ∷ ls) = IsNormal l.curve × EachNormal ls

pub one_more : (ls : List Let) (l : Let) → EachNormal ls → IsNormal l.curve → EachNormal (ls ++ l ∷ [])
one_more [] l each here = (here, tt)
one_more (m ∷ ls) l (first, each) here = (first, one_more ls l each here)

normal_or : (b : Bool) (l : Let) (o : Option Let) (c : SpecCurve) → option_map (λ m. m.curve) (cond b (Some l) o) ≡ Some c → IsNormal l.curve
    → (option_map (λ m. m.curve) o ≡ Some c → IsNormal c) → IsNormal c
normal_or true l o c e here later = let same : l.curve ≡ c = cc e in subst IsNormal same here
normal_or false l o c e here later = later e

named_normal : (ls : List Let) (w : List ℕ) (c : SpecCurve) → EachNormal ls → curve_named ls w ≡ Some c → IsNormal c
named_normal [] w c each e = absurd (cc e)
named_normal (l ∷ ls) w c (first, each) e = normal_or (bytes_eq l.name w) l _ c e first (named_normal ls w c each)

pair_normal : (k : NumberPair) (x y : ℚ) (c : SpecCurve) → PairFinds k x y (Ok c) → IsNormal c
pair_normal Bucket x y c h = subst IsNormal (sym (bucket_ok (OneNegative x y) (bucket x y) c h).1) (kinds_are_normal.bucket x y)
pair_normal Latency x y c (fine, within, e) =
    subst IsNormal (sym e) (kinds_are_normal.rate_latency x y (le_of_not_lt (λ l. fine (inl l))) (le_of_not_lt (λ l. fine (inr l))))

triple_normal : (k : NumberTriple) (x y z : ℚ) (c : SpecCurve) → TripleFinds k x y z (Ok c) → IsNormal c
triple_normal Stair x y z c (fine, within, e) =
    let n = stair_numbers x y z fine in subst IsNormal (sym e) (kinds_are_normal.stair x y z n.packet n.period n.jitter)
triple_normal Gate x y z c (fine, within, e) =
    let n = gate_numbers x y z fine in subst IsNormal (sym e) (kinds_are_normal.gate x y z n.rate n.slot n.within)

one_normal : (k : CurveOperator) (f c : SpecCurve) (old new : ℕ) → OneFinds k f (Ok c) old new → IsNormal c
one_normal Close f c old new h = h.1.normal
one_normal RunSup f c old new h = h.0.1.curve.normal
one_normal RunInf f c old new h = h.0.1.curve.normal

pub found_normal : (ls : List Let) (e : Expression ℚ) (c : SpecCurve) (old new : ℕ) → EachNormal ls → Finds ls e (Ok c) old new → IsNormal c
found_normal ls (Named w) c old new each h = named_normal ls w c each (name_ok (curve_named ls w) c h.0)
found_normal ls Nought c old new each h = subst IsNormal (sym (gives_ok zero_curve c h.0)) (kinds_are_normal.bucket zero_q zero_q)
found_normal ls (OfPair k x y) c old new each h = pair_normal k x y c h.0
found_normal ls (OfTriple k x y z) c old new each h = triple_normal k x y z c h.0
found_normal ls (OnCurve k e) c old new each h =
    let b = then_ok h in
    let made = one_made k b.value c b.between new b.second in
    one_normal k b.value c made.tested new made.is
found_normal ls (OnNumber k e x) c old new each h =
    let b = then_ok h in
    (guarded_ok (MayCallWith k b.value x) (Once (CurveFinds (call_with k x) b.value b.value)) c b.between new b.second).1.0.1.curve.normal
found_normal ls (OnTwo k d e) c old new each h =
    let a = then_ok h in
    let b = then_ok a.second in
    (guarded_ok (MayCall k a.value b.value) (Once (CurveFinds (call_of_two k) a.value b.value)) c b.between new b.second).1.0.1.curve.normal
