-- Keywords and names by their bytes.
use Rattle.std.proofs.Common.{◌≡◌, ℕ, List, [], ◌∷◌, length, Option, Some, None, Bool, true, false, cond, refl, sym, ap, ◌∙◌, subst, arith, find}
use Rattle.std.specs.Prelude.{◌&&◌, nat_le}
use Rattle.std.specs.List.{list_all, find}
use Rattle.std.specs.Str.{bytes_eq}
use Rattle.std.proofs.lemmas.Bool.{leb-true, le-leb, and_parts, and_from}
use Rattle.std.proofs.lemmas.Slice.Eq.{bytes_eq-Decides}
use Rattle.input_texts.specs.declared.curve_script.keyword.TheConstants.{KEYWORDS}
use Rattle.input_texts.specs.declared.curve_script.keyword.Keyword.{Keyword}
use Rattle.input_texts.specs.declared.curve_script.keyword.Keyword.TheVariants.{Let, At, Value, AskOne, AskTwo, Zero, TwoNumbers, ThreeNumbers, OneCurve, CurveAndNumber, TwoCurves}
use Rattle.input_texts.specs.declared.curve_script.keyword.OneAsked.TheVariants.{Rate, Show}
use Rattle.input_texts.specs.declared.curve_script.keyword.TwoAsked.TheVariants.{Delay, Backlog, Equal, Below}
use Rattle.input_texts.specs.declared.curve_script.keyword.NumberPair.TheVariants.{Bucket, Latency}
use Rattle.input_texts.specs.declared.curve_script.keyword.NumberTriple.TheVariants.{Stair, Gate}
use Rattle.input_texts.specs.declared.curve_script.keyword.CurveOperator.TheVariants.{Close, RunSup, RunInf}
use Rattle.input_texts.specs.declared.curve_script.keyword.NumberOperator.TheVariants.{PosMinus, Scale, Shift}
use Rattle.input_texts.specs.declared.curve_script.keyword.PairOperator.TheVariants.{Sum, Min, Max, Conv, PosDiff, Deconv}
use Rattle.input_texts.specs.curve_script.Tokens.{is_letter}
use Rattle.input_texts.specs.curve_script.Keywords.{spelling, keyword_of}
use Rattle.input_texts.specs.curve_script.Grammar.{IsName, is_name_byte}
use Rattle.input_texts.specs.curve_script.Shapes.{begins_with_letter, is_name_text}

pub keyword_spelt : (k : Keyword) → keyword_of (spelling k) ≡ Some k
unfolding keyword_of spelling
keyword_spelt Let = refl
keyword_spelt At = refl
keyword_spelt Value = refl
keyword_spelt (AskOne Rate) = refl
keyword_spelt (AskOne Show) = refl
keyword_spelt (AskTwo Delay) = refl
keyword_spelt (AskTwo Backlog) = refl
keyword_spelt (AskTwo Equal) = refl
keyword_spelt (AskTwo Below) = refl
keyword_spelt Zero = refl
keyword_spelt (TwoNumbers Bucket) = refl
keyword_spelt (TwoNumbers Latency) = refl
keyword_spelt (ThreeNumbers Stair) = refl
keyword_spelt (ThreeNumbers Gate) = refl
keyword_spelt (OneCurve Close) = refl
keyword_spelt (OneCurve RunSup) = refl
keyword_spelt (OneCurve RunInf) = refl
keyword_spelt (CurveAndNumber PosMinus) = refl
keyword_spelt (CurveAndNumber Scale) = refl
keyword_spelt (CurveAndNumber Shift) = refl
keyword_spelt (TwoCurves Sum) = refl
keyword_spelt (TwoCurves Min) = refl
keyword_spelt (TwoCurves Max) = refl
keyword_spelt (TwoCurves Conv) = refl
keyword_spelt (TwoCurves PosDiff) = refl
keyword_spelt (TwoCurves Deconv) = refl

found_passes : {X : Type 0} (p : X → Bool) (xs : List X) (x : X) → find p xs ≡ Some x → p x ≡ true
found_passes p [] x e = absurd cc
found_passes {X} p (y ∷ ys) x e = go (p y) refl (found_passes p ys x) e
  where
    go : (b : Bool) → p y ≡ b → (find p ys ≡ Some x → p x ≡ true) → cond b (Some y) (find p ys) ≡ Some x → p x ≡ true
    go true f ih h = let same : y ≡ x = cc in subst (λ z. p z ≡ true) same f
    go false f ih h = ih h

pub keyword_found : (w : List ℕ) (k : Keyword) → keyword_of w ≡ Some k → spelling k ≡ w
unfolding keyword_of
keyword_found w k e = (bytes_eq-Decides (spelling k) w).0 (found_passes (λ k. bytes_eq (spelling k) w) KEYWORDS k e)

-- a word that is no keyword, and has the form of a name, is a name
pub name_from_text : (w : List ℕ) → keyword_of w ≡ None → is_name_text w ≡ true → IsName w
name_from_text [] none e = absurd cc
name_from_text (b ∷ bs) none e =
    let w = b ∷ bs in
    let parts = and_parts (begins_with_letter w && nat_le (length w) 32) (list_all is_name_byte w) e in
    let front = and_parts (begins_with_letter w) (nat_le (length w) 32) parts.0 in
    record {
      some = omega arith;
      few = leb-true (length w) 32 front.1;
      begins = front.0;
      bytes = parts.1;
      free = λ k h. let bad : Some k ≡ None = sym (keyword_spelt k) ∙ ap keyword_of h ∙ none in absurd cc;
    }

-- a name has the form of one
pub name_is_text : (w : List ℕ) → IsName w → is_name_text w ≡ true
name_is_text [] h = absurd (let some = h.some in omega arith)
name_is_text (b ∷ bs) h =
    and_from (is_letter b && nat_le (length (b ∷ bs)) 32) (list_all is_name_byte (b ∷ bs)) (and_from (is_letter b) (nat_le (length (b ∷ bs)) 32) h.begins (le-leb (length (b ∷ bs)) 32 h.few)) h.bytes

-- and is no keyword
pub name_is_free : (w : List ℕ) → IsName w → keyword_of w ≡ None
name_is_free w h = go (keyword_of w) refl
  where
    go : (o : Option Keyword) → keyword_of w ≡ o → o ≡ None
    go None e = refl
    go (Some k) e = absurd (h.free k (keyword_found w k e))
