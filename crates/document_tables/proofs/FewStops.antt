-- Stops of which the first few are found by looking at them all.
use Rattle.std.proofs.Common.{◌≡◌, ℕ, ◌<◌, ◌≤◌, List, [], ◌∷◌, ◌++◌, length, take, drop, Option, Some, None, refl, sym, ap, ◌∙◌, arith, length-append, ⊎_elim}
use Rattle.std.specs.BTreeMap.{BTreeMap}
use Rattle.std.proofs.lemmas.Bool.{cases_lt}
use Rattle.std.proofs.lemmas.List.{take_all, take-append-drop, take-append-le}
use Rattle.document_tables.specs.Grids.{place_of}
use Rattle.document_tables.specs.Stops.{Stop, ArePlacesOf, IsNoted, few}
use Rattle.document_tables.proofs.StopOrder.{keeps_place}
use Rattle.document_tables.proofs.StopSteps.{place_more}

-- a place among the first few is the place among all
pub place_among_all : (es : List Stop) (q j : ℕ) → place_of (take few es) q ≡ Some j → place_of es q ≡ Some j
place_among_all es q j h = ap (λ (xs : List Stop). place_of xs q) (sym (take-append-drop few es)) ∙ keeps_place (take few es) (drop few es) q j h

not_before : (es more : List Stop) (q : ℕ) → place_of (es ++ more) q ≡ None → place_of es q ≡ None
not_before es more q h = by (place_of es q) refl
  where
    by : (o : Option ℕ) → place_of es q ≡ o → o ≡ None
    by None e = refl
    by (Some j) e = let bad : Some j ≡ None = sym (keeps_place es more q j e) ∙ h in cc

-- a stop more, whose place is noted
pub noted_more : (places more : BTreeMap ℕ ℕ) (es : List Stop) (port place : ℕ) (after : Option ℕ) → ArePlacesOf places es → place_of es port ≡ None → place ≡ length es → IsNoted places more port place
    → ArePlacesOf more (es ++ (port, after) ∷ [])
noted_more places more es port place after are none next noted = λ q far.
    let all = es ++ (port, after) ∷ [] in
    let n = length-append es ((port, after) ∷ []) in
    ⊎_elim
    (λ (less : place < few).
    let nowhere : place_of all q ≡ None = ap (λ (xs : List Stop). place_of xs q) (sym (take_all few all (omega (arith, n, next, less)))) ∙ far in
    let before = not_before es ((port, after) ∷ []) q nowhere in
    noted.before less q
    ∙ (are q (ap (λ (xs : List Stop). place_of xs q) (take_all few es (omega (arith, next, less))) ∙ before)
    ∙ (before ∙ sym nowhere)))
    (λ (past : few ≤ place).
    place_more places more es port place after q
    (are q (ap (λ (xs : List Stop). place_of xs q) (sym (take-append-le few es ((port, after) ∷ []) (omega (arith, next, past)))) ∙ far)) none next (noted.past past q))
    (cases_lt place few)
