-- The numbers of a script fit: a word that writes one has a numerator and a denominator below 2^127.
use Rattle.std.proofs.Common.{◌≡◌, ◌≢◌, ℕ, suc, zero, ◌<◌, ◌^◌, List, [], ◌∷◌, Option, Some, None, Result, Ok, Err, Bool, true, false, refl, sym, ap, subst, arith}
use Rattle.std.specs.Prelude.{ℤ, pos, MatchBool, nat_abs, nat_lt, not, ◌==◌, ◌&&◌, ◌||◌, if◌then◌else◌, option_map}
use Rattle.std.specs.Str.Parse.{digits_value, starts_with_minus}
use Rattle.std.proofs.lemmas.Bool.{ltb-false, eqb-false}
use Rattle.rational.specs.Rational.{ℚ, over}
use Rattle.rational.specs.Ratio.{IsSmall}
use Rattle.rational.proofs.Parts.{small_ratio}
use Rattle.fraction128.specs.declared.fault.FracText.{FracText}
use Rattle.fraction128.specs.declared.fault.FracText.TheVariants.{Form, Past, ZeroDen}
use Rattle.fraction128.specs.Text.{largest, is_numeral, signed_value, number_from, parse_of, top_text, bottom_text}
use Rattle.input_texts.specs.curve_script.Grammar.{Expression, Named, Nought, OfPair, OfTriple, OnCurve, OnNumber, OnTwo}
use Rattle.input_texts.specs.curve_script.Grammar.{Statement, Lets, ValueAt, AsksOne, AsksTwo}
use Rattle.input_texts.specs.curve_script.Grammar.{number_in, number_of, both, numbers_read, numbers_read_in}
use Rattle.input_texts.specs.curve_script.Lines.{is_skipped}
use Rattle.input_texts.specs.curve_script.Scripts.{Numbered, IsNext, IsScriptFrom}

-- ---- one number
pub over_small : (z : ℤ) (q : ℕ) → q ≢ 0 → nat_abs z < 2 ^ 127 → q < 2 ^ 127 → IsSmall (over z q)
over_small z zero n h k = absurd (n refl)
over_small z (suc d) n h k = small_ratio z (pos (suc d)) (λ e. n (ap nat_abs e)) h k

size_is : (minus : Bool) (n : ℕ) → nat_abs (signed_value minus n) ≡ n
size_is false n = refl
size_is true zero = refl
size_is true (suc n) = refl

-- what three tests say where a number is answered
abbrev tested : Bool → Bool → Bool → ℚ → Result ℚ FracText
tested form past none v =
    if not form then Err Form else (if past then Err Past else (if none then Err ZeroDen else Ok v))

record Passes (past none : Bool) (v x : ℚ) : Type 0 where
  within : past ≡ false
  some : none ≡ false
  is : v ≡ x

passes : (form past none : Bool) (v x : ℚ) → tested form past none v ≡ Ok x → Passes past none v x
passes false past none v x e = absurd (cc)
passes true true none v x e = absurd (cc)
passes true false true v x e = absurd (cc)
passes true false false v x e = record { within = refl; some = refl; is = (let same : v ≡ x = cc in same) }

neither : (a b : Bool) → (a || b) ≡ false → (a ≡ false) × (b ≡ false)
neither true b e = absurd (cc)
neither false true e = absurd (cc)
neither false false e = (refl, refl)

from_parts : (minus : Bool) (top bottom : List ℕ) (x : ℚ) → number_from minus top bottom ≡ Ok x → IsSmall x
from_parts minus top bottom x e =
    let p = digits_value 10 top in
    let q = digits_value 10 bottom in
    let t = passes (is_numeral top && is_numeral bottom) (nat_lt largest p || nat_lt largest q) (q == 0) (over (signed_value minus p) q) x e in
    let n = neither (nat_lt largest p) (nat_lt largest q) t.within in
    let a = ltb-false largest p n.0 in
    let b = ltb-false largest q n.1 in
    let size = size_is minus p in
    subst IsSmall t.is
    (over_small (signed_value minus p) q (eqb-false q 0 t.some) (let l : nat_abs (signed_value minus p) < 2 ^ 127 = omega arith in l)
    (let l : q < 2 ^ 127 = omega arith in l))

-- as the text of a whole number or a quotient
pub parsed_small : (w : List ℕ) (x : ℚ) → parse_of w ≡ Ok x → IsSmall x
parsed_small w x e = from_parts (starts_with_minus w) (top_text w) (bottom_text w) x e

of_read : (r : Result ℚ FracText) (x : ℚ) → number_of r ≡ Some x → r ≡ Ok x
of_read (Ok y) x e = let same : y ≡ x = cc in ap (λ (q : ℚ). Ok q) same
of_read (Err fault) x e = absurd (cc)

number_small : (w : List ℕ) (x : ℚ) → number_in w ≡ Some x → IsSmall x
unfolding number_in
number_small w x e = parsed_small w x (of_read (parse_of w) x e)

-- ---- expressions
-- the numbers that have no limit of their own, which are the bursts of token buckets
abbrev pub AreSmall : Expression ℚ → Type 0
AreSmall (Named w) = Unit {0}
AreSmall Nought = Unit {0}
AreSmall (OfPair k x y) = IsSmall x
AreSmall (OfTriple k x y z) = Unit {0}
AreSmall (OnCurve k e) = AreSmall e
AreSmall (OnNumber k e x) = AreSmall e
AreSmall (OnTwo k a b) = AreSmall a × AreSmall b

record IsBoth {A B C : Type 0} (f : A → B → C) (o : Option A) (u : Option B) (c : C) : Type 0 where
  first : A
  second : B
  is_first : o ≡ Some first
  is_second : u ≡ Some second
  gives : f first second ≡ c

both_of : {A B C : Type 0} (f : A → B → C) (o : Option A) (u : Option B) (c : C) → both f o u ≡ Some c → IsBoth f o u c
both_of f None u c e = absurd (cc)
both_of f (Some a) None c e = absurd (cc)
both_of f (Some a) (Some b) c e =
    record { first = a; second = b; is_first = refl; is_second = refl; gives = (let same : f a b ≡ c = cc in same) }

record IsMapped {A B : Type 0} (f : A → B) (o : Option A) (b : B) : Type 0 where
  part : A
  is : o ≡ Some part
  gives : f part ≡ b

mapped_of : {A B : Type 0} (f : A → B) (o : Option A) (b : B) → option_map f o ≡ Some b → IsMapped f o b
mapped_of f None b e = absurd (cc)
mapped_of f (Some a) b e = record { part = a; is = refl; gives = (let same : f a ≡ b = cc in same) }

read_small : (d : Expression (List ℕ)) (e : Expression ℚ) → numbers_read d ≡ Some e → AreSmall e
read_small (Named w) e h = let n : Expression ℚ = Named w in let same : n ≡ e = cc in subst AreSmall same tt
read_small Nought e h = let n : Expression ℚ = Nought in let same : n ≡ e = cc in subst AreSmall same tt
read_small (OfPair k x y) e h =
    let b = both_of (λ (p q : ℚ). OfPair k p q) (number_in x) (number_in y) e h in
    subst AreSmall b.gives (number_small x b.first b.is_first)
read_small (OfTriple k x y z) e h =
    let b = both_of (λ (p : ℚ × ℚ) (r : ℚ). OfTriple k p.0 p.1 r) (both (λ (p q : ℚ). (p, q)) (number_in x) (number_in y)) (number_in z) e h in
    subst AreSmall b.gives tt
read_small (OnCurve k d) e h =
    let m = mapped_of (λ (f : Expression ℚ). OnCurve k f) (numbers_read d) e h in
    subst AreSmall m.gives (read_small d m.part m.is)
read_small (OnNumber k d x) e h =
    let b = both_of (λ (f : Expression ℚ) (p : ℚ). OnNumber k f p) (numbers_read d) (number_in x) e h in
    subst AreSmall b.gives (read_small d b.first b.is_first)
read_small (OnTwo k c d) e h =
    let b = both_of (λ (f g : Expression ℚ). OnTwo k f g) (numbers_read c) (numbers_read d) e h in
    subst AreSmall b.gives (read_small c b.first b.is_first, read_small d b.second b.is_second)

-- ---- statements
abbrev pub AreSmallIn : Statement ℚ → Type 0
AreSmallIn (Lets w e) = AreSmall e
AreSmallIn (ValueAt e x) = AreSmall e
AreSmallIn (AsksOne q e) = AreSmall e
AreSmallIn (AsksTwo q a b) = AreSmall a × AreSmall b

read_small_in : (d : Statement (List ℕ)) (s : Statement ℚ) → numbers_read_in d ≡ Some s → AreSmallIn s
read_small_in (Lets w d) s h =
    let m = mapped_of (λ (f : Expression ℚ). Lets w f) (numbers_read d) s h in
    subst AreSmallIn m.gives (read_small d m.part m.is)
read_small_in (ValueAt d x) s h =
    let b = both_of (λ (f : Expression ℚ) (p : ℚ). ValueAt f p) (numbers_read d) (number_in x) s h in
    subst AreSmallIn b.gives (read_small d b.first b.is_first)
read_small_in (AsksOne q d) s h =
    let m = mapped_of (λ (f : Expression ℚ). AsksOne q f) (numbers_read d) s h in
    subst AreSmallIn m.gives (read_small d m.part m.is)
read_small_in (AsksTwo q c d) s h =
    let b = both_of (λ (f g : Expression ℚ). AsksTwo q f g) (numbers_read c) (numbers_read d) s h in
    subst AreSmallIn b.gives (read_small c b.first b.is_first, read_small d b.second b.is_second)

-- ---- scripts
abbrev pub EachSmall : List Numbered → Type 0
EachSmall [] = Unit {0}
EachSmall (l ∷ ls) = AreSmallIn l.1 × EachSmall ls

by_skipped : (skipped : Bool) (line : List ℕ) (n k : ℕ) (here : Type 0) (later : List Numbered → Type 0) (out : List Numbered)
    → (here → EachSmall out) → ((rest : List Numbered) → later rest → EachSmall rest)
    → MatchBool skipped here (IsNext n k line later out) → EachSmall out
by_skipped true line n k here later out f g h = f h
by_skipped false line n k here later [] f g h = absurd h
by_skipped false line n k here later (x ∷ out) f g h =
    (read_small_in h.2.spelt.draft x.1 h.2.spelt.numbers, g out h.3)

pub script_small : (lines : List (List ℕ)) (n k : ℕ) (out : List Numbered) → IsScriptFrom n k lines out → EachSmall out
script_small [] n k out h = subst EachSmall (sym h) tt
script_small (line ∷ lines) n k out h =
    by_skipped (is_skipped line) line n k (IsScriptFrom (suc n) k lines out) (IsScriptFrom (suc n) (suc k) lines) out
    (script_small lines (suc n) k out) (λ rest on. script_small lines (suc n) (suc k) rest on) h
