-- What stands behind a command: operands alone, or `--json` at some place among them.
use Rattle.std.proofs.Common.{◌≡◌, ℕ, Bool, true, false, List, [], ◌∷◌, ◌++◌, length, Option, Some, None, refl, sym, ap, ◌∙◌, subst, arith}
use Rattle.std.specs.Prelude.{◌&&◌, ◌||◌, not, codes, is_some, option_map, unwrap_or, if◌then◌else◌}
use Rattle.std.specs.List.{list_all}
use Rattle.std.proofs.lemmas.Slice.Eq.{bytes_eq-Decides}
use Rattle.clap.specs.Simple.{Shape}
use Rattle.command_words.specs.Apps.{one, two, four, with_json}
use Rattle.command_words.specs.Lines.{Text, is_operand, is_json, without_json, operands_of, asks_json}
use Rattle.command_words.proofs.Leaves.{Given, leaf, one_given, or_json_given, json_first_given, json_last_given, two_given, two_or_json_given, json_then_two_given, json_between_given, two_then_json_given, four_given}

-- ---- tests
pub both_left : (a b : Bool) → (a && b) ≡ true → a ≡ true
both_left true b h = refl
both_left false b h = absurd (cc)

pub both_right : (a b : Bool) → (a && b) ≡ true → b ≡ true
both_right true b h = h
both_right false b h = absurd (cc)

-- ---- the place of `--json`
pub record Split (rest operands : List Text) : Type 0 where
  pub before : List Text
  pub after : List Text
  pub is : rest ≡ before ++ codes "--json" ∷ after
  pub gives : operands ≡ before ++ after

further : (word : Text) (words : List Text) (o : Option (List Text)) (operands : List Text)
    → ((more : List Text) → o ≡ Some more → Split words more) → option_map (λ rest. word ∷ rest) o ≡ Some operands
    → Split (word ∷ words) operands
further word words None operands split e = absurd (cc)
further word words (Some more) operands split e =
    let s = split more refl in
    let same : word ∷ more ≡ operands = cc in
    record {
      before = word ∷ s.before;
      after = s.after;
      is = ap (λ (ws : List Text). word ∷ ws) s.is;
      gives = sym same ∙ ap (λ (ws : List Text). word ∷ ws) s.gives;
    }

at_word : (word : Text) (words operands : List Text) (test : Bool) → is_json word ≡ test
    → ((more : List Text) → without_json words ≡ Some more → Split words more)
    → (if test then Some words else option_map (λ rest. word ∷ rest) (without_json words)) ≡ Some operands
    → Split (word ∷ words) operands
at_word word words operands true is split e =
    let json : word ≡ codes "--json" = (bytes_eq-Decides word (codes "--json")).0 is in
    let same : words ≡ operands = cc in
    record {
      before = [];
      after = words;
      is = ap (λ (w : Text). w ∷ words) json;
      gives = sym same;
    }
at_word word words operands false is split e = further word words (without_json words) operands split e

pub split_of : (rest operands : List Text) → without_json rest ≡ Some operands → Split rest operands
split_of [] operands e = absurd (cc)
split_of (word ∷ words) operands e =
    at_word word words operands (is_json word) refl (λ more is. split_of words more is) e

-- ---- the two cases
moved : (s : Shape) (rest operands : List Text) (split : Split rest operands)
    → Given s (split.before ++ codes "--json" ∷ split.after) (split.before ++ split.after) true
    → Given s rest operands true
moved s rest operands split given =
    subst (λ (ops : List Text). Given s rest ops true) (sym split.gives)
    (subst (λ (ws : List Text). Given s ws (split.before ++ split.after) true) (sym split.is) given)

-- ---- one operand
just_one : (word : Text) (words : List Text) → length words ≡ 1 → list_all is_operand words ≡ true
    → Given (leaf (one word)) words words false
just_one word [] n all = absurd (omega (arith, n))
just_one word (x ∷ []) n all = one_given word x (both_left (is_operand x) true all)
just_one word (x ∷ y ∷ more) n all = absurd (omega (arith, n))

or_json : (word : Text) (words : List Text) → length words ≡ 1 → list_all is_operand words ≡ true
    → Given (leaf (with_json (one word))) words words false
or_json word [] n all = absurd (omega (arith, n))
or_json word (x ∷ []) n all = or_json_given word x (both_left (is_operand x) true all)
or_json word (x ∷ y ∷ more) n all = absurd (omega (arith, n))

beside_one : (word : Text) (before after : List Text) → length (before ++ after) ≡ 1
    → list_all is_operand (before ++ after) ≡ true
    → Given (leaf (with_json (one word))) (before ++ codes "--json" ∷ after) (before ++ after) true
beside_one word [] [] n all = absurd (omega (arith, n))
beside_one word [] (x ∷ []) n all = json_first_given word x (both_left (is_operand x) true all)
beside_one word [] (x ∷ y ∷ more) n all = absurd (omega (arith, n))
beside_one word (x ∷ []) [] n all = json_last_given word x (both_left (is_operand x) true all)
beside_one word (x ∷ []) (y ∷ more) n all = absurd (omega (arith, n))
beside_one word (x ∷ y ∷ more) after n all = absurd (omega (arith, n))

-- ---- two operands
just_two : (word : Text) (words : List Text) → length words ≡ 2 → list_all is_operand words ≡ true
    → Given (leaf (two word)) words words false
just_two word [] n all = absurd (omega (arith, n))
just_two word (x ∷ []) n all = absurd (omega (arith, n))
just_two word (x ∷ y ∷ []) n all =
    two_given word x y (both_left (is_operand x) (is_operand y && true) all)
    (both_left (is_operand y) true (both_right (is_operand x) (is_operand y && true) all))
just_two word (x ∷ y ∷ z ∷ more) n all = absurd (omega (arith, n))

two_or_json : (word : Text) (words : List Text) → length words ≡ 2 → list_all is_operand words ≡ true
    → Given (leaf (with_json (two word))) words words false
two_or_json word [] n all = absurd (omega (arith, n))
two_or_json word (x ∷ []) n all = absurd (omega (arith, n))
two_or_json word (x ∷ y ∷ []) n all =
    two_or_json_given word x y (both_left (is_operand x) (is_operand y && true) all)
    (both_left (is_operand y) true (both_right (is_operand x) (is_operand y && true) all))
two_or_json word (x ∷ y ∷ z ∷ more) n all = absurd (omega (arith, n))

beside_two : (word : Text) (before after : List Text) → length (before ++ after) ≡ 2
    → list_all is_operand (before ++ after) ≡ true
    → Given (leaf (with_json (two word))) (before ++ codes "--json" ∷ after) (before ++ after) true
beside_two word [] [] n all = absurd (omega (arith, n))
beside_two word [] (x ∷ []) n all = absurd (omega (arith, n))
beside_two word [] (x ∷ y ∷ []) n all =
    json_then_two_given word x y (both_left (is_operand x) (is_operand y && true) all)
    (both_left (is_operand y) true (both_right (is_operand x) (is_operand y && true) all))
beside_two word [] (x ∷ y ∷ z ∷ more) n all = absurd (omega (arith, n))
beside_two word (x ∷ []) [] n all = absurd (omega (arith, n))
beside_two word (x ∷ []) (y ∷ []) n all =
    json_between_given word x y (both_left (is_operand x) (is_operand y && true) all)
    (both_left (is_operand y) true (both_right (is_operand x) (is_operand y && true) all))
beside_two word (x ∷ []) (y ∷ z ∷ more) n all = absurd (omega (arith, n))
beside_two word (x ∷ y ∷ []) [] n all =
    two_then_json_given word x y (both_left (is_operand x) (is_operand y && true) all)
    (both_left (is_operand y) true (both_right (is_operand x) (is_operand y && true) all))
beside_two word (x ∷ y ∷ []) (z ∷ more) n all = absurd (omega (arith, n))
beside_two word (x ∷ y ∷ z ∷ more) after n all = absurd (omega (arith, n))

-- ---- four operands
just_four : (word : Text) (words : List Text) → length words ≡ 4 → list_all is_operand words ≡ true
    → Given (leaf (four word)) words words false
just_four word [] n all = absurd (omega (arith, n))
just_four word (x ∷ []) n all = absurd (omega (arith, n))
just_four word (x ∷ y ∷ []) n all = absurd (omega (arith, n))
just_four word (x ∷ y ∷ z ∷ []) n all = absurd (omega (arith, n))
just_four word (x ∷ y ∷ z ∷ w ∷ []) n all =
    let first = both_right (is_operand x) (is_operand y && (is_operand z && (is_operand w && true))) all in
    let second = both_right (is_operand y) (is_operand z && (is_operand w && true)) first in
    let third = both_right (is_operand z) (is_operand w && true) second in
    four_given word x y z w (both_left (is_operand x) (is_operand y && (is_operand z && (is_operand w && true))) all)
    (both_left (is_operand y) (is_operand z && (is_operand w && true)) first)
    (both_left (is_operand z) (is_operand w && true) second) (both_left (is_operand w) true third)
just_four word (x ∷ y ∷ z ∷ w ∷ v ∷ more) n all = absurd (omega (arith, n))

-- ---- by what stands behind the command
module _ (word : Text) (rest : List Text) where
  with_one : (o : Option (List Text)) → without_json rest ≡ o → length (unwrap_or o rest) ≡ 1
      → list_all is_operand (unwrap_or o rest) ≡ true
      → Given (leaf (with_json (one word))) rest (unwrap_or o rest) (is_some o)
  with_one None is n all = or_json word rest n all
  with_one (Some operands) is n all =
      let split = split_of rest operands is in
      let few : length (split.before ++ split.after) ≡ 1 = subst (λ (ws : List Text). length ws ≡ 1) split.gives n in
      let each = subst (λ (ws : List Text). list_all is_operand ws ≡ true) split.gives all in
      moved (leaf (with_json (one word))) rest operands split (beside_one word split.before split.after few each)

  with_two : (o : Option (List Text)) → without_json rest ≡ o → length (unwrap_or o rest) ≡ 2
      → list_all is_operand (unwrap_or o rest) ≡ true
      → Given (leaf (with_json (two word))) rest (unwrap_or o rest) (is_some o)
  with_two None is n all = two_or_json word rest n all
  with_two (Some operands) is n all =
      let split = split_of rest operands is in
      let few : length (split.before ++ split.after) ≡ 2 = subst (λ (ws : List Text). length ws ≡ 2) split.gives n in
      let each = subst (λ (ws : List Text). list_all is_operand ws ≡ true) split.gives all in
      moved (leaf (with_json (two word))) rest operands split (beside_two word split.before split.after few each)

  pub json_and_one : length (operands_of rest) ≡ 1 → list_all is_operand (operands_of rest) ≡ true
      → Given (leaf (with_json (one word))) rest (operands_of rest) (asks_json rest)
  json_and_one n all = with_one (without_json rest) refl n all

  pub json_and_two : length (operands_of rest) ≡ 2 → list_all is_operand (operands_of rest) ≡ true
      → Given (leaf (with_json (two word))) rest (operands_of rest) (asks_json rest)
  json_and_two n all = with_two (without_json rest) refl n all

  -- without `--json`
  alone : (s : Shape) (count : ℕ) (o : Option (List Text)) → without_json rest ≡ o → (not (is_some o) || false) ≡ true
      → length (unwrap_or o rest) ≡ count → list_all is_operand (unwrap_or o rest) ≡ true
      → ((words : List Text) → length words ≡ count → list_all is_operand words ≡ true → Given s words words false)
      → Given s rest (unwrap_or o rest) (is_some o)
  alone s count None is lines n all given = given rest n all
  alone s count (Some operands) is lines n all given = absurd (cc)

  pub only_one : (not (asks_json rest) || false) ≡ true → length (operands_of rest) ≡ 1
      → list_all is_operand (operands_of rest) ≡ true → Given (leaf (one word)) rest (operands_of rest) (asks_json rest)
  only_one lines n all = alone (leaf (one word)) 1 (without_json rest) refl lines n all (just_one word)

  pub only_two : (not (asks_json rest) || false) ≡ true → length (operands_of rest) ≡ 2
      → list_all is_operand (operands_of rest) ≡ true → Given (leaf (two word)) rest (operands_of rest) (asks_json rest)
  only_two lines n all = alone (leaf (two word)) 2 (without_json rest) refl lines n all (just_two word)

  pub only_four : (not (asks_json rest) || false) ≡ true → length (operands_of rest) ≡ 4
      → list_all is_operand (operands_of rest) ≡ true → Given (leaf (four word)) rest (operands_of rest) (asks_json rest)
  only_four lines n all = alone (leaf (four word)) 4 (without_json rest) refl lines n all (just_four word)
