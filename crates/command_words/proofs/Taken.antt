-- Taken command lines are parsed as they are read.
use Rattle.std.proofs.Common.{◌≡◌, ◌⊎◌, ℕ, Bool, true, false, List, [], ◌∷◌, length, refl, sym, ap, ◌∙◌, subst, inl, inr}
use Rattle.std.specs.Prelude.{◌==◌, ◌&&◌, ◌||◌, not, codes, if◌then◌else◌}
use Rattle.std.specs.List.{list_all}
use Rattle.std.specs.Str.{bytes_eq}
use Rattle.std.proofs.Common.{eqb→eq}
use Rattle.std.proofs.lemmas.Slice.Eq.{bytes_eq-Decides}
use Rattle.clap.specs.Simple.{Shape}
use Rattle.clap.specs.Words.{Text, takes, subcommand_of}
use Rattle.clap.specs.Walk.{rows_after}
use Rattle.clap.proofs.OnLiterals.{clap_on_literals}
use Rattle.command_words.specs.Apps.{netcalc, one, two, four, with_json}
use Rattle.command_words.specs.Lines.{AreTaken, is_operand, operands_of, asks_json, takes_operands, takes_json}
use Rattle.command_words.specs.Reads.{HasCalled}
use Rattle.command_words.proofs.Entering.{Enters, rows, taken}
use Rattle.command_words.proofs.Leaves.{Given, leaf}
use Rattle.command_words.proofs.Splits.{both_left, both_right, json_and_one, json_and_two, only_one, only_two, only_four}

-- ---- each command word
analyse_enters : Enters (codes "analyse") (leaf (with_json (one (codes "analyse"))))
unfolding clap_on_literals
analyse_enters = record { first = refl; passes = refl; found = refl; named = refl }

edit_enters : Enters (codes "edit") (leaf (with_json (two (codes "edit"))))
unfolding clap_on_literals
edit_enters = record { first = refl; passes = refl; found = refl; named = refl }

simulate_enters : Enters (codes "simulate") (leaf (two (codes "simulate")))
unfolding clap_on_literals
simulate_enters = record { first = refl; passes = refl; found = refl; named = refl }

exercise_enters : Enters (codes "exercise") (leaf (one (codes "exercise")))
unfolding clap_on_literals
exercise_enters = record { first = refl; passes = refl; found = refl; named = refl }

check_enters : Enters (codes "check") (leaf (two (codes "check")))
unfolding clap_on_literals
check_enters = record { first = refl; passes = refl; found = refl; named = refl }

measure_enters : Enters (codes "measure") (leaf (four (codes "measure")))
unfolding clap_on_literals
measure_enters = record { first = refl; passes = refl; found = refl; named = refl }

curve_enters : Enters (codes "curve") (leaf (one (codes "curve")))
unfolding clap_on_literals
curve_enters = record { first = refl; passes = refl; found = refl; named = refl }

-- ---- a command line
record IsParsed (program word : Text) (rest : List Text) : Type 0 where
  takes : takes netcalc (program ∷ word ∷ rest) ≡ true
  called : HasCalled (subcommand_of netcalc (program ∷ word ∷ rest)) word (operands_of rest) (asks_json rest)

parsed : (word : Text) (l : Shape) → Enters word l → (program : Text) (rest : List Text)
    → Given l rest (operands_of rest) (asks_json rest) → IsParsed program word rest
parsed word l enters program rest given = record {
  takes = taken word l enters program rest given.passes;
  called = record { rows = rows_after l.rules [] rest; is = rows word l enters program rest; given = given.given };
}

-- ---- by the word
same_number : (a b : ℕ) → (a == b) ≡ true → a ≡ b
same_number a b h = eqb→eq a b (rw h tt)

on_if : (t a b : Bool) → (if t then a else b) ≡ true → ((t ≡ true) × (a ≡ true)) ⊎ (b ≡ true)
on_if true a b h = inl (refl, h)
on_if false a b h = inr h

module _ (program word : Text) (rest : List Text) (all : list_all is_operand (operands_of rest) ≡ true)
    (json : (not (asks_json rest) || takes_json word) ≡ true) where
  at : (name : Text) → bytes_eq word name ≡ true → IsParsed program name rest → IsParsed program word rest
  at name is p = subst (λ (w : Text). IsParsed program w rest) (sym ((bytes_eq-Decides word name).0 is)) p

  none : (name : Text) → bytes_eq word name ≡ true → takes_json name ≡ false → (not (asks_json rest) || false) ≡ true
  none name is lines =
      let same : takes_json word ≡ false =
      ap takes_json ((bytes_eq-Decides word name).0 is) ∙ lines in
      subst (λ (t : Bool). (not (asks_json rest) || t) ≡ true) same json

  abbrev n : ℕ
  n = length (operands_of rest)

  by_word : takes_operands word n ≡ true → IsParsed program word rest
  by_word h = elim (on_if (bytes_eq word (codes "analyse")) (n == 1) _ h) [
    | inl (is, k) ↦ at (codes "analyse") is
        (parsed (codes "analyse") _ analyse_enters program rest (json_and_one (codes "analyse") rest (same_number n 1 k) all))
    | inr h2 ↦ elim (on_if (bytes_eq word (codes "edit")) (n == 2) _ h2) [
      | inl (is, k) ↦ at (codes "edit") is
          (parsed (codes "edit") _ edit_enters program rest (json_and_two (codes "edit") rest (same_number n 2 k) all))
      | inr h3 ↦ elim (on_if (bytes_eq word (codes "simulate")) (n == 2) _ h3) [
        | inl (is, k) ↦ at (codes "simulate") is
            (parsed (codes "simulate") _ simulate_enters program rest
            (only_two (codes "simulate") rest (none (codes "simulate") is refl) (same_number n 2 k) all))
        | inr h4 ↦ elim (on_if (bytes_eq word (codes "exercise")) (n == 1) _ h4) [
          | inl (is, k) ↦ at (codes "exercise") is
              (parsed (codes "exercise") _ exercise_enters program rest
              (only_one (codes "exercise") rest (none (codes "exercise") is refl) (same_number n 1 k) all))
          | inr h5 ↦ elim (on_if (bytes_eq word (codes "check")) (n == 2) _ h5) [
            | inl (is, k) ↦ at (codes "check") is
                (parsed (codes "check") _ check_enters program rest
                (only_two (codes "check") rest (none (codes "check") is refl) (same_number n 2 k) all))
            | inr h6 ↦ elim (on_if (bytes_eq word (codes "measure")) (n == 4) _ h6) [
              | inl (is, k) ↦ at (codes "measure") is
                  (parsed (codes "measure") _ measure_enters program rest
                  (only_four (codes "measure") rest (none (codes "measure") is refl) (same_number n 4 k) all))
              | inr h7 ↦ elim (on_if (bytes_eq word (codes "curve")) (n == 1) _ h7) [
                | inl (is, k) ↦ at (codes "curve") is
                    (parsed (codes "curve") _ curve_enters program rest
                    (only_one (codes "curve") rest (none (codes "curve") is refl) (same_number n 1 k) all))
                | inr h8 ↦ absurd (cc)
              ]
            ]
          ]
        ]
      ]
    ]
  ]

line_is_parsed : (words : List Text) (line : AreTaken words) → IsParsed line.program line.word line.rest
line_is_parsed words line =
    let operands = operands_of line.rest in
    let count = takes_operands line.word (length operands) in
    let json = not (asks_json line.rest) || takes_json line.word in
    let tests = both_right count (list_all is_operand operands && json) line.taken in
    by_word line.program line.word line.rest (both_left (list_all is_operand operands) json tests)
    (both_right (list_all is_operand operands) json tests)
    (both_left count (list_all is_operand operands && json) line.taken)

pub is_taken : (words : List Text) → AreTaken words → takes netcalc words ≡ true
is_taken words line = ap (takes netcalc) line.is ∙ (line_is_parsed words line).takes

pub is_called : (words : List Text) (line : AreTaken words)
    → HasCalled (subcommand_of netcalc words) line.word (operands_of line.rest) (asks_json line.rest)
is_called words line =
    subst (λ (ws : List Text). HasCalled (subcommand_of netcalc ws) line.word (operands_of line.rest) (asks_json line.rest))
    (sym line.is) (line_is_parsed words line).called
