-- What is taken, `clap` takes; and what it finds is what is asked for.
use Rattle.std.proofs.Common.{◌≡◌, ◌⊎◌, ℕ, Bool, true, false, List, [], ◌∷◌, length, Option, inl, inr, refl, sym, ap, ◌∙◌, subst}
use Rattle.std.specs.Prelude.{◌||◌, not, codes, if◌then◌else◌}
use Rattle.std.specs.Option.{is_some, IsSome}
use Rattle.std.specs.List.{list_all}
use Rattle.std.specs.Str.{bytes_eq}
use Rattle.std.proofs.lemmas.Bool.{and_from}
use Rattle.std.proofs.lemmas.Slice.Eq.{bytes_eq-Decides}
use Rattle.command_words.specs.Lines.{AreTaken, IsCallOf, is_operand, operands_of, asks_json, takes_operands, takes_json, takes_rest}
use Rattle.netcalc_cli.specs.Words.{on_one, on_two, on_four, in_lines, in_json, called, command_on, command_of}
use Rattle.std.proofs.lemmas.Bool.{and_from}

abbrev Text : Type 0
Text = List ℕ

-- ---- a choice that is made
some_if : {A : Type 0} (t : Bool) (a b : Option A) → IsSome (if t then a else b)
    → ((t ≡ true) × IsSome a) ⊎ IsSome b
some_if true a b h = inl (refl, h)
some_if false a b h = inr h

-- ---- by a command's word
named : (word name : Text) (n : ℕ) → bytes_eq word name ≡ true → takes_operands name n ≡ true
    → takes_operands word n ≡ true
named word name n is takes =
    subst (λ (w : Text). takes_operands w n ≡ true) (sym ((bytes_eq-Decides word name).0 is)) takes

one_taken : (word operand : Text) → IsSome (on_one word operand) → takes_operands word 1 ≡ true
one_taken word operand h = elim (some_if (bytes_eq word (codes "analyse")) _ _ h) [
  | inl (is, k) ↦ named word (codes "analyse") 1 is refl
  | inr h2 ↦ elim (some_if (bytes_eq word (codes "curve")) _ _ h2) [
    | inl (is, k) ↦ named word (codes "curve") 1 is refl
    | inr h3 ↦ elim (some_if (bytes_eq word (codes "exercise")) _ _ h3) [
      | inl (is, k) ↦ named word (codes "exercise") 1 is refl
      | inr h4 ↦ absurd (cc)
    ]
  ]
]

two_taken : (word first second : Text) → IsSome (on_two word first second) → takes_operands word 2 ≡ true
two_taken word first second h = elim (some_if (bytes_eq word (codes "edit")) _ _ h) [
  | inl (is, k) ↦ named word (codes "edit") 2 is refl
  | inr h2 ↦ elim (some_if (bytes_eq word (codes "simulate")) _ _ h2) [
    | inl (is, k) ↦ named word (codes "simulate") 2 is refl
    | inr h3 ↦ elim (some_if (bytes_eq word (codes "check")) _ _ h3) [
      | inl (is, k) ↦ named word (codes "check") 2 is refl
      | inr h4 ↦ absurd (cc)
    ]
  ]
]

four_taken : (word net trace name rate : Text) → IsSome (on_four word net trace name rate)
    → takes_operands word 4 ≡ true
four_taken word net trace name rate h = elim (some_if (bytes_eq word (codes "measure")) _ _ h) [
  | inl (is, k) ↦ named word (codes "measure") 4 is refl
  | inr h2 ↦ absurd (cc)
]

lines_taken : (word : Text) (operands : List Text) → IsSome (in_lines word operands)
    → takes_operands word (length operands) ≡ true
lines_taken word [] h = absurd (cc)
lines_taken word (a ∷ []) h = one_taken word a h
lines_taken word (a ∷ b ∷ []) h = two_taken word a b h
lines_taken word (a ∷ b ∷ c ∷ []) h = absurd (cc)
lines_taken word (a ∷ b ∷ c ∷ d ∷ []) h = four_taken word a b c d h
lines_taken word (a ∷ b ∷ c ∷ d ∷ e ∷ more) h = absurd (cc)

-- ---- and the flag
record Takes (word : Text) (n : ℕ) (json : Bool) : Type 0 where
  operands : takes_operands word n ≡ true
  flag : (not json || takes_json word) ≡ true

with_json : (word name : Text) (n : ℕ) → bytes_eq word name ≡ true → takes_operands name n ≡ true
    → takes_json name ≡ true → Takes word n true
with_json word name n is takes json = record {
  operands = named word name n is takes;
  flag = subst (λ (w : Text). takes_json w ≡ true) (sym ((bytes_eq-Decides word name).0 is)) json;
}

json_taken : (word : Text) (operands : List Text) → IsSome (in_json word operands)
    → Takes word (length operands) true
json_taken word [] h = absurd (cc)
json_taken word (a ∷ []) h = elim (some_if (bytes_eq word (codes "analyse")) _ _ h) [
  | inl (is, k) ↦ with_json word (codes "analyse") 1 is refl refl
  | inr h2 ↦ absurd (cc)
]
json_taken word (a ∷ b ∷ []) h = elim (some_if (bytes_eq word (codes "edit")) _ _ h) [
  | inl (is, k) ↦ with_json word (codes "edit") 2 is refl refl
  | inr h2 ↦ absurd (cc)
]
json_taken word (a ∷ b ∷ c ∷ more) h = absurd (cc)

called_taken : (word : Text) (operands : List Text) (json : Bool) → IsSome (called word operands json)
    → Takes word (length operands) json
called_taken word operands true h = json_taken word operands h
called_taken word operands false h = record { operands = lines_taken word operands h; flag = refl }

-- ---- the whole command line
on_taken : (word : Text) (rest : List Text) → IsSome (command_on word (operands_of rest) (asks_json rest))
    → takes_rest word rest ≡ true
on_taken word rest h = elim (some_if (list_all is_operand (operands_of rest)) _ _ h) [
  | inl (all, k) ↦
      let takes = called_taken word (operands_of rest) (asks_json rest) k in
      and_from _ _ takes.operands (and_from _ _ all takes.flag)
  | inr none ↦ absurd (cc)
]

pub line_taken : (words : List Text) → IsSome (command_of words) → AreTaken words
line_taken [] h = absurd (cc)
line_taken (a ∷ []) h = absurd (cc)
line_taken (program ∷ word ∷ rest) h =
    record { program = program; word = word; rest = rest; is = refl; taken = on_taken word rest h }

-- ---- what `clap` finds
on_call : (word : Text) (operands : List Text) (json : Bool) → IsSome (command_on word operands json)
    → called word operands json ≡ command_on word operands json
on_call word operands json h = elim (some_if (list_all is_operand operands) _ _ h) [
  | inl (all, k) ↦ rw all refl
  | inr none ↦ absurd (cc)
]

pub call_asks : (words : List Text) (word : Text) (operands : List Text) (json : Bool) → IsSome (command_of words)
    → IsCallOf words word operands json → called word operands json ≡ command_of words
call_asks words word operands json taken call =
    let whole : command_of words ≡ command_on word (operands_of call.rest) (asks_json call.rest) =
    ap command_of call.is in
    let some : IsSome (command_on word (operands_of call.rest) (asks_json call.rest)) =
    ap is_some (sym whole) ∙ taken in
    let same : called word operands json ≡ called word (operands_of call.rest) (asks_json call.rest) =
    ap (λ (o : List Text). called word o json) call.given
    ∙ ap (λ (b : Bool). called word (operands_of call.rest) b) call.asks in
    same ∙ on_call word (operands_of call.rest) (asks_json call.rest) some ∙ sym whole
