-- What the leaves read: operands, and `--json` among them.
use Rattle.std.proofs.Common.{◌≡◌, ℕ, Bool, true, false, List, [], ◌∷◌, refl, sym, subst, inl, inr}
use Rattle.std.specs.Prelude.{◌==◌, codes}
use Rattle.clap.specs.Simple.{App, Shape, built_leaf}
use Rattle.clap.specs.Takes.{level_passes}
use Rattle.clap.specs.Walk.{Held, Row, Text, Walk, arg_by_index, finished, nothing_held, rows_after, to_positional, walk_from, walked}
use Rattle.clap.proofs.OnLiterals.{clap_on_literals}
use Rattle.command_words.specs.Apps.{one, two, four, with_json}
use Rattle.command_words.specs.Lines.{is_operand}
use Rattle.command_words.specs.Reads.{HasGiven}
use Rattle.command_words.proofs.Reading.{Reads, nothing_more, json_then, operand_then, ends_well, level_of, rows_of_level}
use Rattle.command_words.proofs.Steps.{standing}
use Rattle.std.proofs.lemmas.Bool.{not-true}

-- the leaf takes these words, and reads these operands
pub record Given (s : Shape) (rest operands : List Text) (json : Bool) : Type 0 where
  pub passes : level_passes s [] nothing_held rest false ≡ true
  pub given : HasGiven (rows_after s.rules [] rest) operands json

given_by : (s : Shape) (rest operands : List Text) (json : Bool) (to : Walk)
    → Reads s (walk_from nothing_held) rest to → ends_well s to.held ≡ true
    → HasGiven (finished s.rules to.held) operands json → Given s rest operands json
given_by s rest operands json to reads well given = record {
  passes = level_of s rest to reads well;
  given = subst (λ (rows : List Row). HasGiven rows operands json) (sym (rows_of_level s rest to reads)) given;
}

abbrev pub leaf : App → Shape
leaf a = built_leaf a.top

-- what is held behind an operand, and behind `--json`
behind : Shape → ℕ → Text → Held → Held
behind s p x h = (to_positional s.rules (arg_by_index s.rules p) x (standing h p) h).held

behind_json : Shape → ℕ → Held → Held
behind_json s p h = (walked s.rules [] (standing h p) (codes "--json")).held

-- ---- operands that begin with these bytes
module _ (word : Text) (b : ℕ) (bs : Text) (plain : (b == 45) ≡ false) where
  abbrev x : Text
  x = b ∷ bs

  one_at : Given (leaf (one word)) (x ∷ []) (x ∷ []) false
  unfolding clap_on_literals behind
  one_at =
      let s = leaf (one word) in
      let end = standing (behind s 1 x nothing_held) 2 in
      given_by s (x ∷ []) (x ∷ []) false end
      (operand_then s nothing_held 1 b bs end [] end plain refl refl (nothing_more s end)) refl
      (record { values = refl; flag = inl (refl, refl) })

  or_json_at : Given (leaf (with_json (one word))) (x ∷ []) (x ∷ []) false
  unfolding clap_on_literals behind
  or_json_at =
      let s = leaf (with_json (one word)) in
      let end = standing (behind s 1 x nothing_held) 2 in
      given_by s (x ∷ []) (x ∷ []) false end
      (operand_then s nothing_held 1 b bs end [] end plain refl refl (nothing_more s end)) refl
      (record { values = refl; flag = inr (inr (refl, refl)) })

  json_first_at : Given (leaf (with_json (one word))) (codes "--json" ∷ x ∷ []) (x ∷ []) true
  unfolding clap_on_literals behind behind_json
  json_first_at =
      let s = leaf (with_json (one word)) in
      let h = behind_json s 1 nothing_held in
      let end = standing (behind s 1 x h) 2 in
      given_by s (codes "--json" ∷ x ∷ []) (x ∷ []) true end
      (json_then s (standing nothing_held 1) (standing h 1) (x ∷ []) end refl refl
      (operand_then s h 1 b bs end [] end plain refl refl (nothing_more s end))) refl
      (record { values = refl; flag = inr (inl (refl, refl)) })

  json_last_at : Given (leaf (with_json (one word))) (x ∷ codes "--json" ∷ []) (x ∷ []) true
  unfolding clap_on_literals behind behind_json
  json_last_at =
      let s = leaf (with_json (one word)) in
      let h = behind s 1 x nothing_held in
      let end = standing (behind_json s 2 h) 2 in
      given_by s (x ∷ codes "--json" ∷ []) (x ∷ []) true end
      (operand_then s nothing_held 1 b bs (standing h 2) (codes "--json" ∷ []) end plain refl refl
      (json_then s (standing h 2) end [] end refl refl (nothing_more s end))) refl
      (record { values = refl; flag = inr (inl (refl, refl)) })

  module _ (d : ℕ) (ds : Text) (also : (d == 45) ≡ false) where
    abbrev y : Text
    y = d ∷ ds

    two_at : Given (leaf (two word)) (x ∷ y ∷ []) (x ∷ y ∷ []) false
    unfolding clap_on_literals behind
    two_at =
        let s = leaf (two word) in
        let h = behind s 1 x nothing_held in
        let end = standing (behind s 2 y h) 3 in
        given_by s (x ∷ y ∷ []) (x ∷ y ∷ []) false end
        (operand_then s nothing_held 1 b bs (standing h 2) (y ∷ []) end plain refl refl
        (operand_then s h 2 d ds end [] end also refl refl (nothing_more s end))) refl
        (record { values = refl; flag = inl (refl, refl) })

    two_or_json_at : Given (leaf (with_json (two word))) (x ∷ y ∷ []) (x ∷ y ∷ []) false
    unfolding clap_on_literals behind
    two_or_json_at =
        let s = leaf (with_json (two word)) in
        let h = behind s 1 x nothing_held in
        let end = standing (behind s 2 y h) 3 in
        given_by s (x ∷ y ∷ []) (x ∷ y ∷ []) false end
        (operand_then s nothing_held 1 b bs (standing h 2) (y ∷ []) end plain refl refl
        (operand_then s h 2 d ds end [] end also refl refl (nothing_more s end))) refl
        (record { values = refl; flag = inr (inr (refl, refl)) })

    json_then_two_at : Given (leaf (with_json (two word))) (codes "--json" ∷ x ∷ y ∷ []) (x ∷ y ∷ []) true
    unfolding clap_on_literals behind behind_json
    json_then_two_at =
        let s = leaf (with_json (two word)) in
        let j = behind_json s 1 nothing_held in
        let h = behind s 1 x j in
        let end = standing (behind s 2 y h) 3 in
        given_by s (codes "--json" ∷ x ∷ y ∷ []) (x ∷ y ∷ []) true end
        (json_then s (standing nothing_held 1) (standing j 1) (x ∷ y ∷ []) end refl refl
        (operand_then s j 1 b bs (standing h 2) (y ∷ []) end plain refl refl
        (operand_then s h 2 d ds end [] end also refl refl (nothing_more s end)))) refl
        (record { values = refl; flag = inr (inl (refl, refl)) })

    json_between_at : Given (leaf (with_json (two word))) (x ∷ codes "--json" ∷ y ∷ []) (x ∷ y ∷ []) true
    unfolding clap_on_literals behind behind_json
    json_between_at =
        let s = leaf (with_json (two word)) in
        let h = behind s 1 x nothing_held in
        let j = behind_json s 2 h in
        let end = standing (behind s 2 y j) 3 in
        given_by s (x ∷ codes "--json" ∷ y ∷ []) (x ∷ y ∷ []) true end
        (operand_then s nothing_held 1 b bs (standing h 2) (codes "--json" ∷ y ∷ []) end plain refl refl
        (json_then s (standing h 2) (standing j 2) (y ∷ []) end refl refl
        (operand_then s j 2 d ds end [] end also refl refl (nothing_more s end)))) refl
        (record { values = refl; flag = inr (inl (refl, refl)) })

    two_then_json_at : Given (leaf (with_json (two word))) (x ∷ y ∷ codes "--json" ∷ []) (x ∷ y ∷ []) true
    unfolding clap_on_literals behind behind_json
    two_then_json_at =
        let s = leaf (with_json (two word)) in
        let h = behind s 1 x nothing_held in
        let k = behind s 2 y h in
        let end = standing (behind_json s 3 k) 3 in
        given_by s (x ∷ y ∷ codes "--json" ∷ []) (x ∷ y ∷ []) true end
        (operand_then s nothing_held 1 b bs (standing h 2) (y ∷ codes "--json" ∷ []) end plain refl refl
        (operand_then s h 2 d ds (standing k 3) (codes "--json" ∷ []) end also refl refl
        (json_then s (standing k 3) end [] end refl refl (nothing_more s end)))) refl
        (record { values = refl; flag = inr (inl (refl, refl)) })

    four_at : (e : ℕ) (es : Text) (f : ℕ) (fs : Text) → (e == 45) ≡ false → (f == 45) ≡ false
        → Given (leaf (four word)) (x ∷ y ∷ (e ∷ es) ∷ (f ∷ fs) ∷ []) (x ∷ y ∷ (e ∷ es) ∷ (f ∷ fs) ∷ []) false
    unfolding clap_on_literals behind
    four_at e es f fs third fourth =
        let s = leaf (four word) in
        let h = behind s 1 x nothing_held in
        let k = behind s 2 y h in
        let l = behind s 3 (e ∷ es) k in
        let end = standing (behind s 4 (f ∷ fs) l) 5 in
        given_by s (x ∷ y ∷ (e ∷ es) ∷ (f ∷ fs) ∷ []) (x ∷ y ∷ (e ∷ es) ∷ (f ∷ fs) ∷ []) false end
        (operand_then s nothing_held 1 b bs (standing h 2) (y ∷ (e ∷ es) ∷ (f ∷ fs) ∷ []) end plain refl refl
        (operand_then s h 2 d ds (standing k 3) ((e ∷ es) ∷ (f ∷ fs) ∷ []) end also refl refl
        (operand_then s k 3 e es (standing l 4) ((f ∷ fs) ∷ []) end third refl refl
        (operand_then s l 4 f fs end [] end fourth refl refl (nothing_more s end))))) refl
        (record { values = refl; flag = inl (refl, refl) })

-- ---- operands

pub one_given : (word x : Text) → is_operand x ≡ true → Given (leaf (one word)) (x ∷ []) (x ∷ []) false
one_given word [] h = absurd (cc)
one_given word (b ∷ bs) h = one_at word b bs (not-true (b == 45) h)

pub or_json_given : (word x : Text) → is_operand x ≡ true
    → Given (leaf (with_json (one word))) (x ∷ []) (x ∷ []) false
or_json_given word [] h = absurd (cc)
or_json_given word (b ∷ bs) h = or_json_at word b bs (not-true (b == 45) h)

pub json_first_given : (word x : Text) → is_operand x ≡ true
    → Given (leaf (with_json (one word))) (codes "--json" ∷ x ∷ []) (x ∷ []) true
json_first_given word [] h = absurd (cc)
json_first_given word (b ∷ bs) h = json_first_at word b bs (not-true (b == 45) h)

pub json_last_given : (word x : Text) → is_operand x ≡ true
    → Given (leaf (with_json (one word))) (x ∷ codes "--json" ∷ []) (x ∷ []) true
json_last_given word [] h = absurd (cc)
json_last_given word (b ∷ bs) h = json_last_at word b bs (not-true (b == 45) h)

pub two_given : (word x y : Text) → is_operand x ≡ true → is_operand y ≡ true
    → Given (leaf (two word)) (x ∷ y ∷ []) (x ∷ y ∷ []) false
two_given word [] y h k = absurd (cc)
two_given word (b ∷ bs) [] h k = absurd (cc)
two_given word (b ∷ bs) (d ∷ ds) h k = two_at word b bs (not-true (b == 45) h) d ds (not-true (d == 45) k)

pub two_or_json_given : (word x y : Text) → is_operand x ≡ true → is_operand y ≡ true
    → Given (leaf (with_json (two word))) (x ∷ y ∷ []) (x ∷ y ∷ []) false
two_or_json_given word [] y h k = absurd (cc)
two_or_json_given word (b ∷ bs) [] h k = absurd (cc)
two_or_json_given word (b ∷ bs) (d ∷ ds) h k =
    two_or_json_at word b bs (not-true (b == 45) h) d ds (not-true (d == 45) k)

pub json_then_two_given : (word x y : Text) → is_operand x ≡ true → is_operand y ≡ true
    → Given (leaf (with_json (two word))) (codes "--json" ∷ x ∷ y ∷ []) (x ∷ y ∷ []) true
json_then_two_given word [] y h k = absurd (cc)
json_then_two_given word (b ∷ bs) [] h k = absurd (cc)
json_then_two_given word (b ∷ bs) (d ∷ ds) h k =
    json_then_two_at word b bs (not-true (b == 45) h) d ds (not-true (d == 45) k)

pub json_between_given : (word x y : Text) → is_operand x ≡ true → is_operand y ≡ true
    → Given (leaf (with_json (two word))) (x ∷ codes "--json" ∷ y ∷ []) (x ∷ y ∷ []) true
json_between_given word [] y h k = absurd (cc)
json_between_given word (b ∷ bs) [] h k = absurd (cc)
json_between_given word (b ∷ bs) (d ∷ ds) h k =
    json_between_at word b bs (not-true (b == 45) h) d ds (not-true (d == 45) k)

pub two_then_json_given : (word x y : Text) → is_operand x ≡ true → is_operand y ≡ true
    → Given (leaf (with_json (two word))) (x ∷ y ∷ codes "--json" ∷ []) (x ∷ y ∷ []) true
two_then_json_given word [] y h k = absurd (cc)
two_then_json_given word (b ∷ bs) [] h k = absurd (cc)
two_then_json_given word (b ∷ bs) (d ∷ ds) h k =
    two_then_json_at word b bs (not-true (b == 45) h) d ds (not-true (d == 45) k)

pub four_given : (word x y z w : Text) → is_operand x ≡ true → is_operand y ≡ true → is_operand z ≡ true
    → is_operand w ≡ true → Given (leaf (four word)) (x ∷ y ∷ z ∷ w ∷ []) (x ∷ y ∷ z ∷ w ∷ []) false
four_given word [] y z w h k l m = absurd (cc)
four_given word (b ∷ bs) [] z w h k l m = absurd (cc)
four_given word (b ∷ bs) (d ∷ ds) [] w h k l m = absurd (cc)
four_given word (b ∷ bs) (d ∷ ds) (e ∷ es) [] h k l m = absurd (cc)
four_given word (b ∷ bs) (d ∷ ds) (e ∷ es) (f ∷ fs) h k l m =
    four_at word b bs (not-true (b == 45) h) d ds (not-true (d == 45) k) e es f fs (not-true (e == 45) l)
    (not-true (f == 45) m)
