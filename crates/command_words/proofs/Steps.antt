-- The words of a leaf: an operand goes to the next positional.
use Rattle.std.proofs.Common.{◌≡◌, ℕ, Bool, true, false, List, [], ◌∷◌, Option, None, refl, ap, ◌∙◌}
use Rattle.std.specs.Prelude.{◌==◌, ◌&&◌, ◌||◌, option_and_then, if◌then◌else◌}
use Rattle.std.specs.Option.{option_map_or}
use Rattle.std.specs.Str.{bytes_eq}
use Rattle.clap.specs.Lexer.{long_of, short_of, long_of_rest, short_of_rest, strip_byte}
use Rattle.clap.specs.Simple.{Shape}
use Rattle.clap.specs.Takes.{turn_passes, word_passes, step_passes, flag_word_passes, bundle_passes}
use Rattle.clap.specs.Walk.{Held, Rule, Step, Text, Walk, after_step, arg_by_index, idle, long_or_other, short_or_plain, to_positional, trailing, value, walked, word_met}

-- between two words, where nothing waits
abbrev pub standing : Held → ℕ → Walk
standing h p = record { held = h; waiting = idle; position = p; is_trailing = false; stopped = None }

module _ (b : ℕ) (bs : Text) (plain : (b == 45) ≡ false) where
  -- the word is no flag
  no_hyphen : strip_byte 45 (b ∷ bs) ≡ None
  no_hyphen = rw plain refl

  not_long : long_of (b ∷ bs) ≡ None
  not_long = ap (λ (o : Option Text). option_and_then long_of_rest (option_and_then (strip_byte 45) o)) no_hyphen

  not_short : short_of (b ∷ bs) ≡ None
  not_short = ap (λ (o : Option Text). option_and_then short_of_rest o) no_hyphen

  no_dashes : bytes_eq (b ∷ bs) (45 ∷ 45 ∷ []) ≡ false
  no_dashes = rw plain refl

  pub operand_met : (c : List Rule) (p : ℕ) (h : Held) → word_met c [] false idle p (b ∷ bs) h ≡ (h, value)
  operand_met c p h =
      ap (λ (t : Bool). if t then (h, trailing p) else long_or_other c idle (b ∷ bs) (long_of (b ∷ bs)) h) no_dashes
      ∙ ap (λ o. long_or_other c idle (b ∷ bs) o h) not_long
      ∙ ap (λ (o : Option Text). short_or_plain c idle (b ∷ bs) o h) not_short

  pub operand_walked : (c : List Rule) (p : ℕ) (h : Held)
      → walked c [] (standing h p) (b ∷ bs) ≡ to_positional c (arg_by_index c p) (b ∷ bs) (standing h p) h
  unfolding walked
  operand_walked c p h =
      ap (λ (met : Held × Step). after_step c (b ∷ bs) (standing h p) met.0 met.1) (operand_met c p h)

  pub operand_word_passes : (s : Shape) (h : Held) → word_passes s [] false idle (b ∷ bs) h ≡ true
  operand_word_passes s h =
      ap (λ (t : Bool). t || flag_word_passes s.rules s.args_override_self (long_of (b ∷ bs)) (b ∷ bs) h) no_dashes
      ∙ ap (λ o. flag_word_passes s.rules s.args_override_self o (b ∷ bs) h) not_long
      ∙ ap (λ (o : Option Text). option_map_or (λ flags. bundle_passes s.rules s.args_override_self flags h) o true) not_short

  pub operand_passes : (s : Shape) (p : ℕ) (h : Held)
      → turn_passes s [] (standing h p) (b ∷ bs) ≡ step_passes s p h value
  operand_passes s p h =
      ap (λ (t : Bool). t && step_passes s p (word_met s.rules [] false idle p (b ∷ bs) h).0
      (word_met s.rules [] false idle p (b ∷ bs) h).1) (operand_word_passes s h)
      ∙ ap (λ (met : Held × Step). step_passes s p met.0 met.1) (operand_met s.rules p h)
