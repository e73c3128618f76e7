-- A command word enters its leaf, which reads all that stands behind it.
use Rattle.std.proofs.Common.{◌≡◌, Bool, true, false, List, [], ◌∷◌, ◌++◌, Option, Some, refl, ap, ◌∙◌, append_assoc}
use Rattle.std.specs.Prelude.{◌&&◌, find, fold, is_some, option_map}
use Rattle.std.specs.List.{list_all}
use Rattle.std.specs.Option.{option_map_or}
use Rattle.clap.specs.Simple.{App, Shape, built, entered, is_simple, label_of, names_of, rows_at, subcommand_of}
use Rattle.clap.specs.Takes.{turn_passes, walk_passes, settle_passes, default_passes, is_valid, level_passes, entered_passes, built_takes, takes}
use Rattle.clap.specs.Walk.{Names, Row, Rule, Text, Walk, answers_to, finished, nothing_held, rows_after, walk, walk_from, walked}
use Rattle.clap.proofs.OnLiterals.{clap_on_literals}
use Rattle.command_words.specs.Apps.{netcalc}

-- a command was met, and these words stand behind it
abbrev pub met : Text → List Text → Walk
met word rest = record (walk_from nothing_held) { stopped = Some (word, rest) }

no_more : (words : List Text) → words ≡ words ++ []
no_more [] = refl
no_more (w ∷ ws) = ap (λ (xs : List Text). w ∷ xs) (no_more ws)

module _ (c : List Rule) (names : Names) (word : Text) where
  walked_on : (before : List Text) (x : Text) → walked c names (met word before) x ≡ met word (before ++ x ∷ [])
  unfolding walked
  walked_on before x = refl

  all_on : (before rest : List Text) → fold (walked c names) (met word before) rest ≡ met word (before ++ rest)
  all_on before [] = ap (met word) (no_more before)
  all_on before (x ∷ xs) =
      ap (λ (w : Walk). fold (walked c names) w xs) (walked_on before x) ∙ all_on (before ++ x ∷ []) xs
      ∙ ap (met word) (append_assoc before (x ∷ []) xs)

passes_on : (s : Shape) (names : Names) (word : Text) (before rest : List Text)
    → walk_passes s names (met word before) rest ≡ true
unfolding walk_passes
passes_on s names word before [] = refl
passes_on s names word before (x ∷ xs) =
    ap (λ (w : Walk). walk_passes s names w xs) (walked_on s.rules names word before x)
    ∙ passes_on s names word (before ++ x ∷ []) xs

abbrev whole : App
whole = built netcalc

pub simple : is_simple netcalc ≡ true
unfolding clap_on_literals
simple = refl

-- ---- a command word
pub record Enters (word : Text) (leaf : Shape) : Type 0 where
  pub first : walked whole.top.rules (names_of whole) (walk_from nothing_held) word ≡ met word []
  pub passes : turn_passes whole.top (names_of whole) (walk_from nothing_held) word ≡ true
  pub found : find (λ s. answers_to word (label_of s)) whole.subs ≡ Some leaf
  pub named : leaf.name ≡ word

abbrev is_well : Option Shape → List Text → Bool
is_well o rest =
    list_all default_passes whole.top.rules
    && is_valid whole.top (finished whole.top.rules nothing_held) (is_some (option_map (λ s. rows_at s rest) o))

well : (leaf : Shape) (rest : List Text) → is_well (Some leaf) rest ≡ true
unfolding clap_on_literals
well leaf rest = refl

module _ (word : Text) (leaf : Shape) (e : Enters word leaf) (program : Text) (rest : List Text) where
  end : walk whole.top.rules (names_of whole) nothing_held (word ∷ rest) ≡ met word rest
  end =
      ap (λ (w : Walk). fold (walked whole.top.rules (names_of whole)) w rest) e.first
      ∙ all_on whole.top.rules (names_of whole) word [] rest

  turns : walk_passes whole.top (names_of whole) (walk_from nothing_held) (word ∷ rest) ≡ true
  unfolding walk_passes
  turns =
      ap (λ (t : Bool). t && walk_passes whole.top (names_of whole)
      (walked whole.top.rules (names_of whole) (walk_from nothing_held) word) rest) e.passes
      ∙ ap (λ (w : Walk). walk_passes whole.top (names_of whole) w rest) e.first
      ∙ passes_on whole.top (names_of whole) word [] rest

  pub rows : subcommand_of netcalc (program ∷ word ∷ rest) ≡ Some (word, rows_after leaf.rules [] rest)
  rows =
      ap (λ (w : Walk). entered whole w.stopped) end
      ∙ ap (λ (o : Option Shape). option_map (λ s. rows_at s rest) o) e.found
      ∙ ap (λ (n : Text). let p : Text × List Row = (n, rows_after leaf.rules [] rest) in Some p) e.named

  pub taken : level_passes leaf [] nothing_held rest false ≡ true → takes netcalc (program ∷ word ∷ rest) ≡ true
  taken inner =
      let tail = λ (w : Walk) (t : Bool).
      entered_passes whole w.stopped
      && (t && (settle_passes whole.top.rules whole.top.args_override_self w.held
      && (list_all default_passes whole.top.rules
      && is_valid whole.top (finished whole.top.rules w.held) (is_some (entered whole w.stopped))))) in
      ap (λ (t : Bool). t && built_takes whole nothing_held (word ∷ rest)) simple
      ∙ ap (λ (w : Walk). tail w (walk_passes whole.top (names_of whole) (walk_from nothing_held) (word ∷ rest))) end
      ∙ ap (λ (t : Bool). tail (met word rest) t) turns
      ∙ ap (λ (o : Option Shape). option_map_or (λ s. level_passes s [] nothing_held rest false) o true && is_well o rest)
      e.found
      ∙ ap (λ (t : Bool). t && is_well (Some leaf) rest) inner ∙ well leaf rest
