-- How a leaf reads its words, one after the other.
use Rattle.std.proofs.Common.{◌≡◌, ℕ, Bool, true, false, List, [], ◌∷◌, refl, ap, ◌∙◌}
use Rattle.std.specs.Prelude.{◌==◌, ◌&&◌, codes, fold}
use Rattle.std.specs.List.{list_all}
use Rattle.clap.specs.Simple.{Shape}
use Rattle.clap.specs.Takes.{turn_passes, step_passes, walk_passes, settle_passes, default_passes, is_valid, level_passes}
use Rattle.clap.specs.Walk.{Held, Text, Walk, arg_by_index, finished, nothing_held, rows_after, to_positional, value, walk, walk_from, walked}
use Rattle.command_words.proofs.Steps.{standing, operand_walked, operand_passes}

-- from one place between words over these words to another one, and each word passes
pub record Reads (s : Shape) (from : Walk) (words : List Text) (to : Walk) : Type 0 where
  pub ends : fold (walked s.rules []) from words ≡ to
  pub passes : walk_passes s [] from words ≡ true

pub nothing_more : (s : Shape) (w : Walk) → Reads s w [] w
unfolding walk_passes
nothing_more s w = record { ends = refl; passes = refl }

word_then : (s : Shape) (from next : Walk) (word : Text) (words : List Text) (to : Walk)
    → walked s.rules [] from word ≡ next → turn_passes s [] from word ≡ true → Reads s next words to
    → Reads s from (word ∷ words) to
unfolding walk_passes
word_then s from next word words to steps passes more = record {
  ends = ap (λ (w : Walk). fold (walked s.rules []) w words) steps ∙ more.ends;
  passes = ap (λ (t : Bool). t && walk_passes s [] (walked s.rules [] from word) words) passes
      ∙ ap (λ (w : Walk). walk_passes s [] w words) steps ∙ more.passes;
}

pub json_then : (s : Shape) (from next : Walk) (words : List Text) (to : Walk)
    → walked s.rules [] from (codes "--json") ≡ next → turn_passes s [] from (codes "--json") ≡ true
    → Reads s next words to → Reads s from (codes "--json" ∷ words) to
json_then s from next words to steps passes more = word_then s from next (codes "--json") words to steps passes more

pub operand_then : (s : Shape) (h : Held) (p b : ℕ) (bs : Text) (next : Walk) (words : List Text) (to : Walk)
    → (b == 45) ≡ false → to_positional s.rules (arg_by_index s.rules p) (b ∷ bs) (standing h p) h ≡ next
    → step_passes s p h value ≡ true → Reads s next words to → Reads s (standing h p) ((b ∷ bs) ∷ words) to
operand_then s h p b bs next words to plain steps passes more =
    word_then s (standing h p) next (b ∷ bs) words to (operand_walked b bs plain s.rules p h ∙ steps)
    (operand_passes b bs plain s p h ∙ passes) more

-- ---- the whole level
abbrev pub ends_well : Shape → Held → Bool
ends_well s h =
    settle_passes s.rules s.args_override_self h
    && (list_all default_passes s.rules && is_valid s (finished s.rules h) false)

pub level_of : (s : Shape) (words : List Text) (to : Walk) → Reads s (walk_from nothing_held) words to
    → ends_well s to.held ≡ true → level_passes s [] nothing_held words false ≡ true
level_of s words to reads well =
    ap (λ (t : Bool). t && ends_well s (walk s.rules [] nothing_held words).held) reads.passes
    ∙ ap (λ (w : Walk). ends_well s w.held) reads.ends ∙ well

pub rows_of_level : (s : Shape) (words : List Text) (to : Walk) → Reads s (walk_from nothing_held) words to
    → rows_after s.rules [] words ≡ finished s.rules to.held
rows_of_level s words to reads = ap (λ (w : Walk). finished s.rules w.held) reads.ends
