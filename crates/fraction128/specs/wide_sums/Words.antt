-- Whole numbers by their words of 64 bits. Textbook.
use Rattle.std.specs.Prelude.{ℕ, ◌+◌, ◌*◌, ◌^◌, List, [], ◌∷◌}

-- the lowest word comes first
abbrev pub number : List ℕ → ℕ
number [] = 0
number (w ∷ ws) = w + 2 ^ 64 * number ws
