-- The limits of lines.
use Rattle.std.proofs.Common.{◌≡◌, ℕ, ◌<◌, ◌≤◌, ◌^◌, Bool, true, false, Some, None, ◌⊎◌, inl, inr, nat_lt, refl, arith}
use Rattle.std.proofs.lemmas.Bool.Decides.{nat_tests}
use Rattle.arrival_lines.specs.declared.grid.Line.{Line}
use Rattle.tree_bounds.specs.Lines.{line_within}

test_yes : (a b : ℕ) → a < b → nat_lt a b ≡ true
test_yes a b h = grind (arith, nat_tests)

test_no : (a b : ℕ) → b ≤ a → nat_lt a b ≡ false
test_no a b h = grind (arith, nat_tests)

pub within_short : (line : Line) → line.burst < 2 ^ 58 → line.rate < 2 ^ 64 → Some line ≡ line_within line.burst line.rate
within_short line b r = let x = test_yes line.burst (2 ^ 58) b in let y = test_yes line.rate (2 ^ 64) r in rw (x, y) refl

pub none_within : (burst rate : ℕ) → (2 ^ 64 ≤ rate) ⊎ (2 ^ 58 ≤ burst) → None ≡ line_within burst rate
none_within burst rate (inr b) = let x = test_no burst (2 ^ 58) b in rw x refl
none_within burst rate (inl r) = by_burst (nat_lt burst (2 ^ 58)) refl
  where
    by_burst : (t : Bool) → nat_lt burst (2 ^ 58) ≡ t → None ≡ line_within burst rate
    by_burst false e = rw e refl
    by_burst true e = let y = test_no rate (2 ^ 64) r in rw (e, y) refl
