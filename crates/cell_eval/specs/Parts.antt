-- The parts of a queue while their sums are made, and then added up. Own choice.
use Rattle.std.specs.Prelude.{◌≡◌, ℕ, ◌+◌, ◌-◌, ◌≤◌, List, [], ◌∷◌, ◌++◌, length, map, All, Option, None, Some, Result, Ok, Err}
use Rattle.std.specs.List.{range_with_len}
use Rattle.upp_limits.specs.declared.op_kind.OpFault.{OpFault}
use Rattle.upp_curve.specs.Curve.{SpecCurve}
use Rattle.net_model.specs.Networks.{Net}
use Rattle.net_cells.specs.Numbered.{zero_curve}
use Rattle.net_cells.specs.QueueParts.{in_part, part_numbers, by_parts, link_part, links_among}
use Rattle.net_cells.specs.Meanings.{Meaning, curve, number, CellTable}
use Rattle.net_cells.specs.CellFormulas.{part_sum, parts_sum}
use Rattle.net_cells.specs.Answers.{Answer, Answers, AnswersFrom}
use Rattle.net_cells.specs.Work.{parts_work}
use Rattle.net_cells.specs.Refusals.{RefusedFrom, RefusedAt}
use Rattle.cell_eval.specs.declared.curve_sums.Partial.{Partial}
use Rattle.cell_eval.specs.declared.curve_sums.Partial.TheVariants.{Nothing, One, Made}
use Rattle.cell_numbers.specs.TableValues.{IsCurveAt}

-- ---- the curve of a sum that is not of no cell
abbrev pub curve_in : Option Meaning → SpecCurve
curve_in None = zero_curve
curve_in (Some (curve f)) = f
curve_in (Some (number x)) = zero_curve

abbrev pub curve_of : CellTable → Partial → SpecCurve
curve_of at Nothing = zero_curve
curve_of at (One c) = curve_in (at c)
curve_of at (Made f) = f

abbrev pub IsHeld : CellTable → Partial → Type 0
IsHeld at Nothing = ⊥
IsHeld at (One c) = IsCurveAt at c
IsHeld at (Made f) = Unit {0}

-- ---- one part
-- a part that has some hops, and p is its sum
pub record IsPartOf (at : CellTable) (net : Net) (s q k : ℕ) (p : Partial) : Type 0 where
  pub some : 1 ≤ length (in_part net s q k)
  pub held : IsHeld at p
  pub answers : Answers at (part_sum net k (in_part net s q k)) (Ok (curve (curve_of at p)))

-- making it: nothing of a part without hops; else its sum, or what that is refused for
abbrev pub MakesPart : CellTable → Net → (s q k : ℕ) → Result Partial OpFault → Type 0
MakesPart at net s q k (Ok Nothing) = in_part net s q k ≡ []
MakesPart at net s q k (Ok (One c)) = IsPartOf at net s q k (One c)
MakesPart at net s q k (Ok (Made f)) = IsPartOf at net s q k (Made f)
MakesPart at net s q k (Err fault) =
    (1 ≤ length (in_part net s q k)) × Answers at (part_sum net k (in_part net s q k)) (Err fault)

-- what was made, as an answer
abbrev pub part_answer : CellTable → Result Partial OpFault → Answer
part_answer at (Ok p) = Ok (curve (curve_of at p))
part_answer at (Err fault) = Err fault

-- how many operators it takes
abbrev pub part_work : Net → (s q k : ℕ) → ℕ
part_work net s q k = length (in_part net s q k) - 1 + link_part k (in_part net s q k)

-- ---- all parts
-- a part is kept where it has a hop
abbrev pub kept : Partial → List Partial
kept Nothing = []
kept (One c) = One c ∷ []
kept (Made f) = Made f ∷ []

-- the first n parts are made, and these are the ones that have a hop: what comes of them and the others is what comes of
-- all; so many operators were counted
pub record AreMade (at : CellTable) (net : Net) (s q n : ℕ) (parts : List Partial) (old new : ℕ) : Type 0 where
  pub held : All (IsHeld at) parts
  pub answers : (ks : List ℕ) (r : Answer) → AnswersFrom at (parts_sum net s q ks) (map (curve_of at) parts) r
      → Answers at (parts_sum net s q (range_with_len 0 n ++ ks)) r
  pub refusals : (ks : List ℕ) (fault : OpFault) (m : ℕ)
      → RefusedFrom at (parts_sum net s q ks) (map (curve_of at) parts) fault m
      → RefusedAt at (parts_sum net s q (range_with_len 0 n ++ ks)) fault (new - old + m)
  pub few : length parts ≤ n
  pub least : length parts ≤ length (by_parts net s q (range_with_len 0 n))
  pub none : length parts ≡ 0 → length (by_parts net s q (range_with_len 0 n)) ≡ 0
  pub count : new + length parts ≡ old + length (by_parts net s q (range_with_len 0 n)) + links_among net s q (range_with_len 0 n)

-- one of the parts is refused, and so is the sum
pub record AreRefused (at : CellTable) (net : Net) (s q : ℕ) (fault : OpFault) (old new : ℕ) : Type 0 where
  pub refused : RefusedAt at (parts_sum net s q (part_numbers net)) fault (new - old)
  pub least : old ≤ new
  pub most : new ≤ old + parts_work net s q
