-- The bytes of the report on a measured curve. Own choice.
use Rattle.std.specs.Prelude.{ℕ, List, ◌++◌, codes}
use Rattle.std.specs.Fmt.{decimal}
use Rattle.std.specs.List.{flat_map}
use Rattle.rational.specs.Rational.{ℚ}
use Rattle.fraction128.specs.Text.{text_of}
use Rattle.upp_curve.specs.declared.affine_segment.line.Piece.{Piece}
use Rattle.input_texts.specs.plain_text.Numbers.{number_text}

-- the flow's name, and how many packets it has
unfoldable pub head_line : List ℕ → ℕ → List ℕ
head_line name packets = codes "flow " ++ name ++ codes " packets " ++ decimal packets ++ codes "\n"

-- the start of a piece, and the value there
unfoldable pub step_line : Piece → List ℕ
step_line p = codes "step " ++ text_of p.x ++ codes " " ++ number_text p.at ++ codes "\n"

-- the burst of the least bucket for a rate
unfoldable pub burst_line : ℚ → ℚ → List ℕ
burst_line burst rate = codes "burst " ++ text_of burst ++ codes " rate " ++ text_of rate ++ codes "\n"

unfoldable pub measure_report_of : List ℕ → ℕ → List Piece → ℚ → ℚ → List ℕ
measure_report_of name packets pieces burst rate =
    head_line name packets ++ flat_map step_line pieces ++ burst_line burst rate
