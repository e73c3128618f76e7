-- The lines that answers are written in. (Own choice.)
use Rattle.std.specs.Prelude.{ℕ, Bool, true, false, List, [], ◌∷◌, ◌++◌, Option, Some, None, codes}
use Rattle.std.specs.List.{flat_map}
use Rattle.rational.specs.Rational.{ℚ}
use Rattle.fraction128.specs.Text.{text_of}
use Rattle.input_texts.specs.plain_text.Numbers.{number_text}
use Rattle.upp_curve.specs.declared.affine_segment.line.Line.{Line}
use Rattle.upp_curve.specs.declared.affine_segment.line.Piece.{Piece}
use Rattle.upp_curve.specs.affine_segment.Values.{line_value}
use Rattle.upp_curve.specs.declared.curve.Tail.{Tail}
use Rattle.upp_curve.specs.declared.curve.Tail.TheVariants.{Periodic, Affine, Infinite}
use Rattle.upp_curve.specs.Curve.{SpecCurve}
use Rattle.curve_lang.specs.declared.answer.Word.{Word}
use Rattle.curve_lang.specs.declared.answer.Word.TheVariants.{Value, Rate, Delay, Backlog, Equal, Below}
use Rattle.curve_lang.specs.Answers.{Answered, NumberIs, TruthIs, CurveIs}

abbrev pub word_text : Word → List ℕ
word_text Value = codes "value"
word_text Rate = codes "rate"
word_text Delay = codes "delay"
word_text Backlog = codes "backlog"
word_text Equal = codes "equal"
word_text Below = codes "below"

abbrev pub truth_text : Bool → List ℕ
truth_text true = codes "true"
truth_text false = codes "false"

-- the value just after a start, and the slope of the line there
abbrev pub after_text : ℚ → Option Line → List ℕ
after_text x None = codes " after unbounded"
after_text x (Some l) = codes " after " ++ number_text (line_value (Some l) x) ++ codes " slope " ++ text_of l.slope

abbrev pub piece_text : Piece → List ℕ
piece_text p = codes "piece " ++ text_of p.x ++ codes " at " ++ number_text p.at ++ after_text p.x p.line ++ 10 ∷ []

abbrev pub ranked_text : List ℕ → ℚ → List ℕ
ranked_text words rank = words ++ text_of rank ++ 10 ∷ []

abbrev pub step_text : ℚ → ℚ → List ℕ
step_text period rise = codes " " ++ text_of period ++ codes " " ++ text_of rise ++ 10 ∷ []

abbrev pub repeated_text : List ℕ → ℚ → ℚ → ℚ → List ℕ
repeated_text words rank period rise = words ++ text_of rank ++ step_text period rise

abbrev pub tail_text : Tail → List ℕ
tail_text (Periodic rank period rise) = repeated_text (codes "tail periodic ") rank period rise
tail_text (Affine rank) = ranked_text (codes "tail affine ") rank
tail_text (Infinite rank) = ranked_text (codes "tail infinite ") rank

abbrev pub curve_text : SpecCurve → List ℕ
curve_text c = flat_map piece_text c.pieces ++ tail_text c.tail

abbrev pub answer_text : Answered → List ℕ
answer_text (NumberIs word v) = word_text word ++ codes " " ++ number_text v ++ 10 ∷ []
answer_text (TruthIs word b) = word_text word ++ codes " " ++ truth_text b ++ 10 ∷ []
answer_text (CurveIs c) = curve_text c

abbrev pub answers_text : List Answered → List ℕ
answers_text answers = flat_map answer_text answers
