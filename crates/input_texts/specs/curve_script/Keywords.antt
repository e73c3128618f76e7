-- The words that statements and expressions are spelt with. (Own choice.)
use Rattle.std.specs.Prelude.{ℕ, List, Option, codes}
use Rattle.std.specs.List.{find}
use Rattle.std.specs.Str.{bytes_eq}
use Rattle.input_texts.specs.declared.curve_script.keyword.TheConstants.{KEYWORDS}
use Rattle.input_texts.specs.declared.curve_script.keyword.Keyword.{Keyword}
use Rattle.input_texts.specs.declared.curve_script.keyword.Keyword.TheVariants.{Let, At, Value, AskOne, AskTwo, Zero, TwoNumbers, ThreeNumbers, OneCurve, CurveAndNumber, TwoCurves}
use Rattle.input_texts.specs.declared.curve_script.keyword.OneAsked.TheVariants.{Rate, Show}
use Rattle.input_texts.specs.declared.curve_script.keyword.TwoAsked.TheVariants.{Delay, Backlog, Equal, Below}
use Rattle.input_texts.specs.declared.curve_script.keyword.NumberPair.TheVariants.{Bucket, Latency}
use Rattle.input_texts.specs.declared.curve_script.keyword.NumberTriple.TheVariants.{Stair, Gate}
use Rattle.input_texts.specs.declared.curve_script.keyword.CurveOperator.TheVariants.{Close, RunSup, RunInf}
use Rattle.input_texts.specs.declared.curve_script.keyword.NumberOperator.TheVariants.{PosMinus, Scale, Shift}
use Rattle.input_texts.specs.declared.curve_script.keyword.PairOperator.TheVariants.{Sum, Min, Max, Conv, PosDiff, Deconv}

unfoldable pub spelling : Keyword → List ℕ
spelling Let = codes "let"
spelling At = codes "at"
spelling Value = codes "value"
spelling (AskOne Rate) = codes "rate"
spelling (AskOne Show) = codes "show"
spelling (AskTwo Delay) = codes "delay"
spelling (AskTwo Backlog) = codes "backlog"
spelling (AskTwo Equal) = codes "equal"
spelling (AskTwo Below) = codes "below"
spelling Zero = codes "zero"
spelling (TwoNumbers Bucket) = codes "bucket"
spelling (TwoNumbers Latency) = codes "latency"
spelling (ThreeNumbers Stair) = codes "stair"
spelling (ThreeNumbers Gate) = codes "gate"
spelling (OneCurve Close) = codes "close"
spelling (OneCurve RunSup) = codes "runsup"
spelling (OneCurve RunInf) = codes "runinf"
spelling (CurveAndNumber PosMinus) = codes "posminus"
spelling (CurveAndNumber Scale) = codes "scale"
spelling (CurveAndNumber Shift) = codes "shift"
spelling (TwoCurves Sum) = codes "sum"
spelling (TwoCurves Min) = codes "min"
spelling (TwoCurves Max) = codes "max"
spelling (TwoCurves Conv) = codes "conv"
spelling (TwoCurves PosDiff) = codes "posdiff"
spelling (TwoCurves Deconv) = codes "deconv"

-- the keyword that a word is
unfoldable pub keyword_of : List ℕ → Option Keyword
keyword_of word = find (λ k. bytes_eq (spelling k) word) KEYWORDS
