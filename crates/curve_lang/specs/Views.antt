-- Names, curves and answers apart from where they lie in memory.
use Rattle.std.specs.Prelude.{Result, Ok, Err, Vec, map}
use Rattle.std.specs.String.{string_bytes}
use Rattle.std.specs.declared.rc.Rc.{Rc}
use Rattle.std.specs.declared.alloc.Global.{Global}
use Rattle.upp_curve.specs.Curve.{SpecCurve}
use Rattle.input_texts.specs.declared.curve_script.fault.LangKind.{LangKind}
use Rattle.input_texts.specs.declared.curve_script.fault.LangFault.{LangFault}
use Rattle.curve_lang.specs.declared.answer.Answer.{Answer}
use Rattle.curve_lang.specs.declared.answer.Answer.TheVariants.{Number, Truth, Shown}
use Rattle.curve_lang.specs.declared.naming.Named.{Named}
use Rattle.curve_lang.specs.Answers.{Answered, NumberIs, TruthIs, CurveIs}
use Rattle.curve_lang.specs.Finding.{Found}
use Rattle.curve_lang.specs.Found.{Let, Told}

abbrev pub answer_view : Answer → Answered
answer_view (Number word value) = NumberIs word value
answer_view (Truth word holds) = TruthIs word holds
answer_view (Shown curve) = CurveIs curve.value

abbrev pub let_view : Named → Let
let_view l = record { name = string_bytes l.name; curve = l.curve.value }

abbrev pub found : Result (Rc SpecCurve Global) LangKind → Found
found (Ok curve) = Ok curve.value
found (Err kind) = Err kind

abbrev pub told : Result Answer LangKind → Result Answered LangKind
told (Ok answer) = Ok (answer_view answer)
told (Err kind) = Err kind

abbrev pub told_script : Result (Vec Answer Global) LangFault → Told
told_script (Ok answers) = Ok (map answer_view answers.items)
told_script (Err fault) = Err fault
