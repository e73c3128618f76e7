-- How a fault of a file is written: of a network's, of a table of rows, of a script. Own choice.
use Rattle.std.specs.Prelude.{ℕ, List, [], ◌++◌, codes}
use Rattle.std.specs.Fmt.{decimal}
use Rattle.input_texts.specs.declared.curve_script.fault.LangFault.{LangFault}
use Rattle.input_texts.specs.declared.curve_script.fault.LangKind.{LangKind}
use Rattle.input_texts.specs.declared.curve_script.fault.LangKind.TheVariants as scripts
use Rattle.net_model.specs.declared.fault.CurveRefusal.{CurveRefusal}
use Rattle.net_model.specs.declared.fault.CurveRefusal.TheVariants.{Negative, ZeroPeriod, NotRising, NotContinuous, NotZeroAtStart}
use Rattle.net_model.specs.declared.fault.NetKind.{NetKind}
use Rattle.net_model.specs.declared.fault.NetKind.TheVariants.{M1, M2, M3, M4, M5, M6, M7, M8, M9, M10, M11, M12, CurveTooMany, CurveTooWide, NoMemory}
use Rattle.input_texts.specs.declared.table_text.fault.TableFault.{TableFault}
use Rattle.input_texts.specs.declared.table_text.fault.TableKind.{TableKind}
use Rattle.input_texts.specs.declared.table_text.fault.TableKind.TheVariants as tables

-- ---- networks
-- why a curve is refused
abbrev pub curve_word : CurveRefusal → List ℕ
curve_word Negative = codes "negative"
curve_word ZeroPeriod = codes "zero-period"
curve_word NotRising = codes "not-rising"
curve_word NotContinuous = codes "not-continuous"
curve_word NotZeroAtStart = codes "not-zero-at-start"

-- which rule is broken; a curve over a limit and want of memory break none, and have lines of their own
abbrev pub rule_word : NetKind → List ℕ
rule_word M1 = codes "M1"
rule_word M2 = codes "M2"
rule_word M3 = codes "M3"
rule_word M4 = codes "M4"
rule_word M5 = codes "M5"
rule_word M6 = codes "M6"
rule_word M7 = codes "M7"
rule_word M8 = codes "M8"
rule_word (M9 why) = codes "M9"
rule_word M10 = codes "M10"
rule_word M11 = codes "M11"
rule_word M12 = codes "M12"
rule_word CurveTooMany = []
rule_word CurveTooWide = []
rule_word NoMemory = []

-- where it is broken, and of a curve, why: a text that is no TOML has no place
abbrev pub place_text : NetKind → List ℕ → List ℕ
place_text M1 place = []
place_text (M9 why) place = codes " " ++ place ++ codes " " ++ curve_word why
place_text kind place = codes " " ++ place

abbrev pub fault_text : NetKind → List ℕ → List ℕ
fault_text kind place = rule_word kind ++ place_text kind place

-- ---- tables
-- which rule is broken; want of memory breaks none, and has no line
abbrev pub table_word : TableKind → List ℕ
table_word tables.T1 = codes "T1"
table_word tables.T2 = codes "T2"
table_word tables.T3 = codes "T3"
table_word tables.T4 = codes "T4"
table_word tables.T5 = codes "T5"
table_word tables.T6 = codes "T6"
table_word tables.T7 = codes "T7"
table_word tables.NoMemory = []

-- rows are counted from 1
abbrev pub table_fault_text : TableFault → List ℕ
table_fault_text fault = table_word fault.kind ++ codes " row " ++ decimal fault.row

-- ---- scripts
-- which rule is broken; an operator over a limit and want of memory break none, and have lines of their own
abbrev pub script_word : LangKind → List ℕ
script_word scripts.C1 = codes "C1"
script_word scripts.C2 = codes "C2"
script_word scripts.C3 = codes "C3"
script_word scripts.C4 = codes "C4"
script_word scripts.C5 = codes "C5"
script_word scripts.C6 = codes "C6"
script_word scripts.C7 = codes "C7"
script_word scripts.C8 = codes "C8"
script_word scripts.TooMany = []
script_word scripts.TooWide = []
script_word scripts.NoMemory = []

-- lines are counted from 1
abbrev pub script_fault_text : LangFault → List ℕ
script_fault_text fault = script_word fault.kind ++ codes " line " ++ decimal fault.line
