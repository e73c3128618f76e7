use Rattle.input_texts.proofs.curve_script.OneScript.{fault_excludes_script}
use Rattle.input_texts.proofs.curve_script.laws.faults_exclude_scripts.Goals as goal

pub returns : goal.returns
returns c = fault_excludes_script
