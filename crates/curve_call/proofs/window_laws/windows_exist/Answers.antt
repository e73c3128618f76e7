use Rattle.curve_call.proofs.Existing.{overlay_of, sum_of, made_windows, lower_window}
use Rattle.curve_call.proofs.window_laws.windows_exist.Goals as goal

pub returns-clause-overlays : goal.returns-clause-overlays
returns-clause-overlays c = overlay_of

pub returns-clause-sums : goal.returns-clause-sums
returns-clause-sums c = sum_of

pub returns-clause-made : goal.returns-clause-made
returns-clause-made c = made_windows

pub returns-clause-lower : goal.returns-clause-lower
returns-clause-lower c = lower_window
