-- What the code's command stands for.
use Rattle.netcalc_cli.specs.Commands as commands
use Rattle.netcalc_cli.specs.declared.words.Command.{Command}
use Rattle.netcalc_cli.specs.declared.words.Command.TheVariants.{Analyse, Edit, Simulate, Exercise, Check, Measure, Curve}

abbrev pub command_view : Command → commands.Command
command_view (Analyse form net) = commands.Analyse form net.now
command_view (Edit form net edits) = commands.Edit form net.now edits.now
command_view (Simulate net trace) = commands.Simulate net.now trace.now
command_view (Exercise seed) = commands.Exercise seed
command_view (Check net run) = commands.Check net.now run.now
command_view (Measure net trace name rate) = commands.Measure net.now trace.now name.now rate
command_view (Curve script) = commands.Curve script.now
