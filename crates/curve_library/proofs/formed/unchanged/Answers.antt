use Rattle.upp_normal.specs.Normalising.{raw_curve}
use Rattle.upp_curve.proofs.OneForm.{normal_unique}
use Rattle.curve_library.proofs.formed.unchanged.Goals as goal

pub returns-in-Ok : goal.returns-in-Ok
returns-in-Ok c = normal_unique c.in-Ok.c (raw_curve c.args.raw) c.keeps.ensures.normal c.requires.normal c.in-Ok.ensures.kept
