use Rattle.curve_call.specs.Made.{made_value, made_rises, IsMadeWindow}
use Rattle.curve_call.specs.Operands.{IsMadeOf}
use Rattle.upp_normal.proofs.NormaliseForm.{ok_map}
use Rattle.curve_call.proofs.MadeWindows.{sized_cuts, sized_steps, made_is}
use Rattle.curve_call.proofs.compared.window_made.Goals as goal

pub made_of-requires-clause-cuts : goal.made_of-requires-clause-cuts
made_of-requires-clause-cuts c = sized_cuts c.args.end c.args.f.now c.args.g.now c.requires

pub made_of-requires-clause-fits : goal.made_of-requires-clause-fits
made_of-requires-clause-fits c = sized_steps c.args.end c.args.f.now c.args.g.now c.requires

pub returns : goal.returns
returns c =
    ok_map c.made_of.result (λ v. IsMadeWindow c.args.made c.args.f.now c.args.g.now c.args.end v.items)
    (λ v. IsMadeOf (made_value c.args.made) (made_rises c.args.made) c.args.f.now c.args.g.now c.args.end v.items)
    (λ v W. made_is c.args.made c.args.end c.args.f.now c.args.g.now v.items c.requires W) c.made_of.ensures
