use Rattle.std.proofs.Common.{◌<◌, [], ℕ, Vec, Global, length, get_or, refl, ◌∙◌, ap, arith}
use Rattle.std.proofs.lemmas.List.{get_or-map, get_or_default}
use Rattle.bounds_command.proofs.Rates.{more_is}
use Rattle.bounds_command.proofs.loads.add_at.Goals as goal

pub returns : goal.returns
returns c =
    let rates = c.args.rates.now in
    let known : c.args.port < length rates = c.requires.port in
    let v = get_or rates c.args.port c.index-rates-port.result in
    let row = get_or-map (λ (x : Vec ℕ Global). x.items) rates c.args.port c.index-rates-port.result [] known in
    let long = ap length row in
    let inside : c.args.queue < length v.items = omega (arith, long, c.requires.queue) in
    more_is rates c.args.port c.args.queue v _ c.index_mut.result.now known
    (get_or_default rates c.args.port c.index-rates-port.result v known)
    (c.index_mut.ensures.value ∙ get_or_default v.items c.args.queue c.index_mut.result.now 0 inside) c.args.rate refl
