use Rattle.element_envelope.proofs.StartTests.{below_is}
use Rattle.element_envelope.proofs.starts.is_below.Goals as goal

pub returns-in-Fin : goal.returns-in-Fin
returns-in-Fin c =
    let value = rw c.unwrap.ensures at c.value.ensures.value in
    below_is c.is_less.result c.unwrap.result c.in-Fin.v c.args.x c.in-Some.line c.args.line.now c.args.v c.is_less.ensures.less value c.in-Some.is c.in-Fin.is
