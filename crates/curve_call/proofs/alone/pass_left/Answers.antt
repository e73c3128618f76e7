use Rattle.curve_call.proofs.Passing.{run_left}
use Rattle.curve_call.proofs.alone.pass_left.Goals as goal

pub returns-clause-passed : goal.returns-clause-passed
returns-clause-passed c g all E J =
    let (front, e, H) = c.in_ok-pass.ensures in (
      _,
      run_left c.args.f.now g c.split_at.result.1.now c.split_at-2.result.0.now front c.pass.new.here c.args.k c.args.w.now c.requires.some c.requires.nothing c.split_at.ensures.back c.split_at-2.ensures.front
          c.split_at-2.ensures.front_len e E,
      H all J,
    )
