use Rattle.std.proofs.Common.{ap, ◌∙◌}
use Rattle.clap.specs.Matches.{found_of}
use Rattle.clap.specs.Words.{rows_of}
use Rattle.command_words.specs.Reads.{values_in}
use Rattle.command_words.proofs.Told.{of_name, of_rows, of_flag}
use Rattle.command_words.proofs.call.call_of.Goals as goal

pub returns : goal.returns
returns c = λ word operands json called.
    let m = c.args.matches.now in
    let inner = found_of c.in-Some.inner.now in
    let same = of_rows m word called.rows (rows_of inner) called.is c.in-Some.ensures.rows in (
      of_name m word called.rows c.in-Some.word.now called.is c.in-Some.ensures.name,
      c.in_ok-operands-in-Some.ensures ∙ ap values_in same ∙ called.given.values,
      of_flag inner called.rows c.get_flag-json.result json same c.get_flag-json.ensures.none
          c.get_flag-json.ensures.value c.get_flag-json.ensures.other called.given.flag,
    )
