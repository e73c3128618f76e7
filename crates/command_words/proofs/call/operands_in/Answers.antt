use Rattle.std.specs.Prelude.{codes}
use Rattle.clap.specs.Matches.{found_of}
use Rattle.command_words.proofs.Told.{four_given, given_in}
use Rattle.command_words.proofs.call.operands_in.Goals as goal

pub returns : goal.returns
returns c =
    let f = found_of c.args.matches.now in
    four_given _ _ _ _ _ _ _ _ (rw c.new-operands.ensures.items at c.in_ok-push_given.ensures) c.in_ok-push_given-2.ensures
    c.in_ok-push_given-3.ensures c.in_ok-push_given-4.ensures _ _ _ _
    (given_in f (codes "first") _ c.get_str.ensures) (given_in f (codes "second") _ c.get_str-2.ensures)
    (given_in f (codes "third") _ c.get_str-3.ensures) (given_in f (codes "fourth") _ c.get_str-4.ensures)
