use Rattle.net_text.proofs.OneThing.{each_file_says_one_thing}
use Rattle.net_text.proofs.laws.each_file_says_one_thing.Goals as goal

pub returns : goal.returns
returns c = each_file_says_one_thing
