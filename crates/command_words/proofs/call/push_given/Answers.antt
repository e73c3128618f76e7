use Rattle.std.proofs.lemmas.Result.{IfOk-from_err}
use Rattle.command_words.proofs.Told.{push_some, push_none}
use Rattle.command_words.proofs.call.push_given.Goals as goal

pub returns-in_ok-push-in-Some : goal.returns-in_ok-push-in-Some
returns-in_ok-push-in-Some c =
    push_some c.args.into.now.items c.push.new.self.items c.args.given c.in-Some.word c.in-Some.is c.in_ok-push-in-Some.ensures.items

pub returns-in_err-push-in-Some : goal.returns-in_err-push-in-Some
returns-in_err-push-in-Some c = IfOk-from_err c.from_residual.result _ c.from_residual.ensures.0

pub returns-in-None : goal.returns-in-None
returns-in-None c = push_none c.args.into.now.items c.args.given c.in-None.is
