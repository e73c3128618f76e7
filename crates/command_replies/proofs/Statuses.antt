-- What is known of a status by the reply that it belongs to.
use Rattle.std.proofs.Common.{◌≡◌, ◌≢◌, Result, Ok, Err, IfOk, sym, ap, ◌∙◌}
use Rattle.command_replies.specs.Replies.{Reply}
use Rattle.replies.specs.declared.answer.Answer.{Answer}
use Rattle.command_replies.specs.View.{reply_of, status_of}

pub status_is : (reply to : Reply) → reply ≡ to → reply.status ≡ to.status
status_is reply to is = ap (λ (r : Reply). r.status) is

-- a call that answers a refusal, if anything, ends with no report
pub refused : {E : Type 0} (r : Result Answer E) (to : Reply) → to.status ≢ 0 → IfOk r (λ a. reply_of a ≡ to)
    → status_of r ≢ 0
refused (Ok a) to other is zero = other (sym (status_is (reply_of a) to is) ∙ zero)
refused (Err e) to other is zero = absurd (cc)
