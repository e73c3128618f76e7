-- What each status of a reply is caused by. Own choice.
use Rattle.std.specs.Prelude.{◌≡◌, ◌≢◌, ◌≤◌}
use Rattle.command_replies.specs.Replies.{Reply}

-- each status has its cause, and there is no other
pub record HasCause (Done Breach Malformed Wide Many Cycle : Reply → Type 0) (reply : Reply) : Type 0 where
  pub done : reply.status ≡ 0 → Done reply
  pub breach : reply.status ≡ 9 → Breach reply
  pub malformed : reply.status ≡ 1 → Malformed reply
  pub wide : reply.status ≡ 6 → Wide reply
  pub many : reply.status ≡ 7 → Many reply
  pub cycle : reply.status ≡ 8 → Cycle reply
  pub others : (reply.status ≢ 2) × (reply.status ≢ 3) × (reply.status ≢ 4) × (reply.status ≢ 5)
  pub most : reply.status ≤ 9

-- no reply is of this kind
abbrev pub NoReply : Reply → Type 0
NoReply reply = ⊥
