-- What the code's answer stands for.
pub use Rattle.replies.specs.View.{code_of, reply_of, status_of}
