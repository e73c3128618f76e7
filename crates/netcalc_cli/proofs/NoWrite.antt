-- No reply has the status of a write that failed.
use Rattle.std.proofs.Common.{◌≡◌, ◌≢◌, ℕ, List, inl, inr, sym, ◌∙◌, arith}
use Rattle.command_replies.specs.Replies.{Reply, cannot_read, too_long}
use Rattle.command_replies.proofs.Statuses.{status_is as status_of}
use Rattle.netcalc_cli.specs.Commands.{Command, files_of}
use Rattle.outside.specs.Files.{Told}
use Rattle.netcalc_cli.specs.Files.{most_bytes}
use Rattle.netcalc_cli.specs.Reply.{MayReplyTo, FailedAt}
use Rattle.netcalc_cli.proofs.ByCommand.{by_command}
use Rattle.replies.proofs.FileLemmas.{first_shows, long_shows}

other : (status n : ℕ) → status ≡ n → n ≢ 4 → status ≢ 4
other status n is apart e = apart (sym is ∙ e)

pub none_is_a_write_fault : {I : Type 0} (faults : I → ℕ) (last_fault : I → List ℕ) (told : Told) (command : Command)
    (before after : I) (reply : Reply) → MayReplyTo faults last_fault told command before after reply
    → reply.status ≢ 4
none_is_a_write_fault faults last_fault told command before after reply (inl failed) =
    first_shows most_bytes told (λ file. FailedAt faults last_fault file before after × (reply ≡ cannot_read file))
    (reply.status ≢ 4) (files_of command)
    (λ file h. other reply.status 3 (status_of reply (cannot_read file) h.1) (omega arith)) failed
none_is_a_write_fault faults last_fault told command before after reply (inr (files, held, inl long)) =
    long_shows most_bytes (λ file. reply ≡ too_long file) (reply.status ≢ 4) (files_of command) files
    (λ file h. other reply.status 1 (status_of reply (too_long file) h) (omega arith)) long
none_is_a_write_fault faults last_fault told command before after reply (inr (files, held, inr on)) =
    (by_command command files reply on.1).others.2

-- ---- nor that of words that are not taken, or of want of memory
apart_from : (status n m : ℕ) → status ≡ n → n ≢ m → status ≢ m
apart_from status n m is differ e = differ (sym is ∙ e)

pub none_is_usage_or_memory : {I : Type 0} (faults : I → ℕ) (last_fault : I → List ℕ) (told : Told) (command : Command)
    (before after : I) (reply : Reply) → MayReplyTo faults last_fault told command before after reply
    → (reply.status ≢ 2) × (reply.status ≢ 5)
none_is_usage_or_memory faults last_fault told command before after reply (inl failed) =
    first_shows most_bytes told (λ file. FailedAt faults last_fault file before after × (reply ≡ cannot_read file))
    ((reply.status ≢ 2) × (reply.status ≢ 5)) (files_of command)
    (λ file h.
    let is = status_of reply (cannot_read file) h.1 in
    (apart_from reply.status 3 2 is (omega arith), apart_from reply.status 3 5 is (omega arith))) failed
none_is_usage_or_memory faults last_fault told command before after reply (inr (files, held, inl long)) =
    long_shows most_bytes (λ file. reply ≡ too_long file) ((reply.status ≢ 2) × (reply.status ≢ 5)) (files_of command) files
    (λ file h.
    let is = status_of reply (too_long file) h in
    (apart_from reply.status 1 2 is (omega arith), apart_from reply.status 1 5 is (omega arith))) long
none_is_usage_or_memory faults last_fault told command before after reply (inr (files, held, inr on)) =
    let others = (by_command command files reply on.1).others in (others.0, others.3)
