-- Files that were not had, and the reply that tells it.
use Rattle.std.proofs.Common.{ℕ, List, inl, inr, ◌∙◌, ap}
use Rattle.outside.specs.Files.{Told, FirstIs}
use Rattle.outside.specs.Fetching as fetching
use Rattle.replies.proofs.FileLemmas.{first_map}
use Rattle.replies.specs.declared.fetching.Unread.{Unread}
use Rattle.replies.specs.declared.fetching.Unread.TheVariants.{Failed, TooLong, NoMemory}
use Rattle.replies.specs.Ended.{EndsAt, EndsIn, AsksUpTo, Tells}

-- A reply that tells it ends the call at that file.
pub told_at : {I R : Type 0} (most : ℕ) (cannot_read too_long : List ℕ → R) (faults : I → ℕ) (last_fault : I → List ℕ)
    (told : Told) (old new : I) (unread : Unread) (reply : R) (file : List ℕ) → Tells cannot_read too_long unread reply
    → EndsAt most faults last_fault told old new unread file
    → fetching.EndsAt most cannot_read too_long faults last_fault told old new reply file
told_at most cannot_read too_long faults last_fault told old new (Failed name) reply file is at =
    inl (at.1, is ∙ ap cannot_read at.0)
told_at most cannot_read too_long faults last_fault told old new (TooLong name) reply file is at =
    inr (at.1, is ∙ ap too_long at.0)
told_at most cannot_read too_long faults last_fault told old new NoMemory reply file is at = absurd is

pub told_in : {I R : Type 0} (most : ℕ) (cannot_read too_long : List ℕ → R) (faults : I → ℕ) (last_fault : I → List ℕ)
    (told : Told) (asks : List (List ℕ) → Type 0) (old new : I) (unread : Unread) (reply : R) (names : List (List ℕ))
    → Tells cannot_read too_long unread reply → EndsIn most faults last_fault told asks old new unread names
    → FirstIs most told (λ file. fetching.EndsAt most cannot_read too_long faults last_fault told old new reply file
    × AsksUpTo asks names file) names
told_in most cannot_read too_long faults last_fault told asks old new (Failed name) reply names is h =
    first_map most told _ _ names
    (λ file at. (told_at most cannot_read too_long faults last_fault told old new (Failed name) reply file is at.0, at.1)) h
told_in most cannot_read too_long faults last_fault told asks old new (TooLong name) reply names is h =
    first_map most told _ _ names
    (λ file at. (told_at most cannot_read too_long faults last_fault told old new (TooLong name) reply file is at.0, at.1)) h
told_in most cannot_read too_long faults last_fault told asks old new NoMemory reply names is h = absurd is
