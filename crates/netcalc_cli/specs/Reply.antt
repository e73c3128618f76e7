-- What the program answers on words and files, and what it means that the answer is given.
use Rattle.std.specs.Prelude.{◌≡◌, ◌≤◌, ◌⊎◌, ◌++◌, ℕ, List, codes, Option, Some, None, IfSome}
use Rattle.outside.specs.Fetching as fetching
pub use Rattle.outside.specs.Fetching.{FailedAt}
use Rattle.outside.specs.Written.{Output}
use Rattle.replies.specs.Given as given
use Rattle.command_replies.specs.Replies.{Reply, usage, cannot_read, too_long}
use Rattle.netcalc_cli.specs.Commands.{Command, files_of, IsReplyTo, IsAnswerable, IsAnswer}
use Rattle.outside.specs.Files.{Told, FirstIs, MayHoldAll, FirstLong, AllFit, all_told}
use Rattle.netcalc_cli.specs.Files.{most_bytes}

-- the commands that the usage line tells
abbrev pub commands : List ℕ
commands =
    codes "netcalc analyse NET [--json], edit NET EDITS [--json], simulate NET TRACE, exercise N, check NET RUN, "
    ++ codes "measure NET TRACE FLOW RATE, curve FILE"

-- ---- on files
-- the reply of a command where its files hold these bytes
abbrev pub IsReplyOnFiles : Command → List (List ℕ) → Reply → Type 0
IsReplyOnFiles command files reply =
    FirstLong most_bytes (λ file. reply ≡ too_long file) (files_of command) files ⊎ (AllFit most_bytes files × IsReplyTo command files reply)

-- The inputs end a call at this file: they failed at it, or it is too long.
abbrev pub EndsAt : {I : Type 0} → (I → ℕ) → (I → List ℕ) → Told → I → I → Reply → List ℕ → Type 0
EndsAt faults last_fault told old new reply file =
    fetching.EndsAt most_bytes cannot_read too_long faults last_fault told old new reply file

-- ---- on words and inputs
-- The inputs may bring this reply of a command: they failed at a file, those before which may fit, or it is the reply
-- on what the files hold.
abbrev pub MayReplyTo : {I : Type 0} → (I → ℕ) → (I → List ℕ) → Told → Command → I → I → Reply → Type 0
MayReplyTo faults last_fault told command old new reply =
    FirstIs most_bytes told (λ file. FailedAt faults last_fault file old new × (reply ≡ cannot_read file)) (files_of command)
    ⊎ ((files : List (List ℕ)) × MayHoldAll told (files_of command) files × IsReplyOnFiles command files reply)

-- Words and inputs may bring this reply.
abbrev pub MayReply : {I : Type 0} → (I → List ℕ → Option (List ℕ)) → (I → ℕ) → (I → List ℕ) → Option Command
    → I → I → Reply → Type 0
MayReply content faults last_fault None old new reply = reply ≡ usage commands
MayReply content faults last_fault (Some command) old new reply =
    MayReplyTo faults last_fault (content old) command old new reply

-- The status is one of a reply that stands on what all files hold; some of the replies with 1 do, too.
abbrev pub StandsOnFiles : ℕ → Type 0
StandsOnFiles status = (status ≡ 0) ⊎ (6 ≤ status)

-- ---- given
-- The status is the reply's, and there was one put, of its bytes, which were written.
abbrev pub Gives : ℕ → Output → Output → Reply → Type 0
Gives status old new reply = given.Gives status reply.status reply.bytes old new

-- The files of a command hold bytes that are not too many, and a reply of this kind on them was given.
pub record Brings (IsKind : Command → List (List ℕ) → Reply → Type 0) (told : Told) (command : Command) (status : ℕ)
    (old new : Output) : Type 0 where
  pub files : List (List ℕ)
  pub held : MayHoldAll told (files_of command) files
  pub fit : AllFit most_bytes files
  pub reply : Reply
  pub is : IsKind command files reply
  pub given : Gives status old new reply

-- Where it is told what the files hold, the reply on that was given, or the status is 3, 4 or 5.
abbrev pub GivesOnTold : Command → Told → ℕ → Output → Output → Type 0
GivesOnTold command told status old new = IfSome (all_told told (files_of command)) (λ files.
    ((reply : Reply) × IsReplyOnFiles command files reply × Gives status old new reply)
    ⊎ ((status ≡ 3) ⊎ ((status ≡ 4) ⊎ (status ≡ 5))))

-- Where it is told that the files fit and can be answered, the status is that of an answer, or 3, 4 or 5.
abbrev pub AnswersWhatItCan : Command → Told → ℕ → Type 0
AnswersWhatItCan command told status = IfSome (all_told told (files_of command)) (λ files.
    AllFit most_bytes files → IsAnswerable command files
    → IsAnswer command status ⊎ ((status ≡ 3) ⊎ ((status ≡ 4) ⊎ (status ≡ 5))))

-- The sink failed in this call: there was one put, of the reply's bytes, a front of which was written.
abbrev pub FailsToGive : {K : Type 0} → (faults : K → ℕ) → (written : K → Option (List ℕ)) → (puts : K → List (List ℕ))
    → K → K → Reply → Type 0
FailsToGive faults written puts old new reply = given.FailsToGive faults written puts old new reply.bytes
