-- What the program answers on words and files, and what it means that the answer is given.
use Rattle.std.specs.Prelude.{◌≡◌, ◌⊎◌, ◌≤◌, ◌++◌, ℕ, List, [], ◌∷◌, Option, Some, IfSome}
use Rattle.outside.specs.Fetching as fetching
pub use Rattle.outside.specs.Fetching.{FailedAt}
pub use Rattle.outside.specs.Written.{Output, output}
use Rattle.replies.specs.Given as given
pub use Rattle.replies.specs.Ended.{AsksUpTo, asks_of}
use Rattle.bounds_command.specs.declared.form.Form.{Form}
use Rattle.bounds_command.specs.Replies.{Reply, cannot_read, too_long}
use Rattle.bounds_command.specs.OnTables.{Tables, tables, IsReplyOn}
use Rattle.bounds_command.specs.Laws.{IsAnswerable}
use Rattle.netbound_cli.specs.words.Requests.{Request}
use Rattle.netbound_cli.specs.Calls.{Call, call_of, text_of, files_of}
use Rattle.outside.specs.Files.{Told, FirstIs, MayHoldAll, FirstLong, AllFit, all_told}
use Rattle.netbound_cli.specs.Files.{most_bytes}

-- ---- on files
-- K holds of the two tables of a call that hold these bytes, and of a reply
abbrev pub OnTables : (Tables → ℕ → Form → Reply → Type 0) → Call → List (List ℕ) → Reply → Type 0
OnTables K c (ports ∷ links ∷ []) reply =
    K (tables c.ports ports c.links links) c.overhead c.form reply
OnTables K c files reply = ⊥

-- the reply of a call where its files hold these bytes
abbrev pub IsReplyOnFiles : Call → List (List ℕ) → Reply → Type 0
IsReplyOnFiles c files reply =
    FirstLong most_bytes (λ file. reply ≡ too_long file) (files_of c) files ⊎ (AllFit most_bytes files × OnTables IsReplyOn c files reply)

-- The inputs end a call at this file: they failed at it, or it is too long.
abbrev pub EndsAt : {I : Type 0} → (I → ℕ) → (I → List ℕ) → Told → I → I → Reply → List ℕ → Type 0
EndsAt faults last_fault told old new reply file =
    fetching.EndsAt most_bytes cannot_read too_long faults last_fault told old new reply file

-- ---- on words and inputs
-- The reply of a call whose files hold these bytes, where no more is asked for than it tells of: up to a file that is
-- too long, or all.
abbrev pub IsReplyAsking : (List (List ℕ) → Type 0) → Call → List (List ℕ) → Reply → Type 0
IsReplyAsking asks c files reply =
    FirstLong most_bytes (λ file. (reply ≡ too_long file) × AsksUpTo asks (files_of c) file) (files_of c) files
    ⊎ (AllFit most_bytes files × OnTables IsReplyOn c files reply × asks (files_of c))

-- The inputs may bring this reply of a call: they failed at a file, those before which may fit, and none behind it is
-- asked for; or it is the reply on what the files hold.
abbrev pub MayReplyTo : {I : Type 0} → (I → ℕ) → (I → List ℕ) → Told → (List (List ℕ) → Type 0) → Call → I → I → Reply → Type 0
MayReplyTo faults last_fault told asks c old new reply =
    FirstIs most_bytes told (λ file. FailedAt faults last_fault file old new × (reply ≡ cannot_read file)
    × AsksUpTo asks (files_of c) file) (files_of c)
    ⊎ ((files : List (List ℕ)) × MayHoldAll told (files_of c) files × IsReplyAsking asks c files reply)

-- Words and inputs may bring this reply; for a text no file is asked for.
abbrev pub MayReply : {I : Type 0} → (I → List ℕ → Option (List ℕ)) → (I → ℕ) → (I → List ℕ) → (I → List (List ℕ))
    → Option Request → I → I → Reply → Type 0
MayReply content faults last_fault asked request old new reply =
    ((text_of request ≡ Some reply) × asks_of asked old new [])
    ⊎ ((c : Call) × (call_of request ≡ Some c)
    × MayReplyTo faults last_fault (content old) (asks_of asked old new) c old new reply)

-- The status is 0, 1, 2, 3, 4, 5, 8 or 9.
abbrev pub IsStatus : ℕ → Type 0
IsStatus status = (status ≤ 5) ⊎ ((status ≡ 8) ⊎ (status ≡ 9))

-- The status is that of an answer on what both files hold.
abbrev pub IsOnBoth : ℕ → Type 0
IsOnBoth status = (status ≡ 0) ⊎ ((status ≡ 8) ⊎ (status ≡ 9))

-- ---- given
-- There was one put, of the reply's bytes.
abbrev pub PutsOnce : Output → Output → Reply → Type 0
PutsOnce old new reply = new.puts ≡ old.puts ++ reply.bytes ∷ []

-- The status is the reply's, and there was one put, of its bytes, which were written.
abbrev pub Gives : ℕ → Output → Output → Reply → Type 0
Gives status old new reply = given.Gives status reply.status reply.bytes old new

-- The files of a call hold bytes that are not too many, both were asked for, and a reply of this kind on them was given.
pub record Brings (K : Tables → ℕ → Form → Reply → Type 0) (told : Told) (asks : List (List ℕ) → Type 0) (c : Call)
    (status : ℕ) (old new : Output) : Type 0 where
  pub files : List (List ℕ)
  pub held : MayHoldAll told (files_of c) files
  pub fit : AllFit most_bytes files
  pub asked : asks (files_of c)
  pub reply : Reply
  pub is : OnTables K c files reply
  pub given : Gives status old new reply

-- Where it is told what the files hold, the reply on that was given, or the status is 3, 4 or 5.
abbrev pub GivesOnTold : Call → Told → ℕ → Output → Output → Type 0
GivesOnTold c told status old new = IfSome (all_told told (files_of c)) (λ files.
    ((reply : Reply) × IsReplyOnFiles c files reply × Gives status old new reply)
    ⊎ ((status ≡ 3) ⊎ ((status ≡ 4) ⊎ (status ≡ 5))))

-- The tables of a call that hold these bytes are a document without a fault, whose links go round nowhere.
abbrev pub IsAnswerableCall : Call → List (List ℕ) → Type 0
IsAnswerableCall c (ports ∷ links ∷ []) =
    IsAnswerable (tables c.ports ports c.links links) c.overhead
IsAnswerableCall c files = ⊥

-- Where it is told that the files fit and are such a document, the report is written, or the status is 3, 4 or 5.
abbrev pub AnswersWhatItCan : Call → Told → ℕ → Type 0
AnswersWhatItCan c told status = IfSome (all_told told (files_of c)) (λ files.
    AllFit most_bytes files → IsAnswerableCall c files
    → (status ≡ 0) ⊎ ((status ≡ 9) ⊎ ((status ≡ 3) ⊎ ((status ≡ 4) ⊎ (status ≡ 5)))))

-- The sink failed in this call: there was one put, of the reply's bytes, a front of which was written.
abbrev pub FailsToGive : {K : Type 0} → (faults : K → ℕ) → (written : K → Option (List ℕ)) → (puts : K → List (List ℕ))
    → K → K → Reply → Type 0
FailsToGive faults written puts old new reply = given.FailsToGive faults written puts old new reply.bytes
