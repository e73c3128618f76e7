-- What a reply that was given is, by its status.
use Rattle.std.proofs.Common.{◌≡◌, ◌≢◌, ◌⊎◌, ℕ, List, Option, Some, None, IfSome, Result, Ok, Err, IfOk, inl, inr, refl, sym, ap, ◌∙◌, subst, arith, suc, ◌<◌}
use Rattle.std.proofs.lemmas.Bool.{cases_eq}
use Rattle.std.proofs.lemmas.Result.{IfOk-weaker}
use Rattle.upp_limits.specs.declared.own_limits.OverLimit.TheVariants.{TooMany, TooWide}
use Rattle.upp_limits.proofs.SpanNumbers.{if_some_map}
use Rattle.outside.specs.Fetching.{FetchesAll, FetchesUpTo}
use Rattle.outside.specs.Written.{Output}
use Rattle.replies.specs.declared.fetching.Unread.{Unread}
use Rattle.replies.specs.Ended.{EndsIn, AsksUpTo, Tells, asks_of}
use Rattle.replies.proofs.Ends.{told_in}
use Rattle.replies.proofs.Fetches.{up_to_end}
use Rattle.replies.specs.declared.answer.Answer.{Answer}
use Rattle.command_replies.specs.Replies.{Reply, cannot_read, too_long}
use Rattle.command_replies.specs.View.{code_of, reply_of, status_of}
use Rattle.netcalc_cli.specs.Commands.{Command, files_of, AreSameTo, IsReplyTo, IsMalformed, IsOver, IsCyclic, TellsBreach, IsDone}
use Rattle.netcalc_cli.specs.Commands.{Analyse, Edit, Simulate, Exercise, Check, Measure, Curve, IsAnswerable, IsAnswer, CountsTo}
use Rattle.netcalc_cli.specs.Answered.{IsAnswered}
use Rattle.netcalc_cli.specs.Counts.{CountsOnCommand, CountsOnCall}
use Rattle.outside.specs.Files.{Told, IsTooLong, FirstIs, MayHoldAll, AllFit, all_told}
use Rattle.netcalc_cli.specs.Files.{most_bytes}
use Rattle.netcalc_cli.specs.Reply.{IsReplyOnFiles, StandsOnFiles, FailedAt, EndsAt, MayReplyTo, Gives, Brings, GivesOnTold, AnswersWhatItCan}
use Rattle.netcalc_cli.proofs.ByCommand.{IsByStatus, by_command, equal_by_command, one_by_command, complete_by_command}
use Rattle.netcalc_cli.proofs.ByCommand.{IsGiven, answer_given, counts_by_command}
use Rattle.replies.proofs.FileLemmas.{first_map, first_shows, long_shows, long_first, not_long, long_one, ended}
use Rattle.replies.proofs.FileLemmas.{same_told, on_told, any_told}

-- ---- what the inputs may bring
-- fetching ended at a file
ends : {I : Type 0} (faults : I → ℕ) (last_fault : I → List ℕ) (told : Told) (command : Command) (old new : I)
    (reply : Reply) → FirstIs most_bytes told (EndsAt faults last_fault told old new reply) (files_of command)
    → MayReplyTo faults last_fault told command old new reply
ends faults last_fault told command old new reply h =
    elim (ended most_bytes told (λ file. FailedAt faults last_fault file old new × (reply ≡ cannot_read file))
    (λ file. reply ≡ too_long file) (files_of command) h) [
      | inl failed ↦ inl failed
      | inr long ↦ inr (long.0, long.1, inl long.2)
    ]

-- with no answer on what all files hold
record IsNoAnswer (status : ℕ) : Type 0 where
  zero : status ≢ 0
  few : status < 6

at_most_five : (status n : ℕ) → status ≡ suc n → suc n < 6 → IsNoAnswer status
at_most_five status n is less = record { zero = λ e. absurd (omega (arith, is, e)); few = omega (arith, is, less) }

none_of : {I : Type 0} (faults : I → ℕ) (last_fault : I → List ℕ) (told : Told) (old new : I) (file : List ℕ)
    (a : Answer) → EndsAt faults last_fault told old new (reply_of a) file → IsNoAnswer (code_of a.status)
none_of faults last_fault told old new file a (inl failed) =
    at_most_five (code_of a.status) 2 (ap (λ (x : Reply). x.status) failed.1) (omega arith)
none_of faults last_fault told old new file a (inr long) =
    at_most_five (code_of a.status) 0 (ap (λ (x : Reply). x.status) long.1) (omega arith)

none_in : {I E : Type 0} (faults : I → ℕ) (last_fault : I → List ℕ) (told : Told) (old new : I)
    (files : List (List ℕ)) (r : Result Answer E)
    → IfOk r (λ a. FirstIs most_bytes told (EndsAt faults last_fault told old new (reply_of a)) files) → IsNoAnswer (status_of r)
none_in faults last_fault told old new files (Ok a) h =
    first_shows most_bytes told (EndsAt faults last_fault told old new (reply_of a)) (IsNoAnswer (code_of a.status)) files
    (λ file at. none_of faults last_fault told old new file a at) h
none_in faults last_fault told old new files (Err e) h =
    at_most_five 5 4 refl (omega arith)

no_answer : (command : Command) (status : ℕ) → IsNoAnswer status → ¬ (IsAnswer command status)
no_answer (Analyse form net) status none h = none.zero h
no_answer (Edit form net edits) status none h = none.zero h
no_answer (Simulate net trace) status none h = elim h [ inl zero ↦ none.zero zero | inr nine ↦ let few = none.few in omega (arith, few, nine) ]
no_answer (Exercise seed) status none h = elim h [ inl zero ↦ none.zero zero | inr nine ↦ let few = none.few in omega (arith, few, nine) ]
no_answer (Check net run) status none h = elim h [ inl zero ↦ none.zero zero | inr nine ↦ let few = none.few in omega (arith, few, nine) ]
no_answer (Measure net trace name rate) status none h = none.zero h
no_answer (Curve script) status none h = none.zero h

no_answer_in : {I E : Type 0} (faults : I → ℕ) (last_fault : I → List ℕ) (told : Told) (command : Command)
    (old new : I) (files : List (List ℕ)) (r : Result Answer E)
    → IfOk r (λ a. FirstIs most_bytes told (EndsAt faults last_fault told old new (reply_of a)) files)
    → ¬ (IsAnswer command (status_of r))
no_answer_in faults last_fault told command old new files r h =
    no_answer command (status_of r) (none_in faults last_fault told old new files r h)

-- so all files are had for a reply that stands on them
not_on_files : (status : ℕ) → IsNoAnswer status → ¬ (StandsOnFiles status)
not_on_files status none (inl zero) = none.zero zero
not_on_files status none (inr more) = let few = none.few in omega (arith, few, more)

not_in_files : {I E : Type 0} (faults : I → ℕ) (last_fault : I → List ℕ) (told : Told) (old new : I)
    (files : List (List ℕ)) (r : Result Answer E)
    → IfOk r (λ a. FirstIs most_bytes told (EndsAt faults last_fault told old new (reply_of a)) files)
    → ¬ (StandsOnFiles (status_of r))
not_in_files faults last_fault told old new files r h =
    not_on_files (status_of r) (none_in faults last_fault told old new files r h)

pub not_for_memory : (status : ℕ) → status ≡ 5 → ¬ (StandsOnFiles status)
not_for_memory status five = not_on_files status (at_most_five status 4 five (omega arith))

-- the status that is given stands on files only where the answer's does
pub stands_given : (status other : ℕ) → IsGiven status other → StandsOnFiles other → StandsOnFiles status
stands_given status other same on =
    elim (cases_eq other 4) [
      | inl four ↦ absurd (not_on_files other (at_most_five other 3 four (omega arith)) on)
      | inr unlike ↦ let P : ℕ → Type 0 = λ n. StandsOnFiles n in subst P (same unlike) on
    ]

pub not_for_usage : (status : ℕ) → IsGiven 2 status → ¬ (StandsOnFiles status)
not_for_usage status same on = not_on_files 2 (at_most_five 2 1 refl (omega arith)) (stands_given 2 status same on)

-- ---- where memory is refused, whatever is asked
no_memory : (status : ℕ) → status ≡ 5 → IsNoAnswer status
no_memory status five = at_most_five status 4 five (omega arith)

pub nothing_counted : {I : Type 0} (content : I → List ℕ → Option (List ℕ)) (asked : Option Command) (inputs : I)
    (status steps : ℕ) → status ≡ 5 → CountsOnCall content asked inputs status steps steps
nothing_counted content None inputs status steps five = refl
nothing_counted content (Some command) inputs status steps five =
    inl (no_answer command status (no_memory status five), refl)

pub nothing_told : (asked : Option Command) (told : Told) (status : ℕ) (old new : Output) → status ≡ 5
    → IfSome asked (λ command. GivesOnTold command told status old new)
nothing_told asked told status old new five =
    any_told asked (λ command. GivesOnTold command told status old new)
    (λ command. any_told (all_told told (files_of command))
    (λ files. ((reply : Reply) × IsReplyOnFiles command files reply × Gives status old new reply)
    ⊎ ((status ≡ 3) ⊎ ((status ≡ 4) ⊎ (status ≡ 5))))
    (λ files. inr (inr (inr five))))

pub nothing_answered : (asked : Option Command) (told : Told) (status : ℕ) → status ≡ 5
    → IfSome asked (λ command. AnswersWhatItCan command told status)
nothing_answered asked told status five =
    any_told asked (λ command. AnswersWhatItCan command told status)
    (λ command. any_told (all_told told (files_of command))
    (λ files. AllFit most_bytes files → IsAnswerable command files
    → IsAnswer command status ⊎ ((status ≡ 3) ⊎ ((status ≡ 4) ⊎ (status ≡ 5))))
    (λ files fit can. inr (inr (inr five))))

-- ---- or the files were fetched
answers : {I : Type 0} (faults : I → ℕ) (last_fault : I → List ℕ) (told : Told) (command : Command) (old new : I)
    (reply : Reply) (files : List (List ℕ)) → MayHoldAll told (files_of command) files → AllFit most_bytes files
    → IsReplyTo command files reply
    → MayReplyTo faults last_fault told command old new reply
answers faults last_fault told command old new reply files held fit is = inr (files, held, inr (fit, is))

-- ---- the answer of a command
-- on what its files hold
pub on_files : {I E : Type 0} (content : I → List ℕ → Option (List ℕ)) (faults : I → ℕ) (last_fault : I → List ℕ)
    (asked had : I → List (List ℕ)) (command : Command) (old new : I) (r : Result Answer E) (before after : ℕ)
    (files : List (List ℕ)) → MayHoldAll (content old) (files_of command) files → AllFit most_bytes files
    → FetchesAll asked had (files_of command) old new → IfOk r (λ a. IsReplyTo command files (reply_of a))
    → CountsTo command files (status_of r) before after
    → IsAnswered content faults last_fault asked had command old new r before after
on_files content faults last_fault asked had command old new r before after files held fit had_all on counts = record {
  reply = IfOk-weaker r _ _
      (λ a is. answers faults last_fault (content old) command old new (reply_of a) files held fit is) on;
  asked_for = up_to_end asked had (files_of command) old new had_all;
  all = λ stands. had_all;
  counts = inr (record { files = files; held = held; fit = fit; counts = counts });
}

-- where fetching ended at a file
replied : {I E : Type 0} (faults : I → ℕ) (last_fault : I → List ℕ) (told : Told) (asks : List (List ℕ) → Type 0)
    (old new : I) (unread : Unread) (names : List (List ℕ)) (r : Result Answer E)
    → EndsIn most_bytes faults last_fault told asks old new unread names
    → IfOk r (λ a. Tells cannot_read too_long unread (reply_of a))
    → IfOk r (λ a. FirstIs most_bytes told (EndsAt faults last_fault told old new (reply_of a)) names)
replied faults last_fault told asks old new unread names (Ok a) ended tells =
    first_map most_bytes told
    (λ file. EndsAt faults last_fault told old new (reply_of a) file × AsksUpTo asks names file)
    (EndsAt faults last_fault told old new (reply_of a)) names (λ file h. h.0)
    (told_in most_bytes cannot_read too_long faults last_fault told asks old new unread (reply_of a) names tells ended)
replied faults last_fault told asks old new unread names (Err e) ended tells = tt

pub on_end : {I E : Type 0} (content : I → List ℕ → Option (List ℕ)) (faults : I → ℕ) (last_fault : I → List ℕ)
    (asked had : I → List (List ℕ)) (command : Command) (old new : I) (unread : Unread) (r : Result Answer E) (count : ℕ)
    → FetchesUpTo asked had (files_of command) old new
    → EndsIn most_bytes faults last_fault (content old) (asks_of asked old new) old new unread (files_of command)
    → IfOk r (λ a. Tells cannot_read too_long unread (reply_of a))
    → IsAnswered content faults last_fault asked had command old new r count count
on_end content faults last_fault asked had command old new unread r count asked_for ended tells =
    let at = replied faults last_fault (content old) (asks_of asked old new) old new unread (files_of command) r ended
    tells in
    record {
      reply = IfOk-weaker r _ _ (λ a h. ends faults last_fault (content old) command old new (reply_of a) h) at;
      asked_for = asked_for;
      all = λ stands. absurd (not_in_files faults last_fault (content old) old new (files_of command) r at stands);
      counts = inl (no_answer_in faults last_fault (content old) command old new (files_of command) r at, refl);
    }

-- ---- by status
-- the bytes of files that are not too long, and what the reply on them is
record IsOnFiles (told : Told) (command : Command) (reply : Reply) : Type 0 where
  files : List (List ℕ)
  held : MayHoldAll told (files_of command) files
  fit : AllFit most_bytes files
  is : IsByStatus command files reply

-- what the inputs may bring, by status
record MayBe {I : Type 0} (faults : I → ℕ) (last_fault : I → List ℕ) (told : Told) (command : Command) (old new : I)
    (reply : Reply) : Type 0 where
  three : reply.status ≡ 3
      → FirstIs most_bytes told (λ file. FailedAt faults last_fault file old new × (reply ≡ cannot_read file)) (files_of command)
  one : reply.status ≡ 1
      → FirstIs most_bytes told (λ file. IsTooLong most_bytes (told file) × (reply ≡ too_long file)) (files_of command)
      ⊎ IsOnFiles told command reply
  rest : reply.status ≢ 1 → reply.status ≢ 3 → IsOnFiles told command reply

by_files : {I : Type 0} (faults : I → ℕ) (last_fault : I → List ℕ) (told : Told) (command : Command) (old new : I)
    (reply : Reply) (files : List (List ℕ)) → MayHoldAll told (files_of command) files
    → IsReplyOnFiles command files reply → MayBe faults last_fault told command old new reply
by_files faults last_fault told command old new reply files held (inl long) =
    let is : reply.status ≡ 1 = long_shows most_bytes (λ file. reply ≡ too_long file) (reply.status ≡ 1) (files_of command) files
    (λ file same. ap (λ (r : Reply). r.status) same) long in
    record {
      three = λ e. absurd (cc);
      one = λ e. inl (long_first most_bytes told (λ file. reply ≡ too_long file) (files_of command) files held long);
      rest = λ other three. absurd (other is);
    }
by_files faults last_fault told command old new reply files held (inr fits) =
    let by = by_command command files reply fits.1 in
    let on : IsOnFiles told command reply = record { files = files; held = held; fit = fits.0; is = by } in
    record { three = λ e. absurd (by.others.1 e); one = λ e. inr on; rest = λ other three. on }

may_be : {I : Type 0} (faults : I → ℕ) (last_fault : I → List ℕ) (told : Told) (command : Command) (old new : I)
    (reply : Reply) → MayReplyTo faults last_fault told command old new reply
    → MayBe faults last_fault told command old new reply
may_be faults last_fault told command old new reply (inl failed) =
    let is : reply.status ≡ 3 = first_shows most_bytes told
    (λ file. FailedAt faults last_fault file old new × (reply ≡ cannot_read file)) (reply.status ≡ 3) (files_of command)
    (λ file h. ap (λ (r : Reply). r.status) h.1) failed in
    record { three = λ e. failed; one = λ e. absurd (cc); rest = λ other three. absurd (three is) }
may_be faults last_fault told command old new reply (inr found) =
    by_files faults last_fault told command old new reply found.0 found.1 found.2

-- ---- given
-- what is brought, by the status that is given
pub record IsBrought {I : Type 0} (faults : I → ℕ) (last_fault : I → List ℕ) (told : Told) (command : Command)
    (before after : I) (status : ℕ) (old new : Output) : Type 0 where
  pub read_fault : status ≡ 3
      → FirstIs most_bytes told (λ file. FailedAt faults last_fault file before after × Gives status old new (cannot_read file))
      (files_of command)
  pub malformed : status ≡ 1
      → FirstIs most_bytes told (λ file. IsTooLong most_bytes (told file) × Gives status old new (too_long file)) (files_of command)
      ⊎ Brings IsMalformed told command status old new
  pub too_many : status ≡ 7 → Brings (IsOver TooMany) told command status old new
  pub too_wide : status ≡ 6 → Brings (IsOver TooWide) told command status old new
  pub cycle : status ≡ 8 → Brings IsCyclic told command status old new
  pub breach : status ≡ 9 → Brings TellsBreach told command status old new
  pub done : status ≡ 0 → Brings IsDone told command status old new

-- a reply of one kind that is given
brings : (P : Command → List (List ℕ) → Reply → Type 0) (told : Told) (command : Command) (reply : Reply) (status : ℕ)
    (old new : Output) (on : IsOnFiles told command reply) → P command on.files reply
    → Gives status old new reply
    → Brings P told command status old new
brings P told command reply status old new on is given =
    record { files = on.files; held = on.held; fit = on.fit; reply = reply; is = is; given = given }

-- the line that tells a file
gives_line : (told : Told) (P : List ℕ → Type 0) (line : List ℕ → Reply) (names : List (List ℕ)) (reply : Reply)
    (status : ℕ) (old new : Output) → Gives status old new reply
    → FirstIs most_bytes told (λ file. P file × (reply ≡ line file)) names
    → FirstIs most_bytes told (λ file. P file × Gives status old new (line file)) names
gives_line told P line names reply status old new given h =
    first_map most_bytes told (λ file. P file × (reply ≡ line file)) (λ file. P file × Gives status old new (line file)) names
    (λ file k. (k.0, subst (Gives status old new) k.1 given)) h

malformed : (told : Told) (command : Command) (reply : Reply) (status : ℕ) (old new : Output)
    → Gives status old new reply → reply.status ≡ 1
    → FirstIs most_bytes told (λ file. IsTooLong most_bytes (told file) × (reply ≡ too_long file)) (files_of command)
    ⊎ IsOnFiles told command reply
    → FirstIs most_bytes told (λ file. IsTooLong most_bytes (told file) × Gives status old new (too_long file)) (files_of command)
    ⊎ Brings IsMalformed told command status old new
malformed told command reply status old new given one (inl long) =
    inl (gives_line told (λ file. IsTooLong most_bytes (told file)) too_long (files_of command) reply status old new given long)
malformed told command reply status old new given one (inr on) =
    inr (brings IsMalformed told command reply status old new on (on.is.malformed one) given)

pub brought : {I : Type 0} (faults : I → ℕ) (last_fault : I → List ℕ) (told : Told) (command : Command)
    (before after : I) (reply : Reply) (status : ℕ) (old new : Output)
    → MayReplyTo faults last_fault told command before after reply → Gives status old new reply
    → IsBrought faults last_fault told command before after status old new
brought faults last_fault told command before after reply status old new may given =
    let h = may_be faults last_fault told command before after reply may in
    let same : status ≡ reply.status = given.0 in
    record {
      read_fault = λ e. gives_line told (λ file. FailedAt faults last_fault file before after) cannot_read
          (files_of command) reply status old new given (h.three (sym same ∙ e));
      malformed = λ e. malformed told command reply status old new given (sym same ∙ e) (h.one (sym same ∙ e));
      too_many = λ e. let on = h.rest (λ x. cc) (λ x. cc) in
          brings (IsOver TooMany) told command reply status old new on (on.is.many (sym same ∙ e)) given;
      too_wide = λ e. let on = h.rest (λ x. cc) (λ x. cc) in
          brings (IsOver TooWide) told command reply status old new on (on.is.wide (sym same ∙ e)) given;
      cycle = λ e. let on = h.rest (λ x. cc) (λ x. cc) in
          brings IsCyclic told command reply status old new on (on.is.cycle (sym same ∙ e)) given;
      breach = λ e. let on = h.rest (λ x. cc) (λ x. cc) in
          brings TellsBreach told command reply status old new on (on.is.breach (sym same ∙ e)) given;
      done = λ e. let on = h.rest (λ x. cc) (λ x. cc) in
          brings IsDone told command reply status old new on (on.is.done (sym same ∙ e)) given;
    }

-- ---- what the files are told to hold
told_on : {I : Type 0} (faults : I → ℕ) (last_fault : I → List ℕ) (told : Told) (command : Command)
    (before after : I) (reply : Reply) (status : ℕ) (old new : Output)
    → MayReplyTo faults last_fault told command before after reply → Gives status old new reply
    → GivesOnTold command told status old new
told_on faults last_fault told command before after reply status old new (inl failed) given =
    let three : reply.status ≡ 3 = first_shows most_bytes told
    (λ file. FailedAt faults last_fault file before after × (reply ≡ cannot_read file)) (reply.status ≡ 3)
    (files_of command)
    (λ file h. ap (λ (r : Reply). r.status) h.1) failed in
    any_told (all_told told (files_of command)) _ (λ files. inr (inl (given.0 ∙ three)))
told_on faults last_fault told command before after reply status old new (inr found) given =
    on_told (all_told told (files_of command)) found.0 _ (same_told told (files_of command) found.0 found.1)
    (inl (reply, found.2, given))

pub told_given : {I : Type 0} (faults : I → ℕ) (last_fault : I → List ℕ) (told : Told) (command : Command)
    (before after : I) (reply : Reply) (status : ℕ) (old new : Output)
    → MayReplyTo faults last_fault told command before after reply → (status ≢ 4 → Gives status old new reply)
    → GivesOnTold command told status old new
told_given faults last_fault told command before after reply status old new may given =
    elim (cases_eq status 4) [
      | inl four ↦ any_told (all_told told (files_of command)) _ (λ files. inr (inr (inl four)))
      | inr other ↦ told_on faults last_fault told command before after reply status old new may (given other)
    ]

-- ---- on files that can be answered
answers_on : (command : Command) (files : List (List ℕ)) (reply : Reply) → AllFit most_bytes files → IsAnswerable command files
    → IsReplyOnFiles command files reply → IsAnswer command reply.status
answers_on command files reply fit can (inl long) =
    absurd (not_long most_bytes (λ file. reply ≡ too_long file) (files_of command) files long fit)
answers_on command files reply fit can (inr on) = complete_by_command command files reply can on.1

answers_or : (command : Command) (files : List (List ℕ)) (status : ℕ) (old new : Output) → AllFit most_bytes files
    → IsAnswerable command files
    → ((reply : Reply) × IsReplyOnFiles command files reply × Gives status old new reply)
    ⊎ ((status ≡ 3) ⊎ ((status ≡ 4) ⊎ (status ≡ 5)))
    → IsAnswer command status ⊎ ((status ≡ 3) ⊎ ((status ≡ 4) ⊎ (status ≡ 5)))
answers_or command files status old new fit can (inl r) =
    inl (subst (IsAnswer command) (sym r.2.0) (answers_on command files r.0 fit can r.1))
answers_or command files status old new fit can (inr other) = inr other

pub answers_what_it_can : (command : Command) (told : Told) (status : ℕ) (old new : Output)
    → GivesOnTold command told status old new → AnswersWhatItCan command told status
answers_what_it_can command told status old new h =
    if_some_map (all_told told (files_of command)) _ _
    (λ files given fit can. answers_or command files status old new fit can given) h

-- ---- steps
-- at the status that is given where the answer has another
pub counts_at : (told : Told) (command : Command) (status other old new : ℕ) → IsGiven status other
    → CountsOnCommand told command status old new → CountsOnCommand told command other old new
counts_at told command status other old new same (inl none) =
    inl (λ answer. none.0 (answer_given command status other same answer), none.1)
counts_at told command status other old new same (inr h) =
    let counts = counts_by_command command h.files status other old new same h.counts in
    inr (record { files = h.files; held = h.held; fit = h.fit; counts = counts })

-- ---- replies on the same files are alike
pub replies_are_alike : (command : Command) (files : List (List ℕ)) (x y : Reply) → IsReplyOnFiles command files x
    → IsReplyOnFiles command files y → AreSameTo command x y
replies_are_alike command files x y (inl h) (inl k) =
    equal_by_command command x y (long_one most_bytes x y too_long (files_of command) files h k)
replies_are_alike command files x y (inl h) (inr k) =
    absurd (not_long most_bytes (λ file. x ≡ too_long file) (files_of command) files h k.0)
replies_are_alike command files x y (inr h) (inl k) =
    absurd (not_long most_bytes (λ file. y ≡ too_long file) (files_of command) files k h.0)
replies_are_alike command files x y (inr h) (inr k) = one_by_command command files x y h.1 k.1
