-- What a reply that was given is, by its status.
use Rattle.std.proofs.Common.{◌≡◌, ◌≢◌, ◌⊎◌, ℕ, Bool, true, false, List, [], ◌∷◌, Option, Some, None, IfSome, inl}
use Rattle.std.proofs.Common.{inr, refl, sym, ap, ◌∙◌, subst, arith, append-nil}
use Rattle.std.proofs.lemmas.Bool.{cases_eq}
use Rattle.bounds_command.specs.declared.form.Form.{Form}
use Rattle.bounds_command.specs.Laws.{IsReport}
use Rattle.bounds_command.specs.OnTables.{IsCyclic, IsFaulty, IsReplyOn, Tables, tables}
use Rattle.bounds_command.specs.Replies.{Reply, cannot_read, too_long}
use Rattle.bounds_command.proofs.OneReply as law
use Rattle.netbound_cli.specs.words.Requests.{Bounds, Help, Request, Version}
use Rattle.outside.specs.Fetching.{FetchesAll}
use Rattle.netbound_cli.specs.Calls.{Call, call_of, files_of, form_of, names_of, text_of}
use Rattle.outside.specs.Files.{Told, IsTooLong, FirstIs, MayHoldAll, FirstLong, AllFit, all_told}
use Rattle.netbound_cli.specs.Files.{most_bytes}
use Rattle.netbound_cli.specs.Laws.{RepliesAreDetermined}
use Rattle.netbound_cli.specs.Reply.{AnswersWhatItCan, AsksUpTo, Brings, EndsAt, FailedAt, Gives, GivesOnTold, IsAnswerableCall}
use Rattle.netbound_cli.specs.Reply.{IsOnBoth, IsStatus, IsReplyAsking, IsReplyOnFiles, MayReply, MayReplyTo, OnTables, Output, asks_of}
use Rattle.replies.proofs.FileLemmas.{any_told, ended, first_map, first_shows, long_first, long_one, long_shows}
use Rattle.replies.proofs.FileLemmas.{not_long, on_told, same_told}
use Rattle.replies.proofs.Fetches.{fetches_none}

-- ---- what the inputs may bring
-- fetching ended at a file
pub ends : {I : Type 0} (faults : I → ℕ) (last_fault : I → List ℕ) (told : Told) (asks : List (List ℕ) → Type 0)
    (c : Call) (old new : I) (reply : Reply)
    → FirstIs most_bytes told (λ file. EndsAt faults last_fault told old new reply file × AsksUpTo asks (files_of c) file) (files_of c)
    → MayReplyTo faults last_fault told asks c old new reply
ends faults last_fault told asks c old new reply h =
    elim (ended most_bytes told
    (λ file. FailedAt faults last_fault file old new × (reply ≡ cannot_read file) × AsksUpTo asks (files_of c) file)
    (λ file. (reply ≡ too_long file) × AsksUpTo asks (files_of c) file) (files_of c)
    (first_map most_bytes told
    (λ file. EndsAt faults last_fault told old new reply file × AsksUpTo asks (files_of c) file)
    (λ file. (FailedAt faults last_fault file old new × (reply ≡ cannot_read file) × AsksUpTo asks (files_of c) file)
    ⊎ (IsTooLong most_bytes (told file) × ((reply ≡ too_long file) × AsksUpTo asks (files_of c) file))) (files_of c)
    (λ file h. elim h.0 [
      | inl failed ↦ inl (failed.0, failed.1, h.1)
      | inr long ↦ inr (long.0, (long.1, h.1))
    ]) h)) [
      | inl failed ↦ inl failed
      | inr long ↦ inr (long.0, long.1, inl long.2)
    ]

-- or the files were fetched
pub answers : {I : Type 0} (faults : I → ℕ) (last_fault : I → List ℕ) (told : Told) (asks : List (List ℕ) → Type 0)
    (c : Call) (old new : I) (reply : Reply)
    (files : List (List ℕ)) → MayHoldAll told (files_of c) files → AllFit most_bytes files → OnTables IsReplyOn c files reply
    → asks (files_of c) → MayReplyTo faults last_fault told asks c old new reply
answers faults last_fault told asks c old new reply files held fit is all = inr (files, held, inr (fit, is, all))

-- what the reply is, where it is left alone what is asked for
long_map : (P Q : List ℕ → Type 0) (names files : List (List ℕ)) → ((file : List ℕ) → P file → Q file)
    → FirstLong most_bytes P names files → FirstLong most_bytes Q names files
long_map P Q [] files step h = absurd h
long_map P Q (name ∷ names) [] step h = absurd h
long_map P Q (name ∷ names) (bytes ∷ files) step (inl h) = inl (h.0, step name h.1)
long_map P Q (name ∷ names) (bytes ∷ files) step (inr h) = inr (h.0, long_map P Q names files step h.1)

plain : (asks : List (List ℕ) → Type 0) (c : Call) (files : List (List ℕ)) (reply : Reply)
    → IsReplyAsking asks c files reply → IsReplyOnFiles c files reply
plain asks c files reply (inl long) =
    inl (long_map (λ file. (reply ≡ too_long file) × AsksUpTo asks (files_of c) file) (λ file. reply ≡ too_long file)
    (files_of c) files (λ file h. h.0) long)
plain asks c files reply (inr on) = inr (on.0, on.1)

-- ---- on two tables, by status
record IsByStatus (c : Call) (files : List (List ℕ)) (reply : Reply) : Type 0 where
  known : (reply.status ≡ 0) ⊎ ((reply.status ≡ 1) ⊎ ((reply.status ≡ 8) ⊎ (reply.status ≡ 9)))
  malformed : reply.status ≡ 1 → OnTables IsFaulty c files reply
  cycle : reply.status ≡ 8 → OnTables IsCyclic c files reply
  met : reply.status ≡ 0 → OnTables (IsReport false) c files reply
  missed : reply.status ≡ 9 → OnTables (IsReport true) c files reply

by_status : (c : Call) (files : List (List ℕ)) (reply : Reply) → OnTables IsReplyOn c files reply
    → IsByStatus c files reply
by_status c (ports ∷ links ∷ []) reply h =
    let cause = law.statuses_have_causes (tables c.ports ports c.links links) c.overhead c.form reply h in
    record {
      known = cause.known;
      malformed = cause.malformed;
      cycle = cause.cyclic;
      met = cause.met;
      missed = cause.missed;
    }
by_status c [] reply h = absurd h
by_status c (ports ∷ []) reply h = absurd h
by_status c (ports ∷ links ∷ other ∷ files) reply h = absurd h

-- the bytes of files that are not too long, and what the reply on them is
record IsOnFiles (told : Told) (asks : List (List ℕ) → Type 0) (c : Call) (reply : Reply) : Type 0 where
  files : List (List ℕ)
  held : MayHoldAll told (files_of c) files
  fit : AllFit most_bytes files
  asked : asks (files_of c)
  is : IsByStatus c files reply

-- what the inputs may bring, by status
record MayBe {I : Type 0} (faults : I → ℕ) (last_fault : I → List ℕ) (told : Told) (asks : List (List ℕ) → Type 0)
    (c : Call) (old new : I) (reply : Reply) : Type 0 where
  three : reply.status ≡ 3
      → FirstIs most_bytes told (λ file. FailedAt faults last_fault file old new × (reply ≡ cannot_read file)
      × AsksUpTo asks (files_of c) file) (files_of c)
  one : reply.status ≡ 1
      → FirstIs most_bytes told (λ file. IsTooLong most_bytes (told file) × ((reply ≡ too_long file) × AsksUpTo asks (files_of c) file)) (files_of c)
      ⊎ IsOnFiles told asks c reply
  rest : reply.status ≢ 1 → reply.status ≢ 3 → IsOnFiles told asks c reply
  known : IsStatus reply.status
  no_two : reply.status ≢ 2
  no_four : reply.status ≢ 4
  no_five : reply.status ≢ 5

abbrev IsKnown : ℕ → Type 0
IsKnown status = (status ≡ 0) ⊎ ((status ≡ 1) ⊎ ((status ≡ 8) ⊎ (status ≡ 9)))

known_on : (n : ℕ) → IsKnown n → IsStatus n
known_on n (inl e) = inl (omega (arith, e))
known_on n (inr (inl e)) = inl (omega (arith, e))
known_on n (inr (inr e)) = inr e

not_known : (status n : ℕ) → IsKnown status → n ≢ 0 → n ≢ 1 → n ≢ 8 → n ≢ 9 → status ≢ n
not_known status n (inl e) a b c d is = a (sym is ∙ e)
not_known status n (inr (inl e)) a b c d is = b (sym is ∙ e)
not_known status n (inr (inr (inl e))) a b c d is = c (sym is ∙ e)
not_known status n (inr (inr (inr e))) a b c d is = d (sym is ∙ e)

other : (status n m : ℕ) → status ≡ n → n ≢ m → status ≢ m
other status n m is apart e = apart (sym is ∙ e)

by_files : {I : Type 0} (faults : I → ℕ) (last_fault : I → List ℕ) (told : Told) (asks : List (List ℕ) → Type 0)
    (c : Call) (old new : I) (reply : Reply)
    (files : List (List ℕ)) → MayHoldAll told (files_of c) files → IsReplyAsking asks c files reply
    → MayBe faults last_fault told asks c old new reply
by_files faults last_fault told asks c old new reply files held (inl long) =
    let is : reply.status ≡ 1 = long_shows most_bytes (λ file. (reply ≡ too_long file) × AsksUpTo asks (files_of c) file)
    (reply.status ≡ 1) (files_of c) files (λ file h. ap (λ (r : Reply). r.status) h.0) long in
    record {
      three = λ e. absurd (other reply.status 1 3 is (omega arith) e);
      one = λ e. inl (long_first most_bytes told (λ file. (reply ≡ too_long file) × AsksUpTo asks (files_of c) file)
          (files_of c) files held long);
      rest = λ not_one not_three. absurd (not_one is);
      known = inl (omega (arith, is));
      no_two = other reply.status 1 2 is (omega arith);
      no_four = other reply.status 1 4 is (omega arith);
      no_five = other reply.status 1 5 is (omega arith);
    }
by_files faults last_fault told asks c old new reply files held (inr fits) =
    let by = by_status c files reply fits.1 in
    let on : IsOnFiles told asks c reply = record { files = files; held = held; fit = fits.0; asked = fits.2; is = by } in
    record {
      three = λ e. absurd (not_known reply.status 3 by.known (omega arith) (omega arith) (omega arith) (omega arith)
          e);
      one = λ e. inr on;
      rest = λ not_one not_three. on;
      known = known_on reply.status by.known;
      no_two = not_known reply.status 2 by.known (omega arith) (omega arith) (omega arith) (omega arith);
      no_four = not_known reply.status 4 by.known (omega arith) (omega arith) (omega arith) (omega arith);
      no_five = not_known reply.status 5 by.known (omega arith) (omega arith) (omega arith) (omega arith);
    }

may_be : {I : Type 0} (faults : I → ℕ) (last_fault : I → List ℕ) (told : Told) (asks : List (List ℕ) → Type 0)
    (c : Call) (old new : I) (reply : Reply)
    → MayReplyTo faults last_fault told asks c old new reply → MayBe faults last_fault told asks c old new reply
may_be faults last_fault told asks c old new reply (inl failed) =
    let is : reply.status ≡ 3 = first_shows most_bytes told
    (λ file. FailedAt faults last_fault file old new × (reply ≡ cannot_read file) × AsksUpTo asks (files_of c) file)
    (reply.status ≡ 3) (files_of c) (λ file h. ap (λ (r : Reply). r.status) h.1) failed in
    record {
      three = λ e. failed;
      one = λ e. absurd (other reply.status 3 1 is (omega arith) e);
      rest = λ not_one not_three. absurd (not_three is);
      known = inl (omega (arith, is));
      no_two = other reply.status 3 2 is (omega arith);
      no_four = other reply.status 3 4 is (omega arith);
      no_five = other reply.status 3 5 is (omega arith);
    }
may_be faults last_fault told asks c old new reply (inr found) =
    by_files faults last_fault told asks c old new reply found.0 found.1 found.2

-- one on what both files hold does not tell a file that was not had
pub not_at_file : {I : Type 0} (faults : I → ℕ) (last_fault : I → List ℕ) (told : Told) (asks : List (List ℕ) → Type 0)
    (names : List (List ℕ)) (old new : I) (reply : Reply)
    → FirstIs most_bytes told (λ file. EndsAt faults last_fault told old new reply file × AsksUpTo asks names file) names
    → IsOnBoth reply.status → ⊥
not_at_file faults last_fault told asks names old new reply h both =
    first_shows most_bytes told (λ file. EndsAt faults last_fault told old new reply file × AsksUpTo asks names file) ⊥ names
    (λ file at. elim at.0 [
      | inl failed ↦ apart 3 (ap (λ (r : Reply). r.status) failed.1) (omega arith) (omega arith) (omega arith) both
      | inr long ↦ apart 1 (ap (λ (r : Reply). r.status) long.1) (omega arith) (omega arith) (omega arith) both
    ]) h
  where
    apart : (n : ℕ) → reply.status ≡ n → n ≢ 0 → n ≢ 8 → n ≢ 9 → IsOnBoth reply.status → ⊥
    apart n is a b c (inl e) = a (sym is ∙ e)
    apart n is a b c (inr (inl e)) = b (sym is ∙ e)
    apart n is a b c (inr (inr e)) = c (sym is ∙ e)

-- ---- asked for
pub text_asks : {I : Type 0} (asked had : I → List (List ℕ)) (request : Option Request) (inputs : I)
    → call_of request ≡ None → FetchesAll asked had (names_of request) inputs inputs
text_asks asked had request inputs none = rw none (fetches_none asked had inputs)

pub not_failed : (status : ℕ) → IsOnBoth status → (status ≢ 4) × (status ≢ 5)
not_failed status both = (
  at 4 (omega arith) (omega arith) (omega arith) both,
  at 5 (omega arith) (omega arith) (omega arith) both,
)
  where
    at : (n : ℕ) → 0 ≢ n → 8 ≢ n → 9 ≢ n → IsOnBoth status → status ≢ n
    at n a b c (inl e) = other status 0 n e a
    at n a b c (inr (inl e)) = other status 8 n e b
    at n a b c (inr (inr e)) = other status 9 n e c

-- ---- given
-- a reply of one kind that is given
brings : (K : Tables → ℕ → Form → Reply → Type 0) (told : Told) (asks : List (List ℕ) → Type 0) (c : Call) (reply : Reply)
    (status : ℕ) (old new : Output) (on : IsOnFiles told asks c reply) → OnTables K c on.files reply
    → Gives status old new reply
    → Brings K told asks c status old new
brings K told asks c reply status old new on is given =
    record { files = on.files; held = on.held; fit = on.fit; asked = on.asked; reply = reply; is = is; given = given }

-- the line that tells a file
gives_line : (told : Told) (P U : List ℕ → Type 0) (line : List ℕ → Reply) (names : List (List ℕ)) (reply : Reply)
    (status : ℕ) (old new : Output) → Gives status old new reply
    → FirstIs most_bytes told (λ file. P file × ((reply ≡ line file) × U file)) names
    → FirstIs most_bytes told (λ file. P file × Gives status old new (line file) × U file) names
gives_line told P U line names reply status old new given h =
    first_map most_bytes told (λ file. P file × ((reply ≡ line file) × U file))
    (λ file. P file × Gives status old new (line file) × U file) names
    (λ file k. (k.0, subst (Gives status old new) k.1.0 given, k.1.1)) h

malformed : (told : Told) (asks : List (List ℕ) → Type 0) (c : Call) (reply : Reply) (status : ℕ) (old new : Output)
    → Gives status old new reply → reply.status ≡ 1
    → FirstIs most_bytes told (λ file. IsTooLong most_bytes (told file) × ((reply ≡ too_long file) × AsksUpTo asks (files_of c) file)) (files_of c)
    ⊎ IsOnFiles told asks c reply
    → FirstIs most_bytes told (λ file. IsTooLong most_bytes (told file) × Gives status old new (too_long file) × AsksUpTo asks (files_of c) file)
    (files_of c)
    ⊎ Brings IsFaulty told asks c status old new
malformed told asks c reply status old new given one (inl long) =
    inl (gives_line told (λ file. IsTooLong most_bytes (told file)) (AsksUpTo asks (files_of c)) too_long (files_of c) reply status old new
    given long)
malformed told asks c reply status old new given one (inr on) =
    inr (brings IsFaulty told asks c reply status old new on (on.is.malformed one) given)

-- ---- what the files are told to hold
told_on : {I : Type 0} (faults : I → ℕ) (last_fault : I → List ℕ) (told : Told) (asks : List (List ℕ) → Type 0)
    (c : Call) (before after : I) (reply : Reply)
    (status : ℕ) (old new : Output) → MayReplyTo faults last_fault told asks c before after reply
    → Gives status old new reply → GivesOnTold c told status old new
told_on faults last_fault told asks c before after reply status old new (inl failed) given =
    let three : reply.status ≡ 3 = first_shows most_bytes told
    (λ file. FailedAt faults last_fault file before after × (reply ≡ cannot_read file) × AsksUpTo asks (files_of c) file)
    (reply.status ≡ 3) (files_of c)
    (λ file h. ap (λ (r : Reply). r.status) h.1) failed in
    any_told (all_told told (files_of c)) _ (λ files. inr (inl (given.0 ∙ three)))
told_on faults last_fault told asks c before after reply status old new (inr found) given =
    on_told (all_told told (files_of c)) found.0 _ (same_told told (files_of c) found.0 found.1)
    (inl (reply, plain asks c found.0 reply found.2, given))

told_given : {I : Type 0} (faults : I → ℕ) (last_fault : I → List ℕ) (told : Told) (asks : List (List ℕ) → Type 0)
    (c : Call) (before after : I) (reply : Reply)
    (status : ℕ) (old new : Output) → MayReplyTo faults last_fault told asks c before after reply
    → (status ≢ 4 → Gives status old new reply) → GivesOnTold c told status old new
told_given faults last_fault told asks c before after reply status old new may given =
    elim (cases_eq status 4) [
      | inl four ↦ any_told (all_told told (files_of c)) _ (λ files. inr (inr (inl four)))
      | inr unlike ↦ told_on faults last_fault told asks c before after reply status old new may (given unlike)
    ]

-- ---- on files that can be answered
complete_on : (c : Call) (files : List (List ℕ)) (reply : Reply) → IsAnswerableCall c files
    → OnTables IsReplyOn c files reply
    → (reply.status ≡ 0) ⊎ (reply.status ≡ 9)
complete_on c (ports ∷ links ∷ []) reply can on =
    law.replies_are_complete (tables c.ports ports c.links links) c.overhead c.form reply can on
complete_on c [] reply can on = absurd on
complete_on c (ports ∷ []) reply can on = absurd on
complete_on c (ports ∷ links ∷ more ∷ files) reply can on = absurd on

answers_on : (c : Call) (files : List (List ℕ)) (reply : Reply) → AllFit most_bytes files → IsAnswerableCall c files
    → IsReplyOnFiles c files reply → (reply.status ≡ 0) ⊎ (reply.status ≡ 9)
answers_on c files reply fit can (inl long) = absurd
    (not_long most_bytes (λ file. reply ≡ too_long file) (files_of c) files long fit)
answers_on c files reply fit can (inr on) = complete_on c files reply can on.1

abbrev IsAnswerOr : ℕ → Type 0
IsAnswerOr status = (status ≡ 0) ⊎ ((status ≡ 9) ⊎ ((status ≡ 3) ⊎ ((status ≡ 4) ⊎ (status ≡ 5))))

answer_or : (status code : ℕ) → status ≡ code → (code ≡ 0) ⊎ (code ≡ 9) → IsAnswerOr status
answer_or status code same (inl zero_is) = inl (same ∙ zero_is)
answer_or status code same (inr nine) = inr (inl (same ∙ nine))

answers_or : (c : Call) (files : List (List ℕ)) (status : ℕ) (old new : Output) → AllFit most_bytes files
    → IsAnswerableCall c files
    → ((reply : Reply) × IsReplyOnFiles c files reply × Gives status old new reply)
    ⊎ ((status ≡ 3) ⊎ ((status ≡ 4) ⊎ (status ≡ 5)))
    → IsAnswerOr status
answers_or c files status old new fit can (inl r) = answer_or status r.0.status r.2.0
    (answers_on c files r.0 fit can r.1)
answers_or c files status old new fit can (inr failed) = inr (inr failed)

some_map : {A : Type 0} (o : Option A) (P Q : A → Type 0) → ((x : A) → P x → Q x) → IfSome o P → IfSome o Q
some_map None P Q step h = tt
some_map (Some x) P Q step h = step x h

answers_what_it_can : (c : Call) (told : Told) (status : ℕ) (old new : Output)
    → GivesOnTold c told status old new
    → AnswersWhatItCan c told status
answers_what_it_can c told status old new h =
    some_map (all_told told (files_of c)) _ _ (λ files given fit can. answers_or c files status old new fit can given)
    h

-- ---- all that the answer to words says
pub record Outcome {I : Type 0} (content : I → Told) (faults : I → ℕ) (last_fault : I → List ℕ)
    (names : I → List (List ℕ)) (asked : Option Request)
    (before after : I) (status : ℕ) (old new : Output) : Type 0 where
  pub usage : status ≡ 2 → asked ≡ None
  pub text : IfSome (text_of asked) (λ reply. Gives status old new reply ⊎ ((status ≡ 4) ⊎ (status ≡ 5)))
  pub read_fault : status ≡ 3 → IfSome (call_of asked) (λ c. FirstIs most_bytes (content before)
      (λ file. FailedAt faults last_fault file before after × Gives status old new (cannot_read file)
      × AsksUpTo (asks_of names before after) (files_of c) file) (files_of c))
  pub malformed : status ≡ 1 → IfSome (call_of asked) (λ c.
      FirstIs most_bytes (content before) (λ file. IsTooLong most_bytes (content before file) × Gives status old new (too_long file)
      × AsksUpTo (asks_of names before after) (files_of c) file) (files_of c)
      ⊎ Brings IsFaulty (content before) (asks_of names before after) c status old new)
  pub cycle : status ≡ 8 → IfSome (call_of asked) (λ c. Brings IsCyclic (content before) (asks_of names before after) c status old new)
  pub missed : status ≡ 9 → IfSome (call_of asked) (λ c. Brings (IsReport true) (content before) (asks_of names before after) c status old new)
  pub done : status ≡ 0 → IfSome (call_of asked) (λ c. Brings (IsReport false) (content before) (asks_of names before after) c status old new)
  pub told : IfSome (call_of asked) (λ c. GivesOnTold c (content before) status old new)
  pub complete : IfSome (call_of asked) (λ c. AnswersWhatItCan c (content before) status)

abbrev status_in : Option Reply → Option ℕ
status_in None = None
status_in (Some reply) = Some reply.status

given_or : (status : ℕ) (old new : Output) (reply : Reply) → (status ≢ 4 → Gives status old new reply)
    → Gives status old new reply ⊎ ((status ≡ 4) ⊎ (status ≡ 5))
given_or status old new reply given =
    elim (cases_eq status 4) [ inl four ↦ inr (inl four) | inr unlike ↦ inl (given unlike) ]

abbrev the_call : (ports links : List ℕ) (overhead : ℕ) (json : Bool) → Call
the_call ports links overhead json = record { ports = ports; links = links; overhead = overhead; form = form_of json }

same_call : (c d : Call) → ◌≡◌ {A = Option Call} (Some c) (Some d) → d ≡ c
same_call c d same = cc (sym same)

not_four : (status n : ℕ) → status ≡ n → n ≢ 4 → status ≢ 4
not_four status n is apart = other status n 4 is apart

on_call : {I : Type 0} (content : I → Told) (faults : I → ℕ) (last_fault : I → List ℕ) (names : I → List (List ℕ))
    (ports links : List ℕ)
    (overhead : ℕ)
    (json : Bool) (before after : I) (reply : Reply) (status : ℕ) (old new : Output)
    → MayReplyTo faults last_fault (content before) (asks_of names before after) (the_call ports links overhead json) before after reply
    → (status ≢ 4 → Gives status old new reply)
    → Outcome content faults last_fault names (Some (Bounds ports links overhead json)) before after status old new
on_call content faults last_fault names ports links overhead json before after reply status old new may given =
    let told = content before in
    let c = the_call ports links overhead json in
    let asks = asks_of names before after in
    let h = may_be faults last_fault told asks c before after reply may in
    let apart = λ (n : ℕ) (is : status ≡ n) (no : n ≢ 4). given (not_four status n is no) in
    record {
      usage = λ e. let g = apart 2 e (omega arith) in absurd (h.no_two (sym g.0 ∙ e));
      text = tt;
      read_fault = λ e. let g = apart 3 e (omega arith) in
          first_map most_bytes told
          (λ file. FailedAt faults last_fault file before after × (reply ≡ cannot_read file) × AsksUpTo asks (files_of c) file)
          (λ file. FailedAt faults last_fault file before after × Gives status old new (cannot_read file)
          × AsksUpTo asks (files_of c) file) (files_of c)
          (λ file k. (k.0, subst (Gives status old new) k.1 g, k.2)) (h.three (sym g.0 ∙ e));
      malformed = λ e. let g = apart 1 e (omega arith) in
          malformed told asks c reply status old new g (sym g.0 ∙ e) (h.one (sym g.0 ∙ e));
      cycle = λ e. let g = apart 8 e (omega arith) in
          let is = sym g.0 ∙ e in
          let on = h.rest (other reply.status 8 1 is (omega arith)) (other reply.status 8 3 is (omega arith)) in
          brings IsCyclic told asks c reply status old new on (on.is.cycle is) g;
      missed = λ e. let g = apart 9 e (omega arith) in
          let is = sym g.0 ∙ e in
          let on = h.rest (other reply.status 9 1 is (omega arith)) (other reply.status 9 3 is (omega arith)) in
          brings (IsReport true) told asks c reply status old new on (on.is.missed is) g;
      done = λ e. let g = apart 0 e (omega arith) in
          let is = sym g.0 ∙ e in
          let on = h.rest (other reply.status 0 1 is (omega arith)) (other reply.status 0 3 is (omega arith)) in
          brings (IsReport false) told asks c reply status old new on (on.is.met is) g;
      told = told_given faults last_fault told asks c before after reply status old new may given;
      complete = answers_what_it_can c told status old new
          (told_given faults last_fault told asks c before after reply status old new may given);
    }

on_text : {I : Type 0} (content : I → Told) (faults : I → ℕ) (last_fault : I → List ℕ) (names : I → List (List ℕ))
    (asked : Option Request)
    (before after : I) (reply : Reply) (status : ℕ) (old new : Output)
    → text_of asked ≡ Some reply → call_of asked ≡ None → (reply.status ≡ 2 → asked ≡ None)
    → (status ≢ 4 → Gives status old new reply)
    → Outcome content faults last_fault names asked before after status old new
on_text content faults last_fault names asked before after reply status old new same none two given =
    let nothing : (P : Call → Type 0) → IfSome (call_of asked) P = λ P. rw none tt in
    record {
      usage = λ e. two (sym (given (not_four status 2 e (omega arith))).0 ∙ e);
      text = rw same (given_or status old new reply given);
      read_fault = λ e. nothing _;
      malformed = λ e. nothing _;
      cycle = λ e. nothing _;
      missed = λ e. nothing _;
      done = λ e. nothing _;
      told = nothing _;
      complete = nothing _;
    }

pub outcome : {I : Type 0} (content : I → Told) (faults : I → ℕ) (last_fault : I → List ℕ) (names : I → List (List ℕ))
    (asked : Option Request)
    (before after : I) (reply : Reply) (status : ℕ) (old new : Output)
    → MayReply content faults last_fault names asked before after reply → (status ≢ 4 → Gives status old new reply)
    → Outcome content faults last_fault names asked before after status old new
outcome content faults last_fault names None before after reply status old new (inl text) given =
    on_text content faults last_fault names None before after reply status old new text.0 refl (λ e. refl) given
outcome content faults last_fault names (Some Help) before after reply status old new (inl text) given =
    on_text content faults last_fault names (Some Help) before after reply status old new text.0 refl (λ e. absurd (
    let zero_is : Some 0 ≡ Some reply.status = ap (λ (o : Option Reply). status_in o) text.0 in
    cc
    )) given
outcome content faults last_fault names (Some Version) before after reply status old new (inl text) given =
    on_text content faults last_fault names (Some Version) before after reply status old new text.0 refl (λ e. absurd (
    let zero_is : Some 0 ≡ Some reply.status = ap (λ (o : Option Reply). status_in o) text.0 in
    cc
    )) given
outcome content faults last_fault names (Some (Bounds ports links overhead json)) before after reply status old new
    (inl text) given =
    absurd (cc text.0)
outcome content faults last_fault names None before after reply status old new (inr found) given = absurd (cc)
outcome content faults last_fault names (Some Help) before after reply status old new (inr found) given = absurd (cc)
outcome content faults last_fault names (Some Version) before after reply status old new (inr found) given = absurd (cc)
outcome content faults last_fault names (Some (Bounds ports links overhead json)) before after reply status old new
    (inr found) given =
    let is : found.0 ≡ the_call ports links overhead json = same_call (the_call ports links overhead json) found.0
    found.1 in
    on_call content faults last_fault names ports links overhead json before after reply status old new
    (subst (λ (c : Call). MayReplyTo faults last_fault (content before) (asks_of names before after) c before after reply) is found.2) given

-- a reply that no table changes
pub may_reply_text : {I : Type 0} (content : I → Told) (faults : I → ℕ) (last_fault : I → List ℕ)
    (names : I → List (List ℕ)) (asked request : Option Request) (inputs : I) (reply : Reply) → asked ≡ request
    → text_of request ≡ Some reply
    → MayReply content faults last_fault names asked inputs inputs reply
may_reply_text content faults last_fault names asked request inputs reply same text =
    inl (ap text_of same ∙ text, sym (append-nil (names inputs)))

-- ---- no reply has the status of a write that failed, or of want of memory
text_status : (asked : Option Request) (reply : Reply) → text_of asked ≡ Some reply
    → (reply.status ≡ 0) ⊎ (reply.status ≡ 2)
text_status None reply same =
    let two : Some 2 ≡ Some reply.status = ap (λ (o : Option Reply). status_in o) same in inr (sym cc)
text_status (Some Help) reply same =
    let zero_is : Some 0 ≡ Some reply.status = ap (λ (o : Option Reply). status_in o) same in inl (sym cc)
text_status (Some Version) reply same =
    let zero_is : Some 0 ≡ Some reply.status = ap (λ (o : Option Reply). status_in o) same in inl (sym cc)
text_status (Some (Bounds ports links overhead json)) reply same = absurd (cc)

not_text : (status n : ℕ) → (status ≡ 0) ⊎ (status ≡ 2) → n ≢ 0 → n ≢ 2 → status ≢ n
not_text status n (inl e) a b is = a (sym is ∙ e)
not_text status n (inr e) a b is = b (sym is ∙ e)

pub never : {I : Type 0} (content : I → Told) (faults : I → ℕ) (last_fault : I → List ℕ)
    (names : I → List (List ℕ)) (asked : Option Request) (before after : I) (reply : Reply)
    → MayReply content faults last_fault names asked before after reply
    → (reply.status ≢ 4) × (reply.status ≢ 5)
never content faults last_fault names asked before after reply (inl text) =
    let is = text_status asked reply text.0 in
    (not_text reply.status 4 is (omega arith) (omega arith), not_text reply.status 5 is (omega arith) (omega arith))
never content faults last_fault names asked before after reply (inr found) =
    let h = may_be faults last_fault (content before) (asks_of names before after) found.0 before after reply found.2 in
    (h.no_four, h.no_five)

-- ---- no other status
known_text : (n : ℕ) → (n ≡ 0) ⊎ (n ≡ 2) → IsStatus n
known_text n (inl e) = inl (omega (arith, e))
known_text n (inr e) = inl (omega (arith, e))

known_reply : {I : Type 0} (content : I → Told) (faults : I → ℕ) (last_fault : I → List ℕ)
    (names : I → List (List ℕ)) (asked : Option Request) (before after : I) (reply : Reply)
    → MayReply content faults last_fault names asked before after reply → IsStatus reply.status
known_reply content faults last_fault names asked before after reply (inl text) =
    known_text reply.status (text_status asked reply text.0)
known_reply content faults last_fault names asked before after reply (inr found) =
    (may_be faults last_fault (content before) (asks_of names before after) found.0 before after reply found.2).known

pub known_status : {I : Type 0} (content : I → Told) (faults : I → ℕ) (last_fault : I → List ℕ)
    (names : I → List (List ℕ)) (asked : Option Request) (before after : I) (reply : Reply) (status : ℕ)
    → MayReply content faults last_fault names asked before after reply → (status ≢ 4 → status ≡ reply.status)
    → IsStatus status
known_status content faults last_fault names asked before after reply status may given =
    elim (cases_eq status 4) [
      | inl four ↦ inl (omega (arith, four))
      | inr unlike ↦ subst IsStatus (sym (given unlike))
          (known_reply content faults last_fault names asked before after reply may)
    ]

-- ---- there is one reply
one_on : (c : Call) (files : List (List ℕ)) (x y : Reply) → OnTables IsReplyOn c files x
    → OnTables IsReplyOn c files y → x ≡ y
one_on c (ports ∷ links ∷ []) x y h k =
    law.replies_are_determined (tables c.ports ports c.links links) c.overhead c.form x y h k
one_on c [] x y h k = absurd h
one_on c (ports ∷ []) x y h k = absurd h
one_on c (ports ∷ links ∷ more ∷ files) x y h k = absurd h

pub replies_are_determined : RepliesAreDetermined
replies_are_determined c files x y (inl h) (inl k) = long_one most_bytes x y too_long (files_of c) files h k
replies_are_determined c files x y (inl h) (inr k) = absurd
    (not_long most_bytes (λ file. x ≡ too_long file) (files_of c) files h k.0)
replies_are_determined c files x y (inr h) (inl k) = absurd
    (not_long most_bytes (λ file. y ≡ too_long file) (files_of c) files k h.0)
replies_are_determined c files x y (inr h) (inr k) = one_on c files x y h.1 k.1
