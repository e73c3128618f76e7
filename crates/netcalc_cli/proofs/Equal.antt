-- Two replies of a command on the same files are one: they have one status, and one text unless it tells a cycle; and of
-- several cycles one is told.
use Rattle.std.proofs.Common.{◌≡◌, ◌⊎◌, arith, ℕ, List, [], ◌∷◌, Option, IfSome, inl, inr, sym, ap, ap₂, ◌∙◌, subst}
use Rattle.std.proofs.lemmas.Bool.{cases_eq}
use Rattle.outside.specs.Written.{Output, PutsWhole}
use Rattle.report_text.specs.declared.json_report.form.Form.{Form}
use Rattle.command_replies.specs.Replies.{Reply, AreSame, too_long}
use Rattle.commands.specs.edit_report.EditReport.{edit_report_in}
use Rattle.commands.specs.edit_report.Said.{EditSaid}
use Rattle.commands.specs.edit.Laws.{AreSameReports, AreAlike}
use Rattle.netcalc_cli.specs.Commands.{Command, Analyse, Edit, Simulate, Exercise, Check, Measure, Curve}
use Rattle.netcalc_cli.specs.Commands.{files_of, AreSameTo, IsCyclic}
use Rattle.outside.specs.Files.{FirstLong}
use Rattle.netcalc_cli.specs.Files.{most_bytes}
use Rattle.netcalc_cli.specs.Reply.{IsReplyOnFiles, Gives}
use Rattle.netcalc_cli.proofs.ByCommand.{by_command}
use Rattle.netcalc_cli.proofs.Replies.{replies_are_alike}
use Rattle.netcalc_cli.specs.Laws.{RepliesAreDetermined, IsOfReply, AreEqual, CallsAreDetermined}
use Rattle.netcalc_cli.proofs.OneCycle.{one_round, all_said}

-- ---- by status and bytes
reply_is : (x y : Reply) → x.status ≡ y.status → x.bytes ≡ y.bytes → x ≡ y
reply_is x y s b =
    let made : ℕ → List ℕ → Reply = λ status bytes. record { status = status; bytes = bytes } in
    ap₂ made s b

settled : (x y : Reply) → AreSame x y → (x.status ≡ 8 → y.status ≡ 8 → x ≡ y) → x ≡ y
settled x y same round = elim (cases_eq x.status 8) [
  | inl eight ↦ round eight (sym same.status ∙ eight)
  | inr other ↦ reply_is x y same.status (same.bytes other)
]

reports : (form : Form) (x y : Reply) → AreSameReports form x y → x.bytes ≡ y.bytes
reports form x y h =
    h.is ∙ ap (λ (said : List EditSaid). edit_report_in form h.net h.at said) (all_said h.said h.others h.same) ∙ sym h.is_other

alike : (form : Form) (x y : Reply) → AreAlike form x y → (x.status ≡ 8 → y.status ≡ 8 → x ≡ y) → x ≡ y
alike form x y h round = elim h.text [
  | inl same ↦ reply_is x y h.status same
  | inr (inl eight) ↦ round eight (sym h.status ∙ eight)
  | inr (inr told) ↦ reply_is x y h.status (reports form x y told)
]

-- ---- cycles
rounds : (command : Command) (files : List (List ℕ)) (x y : Reply) → IsCyclic command files x → IsCyclic command files y
    → x ≡ y
rounds (Analyse form net) (bytes ∷ []) x y h k = one_round bytes x y h k
rounds (Edit form net edits) (bytes ∷ rows ∷ []) x y h k = one_round bytes x y h.1 k.1
rounds (Simulate net trace) (bytes ∷ rows ∷ []) x y (n, g, (t, r, c)) (m, k, (u, s, d)) =
    one_round bytes x y (n, g, c) (m, k, d)
rounds (Check net run) (bytes ∷ rows ∷ []) x y (n, g, (t, r, c)) (m, k, (u, s, d)) =
    one_round bytes x y (n, g, c) (m, k, d)
rounds command files x y h k = absurd h

-- of a file that is too long the status is 1
long_status : (x : Reply) (names files : List (List ℕ)) → FirstLong most_bytes (λ file. x ≡ too_long file) names files → x.status ≡ 1
long_status x [] files h = absurd h
long_status x (name ∷ names) [] h = absurd h
long_status x (name ∷ names) (bytes ∷ files) (inl h) = ap (λ (r : Reply). r.status) h.1
long_status x (name ∷ names) (bytes ∷ files) (inr h) = long_status x names files h.1

cyclic : (command : Command) (files : List (List ℕ)) (x : Reply) → IsReplyOnFiles command files x → x.status ≡ 8
    → IsCyclic command files x
cyclic command files x (inl long) eight =
    let one = long_status x (files_of command) files long in absurd (omega (arith, one, eight))
cyclic command files x (inr (fit, on)) eight = (by_command command files x on).cycle eight

-- ---- replies
by_alike : (command : Command) (x y : Reply) → AreSameTo command x y → (x.status ≡ 8 → y.status ≡ 8 → x ≡ y) → x ≡ y
by_alike (Analyse form net) x y h round = settled x y h round
by_alike (Edit form net edits) x y h round = alike form x y h round
by_alike (Simulate net trace) x y h round = settled x y h round
by_alike (Exercise seed) x y h round = settled x y h round
by_alike (Check net run) x y h round = settled x y h round
by_alike (Measure net trace name rate) x y h round = settled x y h round
by_alike (Curve script) x y h round = settled x y h round

pub replies_are_determined : RepliesAreDetermined
replies_are_determined command files x y h k =
    by_alike command x y (replies_are_alike command files x y h k)
    (λ e f. rounds command files x y (cyclic command files x h e) (cyclic command files y k f))

-- ---- calls
abbrev IsGiven : Command → List (List ℕ) → ℕ → Output → Output → Type 0
IsGiven command files status old new = (reply : Reply) × IsReplyOnFiles command files reply × Gives status old new reply

given : (command : Command) (files : List (List ℕ)) (status : ℕ) (old new : Output) → IsOfReply status
    → IsGiven command files status old new ⊎ ((status ≡ 3) ⊎ ((status ≡ 4) ⊎ (status ≡ 5))) → IsGiven command files status old new
given command files status old new s (inl h) = h
given command files status old new s (inr (inl e)) = absurd (s.no_read e)
given command files status old new s (inr (inr (inl e))) = absurd (s.no_write e)
given command files status old new s (inr (inr (inr e))) = absurd (s.no_memory e)

both : (command : Command) (files : List (List ℕ)) (one other : ℕ) (a b c d : Output)
    → IsGiven command files one a b → IsGiven command files other c d → AreEqual one other a b c d
both command files one other a b c d (x, on, gave) (y, too, put) =
    let same : x ≡ y = replies_are_determined command files x y on too in
    record {
      status = gave.0 ∙ ap (λ (r : Reply). r.status) same ∙ sym put.0;
      bytes = x.bytes;
      first = gave.1;
      second = subst (λ (r : Reply). PutsWhole r.bytes c d) (sym same) put.1;
    }

pub calls_are_determined : CallsAreDetermined
calls_are_determined command told files one other a b c d is s t h k =
    let Or : ℕ → Output → Output → List (List ℕ) → Type 0 =
    λ status old new files. IsGiven command files status old new ⊎ ((status ≡ 3) ⊎ ((status ≡ 4) ⊎ (status ≡ 5))) in
    both command files one other a b c d
    (given command files one a b s (subst (λ (o : Option (List (List ℕ))). IfSome o (Or one a b)) is h))
    (given command files other c d t (subst (λ (o : Option (List (List ℕ))). IfSome o (Or other c d)) is k))
