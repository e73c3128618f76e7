-- A discipline that is read has few queues, and each discipline with few queues is that of some code.
use Rattle.std.specs.Prelude.{codes, All, Vec}
use Rattle.std.specs.declared.alloc.Global.{Global}
use Rattle.std.proofs.Common.{◌≡◌, ℕ, ◌<◌, ◌≤◌, ◌^◌, List, length, Result, Ok, Err, refl, subst, ap, arith}
use Rattle.toml.specs.Data.{Members}
use Rattle.run_laws.specs.Servers.{Discipline, Fifo, Priority, Drr}
use Rattle.net_model.specs.Accepted.{HasFewQueues, IsLength, IsQueueNumber}
use Rattle.net_model.specs.Views.{discipline_of}
use Rattle.net_model.specs.declared.server.Discipline.{Discipline as DisciplineCode}
use Rattle.net_model.specs.declared.server.Discipline.TheVariants as codes_of
use Rattle.net_draft.specs.declared.words.DisciplineWord.{DisciplineWord}
use Rattle.net_draft.specs.declared.words.DisciplineWord.TheVariants as disciplines
use Rattle.net_draft.specs.Faults.{◌>>=◌}
use Rattle.net_draft.specs.Tables.{forbidden, quanta_of, fifo_at, priority_at, drr_at, discipline_by, discipline_at, discipline_word}
use Rattle.net_draft.specs.Values.{whole_in, required, optional, at_key}

-- ---- read
-- of two steps that give something the first does, and the second with that
bound : {A B E : Type 0} (r : Result A E) (g : A → Result B E) (y : B) → (r >>= g) ≡ Ok y → (x : A) × (r ≡ Ok x) × (g x ≡ Ok y)
bound (Ok x) g y h = (x, refl, h)
bound (Err e) g y h = absurd (cc)

pub same_ok : {A E : Type 0} (x y : A) → (let r : Result A E = Ok x in r) ≡ Ok y → x ≡ y
same_ok x y h = cc

-- quanta of 1 to 8 queues, each the length of a packet
abbrev pub AreQuanta : List ℕ → Type 0
AreQuanta quanta = IsQueueNumber (length quanta) × All IsLength quanta

module _ (place : List ℕ) (ms : Members)
    (queues_kept : (n : ℕ) → at_key (codes "queues") (required (whole_in 1 8)) place ms ≡ Ok n → (1 ≤ n) × (n ≤ 8))
    (quanta_kept : (quanta : List ℕ) → quanta_of place ms ≡ Ok quanta → AreQuanta quanta) where
  fifo_few : (d : Discipline) → fifo_at place ms ≡ Ok d → HasFewQueues d
  unfolding fifo_at
  fifo_few d h =
      let one = bound (forbidden (codes "queues") place ms) (λ _. forbidden (codes "quanta") place ms >>= λ _. Ok Fifo) d h in
      let two = bound (forbidden (codes "quanta") place ms) (λ _. Ok Fifo) d one.2 in
      subst HasFewQueues (same_ok Fifo d two.2) tt

  priority_few : (d : Discipline) → priority_at place ms ≡ Ok d → HasFewQueues d
  unfolding priority_at
  priority_few d h =
      let one = bound (at_key (codes "queues") (required (whole_in 1 8)) place ms)
      (λ queues. forbidden (codes "quanta") place ms >>= λ _. Ok (Priority queues)) d h in
      let two = bound (forbidden (codes "quanta") place ms) (λ _. Ok (Priority one.0)) d one.2 in
      subst HasFewQueues (same_ok (Priority one.0) d two.2) (queues_kept one.0 one.1)

  drr_few : (d : Discipline) → drr_at place ms ≡ Ok d → HasFewQueues d
  unfolding drr_at
  drr_few d h =
      let one = bound (forbidden (codes "queues") place ms) (λ _. quanta_of place ms >>= λ quanta. Ok (Drr quanta)) d h in
      let two = bound (quanta_of place ms) (λ quanta. Ok (Drr quanta)) d one.2 in
      subst HasFewQueues (same_ok (Drr two.0) d two.2) (quanta_kept two.0 two.1)

  by_word : (word : DisciplineWord) (d : Discipline) → discipline_by word place ms ≡ Ok d → HasFewQueues d
  by_word disciplines.Fifo d h = fifo_few d h
  by_word disciplines.Priority d h = priority_few d h
  by_word disciplines.Drr d h = drr_few d h

  pub discipline_few : (d : Discipline) → discipline_at place ms ≡ Ok d → HasFewQueues d
  unfolding discipline_at
  discipline_few d h =
      let one = bound (at_key (codes "discipline") (optional discipline_word disciplines.Fifo) place ms)
      (λ word. discipline_by word place ms) d h in
      by_word one.0 d one.2

-- ---- of code
-- where a vector has the items of each list that is not too long
module _ (vec_of : (xs : List ℕ) → length xs < 2 ^ 63 → Vec ℕ Global)
    (has_items : (xs : List ℕ) (small : length xs < 2 ^ 63) → (vec_of xs small).items ≡ xs) where
  pub discipline_code : (d : Discipline) → HasFewQueues d → (c : DisciplineCode) × (discipline_of c ≡ d)
  discipline_code Fifo few = (codes_of.Fifo, refl)
  discipline_code (Priority queues) few = (codes_of.Priority queues, refl)
  discipline_code (Drr quanta) few =
      let most = few.0.1 in
      let small : length quanta < 2 ^ 63 = omega (arith, most) in
      (codes_of.Drr (vec_of quanta small), ap Drr (has_items quanta small))
