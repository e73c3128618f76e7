-- Spots of a list are taken off what waits, one after the other.
use Rattle.std.proofs.Common.{◌≡◌, ◌≢◌, ℕ, ◌<◌, ◌≤◌, ◌+◌, List, [], ◌∷◌, ◌++◌, length, get_or, set, take, refl, ◌∙◌, arith, subst, append_assoc, length-append}
use Rattle.std.proofs.lemmas.List.{length-set, get_or_append_left}
use Rattle.tree_network.specs.Turns.{AreReady, Begins, count_of}
use Rattle.tree_network.proofs.Counted.{at_most, one_less}
use Rattle.tree_network.proofs.Ready.{ready_same, ready_more}

pub record Released (port : ℕ → ℕ) (numbers : List ℕ) (k : ℕ) (old waiting before ready : List ℕ) : Type 0 where
  pub count : length waiting ≡ length old
  pub less : (s : ℕ) → s < length old → get_or waiting s 0 + count_of port s (take k numbers) ≡ get_or old s 0
  pub are_ready : (order : List ℕ) → AreReady old (order ++ before) → AreReady waiting (order ++ ready)
  pub begins : Begins before ready

pub none_released : (port : ℕ → ℕ) (numbers old before : List ℕ) → Released port numbers 0 old old before before
none_released port numbers old before = record {
  count = refl;
  less = λ s h. omega arith;
  are_ready = λ order r. r;
  begins = record { longer = omega arith; same = λ i h. refl };
}

begins_push : (before ready : List ℕ) (x : ℕ) → Begins before ready → Begins before (ready ++ x ∷ [])
begins_push before ready x b =
    let count = length-append ready (x ∷ []) in
    record {
      longer = omega (arith, count, b.longer);
      same = λ i h. get_or_append_left ready (x ∷ []) 0 i (omega (arith, h, b.longer)) ∙ b.same i h;
    }

-- at least one waits
pub some_waits : (port : ℕ → ℕ) (numbers : List ℕ) (k : ℕ) (old waiting before ready : List ℕ) → Released port numbers k old waiting before ready
    → k < length numbers → port (get_or numbers k 0) < length old
    → ((s : ℕ) → s < length old → count_of port s numbers ≤ get_or old s 0) → 1 ≤ get_or waiting (port (get_or numbers k 0)) 0
some_waits port numbers k old waiting before ready r h inside waits =
    let p = port (get_or numbers k 0) in
    at_most port waiting old numbers k h (r.less p inside) (waits p inside)

pub one_released : (port : ℕ → ℕ) (numbers : List ℕ) (k v : ℕ) (old waiting before ready : List ℕ) → Released port numbers k old waiting before ready
    → k < length numbers → port (get_or numbers k 0) < length old → v + 1 ≡ get_or waiting (port (get_or numbers k 0)) 0 → v ≢ 0
    → Released port numbers (k + 1) old (set waiting (port (get_or numbers k 0)) v) before ready
one_released port numbers k v old waiting before ready r h inside is left =
    let p = port (get_or numbers k 0) in
    let within : p < length waiting = omega (arith, inside, r.count) in
    record {
      count = length-set waiting p v ∙ r.count;
      less = λ s lt. one_less port waiting old numbers k v s h within is (r.less s lt);
      are_ready = λ order a. ready_same waiting (order ++ ready) p v within (omega (arith, is)) left (r.are_ready order a);
      begins = r.begins;
    }

pub last_released : (port : ℕ → ℕ) (numbers : List ℕ) (k v : ℕ) (old waiting before ready : List ℕ) → Released port numbers k old waiting before ready
    → k < length numbers → port (get_or numbers k 0) < length old → v + 1 ≡ get_or waiting (port (get_or numbers k 0)) 0 → v ≡ 0
    → Released port numbers (k + 1) old (set waiting (port (get_or numbers k 0)) v) before (ready ++ port (get_or numbers k 0) ∷ [])
last_released port numbers k v old waiting before ready r h inside is none =
    let p = port (get_or numbers k 0) in
    let within : p < length waiting = omega (arith, inside, r.count) in
    record {
      count = length-set waiting p v ∙ r.count;
      less = λ s lt. one_less port waiting old numbers k v s h within is (r.less s lt);
      are_ready = λ order a.
          let P : List ℕ → Type 0 = λ xs. AreReady (set waiting p v) xs in
          subst P (append_assoc order ready (p ∷ [])) (ready_more waiting (order ++ ready) p v within (omega (arith, is)) none (r.are_ready order a));
      begins = begins_push before ready p r.begins;
    }
