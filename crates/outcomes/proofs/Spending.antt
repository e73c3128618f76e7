-- How operators are counted.
use Rattle.std.proofs.Common.{◌≡◌, ℕ, ◌+◌, ◌-◌, ◌≤◌, arith, ap, ◌∙◌, refl, subst, sym}
use Rattle.std.specs.Prelude.{Result, Ok, Err, OnOk}
use Rattle.outcomes.specs.Stages.{IsEqual}
use Rattle.outcomes.specs.Spending.{Counts, Spends, SpendsSteps}

-- all are counted, whatever the answer
pub counts_all : {A E : Type 0} (n old new : ℕ) (r : Result A E) → new ≡ old + n → Counts n old new r
counts_all {A} {E} n old new r e = record { exact = exact r; least = omega (arith, e); most = omega (arith, e) }
  where
    exact : (s : Result A E) → OnOk s (new ≡ old + n)
    exact (Ok x) = e
    exact (Err fault) = tt

-- a refusal counts no more
pub counts_refused : {A E : Type 0} (n old new : ℕ) (r : Result A E) (fault : E) → r ≡ Err fault → old ≤ new → new ≤ old + n
    → Counts n old new r
counts_refused {A} {E} n old new r fault is least most =
    subst (Counts n old new) (sym is) (record { exact = tt; least = least; most = most })

pub counts_none : {A E : Type 0} (n : ℕ) (r : Result A E) → Counts 0 n n r
counts_none n r = counts_all 0 n n r (omega arith)

-- after others that are all counted
pub counts_then : {A E : Type 0} (n m old mid new : ℕ) (r : Result A E) → mid ≡ old + n → Counts m mid new r → Counts (n + m) old new r
counts_then {A} {E} n m old mid new r e c =
    let least = c.least in
    let most = c.most in
    record { exact = exact r c.exact; least = omega (arith, e, least); most = omega (arith, e, most) }
  where
    exact : (s : Result A E) → OnOk s (new ≡ mid + m) → OnOk s (new ≡ old + (n + m))
    exact (Ok x) h = omega (arith, e, h)
    exact (Err fault) h = tt

-- ---- with the place where memory is wanting
module _ {A E S : Type 0} {count counter : S → ℕ} {lacking : E} {Ends : ℕ → Type 0} {old new : S} where
  -- an answer of a call whose work is this number
  pub spends_all : {x : A} (n : ℕ) → count new ≡ count old + n → counter new ≡ counter old
      → Spends count counter (IsEqual n) lacking Ends old new (Ok x)
  spends_all {x} n exact same = record {
    counts = λ m is.
        subst (λ (k : ℕ). Counts {E = E} k (count old) (count new) (Ok x)) is (counts_all n (count old) (count new) (Ok x) exact);
    rises = omega (arith, exact);
    memory = λ told. absurd (let bad : ⊥ = cc in bad);
    same = same;
  }

  -- a refusal of it
  pub spends_refused : (n : ℕ) (fault : E) → count old ≤ count new → count new ≤ count old + n
      → (fault ≡ lacking → Ends (count new - count old)) → counter new ≡ counter old
      → Spends {A = A} count counter (IsEqual n) lacking Ends old new (Err fault)
  spends_refused n fault rises within memory same = record {
    counts = λ m is. let all : n ≡ m = is in record { exact = tt; least = rises; most = omega (arith, within, all) };
    rises = rises;
    memory = λ told. memory (let e : fault ≡ lacking = cc in e);
    same = same;
  }

-- ---- handed on by another call, whose work is none but that
module _ {A B E F S : Type 0} {count counter : S → ℕ} {Works Others : ℕ → Type 0} {lacking : E} {wanting : F}
    {Ends Places : ℕ → Type 0} {old new : S} where
  pub spends_answer : {x : A} {y : B} → Spends count counter Works lacking Ends old new (Ok x) → ((n : ℕ) → Others n → Works n)
      → Spends count counter Others wanting Places old new (Ok y)
  spends_answer h less = record {
    counts = λ n is. let c = h.counts n (less n is) in record { exact = c.exact; least = c.least; most = c.most };
    rises = h.rises;
    memory = λ told. absurd (let bad : ⊥ = cc in bad);
    same = h.same;
  }

  pub spends_refusal : {fault : E} → Spends {A = A} count counter Works lacking Ends old new (Err fault) → (r : Result B F) (told : F)
      → r ≡ Err told → ((n : ℕ) → Others n → Works n) → (told ≡ wanting → fault ≡ lacking) → ((n : ℕ) → Ends n → Places n)
      → Spends count counter Others wanting Places old new r
  spends_refusal {fault} h r told is less to at =
      subst (λ (s : Result B F). Spends count counter Others wanting Places old new s) (sym is) (record {
        counts = λ n work. let c = h.counts n (less n work) in record { exact = tt; least = c.least; most = c.most };
        rises = h.rises;
        memory = λ wants. at (count new - count old) (h.memory (ap Err (to (let e : told ≡ wanting = cc in e))));
        same = h.same;
      })

-- ---- nothing is counted
module _ {A E S : Type 0} {count counter : S → ℕ} {Works : ℕ → Type 0} {lacking : E} {Ends : ℕ → Type 0} {old : S} where
  pub spends_nothing : {x : A} → ((n : ℕ) → Works n → n ≡ 0) → Spends count counter Works lacking Ends old old (Ok x)
  spends_nothing {x} none = record {
    counts = λ n work. let zero = none n work in counts_all n (count old) (count old) (Ok x) (omega (arith, zero));
    rises = omega arith;
    memory = λ told. absurd (let bad : ⊥ = cc in bad);
    same = refl;
  }

  pub spends_stopped : (r : Result A E) (told : E) → r ≡ Err told → (told ≡ lacking → (n : ℕ) → n ≡ 0 → Ends n)
      → Spends count counter Works lacking Ends old old r
  spends_stopped r told is memory =
      subst (λ (s : Result A E). Spends count counter Works lacking Ends old old s) (sym is) (record {
        counts = λ n work. record { exact = tt; least = omega arith; most = omega arith };
        rises = omega arith;
        memory = λ wants. memory (let e : told ≡ lacking = cc in e) (count old - count old) (omega arith);
        same = refl;
      })

-- ---- a call that is given the counter itself, whatever tells its work
module _ {A E : Type 0} {Works : ℕ → Type 0} {lacking : E} {Ends : ℕ → Type 0} where
  -- where it answers
  pub spends_given : {old new : ℕ} {x : A} → ((n : ℕ) → Works n → new ≡ old + n) → old ≤ new → SpendsSteps Works lacking Ends old new (Ok x)
  spends_given {old} {new} {x} all rises = record {
    counts = λ n work. counts_all n old new (Ok x) (all n work);
    rises = rises;
    memory = λ told. absurd (let bad : ⊥ = cc in bad);
    same = refl;
  }

  -- where it is refused
  pub spends_told : (old new : ℕ) (r : Result A E) (told : E) → r ≡ Err told → old ≤ new → ((n : ℕ) → Works n → new ≤ old + n)
      → (told ≡ lacking → Ends (new - old)) → SpendsSteps Works lacking Ends old new r
  spends_told old new r told is rises most memory = record {
    counts = λ n work. counts_refused n old new r told is rises (most n work);
    rises = rises;
    memory = λ wants. memory (let e : told ≡ lacking = cc in e);
    same = refl;
  }

-- told by what tells another one's work too
module _ {A E : Type 0} {Works Others : ℕ → Type 0} {lacking : E} {Ends Places : ℕ → Type 0} where
  pub spends_by : {old new : ℕ} {r : Result A E} → SpendsSteps Works lacking Ends old new r → ((n : ℕ) → Others n → Works n)
      → (Ends (new - old) → Places (new - old)) → SpendsSteps Others lacking Places old new r
  spends_by h less at =
      record { counts = λ n work. h.counts n (less n work); rises = h.rises; memory = λ told. at (h.memory told); same = refl }

-- ---- where its work is a number
module _ {A E : Type 0} {lacking : E} {Ends : ℕ → Type 0} where
  -- by what it counted, whatever it answers
  pub spends_so : (n old new : ℕ) (r : Result A E) → Counts n old new r → (r ≡ Err lacking → Ends (new - old))
      → SpendsSteps (IsEqual n) lacking Ends old new r
  spends_so n old new r c memory = record {
    counts = λ m is. subst (λ (k : ℕ). Counts k old new r) is c;
    rises = c.least;
    memory = memory;
    same = refl;
  }

  -- where it answers
  pub spends_made : (n : ℕ) {old new : ℕ} {x : A} → new ≡ old + n → SpendsSteps (IsEqual n) lacking Ends old new (Ok x)
  spends_made n {old} {new} {x} all =
      spends_so n old new (Ok x) (counts_all n old new (Ok x) all) (λ told. absurd (let bad : ⊥ = cc in bad))

  -- where it is refused
  pub spends_fault : (n old new : ℕ) (r : Result A E) (fault : E) → r ≡ Err fault → old ≤ new → new ≤ old + n
      → (fault ≡ lacking → Ends (new - old)) → SpendsSteps (IsEqual n) lacking Ends old new r
  spends_fault n old new r fault is rises most memory =
      spends_so n old new r (counts_refused n old new r fault is rises most) (λ told. memory (let e : fault ≡ lacking = cc in e))

-- ---- after k operators that are counted
-- refused by a call that is refused
module _ {A B E F : Type 0} {lacking : E} {wanting : F} {Ends Places : ℕ → Type 0} where
  pub spends_part : (k : ℕ) {m old mid new : ℕ} {fault : E} → mid ≡ old + k → SpendsSteps {A = A} (IsEqual m) lacking Ends mid new (Err fault)
      → (n : ℕ) → k + m ≤ n → (r : Result B F) (told : F) → r ≡ Err told → (told ≡ wanting → fault ≡ lacking)
      → (fault ≡ lacking → Ends (new - mid) → Places (new - old)) → SpendsSteps (IsEqual n) wanting Places old new r
  spends_part k {m} {old} {mid} {new} {fault} before h n few r told is to at =
      let rises : mid ≤ new = h.rises in
      let most : new ≤ mid + m = (h.counts m refl).most in
      spends_fault n old new r told is (omega (arith, before, rises)) (omega (arith, before, most, few))
      (λ wants. at (to wants) (h.memory (ap Err (to wants))))

module _ {A E : Type 0} {lacking : E} {Ends Places : ℕ → Type 0} where
  -- answered as its last call is
  pub spends_last : (k : ℕ) {m old mid new : ℕ} {r s : Result A E} → mid ≡ old + k → SpendsSteps (IsEqual m) lacking Ends mid new r → s ≡ r
      → (n : ℕ) → k + m ≡ n → (r ≡ Err lacking → Ends (new - mid) → Places (new - old)) → SpendsSteps (IsEqual n) lacking Places old new s
  spends_last k {m} {old} {mid} {new} {r} {s} before h same n sum at =
      spends_so n old new s
      (subst (λ (z : Result A E). Counts n old new z) (sym same)
      (subst (λ (j : ℕ). Counts j old new r) sum (counts_then k m old mid new r before (h.counts m refl))))
      (λ told. let is : r ≡ Err lacking = sym same ∙ told in at is (h.memory is))

  -- with none before it
  pub spends_as : {m old new : ℕ} {r : Result A E} → SpendsSteps (IsEqual m) lacking Ends old new r → (n : ℕ) → m ≡ n
      → (r ≡ Err lacking → Ends (new - old) → Places (new - old)) → SpendsSteps (IsEqual n) lacking Places old new r
  spends_as {m} {old} {new} {r} h n same at =
      let none : old ≡ old + 0 = omega arith in
      let sum : 0 + m ≡ n = omega (arith, same) in
      spends_last 0 none h refl n sum at
