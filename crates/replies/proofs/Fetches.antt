-- Files that are fetched one after another.
use Rattle.std.proofs.Common.{◌≡◌, ◌+◌, ◌-◌, ◌^◌, ◌≤◌, ◌++◌, ℕ, List, [], ◌∷◌, length, Result, Ok, Err}
use Rattle.std.proofs.Common.{IfOk, IfErr, OnOk, OnErr, inl, inr, refl, sym, ◌∙◌, ap, arith, subst, append_assoc, append-nil, take_all}
use Rattle.std.specs.Prelude.{Vec, min}
use Rattle.std.specs.declared.alloc.Global.{Global}
use Rattle.std.proofs.Math.Nat.{min-le_left, min-le_right, le-min}
use Rattle.outside.specs.Faults.{Rose}
use Rattle.outside.specs.Files.{Told, MayHold, MayFit, IsTooLong, MayHoldAll, AllFit}
use Rattle.outside.specs.Fetching.{FetchesAll, FetchesUpTo}
use Rattle.replies.specs.declared.fetching.Unread.{Unread}
use Rattle.replies.specs.declared.fetching.Unread.TheVariants.{Failed, TooLong, NoMemory}
use Rattle.replies.specs.Ended.{EndsAt, EndsIn, AsksUpTo}

-- ---- one name after another
pub asked_both : (old between new : List (List ℕ)) (first second : List ℕ) → between ≡ old ++ first ∷ []
    → new ≡ between ++ second ∷ [] → new ≡ old ++ first ∷ second ∷ []
asked_both old between new first second one two =
    two ∙ ap (λ (names : List (List ℕ)). names ++ second ∷ []) one ∙ append_assoc old (first ∷ []) (second ∷ [])

-- none is asked for
pub fetches_none : {I : Type 0} (asked had : I → List (List ℕ)) (inputs : I) → FetchesAll asked had [] inputs inputs
fetches_none asked had inputs =
    record { asked_for = sym (append-nil (asked inputs)); had_all = sym (append-nil (had inputs)) }

pub asks_none : {I : Type 0} (asked had : I → List (List ℕ)) (names : List (List ℕ)) (inputs : I)
    → FetchesUpTo asked had names inputs inputs
asks_none asked had names inputs = record {
  tried = 0;
  taken = 0;
  few = omega arith;
  in_turn = (omega arith, omega arith);
  asked_for = sym (append-nil (asked inputs));
  had_first = sym (append-nil (had inputs));
}

-- where all were had
pub up_to_end : {I : Type 0} (asked had : I → List (List ℕ)) (names : List (List ℕ)) (old new : I)
    → FetchesAll asked had names old new → FetchesUpTo asked had names old new
up_to_end asked had names old new h = record {
  tried = length names;
  taken = length names;
  few = omega arith;
  in_turn = (omega arith, omega arith);
  asked_for = rw (take_all (length names) names (omega arith)) h.asked_for;
  had_first = rw (take_all (length names) names (omega arith)) h.had_all;
}

-- the first one was not had
pub stops_at_first : {I : Type 0} (asked had : I → List (List ℕ)) (first : List ℕ) (rest : List (List ℕ)) (old new : I)
    → asked new ≡ asked old ++ first ∷ [] → had new ≡ had old → FetchesUpTo asked had (first ∷ rest) old new
stops_at_first asked had first rest old new is not = record {
  tried = 1;
  taken = 0;
  few = omega arith;
  in_turn = (omega arith, omega arith);
  asked_for = is;
  had_first = not ∙ sym (append-nil (had old));
}

-- the second one was had behind the first one, or not
pub fetches_both : {I : Type 0} (asked had : I → List (List ℕ)) (first second : List ℕ) (old between new : I)
    → FetchesAll asked had (first ∷ []) old between → FetchesAll asked had (second ∷ []) between new
    → FetchesAll asked had (first ∷ second ∷ []) old new
fetches_both asked had first second old between new one two = record {
  asked_for = asked_both (asked old) (asked between) (asked new) first second one.asked_for two.asked_for;
  had_all = asked_both (had old) (had between) (had new) first second one.had_all two.had_all;
}

pub stops_at_second : {I : Type 0} (asked had : I → List (List ℕ)) (first second : List ℕ) (old between new : I)
    → FetchesAll asked had (first ∷ []) old between → asked new ≡ asked between ++ second ∷ [] → had new ≡ had between
    → FetchesUpTo asked had (first ∷ second ∷ []) old new
stops_at_second asked had first second old between new one is not = record {
  tried = 2;
  taken = 1;
  few = omega arith;
  in_turn = (omega arith, omega arith);
  asked_for = asked_both (asked old) (asked between) (asked new) first second one.asked_for is;
  had_first = not ∙ one.had_all;
}

-- by what the second call answers
pub up_to_second : {I T E : Type 0} (asked had : I → List (List ℕ)) (first second : List ℕ) (old between new : I)
    (r : Result T E) → FetchesAll asked had (first ∷ []) old between → asked new ≡ asked between ++ second ∷ []
    → OnOk r (FetchesAll asked had (second ∷ []) between new) → OnErr r (had new ≡ had between)
    → FetchesUpTo asked had (first ∷ second ∷ []) old new
up_to_second asked had first second old between new (Ok x) one is all not =
    up_to_end asked had (first ∷ second ∷ []) old new (fetches_both asked had first second old between new one all)
up_to_second asked had first second old between new (Err e) one is all not =
    stops_at_second asked had first second old between new one is not

pub both_on_ok : {I T E : Type 0} (asked had : I → List (List ℕ)) (first second : List ℕ) (old between new : I)
    (r : Result T E) → FetchesAll asked had (first ∷ []) old between
    → OnOk r (FetchesAll asked had (second ∷ []) between new) → OnOk r (FetchesAll asked had (first ∷ second ∷ []) old new)
both_on_ok asked had first second old between new (Ok x) one all =
    fetches_both asked had first second old between new one all
both_on_ok asked had first second old between new (Err e) one all = tt

-- what rose later has risen
rose_later : (before between after : ℕ) → before ≤ between → Rose between after → Rose before after
rose_later before between after up rose =
    let one : min (before + 1) (2 ^ 64 - 1) ≤ before + 1 = min-le_left (before + 1) (2 ^ 64 - 1) in
    let next : min (before + 1) (2 ^ 64 - 1) ≤ between + 1 = omega arith in
    let all : min (before + 1) (2 ^ 64 - 1) ≤ min (between + 1) (2 ^ 64 - 1) =
    le-min next (min-le_right (before + 1) (2 ^ 64 - 1)) in
    omega (arith, rose)

-- what ended a later fetch
pub ends_later : {I : Type 0} (most : ℕ) (faults : I → ℕ) (last_fault : I → List ℕ) (told later : Told) (old between new : I)
    (unread : Unread) (file : List ℕ) → faults old ≤ faults between → later file ≡ told file
    → EndsAt most faults last_fault later between new unread file → EndsAt most faults last_fault told old new unread file
ends_later most faults last_fault told later old between new (Failed name) file up same at =
    (at.0, record { rose = rose_later (faults old) (faults between) (faults new) up at.1.rose; name = at.1.name })
ends_later most faults last_fault told later old between new (TooLong name) file up same at =
    (at.0, subst (IsTooLong most) same at.1)
ends_later most faults last_fault told later old between new NoMemory file up same at = tt

-- ---- two files
abbrev Files : Type 0
Files = Vec ℕ Global × Vec ℕ Global

pub two_held : {E : Type 0} (told later : Told) (first second : List ℕ) (bytes : Vec ℕ Global) (r : Result Files E)
    → MayHold (told first) bytes.items → later second ≡ told second → IfOk r (λ files. files.0 ≡ bytes)
    → IfOk r (λ files. MayHold (later second) files.1.items)
    → IfOk r (λ files. MayHoldAll told (first ∷ second ∷ []) (files.0.items ∷ files.1.items ∷ []))
two_held told later first second bytes (Ok files) held same before after =
    let one = subst (λ (v : Vec ℕ Global). MayHold (told first) v.items) (sym before) held in
    (one, (subst (λ some. MayHold some files.1.items) same after, tt))
two_held told later first second bytes (Err e) held same before after = tt

pub two_fit : {E : Type 0} (most : ℕ) (bytes : Vec ℕ Global) (r : Result Files E) → length bytes.items ≤ most
    → IfOk r (λ files. files.0 ≡ bytes) → IfOk r (λ files. length files.1.items ≤ most)
    → IfOk r (λ files. AllFit most (files.0.items ∷ files.1.items ∷ []))
two_fit most bytes (Ok files) fits before after =
    (subst (λ (v : Vec ℕ Global). length v.items ≤ most) (sym before) fits, (after, tt))
two_fit most bytes (Err e) fits before after = tt

-- the second was not had
one_end : {I : Type 0} (most : ℕ) (faults : I → ℕ) (last_fault : I → List ℕ) (told : Told) (asks : List (List ℕ) → Type 0)
    (old new : I) (first second : List ℕ) (unread : Unread) → MayFit most (told first)
    → AsksUpTo asks (first ∷ second ∷ []) second → EndsAt most faults last_fault told old new unread second
    → EndsIn most faults last_fault told asks old new unread (first ∷ second ∷ [])
one_end most faults last_fault told asks old new first second (Failed name) fit both at = inr (fit, inl (at, both))
one_end most faults last_fault told asks old new first second (TooLong name) fit both at = inr (fit, inl (at, both))
one_end most faults last_fault told asks old new first second NoMemory fit both at = tt

pub second_ends : {I T : Type 0} (most : ℕ) (faults : I → ℕ) (last_fault : I → List ℕ) (told later : Told)
    (asks : List (List ℕ) → Type 0) (old between new : I) (first second : List ℕ) (r : Result T Unread)
    → MayFit most (told first) → faults old ≤ faults between → later second ≡ told second → asks (first ∷ second ∷ [])
    → IfErr r (λ unread. EndsAt most faults last_fault later between new unread second)
    → IfErr r (λ unread. EndsIn most faults last_fault told asks old new unread (first ∷ second ∷ []))
second_ends most faults last_fault told later asks old between new first second (Ok files) fit up same both ended = tt
second_ends most faults last_fault told later asks old between new first second (Err unread) fit up same both ended =
    one_end most faults last_fault told asks old new first second unread fit (record { place = 1; last = refl; are = both })
    (ends_later most faults last_fault told later old between new unread second up same ended)

-- the first was not
pub first_ends : {I : Type 0} (most : ℕ) (faults : I → ℕ) (last_fault : I → List ℕ) (told : Told)
    (asks : List (List ℕ) → Type 0) (old new : I) (first : List ℕ) (rest : List (List ℕ)) (unread : Unread)
    → asks (first ∷ []) → EndsAt most faults last_fault told old new unread first
    → EndsIn most faults last_fault told asks old new unread (first ∷ rest)
first_ends most faults last_fault told asks old new first rest (Failed name) one at =
    inl (at, record { place = 0; last = refl; are = one })
first_ends most faults last_fault told asks old new first rest (TooLong name) one at =
    inl (at, record { place = 0; last = refl; are = one })
first_ends most faults last_fault told asks old new first rest NoMemory one at = tt
