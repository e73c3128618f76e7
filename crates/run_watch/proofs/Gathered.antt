-- A loop that gathers from a list what a recursion over it gathers: one item more, and all of them.
use Rattle.std.specs.Prelude.{◌≡◌, ℕ, zero, suc, ◌+◌, ◌<◌, ◌≤◌, List, [], ◌∷◌, ◌++◌, length, drop, take, map}
use Rattle.std.specs.List.{slice_index_or}
use Rattle.std.proofs.Common.{arith, sym, subst, ap, ◌∙◌, append_assoc, add-one}
use Rattle.std.proofs.lemmas.List.{append-nil, drop_all, take_all}
use Rattle.rational.specs.Rational.{ℚ, ◌+ℚ◌}
use Rattle.flow_watch.proofs.EntryLists.{next_item}
use Rattle.run_watch.specs.declared.span.Span.{Span}
use Rattle.run_watch.specs.declared.span.Ramp.{Ramp}
use Rattle.run_watch.specs.Ramps.{ramps_after, pace_in, RampFits, RampsFit}

pub taken : {A B : Type 0} (F : List A → List B) (x : A) (xs : List A) (i : ℕ) (had more now total : List B) → i < length xs → x ≡ slice_index_or xs i x
    → F (x ∷ drop (i + 1) xs) ≡ more ++ F (drop (i + 1) xs) → now ≡ had ++ more → had ++ F (drop i xs) ≡ total → now ++ F (drop (i + 1) xs) ≡ total
taken F x xs i had more now total l is step pushed h =
    let rest = F (drop (i + 1) xs) in
    ap (λ es. es ++ rest) pushed ∙ append_assoc had more rest ∙ ap (λ es. had ++ es) (sym step ∙ sym (ap F (next_item x xs i l is))) ∙ h

-- an item of which nothing is gathered
pub passed : {A B : Type 0} (F : List A → List B) (x : A) (xs : List A) (i : ℕ) (had now total : List B) → i < length xs → x ≡ slice_index_or xs i x → F (x ∷ drop (i + 1) xs) ≡ F (drop (i + 1) xs) → now ≡ had
    → had ++ F (drop i xs) ≡ total → now ++ F (drop (i + 1) xs) ≡ total
passed F x xs i had now total l is step same h =
    let rest = F (drop (i + 1) xs) in
    ap (λ es. es ++ rest) same ∙ ap (λ es. had ++ es) (sym step ∙ sym (ap F (next_item x xs i l is))) ∙ h

pub all_taken : {A B : Type 0} (F : List A → List B) (xs : List A) (i : ℕ) (had total : List B) → F [] ≡ [] → length xs ≤ i → had ++ F (drop i xs) ≡ total → had ≡ total
all_taken F xs i had total none past h = sym (ap (λ es. had ++ es) (ap F (drop_all i xs past) ∙ none) ∙ append-nil had) ∙ h

-- ---- one for each
pub mapped : {A B : Type 0} (f : A → B) (x : A) (xs : List A) (i : ℕ) (y : B) (had now : List B) → i < length xs → x ≡ slice_index_or xs i x → y ≡ f x → now ≡ had ++ y ∷ [] → had ≡ map f (take i xs)
    → now ≡ map f (take (i + 1) xs)
mapped f x xs i y had now l is made pushed h =
    let one : map f (take i xs) ++ f x ∷ [] ≡ map f (take (i + 1) xs) = rw add-one (one_more f x xs i l is) in
    pushed ∙ ap (λ zs. zs ++ y ∷ []) h ∙ ap (λ z. map f (take i xs) ++ z ∷ []) made ∙ one
  where
    one_more : {A B : Type 0} (f : A → B) (x : A) (xs : List A) (i : ℕ) → i < length xs → x ≡ slice_index_or xs i x → map f (take i xs) ++ f x ∷ [] ≡ map f (take (suc i) xs)
    one_more f x [] i l is = absurd (omega arith)
    one_more f x (y ∷ xs) zero l is = ap (λ z. f z ∷ []) is
    one_more f x (y ∷ xs) (suc i) l is = ap (λ zs. f y ∷ zs) (one_more f x xs i (omega arith) is)

pub all_mapped : {A B : Type 0} (f : A → B) (xs : List A) (i : ℕ) (had : List B) → length xs ≤ i → had ≡ map f (take i xs) → had ≡ map f xs
all_mapped f xs i had past h = h ∙ ap (map f) (take_all i xs past)

-- ---- ramps
pub ramp_fits : (spans : List Span) (i : ℕ) (s : Span) (done : ℚ) → i < length spans → s ≡ slice_index_or spans i s → RampsFit done (drop i spans) → RampFits done s × RampsFit (done +ℚ s.bits) (drop (i + 1) spans)
ramp_fits spans i s done l is fits = subst (RampsFit done) (next_item s spans i l is) fits

pub ramp_more : (spans : List Span) (i : ℕ) (s : Span) (done after pace : ℚ) (had now total : List Ramp) → i < length spans → s ≡ slice_index_or spans i s → after ≡ done +ℚ s.bits → pace ≡ pace_in s
    → now ≡ had ++ record { span = s; before = done; after = after; pace = pace } ∷ [] → had ++ ramps_after done (drop i spans) ≡ total → now ++ ramps_after after (drop (i + 1) spans) ≡ total
ramp_more spans i s done after pace had now total l is sum paced pushed h =
    let rest = drop (i + 1) spans in
    let made : ℚ → ℚ → Ramp = λ a p. record { span = s; before = done; after = a; pace = p } in
    ap (λ es. es ++ ramps_after after rest) pushed ∙ append_assoc had (made after pace ∷ []) (ramps_after after rest)
    ∙ ap (λ es. had ++ es) (ap (λ p. made after p ∷ ramps_after after rest) paced ∙ ap (λ a. made a (pace_in s) ∷ ramps_after a rest) sum ∙ sym (ap (ramps_after done) (next_item s spans i l is))) ∙ h
