-- Lists that grow as a loop goes on.
use Rattle.std.proofs.Common.{◌≡◌, ℕ, zero, suc, ◌<◌, ◌+◌, List, [], ◌∷◌, ◌++◌, length, get_or, map, take, refl, sym, ap, ◌∙◌, arith, Bool, true, false, cond, append_assoc, append-nil, map-id}
use Rattle.std.specs.List.{filter, flat_map, range_with_len}
use Rattle.std.proofs.lemmas.Bool.{cond-true, cond-false}
use Rattle.std.proofs.lemmas.List.{take_more, map-append}
use Rattle.std.proofs.lemmas.List.Concat.{flat_map-append}
use Rattle.std.proofs.lemmas.List.Elements.{filter-append}
use Rattle.std.proofs.lemmas.List.FromFn.{map-range_with_len_more, filter_of_map_range_with_len_more}

-- ---- one more number in a row
pub range_more : (n : ℕ) → range_with_len 0 (n + 1) ≡ range_with_len 0 n ++ n ∷ []
range_more n =
    sym (map-id (range_with_len 0 (n + 1))) ∙ map-range_with_len_more (λ (x : ℕ). x) 0 n n (omega arith)
    ∙ ap (λ (xs : List ℕ). xs ++ n ∷ []) (map-id (range_with_len 0 n))

pub flat_more : {Y : Type 0} (f : ℕ → List Y) (n : ℕ)
    → flat_map f (range_with_len 0 (n + 1)) ≡ flat_map f (range_with_len 0 n) ++ f n
flat_more f n =
    ap (flat_map f) (range_more n) ∙ flat_map-append f (range_with_len 0 n) (n ∷ [])
    ∙ ap (λ ys. flat_map f (range_with_len 0 n) ++ ys) (append-nil (f n))

pub flat_below : {Y : Type 0} (f g : ℕ → List Y) (n : ℕ) → ((k : ℕ) → k < n → f k ≡ g k)
    → flat_map f (range_with_len 0 n) ≡ flat_map g (range_with_len 0 n)
flat_below f g zero same = refl
flat_below f g (suc n) same =
    let next : suc n ≡ n + 1 = omega arith in
    ap (λ m. flat_map f (range_with_len 0 m)) next ∙ flat_more f n
    ∙ ap (λ ys. ys ++ f n) (flat_below f g n (λ k h. same k (omega (arith, h))))
    ∙ ap (λ ys. flat_map g (range_with_len 0 n) ++ ys) (same n (omega arith))
    ∙ sym (flat_more g n) ∙ sym (ap (λ m. flat_map g (range_with_len 0 m)) next)

-- ---- a list with more at its end, behind an old one
pub behind : {Y : Type 0} (old items new more front whole : List Y) → items ≡ old ++ front → new ≡ items ++ more
    → whole ≡ front ++ more
    → new ≡ old ++ whole
behind old items new more front whole a b c =
    b ∙ ap (λ xs. xs ++ more) a ∙ append_assoc old front more ∙ ap (λ xs. old ++ xs) (sym c)

pub still : {Y : Type 0} (old items front whole : List Y) → items ≡ old ++ front → whole ≡ front ++ []
    → items ≡ old ++ whole
still old items front whole a c = a ∙ ap (λ xs. old ++ xs) (sym (append-nil front) ∙ sym c)

-- ---- by a number
pub kept_number : {Y : Type 0} (p : Y → Bool) (f : ℕ → Y) (n : ℕ) → p (f n) ≡ true
    → filter p (map f (range_with_len 0 (n + 1))) ≡ filter p (map f (range_with_len 0 n)) ++ f n ∷ []
kept_number p f n e =
    filter_of_map_range_with_len_more p f 0 n n (omega arith)
    ∙ ap (λ xs. filter p (map f (range_with_len 0 n)) ++ xs) (cond-true (p (f n)) (f n ∷ []) [] e)

pub dropped_number : {Y : Type 0} (p : Y → Bool) (f : ℕ → Y) (n : ℕ) → p (f n) ≡ false
    → filter p (map f (range_with_len 0 (n + 1))) ≡ filter p (map f (range_with_len 0 n)) ++ []
dropped_number p f n e =
    filter_of_map_range_with_len_more p f 0 n n (omega arith)
    ∙ ap (λ xs. filter p (map f (range_with_len 0 n)) ++ xs) (cond-false (p (f n)) (f n ∷ []) [] e)

-- ---- by an element
pub flat_element : {X Y : Type 0} (f : X → List Y) (xs : List X) (i : ℕ) (x : X) → i < length xs → get_or xs i x ≡ x
    → flat_map f (take (i + 1) xs) ≡ flat_map f (take i xs) ++ f x
flat_element f xs i x h is =
    ap (flat_map f) (take_more xs i x h ∙ ap (λ y. take i xs ++ y ∷ []) is)
    ∙ flat_map-append f (take i xs) (x ∷ []) ∙ ap (λ ys. flat_map f (take i xs) ++ ys) (append-nil (f x))

-- ---- filters of joined lists
pub filter_flat : {X Y : Type 0} (p : Y → Bool) (f : X → List Y) (xs : List X)
    → filter p (flat_map f xs) ≡ flat_map (λ x. filter p (f x)) xs
filter_flat p f [] = refl
filter_flat p f (x ∷ xs) = filter-append p (f x) (flat_map f xs) ∙ ap (λ ys. filter p (f x) ++ ys) (filter_flat p f xs)

pub flat_same : {X Y : Type 0} (f g : X → List Y) (xs : List X) → ((x : X) → f x ≡ g x) → flat_map f xs ≡ flat_map g xs
flat_same f g [] e = refl
flat_same f g (x ∷ xs) e = ap (λ ys. ys ++ flat_map f xs) (e x) ∙ ap (λ ys. g x ++ ys) (flat_same f g xs e)

pub filter_mapped : {X Y : Type 0} (p q : Y → Bool) (f : X → Y) (xs : List X) → ((x : X) → p (f x) ≡ q (f x))
    → filter p (map f xs) ≡ filter q (map f xs)
filter_mapped p q f [] e = refl
filter_mapped p q f (x ∷ xs) e =
    ap (λ b. cond b (f x ∷ filter p (map f xs)) (filter p (map f xs))) (e x)
    ∙ ap (λ ys. cond (q (f x)) (f x ∷ ys) ys) (filter_mapped p q f xs e)

-- ---- by a number that is kept itself
pub kept_range : {Y : Type 0} (p : ℕ → Bool) (f : ℕ → Y) (n : ℕ) → p n ≡ true
    → map f (filter p (range_with_len 0 (n + 1))) ≡ map f (filter p (range_with_len 0 n)) ++ f n ∷ []
kept_range p f n e =
    ap (λ xs. map f (filter p xs)) (range_more n)
    ∙ ap (map f) (filter-append p (range_with_len 0 n) (n ∷ [])
    ∙ ap (λ ys. filter p (range_with_len 0 n) ++ ys) (cond-true (p n) (n ∷ []) [] e))
    ∙ map-append f (filter p (range_with_len 0 n)) (n ∷ [])

pub dropped_range : {Y : Type 0} (p : ℕ → Bool) (f : ℕ → Y) (n : ℕ) → p n ≡ false
    → map f (filter p (range_with_len 0 (n + 1))) ≡ map f (filter p (range_with_len 0 n)) ++ []
dropped_range p f n e =
    ap (λ xs. map f (filter p xs)) (range_more n)
    ∙ ap (map f) (filter-append p (range_with_len 0 n) (n ∷ [])
    ∙ ap (λ ys. filter p (range_with_len 0 n) ++ ys) (cond-false (p n) (n ∷ []) [] e))
    ∙ map-append f (filter p (range_with_len 0 n)) []
