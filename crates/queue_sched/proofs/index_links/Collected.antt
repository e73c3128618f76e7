-- Lists that are made of a function at numbers in a row.
use Rattle.std.proofs.Common.{◌≡◌, ℕ, zero, suc, ◌+◌, ◌<◌, ◌≤◌, ◌∷◌, length, get_or, set, map, replicate, refl, sym, ap, ◌∙◌, subst, arith}
use Rattle.std.specs.Prelude.{◌≢◌, ◌==◌, if◌then◌else◌}
use Rattle.std.proofs.lemmas.Bool.{ne_eqb, eq-eqb}
use Rattle.queue_sched.specs.index_links.Rings.{collect}

pub length_collect : {A : Type 0} (f : ℕ → A) (i n : ℕ) → length (collect f i n) ≡ n
length_collect f i zero = refl
length_collect f i (suc n) = ap (λ t. suc t) (length_collect f (suc i) n)

pub collect_at : {A : Type 0} (f : ℕ → A) (i n k : ℕ) (d : A) → k < n → get_or (collect f i n) k d ≡ f (i + k)
collect_at f i zero k d h = absurd (omega (arith, h))
collect_at f i (suc n) zero d h = ap f (omega arith)
collect_at f i (suc n) (suc k) d h = collect_at f (suc i) n k d (omega (arith, h)) ∙ ap f (omega arith)

pub collect_past : {A : Type 0} (f : ℕ → A) (i n k : ℕ) (d : A) → n ≤ k → get_or (collect f i n) k d ≡ d
collect_past f i zero k d h = refl
collect_past f i (suc n) zero d h = absurd (omega (arith, h))
collect_past f i (suc n) (suc k) d h = collect_past f (suc i) n k d (omega (arith, h))

pub collect_same : {A : Type 0} (f g : ℕ → A) (i n : ℕ) → ((k : ℕ) → i ≤ k → k < i + n → f k ≡ g k) → collect f i n ≡ collect g i n
collect_same f g i zero same = refl
collect_same {A} f g i (suc n) same =
    let here : f i ≡ g i = same i (omega arith) (omega arith) in
    let rest : collect f (suc i) n ≡ collect g (suc i) n = collect_same f g (suc i) n (λ k a b. same k (omega (arith, a)) (omega (arith, b))) in
    cc

pub collect_map : {A B : Type 0} (h : A → B) (f : ℕ → A) (i n : ℕ) → map h (collect f i n) ≡ collect (λ k. h (f k)) i n
collect_map h f i zero = refl
collect_map h f i (suc n) = ap (λ t. h (f i) ∷ t) (collect_map h f (suc i) n)

pub collect_replicate : {A : Type 0} (d : A) (i n : ℕ) → collect (λ _. d) i n ≡ replicate n d
collect_replicate d i zero = refl
collect_replicate d i (suc n) = ap (λ t. d ∷ t) (collect_replicate d (suc i) n)

-- f but at one number
abbrev pub but_at : {A : Type 0} → (ℕ → A) → ℕ → A → ℕ → A
but_at f l v j = if j == l then v else f j

pub at_that : {A : Type 0} (f : ℕ → A) (l : ℕ) (v : A) → but_at f l v l ≡ v
at_that f l v = rw (eq-eqb l l refl) refl

pub at_other : {A : Type 0} (f : ℕ → A) (l : ℕ) (v : A) (j : ℕ) → j ≢ l → but_at f l v j ≡ f j
at_other f l v j n = rw (ne_eqb j l n) refl

pub collect_set : {A : Type 0} (f : ℕ → A) (i n k : ℕ) (v : A) → set (collect f i n) k v ≡ collect (but_at f (i + k) v) i n
collect_set f i zero k v = refl
collect_set f i (suc n) zero v =
    let here : but_at f (i + zero) v i ≡ v = subst (λ t. but_at f t v i ≡ v) (omega arith) (at_that f i v) in
    let rest : collect f (suc i) n ≡ collect (but_at f (i + zero) v) (suc i) n =
    collect_same f (but_at f (i + zero) v) (suc i) n (λ j a b. sym (at_other f (i + zero) v j (omega (arith, a)))) in
    cc
collect_set f i (suc n) (suc k) v =
    let here : but_at f (i + suc k) v i ≡ f i = at_other f (i + suc k) v i (omega arith) in
    let e : suc i + k ≡ i + suc k = omega arith in
    let rest : set (collect f (suc i) n) k v ≡ collect (but_at f (i + suc k) v) (suc i) n =
    subst (λ t. set (collect f (suc i) n) k v ≡ collect (but_at f t v) (suc i) n) e (collect_set f (suc i) n k v) in
    cc
