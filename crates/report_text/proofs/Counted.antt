-- How many of the first numbers are kept, as a loop goes on.
use Rattle.std.proofs.Common.{◌≡◌, ℕ, ◌+◌, [], ◌∷◌, ◌++◌, length, ap, ◌∙◌, Bool, true, false, append-nil}
use Rattle.std.specs.List.{filter, range_with_len}
use Rattle.std.proofs.lemmas.Bool.{cond-true, cond-false}
use Rattle.std.proofs.lemmas.List.{length-append}
use Rattle.std.proofs.lemmas.List.Elements.{filter-append}
use Rattle.net_cells.proofs.Growing.{range_more}

-- one more number, that is kept or not
pub count_more : (p : ℕ → Bool) (n : ℕ) → p n ≡ true
    → length (filter p (range_with_len 0 (n + 1))) ≡ length (filter p (range_with_len 0 n)) + 1
count_more p n e =
    ap length (ap (filter p) (range_more n) ∙ filter-append p (range_with_len 0 n) (n ∷ [])
    ∙ ap (λ ys. filter p (range_with_len 0 n) ++ ys) (cond-true (p n) (n ∷ []) [] e))
    ∙ length-append (filter p (range_with_len 0 n)) (n ∷ [])

pub count_still : (p : ℕ → Bool) (n : ℕ) → p n ≡ false
    → length (filter p (range_with_len 0 (n + 1))) ≡ length (filter p (range_with_len 0 n))
count_still p n e =
    ap length (ap (filter p) (range_more n) ∙ filter-append p (range_with_len 0 n) (n ∷ [])
    ∙ ap (λ ys. filter p (range_with_len 0 n) ++ ys) (cond-false (p n) (n ∷ []) [] e)
    ∙ append-nil (filter p (range_with_len 0 n)))
