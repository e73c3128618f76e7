-- Where a cell stands in a table by rows, and rows that grow.
use Rattle.std.proofs.Common.{◌≡◌, ◌≢◌, ℕ, zero, suc, ◌<◌, ◌≤◌, ◌⊎◌, List, [], ◌∷◌, ◌++◌, length, get_or, set, map, refl, sym, ap, ◌∙◌, subst, inl, inr, arith}
use Rattle.std.specs.Prelude.{Option, None}
use Rattle.std.specs.declared.vec.Vec.{Vec}
use Rattle.std.proofs.lemmas.List.{map-append, map-set, get_or-map, get_or-set_same, get_or-set_other, get_or_past, length-map}
use Rattle.std.proofs.lemmas.Bool.{cases_eq}
use Rattle.net_cells.specs.declared.cell.Cell.{Cell}
use Rattle.net_cells.specs.declared.cell.Kind.{Kind}
use Rattle.net_cells.specs.declared.cell.Kind.TheVariants.{In, Cross, Total, Higher, QueueService, Theta, Residual, QueueDelay, QueueBacklog, HopDelay, ShiftOut, DeconvOut, Out, PathService, Tfa, Sfa, Bound}
use Rattle.net_cells.specs.Cells.{cell_of}
use Rattle.net_cells.specs.cell_table.Rows.{kind_number, row_of, entry}
use Rattle.net_cells.proofs.Places.{rank_one}

-- ---- each cell has a place of its own
few_kinds : (k : Kind) → kind_number k < 17
few_kinds In = omega arith
few_kinds Cross = omega arith
few_kinds Total = omega arith
few_kinds Higher = omega arith
few_kinds QueueService = omega arith
few_kinds Theta = omega arith
few_kinds Residual = omega arith
few_kinds QueueDelay = omega arith
few_kinds QueueBacklog = omega arith
few_kinds HopDelay = omega arith
few_kinds ShiftOut = omega arith
few_kinds DeconvOut = omega arith
few_kinds Out = omega arith
few_kinds PathService = omega arith
few_kinds Tfa = omega arith
few_kinds Sfa = omega arith
few_kinds Bound = omega arith

pub own_place : (c d : Cell) → row_of c ≡ row_of d → c.b ≡ d.b → c ≡ d
own_place c d e f =
    let few = few_kinds c.kind in
    let others = few_kinds d.kind in
    let first : c.a ≡ d.a = omega (arith, e, few, others) in
    let number : kind_number c.kind ≡ kind_number d.kind = omega (arith, e, few, others) in
    let kind : c.kind ≡ d.kind = rank_one c.kind d.kind number in
    ap (λ k. cell_of k c.a c.b) kind ∙ ap (λ a. cell_of d.kind a c.b) first ∙ ap (λ b. cell_of d.kind d.a b) f

pub apart : (c d : Cell) → d ≢ c → (row_of d ≢ row_of c) ⊎ (d.b ≢ c.b)
apart c d n =
    elim (cases_eq (row_of d) (row_of c)) [
      | inl e ↦ inr (λ f. n (own_place d c e f))
      | inr e ↦ inl e
    ]

-- ---- one more that is empty
pub one_empty : {X : Type 0} (xs : List X) (i : ℕ) (d : X) → get_or (xs ++ d ∷ []) i d ≡ get_or xs i d
one_empty [] zero d = refl
one_empty [] (suc i) d = refl
one_empty (x ∷ xs) zero d = refl
one_empty (x ∷ xs) (suc i) d = one_empty xs i d

module _ {V A : Type 0} where
  abbrev lists : List (Vec (Option V) A) → List (List (Option V))
  lists = map (λ row. row.items)

  pub empty_row : (rows : List (Vec (Option V) A)) (row : Vec (Option V) A) (i k : ℕ) → row.items ≡ []
      → entry (rows ++ row ∷ []) i k ≡ entry rows i k
  empty_row rows row i k e =
      ap (λ xs. get_or (get_or xs i []) k None)
      (map-append (λ (r : Vec (Option V) A). r.items) rows (row ∷ []) ∙ ap (λ ys. lists rows ++ ys ∷ []) e)
      ∙ ap (λ ys. get_or ys k None) (one_empty (lists rows) i [])

  -- ---- a row
  pub row_entry : (rows : List (Vec (Option V) A)) (i k : ℕ) (row : Vec (Option V) A) → i < length rows
      → row ≡ get_or rows i row → entry rows i k ≡ get_or row.items k None
  row_entry rows i k row l is =
      ap (λ ys. get_or ys k None) (get_or-map (λ (r : Vec (Option V) A). r.items) rows i row [] l ∙ ap (λ r. r.items) (sym is))

  -- in place of another
  pub new_row : (rows : List (Vec (Option V) A)) (i k : ℕ) (row : Vec (Option V) A) → i < length rows
      → entry (set rows i row) i k ≡ get_or row.items k None
  new_row rows i k row l =
      ap (λ ys. get_or ys k None)
      (ap (λ xs. get_or xs i []) (map-set (λ (r : Vec (Option V) A). r.items) rows i row)
      ∙ get_or-set_same (lists rows) i row.items []
      (let same = length-map rows (λ (r : Vec (Option V) A). r.items) in omega (arith, same, l)))

  pub other_row : (rows : List (Vec (Option V) A)) (i j k : ℕ) (row : Vec (Option V) A) → j ≢ i
      → entry (set rows i row) j k ≡ entry rows j k
  other_row rows i j k row n =
      ap (λ ys. get_or ys k None)
      (ap (λ xs. get_or xs j []) (map-set (λ (r : Vec (Option V) A). r.items) rows i row)
      ∙ get_or-set_other (lists rows) i j row.items [] n)

  -- of which some places are as they were
  pub row_put : (rows : List (Vec (Option V) A)) (i : ℕ) (row more : Vec (Option V) A) (P : ℕ → Type 0) → i < length rows
      → row ≡ get_or rows i row → ((k : ℕ) → P k → get_or more.items k None ≡ get_or row.items k None)
      → (j k : ℕ) → (j ≢ i) ⊎ P k → entry (set rows i more) j k ≡ entry rows j k
  row_put rows i row more P l is same j k (inl d) = other_row rows i j k more d
  row_put rows i row more P l is same j k (inr p) =
      elim (cases_eq j i) [
        | inl e ↦ subst (λ m. entry (set rows i more) m k ≡ entry rows m k) (sym e)
            (new_row rows i k more l ∙ same k p ∙ sym (row_entry rows i k row l is))
        | inr d ↦ other_row rows i j k more d
      ]

  pub no_row : (rows : List (Vec (Option V) A)) (i k : ℕ) → length rows ≤ i → entry rows i k ≡ None
  no_row rows i k l =
      ap (λ ys. get_or ys k None)
      (get_or_past (lists rows) i [] (let same = length-map rows (λ (r : Vec (Option V) A). r.items) in omega (arith, same, l)))
