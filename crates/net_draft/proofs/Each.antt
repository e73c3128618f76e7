-- Reading the entries of an array one after the other, as a loop does.
use Rattle.std.proofs.Common.{◌≡◌, ℕ, ◌+◌, ◌≤◌, ◌<◌, List, [], ◌∷◌, ◌++◌, length, map, get_or, drop, Ok, Err, refl, sym, ap, ◌∙◌}
use Rattle.std.proofs.lemmas.List.{drop_more}
use Rattle.std.proofs.Math.ListN.{drop_of_length-le}
use Rattle.toml.specs.Data.{Data}
use Rattle.toml.specs.View.{view, items_view}
use Rattle.toml.specs.declared.value.Value.{Value}
use Rattle.net_draft.specs.declared.fault.DraftFault.{DraftFault}
use Rattle.net_draft.specs.declared.fault.DraftFault.TheVariants as answers
use Rattle.net_draft.specs.Faults.{Read, Fails, fault_of, nth}
use Rattle.net_draft.specs.Values.{entries}
use Rattle.net_draft.specs.Tables.{each}

-- the entries of an array's values
pub entries_view : (vs : List Value) → entries (items_view vs) ≡ map view vs
entries_view [] = refl
entries_view (v ∷ vs) = ap (λ ds. view v ∷ ds) (entries_view vs)

-- what is left to read
abbrev pub left : List Value → ℕ → List Data
left vs i = map view (drop i vs)

left_more : (vs : List Value) (i : ℕ) (v : Value) → i < length vs → v ≡ get_or vs i v → left vs i ≡ view v ∷ left vs (i + 1)
left_more vs i v within is = ap (map view) (drop_more vs i v within ∙ ap (λ w. w ∷ drop (i + 1) vs) (sym is))

module _ {A : Type 0} (read : List A → List ℕ → Data → Read A) (place : List ℕ) where
  one_more : (before : List A) (d : Data) (ds : List Data) (x : A) → read before (nth place (length before)) d ≡ Ok x → each read place before (d ∷ ds) ≡ each read place (before ++ x ∷ []) ds
  unfolding each
  one_more before d ds x h = rw h refl

  fault_here : (before : List A) (d : Data) (ds : List Data) (f : _) → read before (nth place (length before)) d ≡ Err f → each read place before (d ∷ ds) ≡ Err f
  unfolding each
  fault_here before d ds f h = rw h refl

  pub goes_on : (before : List A) (vs : List Value) (i : ℕ) (v : Value) (x : A) (whole : Read (List A)) → i < length vs → v ≡ get_or vs i v → read before (nth place (length before)) (view v) ≡ Ok x
      → each read place before (left vs i) ≡ whole → each read place (before ++ x ∷ []) (left vs (i + 1)) ≡ whole
  goes_on before vs i v x whole within is h so_far =
      sym (ap (each read place before) (left_more vs i v within is) ∙ one_more before (view v) (left vs (i + 1)) x h) ∙ so_far

  pub stops : (before : List A) (vs : List Value) (i : ℕ) (v : Value) (e : DraftFault) (whole : Read (List A)) → i < length vs → v ≡ get_or vs i v → Fails e (read before (nth place (length before)) (view v))
      → each read place before (left vs i) ≡ whole → Fails e whole
  stops before vs i v answers.NoMemory whole within is h so_far = tt
  stops before vs i v (answers.Fault f) whole within is h so_far =
      sym so_far ∙ (ap (each read place before) (left_more vs i v within is) ∙ fault_here before (view v) (left vs (i + 1)) (fault_of f) h)

  pub is_done : (before : List A) (vs : List Value) (i : ℕ) (whole : Read (List A)) → length vs ≤ i → each read place before (left vs i) ≡ whole → whole ≡ Ok before
  unfolding each
  is_done before vs i whole past so_far = sym so_far ∙ ap (λ ds. each read place before (map view ds)) (drop_of_length-le vs past)
