-- The parts of a queue, made one after the other.
use Rattle.std.proofs.Common.{◌≡◌, ℕ, zero, suc, ◌<◌, ◌≤◌, ◌+◌, ◌-◌, List, [], ◌∷◌, ◌++◌, length, map, refl, sym, ap, ◌∙◌, subst, arith, append_assoc, append-nil, length-append, map-id}
use Rattle.std.specs.Prelude.{All, Some, Result, Ok, Err, IfErr, OnOk}
use Rattle.std.specs.List.{range_with_len}
use Rattle.std.proofs.lemmas.List.{map-append, length-map}
use Rattle.std.proofs.lemmas.List.Concat.{flat_map-append}
use Rattle.std.proofs.lemmas.List.Elements.{All-append}
use Rattle.rational.specs.Rational.{ℚ}
use Rattle.upp_limits.specs.declared.op_kind.OpFault.{OpFault}
use Rattle.upp_curve.specs.Curve.{SpecCurve}
use Rattle.outcomes.specs.Calls.{goes_on, stops}
use Rattle.residuals.specs.calls.InTurn.{on_the_way, past}
use Rattle.net_model.specs.Networks.{Net}
use Rattle.net_cells.specs.declared.cell.Cell.{Cell}
use Rattle.net_cells.specs.declared.cell.Kind.TheVariants.{In}
use Rattle.net_cells.specs.Numbered.{rate}
use Rattle.net_cells.specs.declared.visit.Visit.{Visit}
use Rattle.net_cells.specs.Visits.{longest_of}
use Rattle.net_cells.specs.QueueParts.{in_part, part_numbers, by_parts, link_of, link_part, links_among}
use Rattle.net_cells.specs.Cells.{cell_of}
use Rattle.net_cells.specs.Order.{at_visit}
use Rattle.net_cells.specs.Meanings.{Meaning, curve, CellTable}
use Rattle.net_cells.specs.Formulas.{Formula, operators, cut}
use Rattle.net_cells.specs.CellFormulas.{part_sum, with_part, parts_sum, sum_of_hops, sum_of_cells}
use Rattle.net_cells.specs.Answers.{Answer, Answers, AnswersFrom, SumsOf}
use Rattle.net_cells.specs.Refusals.{RefusedFrom, RefusedAt, SumsRefused}
use Rattle.net_cells.specs.Work.{parts_work}
use Rattle.net_cells.proofs.Placing.{refusals_placed}
use Rattle.net_cells.proofs.Works.{terms, part_terms}
use Rattle.net_cells.proofs.Growing.{range_more}
use Rattle.net_cells.proofs.PartCounts.{more_items, links_append, links_more, no_hops, some_hops}
use Rattle.net_cells.specs.cell_table.Gives.{Gives}
use Rattle.cell_numbers.proofs.Choosing.{map_front}
use Rattle.cell_eval.specs.declared.curve_sums.Partial.{Partial}
use Rattle.cell_eval.specs.declared.curve_sums.Partial.TheVariants.{Nothing, One, Made}
use Rattle.outcomes.specs.Spending.{Counts}
use Rattle.outcomes.proofs.Spending.{counts_none, counts_then}
use Rattle.cell_eval.specs.Partial.{IsPartial, IsReady, IsSummed, FailsAt, Adds}
use Rattle.cell_eval.specs.Parts.{curve_in, curve_of, IsHeld, IsPartOf, MakesPart, part_work, kept, AreMade, AreRefused}
use Rattle.cell_numbers.specs.TableValues.{IsCurveAt}
use Rattle.cell_eval.proofs.OperatorStopping.{err_map}
use Rattle.cell_eval.proofs.SumSteps.{failed_answer}

-- ---- one part
-- the cells with which some hops come are as many as these
pub none_there : (vs : List Visit) → map (at_visit In) vs ≡ [] → vs ≡ []
none_there [] e = refl
none_there (v ∷ vs) e = absurd (let bad : ⊥ = cc in bad)

pub some_there : (vs : List Visit) (n : ℕ) → n ≤ length (map (at_visit In) vs) → n ≤ length vs
some_there vs n h = let e = length-map vs (at_visit In) in omega (arith, h, e)

pub cell_curve : (at : CellTable) (c : Cell) → IsCurveAt at c → at c ≡ Some (curve (curve_in (at c)))
cell_curve at c h = h.is ∙ ap (λ f. Some (curve f)) (sym (ap curve_in h.is))

-- those that enter at the server: their sum as it is
pub entering : (at : CellTable) (net : Net) (s q : ℕ) (p : Partial) → IsPartial at (map (at_visit In) (in_part net s q 0)) p
    → IsReady at p → MakesPart at net s q 0 (Ok p)
entering at net s q Nothing e r = none_there (in_part net s q 0) e
entering at net s q (One c) e r =
    let many = ap (λ (cs : List Cell). length cs) e in
    record {
      some = some_there (in_part net s q 0) 1 (omega (arith, many));
      held = r;
      answers = subst (λ (cs : List Cell). Answers at (sum_of_cells cs) (Ok (curve (curve_in (at c))))) (sym e) (cell_curve at c r);
    }
entering at net s q (Made f) i r =
    let many = i.some in
    record { some = some_there (in_part net s q 0) 1 (omega (arith, many)); held = tt; answers = i.answers }

-- those that come over a link: cut by it
pub cut_formula : (P : Formula → Type 0) (net : Net) (k p bits : ℕ) (r : ℚ) (vs : List Visit) → k ≡ suc p
    → bits ≡ longest_of net vs → r ≡ rate net p → P (cut (sum_of_hops vs) p bits r) → P (part_sum net k vs)
cut_formula P net k p bits r vs e longest speed h =
    subst (λ j. P (part_sum net j vs)) (sym e)
    (subst (λ x. P (cut (sum_of_hops vs) p (longest_of net vs) x)) speed
    (subst (λ n. P (cut (sum_of_hops vs) p n r)) longest h))

pub cut_is : (at : CellTable) (net : Net) (k p bits : ℕ) (r : ℚ) (vs : List Visit) (a : Answer) → k ≡ suc p
    → bits ≡ longest_of net vs → r ≡ rate net p → Answers at (cut (sum_of_hops vs) p bits r) a → Answers at (part_sum net k vs) a
cut_is at net k p bits r vs a e longest speed h = cut_formula (λ F. Answers at F a) net k p bits r vs e longest speed h

-- a part whose sum is refused is so
part_fails : (at : CellTable) (net : Net) (k : ℕ) (vs : List Visit) (fault : OpFault) → Answers at (sum_of_hops vs) (Err fault)
    → Answers at (part_sum net k vs) (Err fault)
part_fails at net zero vs fault a = a
part_fails at net (suc p) vs fault a = stops fault a refl

pub part_refused : (at : CellTable) (net : Net) (k : ℕ) (vs : List Visit) (fault : OpFault) (n : ℕ) → RefusedAt at (sum_of_hops vs) fault n
    → RefusedAt at (part_sum net k vs) fault n
part_refused at net zero vs fault n r = r
part_refused at net (suc p) vs fault n r = on_the_way r

some_fail : (at : CellTable) (cells : List Cell) (old new : ℕ) (fault : OpFault) → FailsAt at [] cells old new fault → 1 ≤ length cells
some_fail at [] old new fault f = absurd (f.fails (cell_of In 0 0 ∷ []))
some_fail at (c ∷ cs) old new fault f = omega arith

pub refused_part : (at : CellTable) (net : Net) (s q k old new : ℕ) (fault : OpFault)
    → FailsAt at [] (map (at_visit In) (in_part net s q k)) old new fault
    → MakesPart at net s q k (Err fault)
refused_part at net s q k old new fault f =
    let cells = map (at_visit In) (in_part net s q k) in (
      some_there (in_part net s q k) 1 (some_fail at cells old new fault f),
      part_fails at net k (in_part net s q k) fault (failed_answer at cells old new fault f),
    )

-- how many operators its hops' sum has, where that was made
pub summed_operators : (net : Net) (s q k old mid : ℕ) (at : CellTable) (p : Partial)
    → Adds at [] (map (at_visit In) (in_part net s q k)) old mid (Ok p) → mid ≡ old + operators (sum_of_hops (in_part net s q k))
summed_operators net s q k old mid at p a =
    let count = a.1 in
    let e = terms (map (at_visit In) (in_part net s q k)) in
    omega (arith, count, e)

-- a sum that is made and then cut: where the cut is refused, the sum's own operators are counted too
pub cut_refused : (net : Net) (s q k : ℕ) (at : CellTable) (p : Partial) (f : SpecCurve) (mid new : ℕ) (r : Result Partial OpFault) → mid ≤ new
    → ((old : ℕ) → Adds at [] (map (at_visit In) (in_part net s q k)) old mid (Ok p) → IsSummed at (map (at_visit In) (in_part net s q k)) f)
    → IfErr r (λ e. (now : CellTable) → Answers now (sum_of_hops (in_part net s q k)) (Ok (curve f))
    → RefusedAt now (part_sum net k (in_part net s q k)) e (operators (sum_of_hops (in_part net s q k)) + (new - mid)))
    → IfErr r (λ e. (old : ℕ) → Adds at [] (map (at_visit In) (in_part net s q k)) old mid (Ok p)
    → RefusedAt at (part_sum net k (in_part net s q k)) e (new - old))
cut_refused net s q k at p f mid new r least summed refused =
    let hops = in_part net s q k in
    err_map r
    (λ e. (now : CellTable) → Answers now (sum_of_hops hops) (Ok (curve f))
    → RefusedAt now (part_sum net k hops) e (operators (sum_of_hops hops) + (new - mid)))
    (λ e. (old : ℕ) → Adds at [] (map (at_visit In) hops) old mid (Ok p) → RefusedAt at (part_sum net k hops) e (new - old))
    (λ e cut old a.
    let own = summed_operators net s q k old mid at p a in
    let count : operators (sum_of_hops hops) + (new - mid) ≡ new - old = omega (arith, own, least) in
    subst (λ n. RefusedAt at (part_sum net k hops) e n) count (cut at (summed old a).answers)) refused

part_operators : (net : Net) (k : ℕ) (vs : List Visit) → 1 ≤ length vs → operators (part_sum net k vs) ≡ length vs - 1 + link_part k vs
part_operators net k [] some = absurd (omega (arith, some))
part_operators net k (v ∷ vs) some = let e = part_terms net k v vs in omega (arith, e)

-- ---- its operators
-- nothing of a part over a link, its sum cut, and the sum of those that enter
pub none_counts : (net : Net) (s q k old mid : ℕ) (at : CellTable) (r : Answer)
    → Adds at [] (map (at_visit In) (in_part net s q k)) old mid (Ok Nothing) → Counts (part_work net s q k) old mid r
none_counts net s q k old mid at r a =
    let none = none_there (in_part net s q k) a.0 in
    let e = ap (λ (vs : List Visit). length vs - 1 + link_of k (length vs)) none in
    let z = no_hops k in
    let l = length-map (in_part net s q k) (at_visit In) in
    let m = ap (λ (vs : List Visit). length vs) none in
    subst (λ n. Counts n old mid r) (sym e)
    (let same : 0 - 1 + link_of k 0 ≡ 0 = omega (arith, z) in
    subst (λ n. Counts n old mid r) (sym same)
    (let now : mid ≡ old = omega (arith, a.1, l, m) in
    let P : ℕ → Type 0 = λ n. Counts 0 old n r in
    subst P (sym now) (counts_none old r)))

pub cut_counts : (net : Net) (s q k old mid new : ℕ) (at : CellTable) (p : Partial) (r : Answer) → 1 ≤ k → 1 ≤ length (in_part net s q k)
    → Adds at [] (map (at_visit In) (in_part net s q k)) old mid (Ok p) → Counts 1 mid new r → Counts (part_work net s q k) old new r
cut_counts net s q k old mid new at p r h some a c =
    let one = some_hops k (length (in_part net s q k)) h some in
    let l = length-map (in_part net s q k) (at_visit In) in
    let n = length (in_part net s q k) - 1 in
    let same : n + 1 ≡ part_work net s q k = omega (arith, one) in
    subst (λ m. Counts m old new r) same (counts_then n 1 old mid new r (omega (arith, a.1, l)) c)

pub entering_counts : (net : Net) (s q old mid : ℕ) (at : CellTable) (p : Partial)
    → Adds at [] (map (at_visit In) (in_part net s q 0)) old mid (Ok p) → mid ≡ old + part_work net s q 0
entering_counts net s q old mid at p a =
    let l = length-map (in_part net s q 0) (at_visit In) in omega (arith, a.1, l)

pub refused_counts : (net : Net) (s q k old mid : ℕ) (at : CellTable) (fault : OpFault)
    → Adds at [] (map (at_visit In) (in_part net s q k)) old mid (Err fault) → Counts {A = Meaning} (part_work net s q k) old mid (Err fault)
refused_counts net s q k old mid at fault a =
    let l = length-map (in_part net s q k) (at_visit In) in
    record { exact = tt; least = a.1; most = omega (arith, a.2, l) }

-- ---- part by part
module _ (at : CellTable) (net : Net) (s q : ℕ) where
  step_none : (k : ℕ) (ks : List ℕ) (fs : List SpecCurve) (r : Answer) → in_part net s q k ≡ []
      → AnswersFrom at (parts_sum net s q ks) fs r → AnswersFrom at (parts_sum net s q (k ∷ ks)) fs r
  step_none k ks fs r e a =
      subst (λ (vs : List Visit). AnswersFrom at (with_part net k vs (parts_sum net s q ks)) fs r) (sym e) a

  step_some : (k : ℕ) (vs : List Visit) (F : Formula) (fs : List SpecCurve) (f : SpecCurve) (r : Answer) → 1 ≤ length vs
      → Answers at (part_sum net k vs) (Ok (curve f)) → AnswersFrom at F (fs ++ f ∷ []) r → AnswersFrom at (with_part net k vs F) fs r
  step_some k [] F fs f r some a b = absurd (omega (arith, some))
  step_some k (v ∷ vs) F fs f r some a b = goes_on (curve f) a b

  none_refused : (k : ℕ) (ks : List ℕ) (fs : List SpecCurve) (fault : OpFault) (n : ℕ) → in_part net s q k ≡ []
      → RefusedFrom at (parts_sum net s q ks) fs fault n → RefusedFrom at (parts_sum net s q (k ∷ ks)) fs fault n
  none_refused k ks fs fault n e r =
      subst (λ (vs : List Visit). RefusedFrom at (with_part net k vs (parts_sum net s q ks)) fs fault n) (sym e) r

  some_refused : (k : ℕ) (vs : List Visit) (F : Formula) (fs : List SpecCurve) (f : SpecCurve) (fault : OpFault) (n : ℕ) → 1 ≤ length vs
      → Answers at (part_sum net k vs) (Ok (curve f)) → RefusedFrom at F (fs ++ f ∷ []) fault n
      → RefusedFrom at (with_part net k vs F) fs fault (operators (part_sum net k vs) + n)
  some_refused k [] F fs f fault n some a r = absurd (omega (arith, some))
  some_refused k (v ∷ vs) F fs f fault n some a r = past (curve f) n a refl r

  step_fails : (k : ℕ) (vs : List Visit) (F : Formula) (fs : List SpecCurve) (fault : OpFault) (n : ℕ) → 1 ≤ length vs
      → RefusedAt at (part_sum net k vs) fault n → RefusedFrom at (with_part net k vs F) fs fault n
  step_fails k [] F fs fault n some r = absurd (omega (arith, some))
  step_fails k (v ∷ vs) F fs fault n some r = on_the_way r

  -- the numbers up to one, that, and others
  row : (n : ℕ) (ks : List ℕ) → range_with_len 0 (n + 1) ++ ks ≡ range_with_len 0 n ++ n ∷ ks
  row n ks = ap (λ xs. xs ++ ks) (range_more n) ∙ append_assoc (range_with_len 0 n) (n ∷ []) ks

  longer : (n : ℕ) → length (by_parts net s q (range_with_len 0 n)) + length (in_part net s q n) ≡ length (by_parts net s q (range_with_len 0 (n + 1)))
  longer n = more_items (in_part net s q) n _ _ refl refl

  linked : (n : ℕ) → links_among net s q (range_with_len 0 n) + link_part n (in_part net s q n) ≡ links_among net s q (range_with_len 0 (n + 1))
  linked n = links_more net s q n _ _ _ refl refl refl

  only_held : (p : Partial) → IsHeld at p → All (IsHeld at) (p ∷ [])
  only_held p h zero d l = h
  only_held p h (suc k) d l = absurd (omega (arith, l))

  -- none is made
  pub none_made : (old : ℕ) → AreMade at net s q 0 [] old old
  none_made old = record {
    held = λ k d h. absurd (omega (arith, h));
    answers = λ ks r a. a;
    refusals = λ ks fault m r. let same : m ≡ old - old + m = omega arith in
        subst (λ n. RefusedFrom at (parts_sum net s q ks) [] fault n) same r;
    few = omega arith;
    least = omega arith;
    none = λ e. refl;
    count = omega arith;
  }

  made_none : (n : ℕ) (ps : List Partial) (old mid new : ℕ) → AreMade at net s q n ps old mid → in_part net s q n ≡ []
      → new ≡ mid + part_work net s q n → AreMade at net s q (n + 1) ps old new
  made_none n ps old mid new m e c =
      let few = m.few in
      let least = m.least in
      let count = m.count in
      let empty = ap (λ (vs : List Visit). length vs) e in
      let link = ap (λ (vs : List Visit). link_of n (length vs)) e in
      let zero_link = no_hops n in
      let l = longer n in
      let k = linked n in
      record {
        held = m.held;
        answers = λ ks r a. subst (λ xs. Answers at (parts_sum net s q xs) r) (sym (row n ks))
            (m.answers (n ∷ ks) r (step_none n ks (map (curve_of at) ps) r e a));
        refusals = λ ks fault j r. let same : mid - old + j ≡ new - old + j = omega (arith, c, empty, link, zero_link) in
            subst (λ xs. RefusedAt at (parts_sum net s q xs) fault (new - old + j)) (sym (row n ks))
            (subst (λ i. RefusedAt at (parts_sum net s q (range_with_len 0 n ++ n ∷ ks)) fault i) same
            (m.refusals (n ∷ ks) fault j (none_refused n ks (map (curve_of at) ps) fault j e r)));
        few = omega (arith, few);
        least = omega (arith, least, l);
        none = λ h. let was = m.none h in omega (arith, was, l, empty);
        count = omega (arith, count, c, empty, link, zero_link, l, k);
      }

  made_more : (n : ℕ) (ps : List Partial) (p : Partial) (old mid new : ℕ) → AreMade at net s q n ps old mid → IsPartOf at net s q n p
      → new ≡ mid + part_work net s q n → AreMade at net s q (n + 1) (ps ++ p ∷ []) old new
  made_more n ps p old mid new m is c =
      let few = m.few in
      let least = m.least in
      let count = m.count in
      let some = is.some in
      let l = longer n in
      let k = linked n in
      let more = length-append ps (p ∷ []) in
      record {
        held = All-append (IsHeld at) ps (p ∷ []) m.held (only_held p is.held);
        answers = λ ks r a. subst (λ xs. Answers at (parts_sum net s q xs) r) (sym (row n ks))
            (m.answers (n ∷ ks) r
            (step_some n (in_part net s q n) (parts_sum net s q ks) (map (curve_of at) ps) (curve_of at p) r is.some is.answers
            (subst (λ (fs : List SpecCurve). AnswersFrom at (parts_sum net s q ks) fs r) (map-append (curve_of at) ps (p ∷ [])) a)));
        refusals = λ ks fault j r. let own = part_operators net n (in_part net s q n) is.some in
            let same : mid - old + (operators (part_sum net n (in_part net s q n)) + j) ≡ new - old + j =
            omega (arith, own, c, count, least) in
            subst (λ xs. RefusedAt at (parts_sum net s q xs) fault (new - old + j)) (sym (row n ks))
            (subst (λ i. RefusedAt at (parts_sum net s q (range_with_len 0 n ++ n ∷ ks)) fault i) same
            (m.refusals (n ∷ ks) fault (operators (part_sum net n (in_part net s q n)) + j)
            (some_refused n (in_part net s q n) (parts_sum net s q ks) (map (curve_of at) ps) (curve_of at p) fault j is.some is.answers
            (subst (λ (fs : List SpecCurve). RefusedFrom at (parts_sum net s q ks) fs fault j) (map-append (curve_of at) ps (p ∷ [])) r))));
        few = omega (arith, few, more);
        least = omega (arith, least, some, l, more);
        none = λ h. absurd (omega (arith, h, more));
        count = omega (arith, count, c, some, l, k, more);
      }

  pub next_made : (n : ℕ) (ps : List Partial) (p : Partial) (old mid new : ℕ) → AreMade at net s q n ps old mid
      → MakesPart at net s q n (Ok p) → new ≡ mid + part_work net s q n → AreMade at net s q (n + 1) (ps ++ kept p) old new
  next_made n ps Nothing old mid new m is c =
      subst (λ (xs : List Partial). AreMade at net s q (n + 1) xs old new) (sym (append-nil ps)) (made_none n ps old mid new m is c)
  next_made n ps (One d) old mid new m is c = made_more n ps (One d) old mid new m is c
  next_made n ps (Made f) old mid new m is c = made_more n ps (Made f) old mid new m is c

  -- one is refused
  pub refused_made : (n : ℕ) (ps : List Partial) (fault : OpFault) (old mid new : ℕ) → AreMade at net s q n ps old mid
      → MakesPart at net s q n (Err fault) → RefusedAt at (part_sum net n (in_part net s q n)) fault (new - mid)
      → Counts {A = Meaning} (part_work net s q n) mid new (Err fault) → n < suc (length net.servers)
      → AreRefused at net s q fault old new
  refused_made n ps fault old mid new m is r c h =
      let all = suc (length net.servers) in
      let front = map_front (λ (x : ℕ). x) (n + 1) all (omega (arith, h)) in
      let whole : range_with_len 0 all ≡ range_with_len 0 (n + 1) ++ front.rest =
      sym (map-id (range_with_len 0 all)) ∙ front.is ∙ ap (λ xs. xs ++ front.rest) (map-id (range_with_len 0 (n + 1))) in
      let count = m.count in
      let least = m.least in
      let some = is.0 in
      let lo = c.least in
      let hi = c.most in
      let l = longer n in
      let k = linked n in
      let hops = ap (λ xs. length (by_parts net s q xs)) whole ∙ ap length (flat_map-append (in_part net s q) (range_with_len 0 (n + 1)) front.rest)
      ∙ length-append (by_parts net s q (range_with_len 0 (n + 1))) (by_parts net s q front.rest) in
      let links = ap (links_among net s q) whole ∙ links_append net s q (range_with_len 0 (n + 1)) front.rest in
      record {
        refused = let same : mid - old + (new - mid) ≡ new - old = omega (arith, count, least, lo) in
            subst (λ xs. RefusedAt at (parts_sum net s q xs) fault (new - old)) (sym (whole ∙ row n front.rest))
            (subst (λ i. RefusedAt at (parts_sum net s q (range_with_len 0 n ++ n ∷ front.rest)) fault i) same
            (m.refusals (n ∷ front.rest) fault (new - mid)
            (step_fails n (in_part net s q n) (parts_sum net s q front.rest) (map (curve_of at) ps) fault (new - mid) is.0 r)));
        least = omega (arith, count, least, some, lo);
        most = omega (arith, count, least, some, hi, l, k, hops, links);
      }

  -- ---- all of them
  parts_give : (ks : List ℕ) (r : Answer) → Answers at (parts_sum net s q ks) r → Gives at (parts_sum net s q ks) r
  parts_give [] r a = a
  parts_give (k ∷ ks) r a = one (in_part net s q k) (λ b. parts_give ks r b) a
    where
      one : (vs : List Visit) → (Answers at (parts_sum net s q ks) r → Gives at (parts_sum net s q ks) r)
          → Answers at (with_part net k vs (parts_sum net s q ks)) r → Gives at (with_part net k vs (parts_sum net s q ks)) r
      one [] rest b = rest b
      one (v ∷ vs) rest b = b

  pub refused_gives : (fault : OpFault) (old new : ℕ) → AreRefused at net s q fault old new
      → Gives at (parts_sum net s q (part_numbers net)) (Err fault)
  refused_gives fault old new a =
      parts_give (part_numbers net) (Err fault)
      ((refusals_placed at (parts_sum net s q (part_numbers net))).refused fault (new - old) a.refused)

  -- all are made, and their sum is refused
  pub made_refused : (ps : List Partial) (old mid new : ℕ) (fault : OpFault) → AreMade at net s q (suc (length net.servers)) ps old mid
      → mid ≤ new → SumsRefused (map (curve_of at) ps) fault (new - mid) → RefusedAt at (parts_sum net s q (part_numbers net)) fault (new - old)
  made_refused ps old mid new fault m up r =
      let count = m.count in
      let least = m.least in
      let same : mid - old + (new - mid) ≡ new - old = omega (arith, count, least, up) in
      subst (λ i. RefusedAt at (parts_sum net s q (part_numbers net)) fault i) same
      (subst (λ xs. RefusedAt at (parts_sum net s q xs) fault (mid - old + (new - mid))) (append-nil (part_numbers net))
      (m.refusals [] fault (new - mid) r))

  pub made_gives : (ps : List Partial) (old mid : ℕ) (r : Answer) → AreMade at net s q (suc (length net.servers)) ps old mid
      → SumsOf (map (curve_of at) ps) r → Gives at (parts_sum net s q (part_numbers net)) r
  made_gives ps old mid r m a =
      parts_give (part_numbers net) r
      (subst (λ xs. Answers at (parts_sum net s q xs) r) (append-nil (part_numbers net)) (m.answers [] r a))

  pub made_counts : (ps : List Partial) (old mid new : ℕ) (r : Answer) → AreMade at net s q (suc (length net.servers)) ps old mid
      → Counts (length ps - 1) mid new r → Counts (parts_work net s q) old new r
  made_counts ps old mid new r m c =
      let count = m.count in
      let least = m.least in
      let lo = c.least in
      record { exact = exact r c.exact; least = omega (arith, count, least, lo); most = most ps m c.most }
    where
      exact : (a : Answer) → OnOk a (new ≡ mid + (length ps - 1)) → OnOk a (new ≡ old + parts_work net s q)
      exact (Ok v) h = sum ps m h
        where
          sum : (xs : List Partial) → AreMade at net s q (suc (length net.servers)) xs old mid → new ≡ mid + (length xs - 1)
              → new ≡ old + parts_work net s q
          sum [] a e = let count = a.count in let none = a.none refl in omega (arith, count, none, e)
          sum (x ∷ xs) a e = let count = a.count in let least = a.least in omega (arith, count, least, e)
      exact (Err fault) h = tt

      most : (xs : List Partial) → AreMade at net s q (suc (length net.servers)) xs old mid → new ≤ mid + (length xs - 1)
          → new ≤ old + parts_work net s q
      most [] a e = let count = a.count in let none = a.none refl in omega (arith, count, none, e)
      most (x ∷ xs) a e = let count = a.count in let least = a.least in omega (arith, count, least, e)
