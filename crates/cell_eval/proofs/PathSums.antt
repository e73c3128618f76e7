-- Numbers along a path, added up.
use Rattle.std.proofs.Common.{◌≡◌, ℕ, ◌+◌, ◌≤◌, ◌<◌, ◌^◌, List, [], ◌∷◌, ◌++◌, length, map, take}
use Rattle.std.proofs.Common.{sym, ap, ◌∙◌, subst, arith, append_assoc}
use Rattle.std.specs.Prelude.{Some, Result, Ok, Err}
use Rattle.std.specs.List.{range_with_len}
use Rattle.std.proofs.lemmas.List.{length-map, length-append, map-append, map_more}
use Rattle.std.proofs.lemmas.List.FromFn.{length-map-range_with_len, map-range_with_len_more}
use Rattle.rational.specs.Rational.{ℚ}
use Rattle.rational.specs.Extended.{Ext}
use Rattle.rational.specs.declared.Extended.TheVariants.{Fin}
use Rattle.upp_limits.specs.declared.op_kind.OpFault.{OpFault}
use Rattle.net_model.specs.Networks.{Net}
use Rattle.net_model.specs.Accepted.{IsAccepted}
use Rattle.net_cells.specs.declared.cell.Cell.{Cell}
use Rattle.net_cells.specs.declared.cell.Kind.TheVariants.{HopDelay}
use Rattle.net_cells.specs.Numbered.{path, hops, server_of_hop, link}
use Rattle.net_cells.specs.Cells.{cell_of}
use Rattle.net_cells.specs.CellFormulas.{hop_delay_cells, link_delays}
use Rattle.net_cells.specs.Formulas.{Formula, along, delayed}
use Rattle.net_cells.specs.Meanings.{number, CellTable}
use Rattle.net_cells.specs.Means.{HaveNumbers, with_links}
use Rattle.net_cells.specs.NumberSums.{Sums}
use Rattle.net_cells.specs.Answers.{Answers, MakesNumber}
use Rattle.net_cells.proofs.Lists.{map_has, range_has}
use Rattle.net_cells.proofs.Stored.{few_hops}
use Rattle.outcomes.specs.Calls.{goes_on}
use Rattle.net_cells.specs.cell_table.Values.{answer_of}
use Rattle.cell_numbers.specs.TableValues.{IsNumberAt}
use Rattle.cell_eval.specs.declared.number_sums.Added.{Added}
use Rattle.cell_eval.specs.Tallies.{AreAdded}
use Rattle.cell_eval.proofs.HaveNumbers.{have_all, have_more, have_none}
use Rattle.run_laws.proofs.Members.{Has}
use Rattle.net_cells.proofs.TableValues.{same_number}

-- ---- hop after hop
abbrev pub delays_to : ℕ → ℕ → List Cell
delays_to i n = map (cell_of HopDelay i) (range_with_len 0 n)

-- the links of the first so many hops
abbrev pub links_to : Net → ℕ → ℕ → List ℚ
links_to net i n = map (link net) (take n (path net i))

pub none_added : (at : CellTable) (i : ℕ) (a : Added) → AreAdded [] a → (xs : List Ext)
    → HaveNumbers at (delays_to i 0) xs → AreAdded xs a
none_added at i a h xs are = subst (λ ys. AreAdded ys a) (sym (have_none at xs are)) h

pub delay_added : (at : CellTable) (i n : ℕ) (a b : Added) (x : Ext) → at (cell_of HopDelay i n) ≡ Some (number x)
    → ((xs : List Ext) → HaveNumbers at (delays_to i n) xs → AreAdded xs a)
    → ((xs : List Ext) → AreAdded xs a → AreAdded (xs ++ x ∷ []) b)
    → (xs : List Ext) → HaveNumbers at (delays_to i (n + 1)) xs → AreAdded xs b
delay_added at i n a b x is before one xs are =
    let cells = map-range_with_len_more (cell_of HopDelay i) 0 n n (omega arith) in
    let more = have_more at (delays_to i n) (cell_of HopDelay i n) xs (subst (λ cs. HaveNumbers at cs xs) cells are) in
    let last = same_number at (cell_of HopDelay i n) more.last x more.at_last is in
    subst (λ ys. AreAdded ys b) (sym (more.is ∙ ap (λ y. more.front ++ y ∷ []) last))
    (one more.front (before more.front more.are))

links_more : (net : Net) (i n : ℕ) → n < hops net i → (xs : List Ext)
    → with_links xs (links_to net i (n + 1))
    ≡ with_links xs (links_to net i n) ++ Fin (link net (server_of_hop net i n)) ∷ []
links_more net i n h xs =
    ap (λ ls. xs ++ map Fin ls) (map_more (link net) (path net i) n 0 h)
    ∙ ap (λ ys. xs ++ ys) (map-append Fin (links_to net i n) (link net (server_of_hop net i n) ∷ []))
    ∙ sym (append_assoc xs (map Fin (links_to net i n)) (Fin (link net (server_of_hop net i n)) ∷ []))

pub link_added : (net : Net) (i n : ℕ) (a b : Added) (xs : List Ext) (x : ℚ) → n < hops net i
    → x ≡ link net (server_of_hop net i n) → AreAdded (with_links xs (links_to net i n)) a
    → ((ys : List Ext) → AreAdded ys a → AreAdded (ys ++ Fin x ∷ []) b)
    → AreAdded (with_links xs (links_to net i (n + 1))) b
link_added net i n a b xs x h is before one =
    subst (λ ys. AreAdded ys b)
    (sym (links_more net i n h xs ∙ ap (λ y. with_links xs (links_to net i n) ++ Fin y ∷ []) (sym is)))
    (one (with_links xs (links_to net i n)) before)

-- ---- sums
sums_answer : (xs : List Ext) (r : Result Ext OpFault) → Sums xs r → MakesNumber (Sums xs) (answer_of number r)
sums_answer xs (Ok x) s = s
sums_answer xs (Err e) s = s

-- a path is short
few_links : (net : Net) (i : ℕ) (xs : List Ext) → IsAccepted net → length xs ≤ 16
    → length (with_links xs (link_delays net i)) ≤ 2 ^ 20
few_links net i xs accepted few =
    let hops_few = few_hops net i accepted in
    let both = length-append xs (map Fin (link_delays net i)) in
    let links = length-map (link_delays net i) Fin in
    let servers = length-map (path net i) (link net) in
    omega (arith, hops_few, both, links, servers)

pub path_answer : (net : Net) (at : CellTable) (i : ℕ) (r : Result Ext OpFault) → IsAccepted net
    → ((k : ℕ) → k < hops net i → IsNumberAt at (cell_of HopDelay i k))
    → ((xs : List Ext) → length (with_links xs (link_delays net i)) ≤ 2 ^ 20
    → HaveNumbers at (hop_delay_cells net i) xs → Sums (with_links xs (link_delays net i)) r)
    → Answers at (along (hop_delay_cells net i) (link_delays net i)) (answer_of number r)
path_answer net at i r accepted each sums =
    let all = have_all at (hop_delay_cells net i) here in
    let long = length-map-range_with_len (cell_of HopDelay i) 0 (hops net i) in
    let hops_few = few_hops net i accepted in
    let same = all.long in
    let short = few_links net i all.numbers accepted (omega (arith, same, long, hops_few)) in
    record {
      numbers = all.numbers;
      are = all.are;
      answers = sums_answer (with_links all.numbers (link_delays net i)) r (sums all.numbers short all.are);
    }
  where
    here : (c : Cell) → Has (hop_delay_cells net i) c → IsNumberAt at c
    here c h =
        let found = map_has (cell_of HopDelay i) (range_with_len 0 (hops net i)) c h in
        let within = range_has 0 (hops net i) found.0 found.1 in
        subst (IsNumberAt at) found.2 (each found.0 (let below = within.1 in omega (arith, below)))

pub delayed_answer : (net : Net) (at : CellTable) (F : Formula) (i : ℕ) (x : Ext) (r : Result Ext OpFault)
    → IsAccepted net → Answers at F (Ok (number x))
    → (length (with_links (x ∷ []) (link_delays net i)) ≤ 2 ^ 20
    → Sums (with_links (x ∷ []) (link_delays net i)) r)
    → Answers at (delayed F (link_delays net i)) (answer_of number r)
delayed_answer net at F i x r accepted a sums =
    goes_on (number x) a
    (sums_answer (with_links (x ∷ []) (link_delays net i)) r
    (sums (few_links net i (x ∷ []) accepted (omega arith))))
