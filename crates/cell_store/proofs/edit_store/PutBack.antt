-- What edits replaced, put back one after the other, gives the networks before.
use Rattle.std.proofs.Common.{◌≡◌, ◌≢◌, suc, ◌+◌, ◌-◌, List, [], ◌∷◌, ◌++◌, length, take, Option, Some, None, refl, sym, ap, ap₂, ◌∙◌, subst, arith}
use Rattle.std.specs.Prelude.{slice_get, All, MatchOption, Result, Ok, Err, IfOk, OnErr, IsSome}
use Rattle.std.specs.Option.{option_map}
use Rattle.std.specs.Result.{result_ok}
use Rattle.std.proofs.lemmas.List.{take_all, take_more, length_push}
use Rattle.std.proofs.lemmas.Option.{get_or_from_slice_get, slice_get_within}
use Rattle.std.proofs.lemmas.List.Elements.{All-push, All-pop, All-nil}
use Rattle.net_model.specs.Networks.{Net}
use Rattle.net_model.specs.Accepted.{IsAccepted}
use Rattle.net_cells.specs.Meanings.{Meaning}
use Rattle.version_table.specs.Histories.{History}
use Rattle.cell_rules.specs.declared.edit_sites.replaced.Replaced.{Replaced}
use Rattle.cell_rules.specs.edit_sites.Replaced.{put_back, first_network, networks_before}
use Rattle.cell_store.specs.edit_store.Stored.{Stored, IsStored, HoldsTable, IsAdvanced, IsBack}
use Rattle.cell_store.specs.edit_store.Kept.{IsKept, IsSameAs, IsBeside}
use Rattle.cell_store.proofs.edit_store.Steps.{stored_more, stored_less}

-- ---- one after the other
first_pushed : (rs : List Replaced) (r : Replaced) (net : Net)
    → first_network (rs ++ r ∷ []) net ≡ first_network rs (put_back r net)
first_pushed [] r net = refl
first_pushed (s ∷ rs) r net = ap (put_back s) (first_pushed rs r net)

before_pushed : (rs : List Replaced) (r : Replaced) (net : Net)
    → networks_before (rs ++ r ∷ []) net ≡ networks_before rs (put_back r net) ++ put_back r net ∷ []
before_pushed [] r net = refl
before_pushed (s ∷ rs) r net = ap₂ (λ n ns. put_back s n ∷ ns) (first_pushed rs r net) (before_pushed rs r net)

-- one more, and one less
pub before_more : (rs more : List Replaced) (r : Replaced) (old net : Net) → more ≡ rs ++ r ∷ [] → put_back r net ≡ old
    → networks_before more net ≡ networks_before rs old ++ old ∷ []
before_more rs more r old net e back =
    ap (λ ss. networks_before ss net) e ∙ before_pushed rs r net ∙ ap (λ n. networks_before rs n ++ n ∷ []) back

-- where an undo cannot find none
pub then_back : (X U A C D B : Type 0) (r : Option X) → MatchOption r (A × C) (λ _. U) → ¬ A → (U → B)
    → MatchOption r D (λ _. B)
then_back X U A C D B None h never to = absurd (never h.0)
then_back X U A C D B (Some x) h never to = to h

-- as many as edits
pub count_before : (rs : List Replaced) (net : Net) → length (networks_before rs net) ≡ length rs
count_before [] net = refl
count_before (r ∷ rs) net = ap suc (count_before rs net)

-- ---- the present network once more
last_same : {X : Type 0} (xs ys : List X) (x y : X) → xs ++ x ∷ [] ≡ ys ++ y ∷ [] → (xs ≡ ys) × (x ≡ y)
last_same [] [] x y e = let same : x ≡ y = cc in (refl, same)
last_same [] (w ∷ ys) x y e = absurd (omega (arith, ap length e, length_push ys y))
last_same (z ∷ xs) [] x y e = absurd (omega (arith, ap length e, length_push xs x))
last_same (z ∷ xs) (w ∷ ys) x y e =
    let first : z ≡ w = cc in
    let rest : xs ++ x ∷ [] ≡ ys ++ y ∷ [] = cc in
    let same = last_same xs ys x y rest in (ap₂ (λ v vs. v ∷ vs) first same.0, same.1)

pub is_present : (spare : Option Net) (present net : Net) → IsSameAs spare present → spare ≡ Some net → net ≡ present
is_present None present net same e = absurd (let bad : ⊥ = cc in bad)
is_present (Some other) present net same e = let one : other ≡ net = cc in sym one ∙ same

-- where there is one, what was replaced is put back into it
pub same_back : (spare : Option Net) (r : Replaced) (present : Net) → ((net : Net) → spare ≡ Some net → put_back r net ≡ present)
    → IsSameAs (option_map (put_back r) spare) present
same_back None r present back = tt
same_back (Some net) r present back = back net refl

pub same_if_made : {E : Type 0} (made : Result Net E) (present : Net) → IfOk made (λ n. n ≡ present) → IsSameAs (result_ok made) present
same_if_made (Ok net) present same = same
same_if_made (Err lack) present same = tt

pub there_if_made : {E : Type 0} (made : Result Net E) (Why : Type 0) → OnErr made Why → ¬ Why → IsSome (result_ok made)
there_if_made (Ok net) Why refused never = refl
there_if_made (Err lack) Why refused never = absurd (never refused)

pub first_beside : (spare : Option Net) (spared replaced : List Replaced) (present : Net) → spared ≡ [] → replaced ≡ []
    → IsSameAs spare present → IsBeside spare spared replaced present
first_beside spare spared replaced present none nothing same = record {
  same = same;
  before = ap (λ (rs : List Replaced). networks_before rs present) (none ∙ sym nothing);
}

pub beside_more : (spare more : Option Net) (ss longer rs others : List Replaced) (s r : Replaced) (old net : Net)
    → IsBeside spare ss rs old → longer ≡ ss ++ s ∷ [] → others ≡ rs ++ r ∷ [] → put_back s net ≡ old → put_back r net ≡ old
    → IsSameAs more net → IsBeside more longer others net
beside_more spare more ss longer rs others s r old net beside e f there here same = record {
  same = same;
  before = before_more ss longer s old net e there ∙ ap (λ (ns : List Net). ns ++ old ∷ []) beside.before
      ∙ sym (before_more rs others r old net f here);
}

-- what was replaced last of each gives the same network
module _ (ss less rs fewer : List Replaced) (s r : Replaced) (present : Net) (same : networks_before ss present ≡ networks_before rs present)
    (e : ss ≡ less ++ s ∷ []) (f : rs ≡ fewer ++ r ∷ []) where
  both_back : (networks_before less (put_back s present) ≡ networks_before fewer (put_back r present))
      × (put_back s present ≡ put_back r present)
  both_back =
      last_same (networks_before less (put_back s present)) (networks_before fewer (put_back r present)) (put_back s present) (put_back r present)
      (sym (before_more less ss s (put_back s present) present e refl) ∙ same
      ∙ before_more fewer rs r (put_back r present) present f refl)

  pub one_back : put_back s present ≡ put_back r present
  one_back = both_back.1

  pub beside_less : (spare : Option Net) (before : Net) → before ≡ put_back r present → IsSameAs spare before
      → IsBeside spare less fewer before
  beside_less spare before is stands = record {
    same = stands;
    before = ap (networks_before less) (is ∙ sym one_back) ∙ both_back.0 ∙ ap (networks_before fewer) (sym is);
  }

-- where something was replaced of one, it was of the other
pub some_beside : (ss rs fewer : List Replaced) (r : Replaced) (present : Net) → networks_before ss present ≡ networks_before rs present
    → rs ≡ fewer ++ r ∷ [] → ss ≢ []
some_beside ss rs fewer r present same f = λ none. omega (
  arith,
  ap length none,
  ap length f,
  ap length same,
  length_push fewer r,
  count_before ss present,
  count_before rs present,
)

module _ {V : Type 0} (meaning : V → Meaning) where
  pub first_kept : (net : Net) (values : History V) → IsStored meaning [] net values → IsKept meaning [] net values
  first_kept net values stored = record { stored = stored; accepted = All-nil IsAccepted }

  pub kept_more : (rs more : List Replaced) (r : Replaced) (old net : Net) (was now : History V) → IsKept meaning rs old was
      → IsAccepted old → more ≡ rs ++ r ∷ [] → put_back r net ≡ old → now.kept ≡ was.kept ++ was.newest ∷ []
      → HoldsTable meaning net now.newest → IsKept meaning more net now
  kept_more rs more r old net was now kept accepted e back versions held =
      let nets = before_more rs more r old net e back in
      record {
        stored = stored_more meaning (networks_before rs old) (networks_before more net) old net was now kept.stored nets versions held;
        accepted = subst (All IsAccepted) (sym nets) (All-push IsAccepted (networks_before rs old) old kept.accepted accepted);
      }

  pub last_accepted : (rs fewer : List Replaced) (r : Replaced) (present : Net) (was : History V) → IsKept meaning rs present was
      → rs ≡ fewer ++ r ∷ [] → IsAccepted (put_back r present)
  last_accepted rs fewer r present was kept e =
      (All-pop IsAccepted (networks_before rs present) (networks_before fewer (put_back r present)) (Some (put_back r present))
      (before_more fewer rs r (put_back r present) present e refl) kept.accepted).1

  pub kept_less : (rs fewer : List Replaced) (r : Replaced) (present : Net) (was now : History V) → IsKept meaning rs present was
      → rs ≡ fewer ++ r ∷ [] → was.kept ≡ now.kept ++ now.newest ∷ [] → IsKept meaning fewer (put_back r present) now
  kept_less rs fewer r present was now kept e versions =
      let nets = before_more fewer rs r (put_back r present) present e refl in
      record {
        stored = stored_less meaning (networks_before rs present) (networks_before fewer (put_back r present)) present (put_back r present) was now
            kept.stored nets versions;
        accepted = (All-pop IsAccepted (networks_before rs present) (networks_before fewer (put_back r present))
            (Some (put_back r present)) nets kept.accepted).0;
      }

  -- ---- as a store is seen
  abbrev seen_as : List Replaced → Net → History V → Stored V
  seen_as rs net values = record { before = networks_before rs net; present = net; values = values }

  pub advanced : (seen : Stored V) (rs more : List Replaced) (r : Replaced) (old net : Net) (was now : History V)
      → seen_as rs old was ≡ seen → more ≡ rs ++ r ∷ [] → put_back r net ≡ old → now.kept ≡ was.kept ++ was.newest ∷ []
      → IsAdvanced seen net (seen_as more net now)
  advanced seen rs more r old net was now is e back versions = record {
    before = before_more rs more r old net e back ∙ ap (λ (s : Stored V). s.before ++ s.present ∷ []) is;
    present = refl;
    values = versions ∙ ap (λ (s : Stored V). s.values.kept ++ s.values.newest ∷ []) is;
  }

  pub gone_back : (seen : Stored V) (rs fewer : List Replaced) (r : Replaced) (present net : Net) (was now : History V)
      → seen_as rs present was ≡ seen → rs ≡ fewer ++ r ∷ [] → net ≡ put_back r present
      → was.kept ≡ now.kept ++ now.newest ∷ [] → IsBack seen (seen_as fewer net now)
  gone_back seen rs fewer r present net was now is e back versions = record {
    before = ap (λ (s : Stored V). s.before) (sym is) ∙ before_more fewer rs r net present e (sym back);
    values = ap (λ (s : Stored V). s.values.kept) (sym is) ∙ versions;
  }

-- ---- the last one
pub split_last : {X : Type 0} (xs : List X) (x : X) → slice_get xs (length xs - 1) ≡ Some x
    → xs ≡ take (length xs - 1) xs ++ x ∷ []
split_last xs x e =
    let within = slice_get_within xs (length xs - 1) x e in
    sym (take_all (length xs - 1 + 1) xs (omega (arith, within))) ∙ take_more xs (length xs - 1) x within
    ∙ ap (λ y. take (length xs - 1) xs ++ y ∷ []) (get_or_from_slice_get xs (length xs - 1) x x e)
