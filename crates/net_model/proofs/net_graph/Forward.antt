-- In an order each server stands once, and after those that some flow passes right before it.
use Rattle.std.proofs.Common.{◌≡◌, ℕ, ◌<◌, ◌≤◌, ◌+◌, List, [], ◌∷◌, ◌++◌, length, get_or, take, refl, ◌∙◌, subst, arith, inl, inr, Bool, true, false, nat_eq, eqb-true}
use Rattle.std.specs.Prelude.{Contains, All}
use Rattle.std.specs.List.{IsDistinct, list_any}
use Rattle.std.proofs.lemmas.List.{get_or_default}
use Rattle.std.proofs.lemmas.Map.Keys.{IsDistinct-from_apart, IsDistinct-push}
use Rattle.std.proofs.lemmas.Map.Steps.{length-le_from_distinct_below}
use Rattle.std.proofs.lemmas.Cmp.{nat_eq_equiv}
use Rattle.std.proofs.lemmas.List.{length-append}
use Rattle.net_model.specs.Networks.{Net}
use Rattle.net_model.specs.Orders.{IsReady, IsOrder}
use Rattle.net_model.specs.net_graph.OrderLaws.{OrderHasEachServer, OrderGoesForward}
use Rattle.net_model.proofs.net_graph.Members.{Stands, place_of, is_member, no_member, member, pushed, before_place}

-- the server at a place was ready there
pub ready_at : (net : Net) (xs : List ℕ) (k : ℕ) → IsOrder net xs → k < length xs → IsReady net (take k xs) (get_or xs k 0)
ready_at net xs k o h = (o.each k h).meets

pub goes_forward : OrderGoesForward
goes_forward net xs a b k o step h is =
    let P : ℕ → Type 0 = λ s. IsReady net (take k xs) s in
    (subst P is (ready_at net xs k o h)).waits_for_none a step

apart : (net : Net) (xs : List ℕ) → IsOrder net xs → (i j d : ℕ) → i < j → j < length xs → nat_eq (get_or xs i d) (get_or xs j d) ≡ false
apart net xs o i j d before h = differ (nat_eq (get_or xs i d) (get_or xs j d)) refl
  where
    differ : (b : Bool) → nat_eq (get_or xs i d) (get_or xs j d) ≡ b → b ≡ false
    differ false e = refl
    differ true e =
        let within : i < length xs = omega arith in
        let same : get_or xs i 0 ≡ get_or xs j 0 =
        get_or_default xs i 0 d within ∙ eqb-true _ _ e ∙ get_or_default xs j d 0 h in
        let early : j ≤ length xs = omega arith in
        absurd ((ready_at net xs j o h).free (before_place xs i j (get_or xs j 0) before early same))

pub all_below : (net : Net) (xs : List ℕ) → IsOrder net xs → All (λ s. s < length net.servers) xs
all_below net xs o k d h =
    let P : ℕ → Type 0 = λ s. s < length net.servers in
    subst P (get_or_default xs k 0 d h) (ready_at net xs k o h).in_range

pub has_each_server : OrderHasEachServer
has_each_server net xs o = record {
  in_range = all_below net xs o;
  once = once;
  each = λ s h. elim (member xs s) [ inl c ↦ c | inr c ↦ absurd (crowded s h c) ];
}
  where
    once : IsDistinct nat_eq xs
    once = IsDistinct-from_apart nat_eq xs (apart net xs o)

    below_at : (q : ℕ) → Stands xs q → q < length net.servers
    below_at q st =
        let P : ℕ → Type 0 = λ t. t < length net.servers in
        subst P st.is (all_below net xs o st.place 0 st.within)

    small : (s : ℕ) → s < length net.servers → (q : ℕ) → Contains (xs ++ s ∷ []) q → q < length net.servers
    small s h q c = elim (pushed xs s q c) [ inl m ↦ below_at q (place_of xs q m) | inr e ↦ omega arith ]

    -- one more server would be one too many
    crowded : (s : ℕ) → s < length net.servers → ¬ (Contains xs s) → ⊥
    crowded s h c =
        let below : (q : ℕ) → list_any (nat_eq q) (xs ++ s ∷ []) ≡ true → q < length net.servers = λ q m. small s h q (is_member (xs ++ s ∷ []) q m) in
        let few = length-le_from_distinct_below (xs ++ s ∷ []) (length net.servers) (IsDistinct-push nat_eq_equiv xs s once (no_member xs s c)) below in
        let most : length xs + 1 ≤ length net.servers = rw (← length-append xs (s ∷ [])) few in
        omega (arith, o.all)
