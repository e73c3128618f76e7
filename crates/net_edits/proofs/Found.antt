-- The numbers that names have.
use Rattle.std.proofs.Common.{◌≡◌, ◌≢◌, ℕ, suc, ◌<◌, List, [], ◌∷◌, ◌++◌, length, get_or, Option, Some, None, Bool, true, false, refl, sym, ap, ap₂, ◌∙◌, subst}
use Rattle.std.specs.Prelude.{Ok, Err, AllPairs, slice_get, is_none, not, string_bytes}
use Rattle.std.specs.List.{position}
use Rattle.std.proofs.lemmas.Option.{slice_get_within, get_or_from_slice_get, slice_get-get_or}
use Rattle.net_model.specs.declared.edit.PathEntry.{PathEntry}
use Rattle.net_model.specs.Networks.{Net, NetServer, NetFlow}
use Rattle.net_model.specs.Names.{DifferInName, IsServerNamed, IsFlowNamed, FindsServer, FindsFlow}
use Rattle.net_edits.specs.declared.fault.EditFault.{EditFault}
use Rattle.net_edits.specs.Refusals.{Or, unknown_name, and_then}
use Rattle.net_edits.specs.Lookups.{is_server_named, is_flow_named, number_of, server_number, flow_number, before, server_numbers, is_free}
use Rattle.net_edits.specs.Replies.{Refuses}
use Rattle.net_edits.proofs.Texts.{same_to, not_same, differ_of}
use Rattle.net_edits.proofs.Places.{found_is, none_is, none_passes}
use Rattle.net_edits.proofs.Steps.{then_refused, same_refused}

-- ---- servers
pub server_found : (net : Net) (name : List ℕ) (k : ℕ) → AllPairs (λ s t. s.name ≢ t.name) net.servers
    → IsServerNamed net.servers name k → server_number net name ≡ Ok k
server_found net name k pairs h =
    let at : get_or net.servers k h.server ≡ h.server = get_or_from_slice_get net.servers k h.server h.server h.is in
    let named : (get_or net.servers k h.server).name ≡ name = ap (λ (s : NetServer). s.name) at ∙ h.named in
    let within : k < length net.servers = slice_get_within net.servers k h.server h.is in
    ap (λ (o : Option ℕ). number_of o name)
    (found_is (is_server_named name) net.servers k h.server within (same_to (get_or net.servers k h.server).name name named)
    (λ j less. not_same (get_or net.servers j h.server).name name (λ e. pairs j k h.server less within (e ∙ sym named))))

pub server_unknown : (net : Net) (name : List ℕ) → FindsServer net.servers name None
    → server_number net name ≡ Err (unknown_name name)
server_unknown net name h =
    ap (λ (o : Option ℕ). number_of o name)
    (none_is (is_server_named name) net.servers (λ k d within.
    not_same (get_or net.servers k d).name name (λ e.
    h k (record { server = get_or net.servers k d; is = slice_get-get_or net.servers k d within; named = e }))))

-- ---- flows
named_place : (name : List ℕ) (o : Option NetFlow) (f : NetFlow) → o ≡ Some f → f.name ≡ name → is_flow_named name o ≡ true
named_place name o f is e = ap (is_flow_named name) is ∙ same_to f.name name e

other_place : (name : List ℕ) (o p : Option NetFlow) (f : NetFlow) → p ≡ Some f → f.name ≡ name → DifferInName o p
    → is_flow_named name o ≡ false
other_place name None p f is e d = refl
other_place name (Some g) p f is e d =
    let apart : DifferInName (Some g) (Some f) = subst (λ (q : Option NetFlow). DifferInName (Some g) q) is d in
    not_same g.name name (λ same. apart (same ∙ sym e))

flow_at_place : (net : Net) (name : List ℕ) (k : ℕ) → AllPairs DifferInName net.flows → IsFlowNamed net.flows name k
    → position (is_flow_named name) net.flows ≡ Some k
flow_at_place net name k pairs h =
    let d = Some h.flow in
    let at : get_or net.flows k d ≡ d = get_or_from_slice_get net.flows k d d h.is in
    let within : k < length net.flows = slice_get_within net.flows k d h.is in
    found_is (is_flow_named name) net.flows k d within (named_place name (get_or net.flows k d) h.flow at h.named)
    (λ j less. other_place name (get_or net.flows j d) (get_or net.flows k d) h.flow at h.named (pairs j k d less within))

pub flow_found : (net : Net) (name : List ℕ) (k : ℕ) → AllPairs DifferInName net.flows → IsFlowNamed net.flows name k
    → flow_number net name ≡ Ok k
flow_found net name k pairs h = ap (λ (o : Option ℕ). number_of o name) (flow_at_place net name k pairs h)

unnamed_place : (net : Net) (name : List ℕ) (k : ℕ) (o : Option NetFlow) → slice_get net.flows k ≡ Some o
    → FindsFlow net.flows name None → is_flow_named name o ≡ false
unnamed_place net name k None at h = refl
unnamed_place net name k (Some g) at h = not_same g.name name (λ e. h k (record { flow = g; is = at; named = e }))

pub no_flow : (net : Net) (name : List ℕ) → FindsFlow net.flows name None → (k : ℕ) (d : Option NetFlow)
    → k < length net.flows → is_flow_named name (get_or net.flows k d) ≡ false
no_flow net name h k d within = unnamed_place net name k (get_or net.flows k d) (slice_get-get_or net.flows k d within) h

pub flow_unknown : (net : Net) (name : List ℕ) → FindsFlow net.flows name None
    → flow_number net name ≡ Err (unknown_name name)
flow_unknown net name h =
    ap (λ (o : Option ℕ). number_of o name) (none_is (is_flow_named name) net.flows (no_flow net name h))

-- ---- names that are free
pub free_differs : (net : Net) (f : NetFlow) → is_free net f.name ≡ true → (k : ℕ) (d : Option NetFlow)
    → k < length net.flows → DifferInName (get_or net.flows k d) (Some f)
free_differs net f free k d within = by (get_or net.flows k d) (none_passes (is_flow_named f.name) net.flows free k d within)
  where
    by : (o : Option NetFlow) → is_flow_named f.name o ≡ false → DifferInName o (Some f)
    by None e = tt
    by (Some g) e = differ_of g.name f.name e

pub not_not : (b : Bool) → not (not b) ≡ b
not_not true = refl
not_not false = refl

pub free_told : (net : Net) (name : List ℕ) (found : Option ℕ) → AllPairs DifferInName net.flows
    → FindsFlow net.flows name found → is_none found ≡ is_free net name
free_told net name None pairs h = ap (λ (o : Option ℕ). is_none o) (sym (none_is (is_flow_named name) net.flows (no_flow net name h)))
free_told net name (Some k) pairs h = ap (λ (o : Option ℕ). is_none o) (sym (flow_at_place net name k pairs h))

-- ---- the servers of a path
joined : Or (List ℕ) → Or (List ℕ) → Or (List ℕ)
joined (Ok ss) r = and_then r (λ ts. Ok (ss ++ ts))
joined (Err refusal) r = Err refusal

joined_none : (r : Or (List ℕ)) → r ≡ joined (Ok []) r
unfolding joined
joined_none (Ok ts) = refl
joined_none (Err refusal) = refl

joined_first : (n : Or ℕ) (a b : Or (List ℕ))
    → and_then n (λ k. before k (joined a b)) ≡ joined (and_then n (λ k. before k a)) b
unfolding joined
joined_first (Ok k) (Ok ss) (Ok ts) = refl
joined_first (Ok k) (Ok ss) (Err refusal) = refl
joined_first (Ok k) (Err refusal) b = refl
joined_first (Err refusal) a b = refl

module _ (net : Net) where
  first_of : PathEntry → Or ℕ
  first_of entry = server_number net (string_bytes entry.server)

  numbers-append : (xs ys : List PathEntry)
      → server_numbers net (xs ++ ys) ≡ joined (server_numbers net xs) (server_numbers net ys)
  numbers-append [] ys = joined_none (server_numbers net ys)
  numbers-append (x ∷ xs) ys =
      ap (λ (r : Or (List ℕ)). and_then (server_number net (string_bytes x.server)) (λ k. before k r)) (numbers-append xs ys)
      ∙ joined_first (server_number net (string_bytes x.server)) (server_numbers net xs) (server_numbers net ys)

  one_number : (entry : PathEntry) (s : ℕ) → server_number net (string_bytes entry.server) ≡ Ok s
      → server_numbers net (entry ∷ []) ≡ Ok (s ∷ [])
  one_number entry s e = ap (λ (r : Or ℕ). and_then r (λ k. before k (Ok []))) e

  pub numbers_more : (front : List PathEntry) (entry : PathEntry) (ss : List ℕ) (s : ℕ) → server_numbers net front ≡ Ok ss
      → server_number net (string_bytes entry.server) ≡ Ok s
      → server_numbers net (front ++ entry ∷ []) ≡ Ok (ss ++ s ∷ [])
  unfolding joined
  numbers_more front entry ss s h e = numbers-append front (entry ∷ []) ∙ ap₂ joined h (one_number entry s e)

  pub numbers_refused : (front : List PathEntry) (entry : PathEntry) (rest : List PathEntry) (ss : List ℕ) (fault : EditFault)
      → server_numbers net front ≡ Ok ss → Refuses (server_number net (string_bytes entry.server)) fault
      → Refuses (server_numbers net (front ++ entry ∷ rest)) fault
  unfolding joined
  numbers_refused front entry rest ss fault h refused =
      let all : server_numbers net (front ++ entry ∷ rest) ≡ and_then (server_numbers net (entry ∷ rest)) (λ ts. Ok (ss ++ ts)) =
      numbers-append front (entry ∷ rest) ∙ ap (λ (r : Or (List ℕ)). joined r (server_numbers net (entry ∷ rest))) h in
      same_refused (server_numbers net (front ++ entry ∷ rest)) (and_then (server_numbers net (entry ∷ rest)) (λ ts. Ok (ss ++ ts)))
      fault all
      (then_refused (server_numbers net (entry ∷ rest)) (λ ts. Ok (ss ++ ts)) fault
      (then_refused (server_number net (string_bytes entry.server)) (λ k. before k (server_numbers net rest)) fault refused))

  -- as many as there are entries
  pub numbers_long : (path : List PathEntry) (ss : List ℕ) → server_numbers net path ≡ Ok ss → length ss ≡ length path
  numbers_long [] ss e = let none : [] ≡ ss = cc in sym (ap length none)
  numbers_long (x ∷ xs) ss e =
      by (server_number net (string_bytes x.server)) (server_numbers net xs) (numbers_long xs) ss e
    where
      by : (n : Or ℕ) (r : Or (List ℕ)) → ((ts : List ℕ) → r ≡ Ok ts → length ts ≡ length xs) → (all : List ℕ)
          → and_then n (λ k. before k r) ≡ Ok all → length all ≡ suc (length xs)
      by (Ok k) (Ok ts) ih all h = let same : (k ∷ ts) ≡ all = cc in sym (ap length same) ∙ ap suc (ih ts refl)
      by (Ok k) (Err refusal) ih all h = absurd (let bad : ⊥ = cc in bad)
      by (Err refusal) r ih all h = absurd (let bad : ⊥ = cc in bad)
