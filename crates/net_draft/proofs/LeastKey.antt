-- The first unknown key of a table whose keys ascend is the least.
use Rattle.std.specs.Prelude.{◌≢◌, AllPairs, All, Contains, String, slice_index_or}
use Rattle.std.specs.List.{list_any, AllByRecursion}
use Rattle.std.specs.List.Sorted.{IsStrictlySortedBy}
use Rattle.std.specs.Map as map
use Rattle.std.specs.Str.{bytes_eq}
use Rattle.std.specs.String.{string_bytes, string_cmp}
use Rattle.std.specs.declared.alloc.Global.{Global}
use Rattle.std.specs.declared.cmp.Ordering.TheVariants.{Less}
use Rattle.std.proofs.Common.{◌≡◌, ℕ, zero, suc, ◌<◌, Bool, true, false, if◌then◌else◌, List, [], ◌∷◌, length, Ok, Err, refl, sym, ap, ◌∙◌, subst, arith, true≢false}
use Rattle.std.proofs.lemmas.List.Elements.{All-nil, All-cons}
use Rattle.std.proofs.lemmas.List.Kept.{AllPairs-cons}
use Rattle.toml.specs.Data.{no_members, member}
use Rattle.toml.specs.View.{members_view}
use Rattle.toml.specs.declared.value.Value.{Value}
use Rattle.net_model.specs.declared.fault.NetKind.TheVariants.{M3}
use Rattle.net_draft.specs.Faults.{Fault, Read, under}
use Rattle.net_draft.specs.KeyOrder.{keys_of, ComesBefore, KeysAscend, IsUnknown, NamesLeast, UnknownKeyIsLeast}
use Rattle.net_draft.specs.Keys.{only}

-- ---- the law
later_ascend : (k : List ℕ) (ks : List (List ℕ)) → AllPairs ComesBefore (k ∷ ks) → AllPairs ComesBefore ks
later_ascend k ks h = λ i j d lt within. h (suc i) (suc j) d (omega arith) (omega arith)

-- the first key comes before each other
first_before : (k : List ℕ) (ks : List (List ℕ)) → AllPairs ComesBefore (k ∷ ks) → (l : List ℕ) → Contains (k ∷ ks) l → l ≢ k → ComesBefore k l
first_before k ks h l has other = by has.0 has.1 has.2
  where
    by : (i : ℕ) → i < length (k ∷ ks) → slice_index_or (k ∷ ks) i l ≡ l → ComesBefore k l
    by zero within is = absurd (other (sym is))
    by (suc j) within is = subst (ComesBefore k) is (h 0 (suc j) l (omega arith) within)

-- an unknown key is none that is known
later : (known : List (List ℕ)) (k : List ℕ) (ks : List (List ℕ)) → list_any (bytes_eq k) known ≡ true → (l : List ℕ) → Contains (k ∷ ks) l → IsUnknown known l → Contains ks l
later known k ks e l has unknown = by has.0 has.1 has.2
  where
    by : (i : ℕ) → i < length (k ∷ ks) → slice_index_or (k ∷ ks) i l ≡ l → Contains ks l
    by zero within is = absurd (true≢false (sym (subst (λ t. list_any (bytes_eq t) known ≡ true) is e) ∙ unknown))
    by (suc j) within is = (j, omega arith, is)

no_fault : (g : Fault) → (let r : Read (Unit {0}) = Ok (tt {0}) in r) ≡ Err g → ⊥
no_fault g h = cc

pub unknown_key_is_least : UnknownKeyIsLeast
unknown_key_is_least known place no_members f asc h = absurd (no_fault f h)
unknown_key_is_least known place (member k d ms) f asc h = by (list_any (bytes_eq k) known) refl h (unknown_key_is_least known place ms f (later_ascend k (keys_of ms) asc))
  where
    found : Fault
    found = record { kind = M3; place = under place k }

    same : (g : Fault) → (let r : Read (Unit {0}) = Err found in r) ≡ Err g → found ≡ g
    same g h = cc

    on : list_any (bytes_eq k) known ≡ true → NamesLeast known place ms f → NamesLeast known place (member k d ms) f
    on e n = record {
      key = n.key;
      kind = n.kind;
      at = n.at;
      is_least = record {
        is_key = (suc n.is_least.is_key.0, omega (arith, n.is_least.is_key.1), n.is_least.is_key.2);
        unknown = n.is_least.unknown;
        least = λ l has unknown other. n.is_least.least l (later known k (keys_of ms) e l has unknown) unknown other;
      };
    }

    here : list_any (bytes_eq k) known ≡ false → found ≡ f → NamesLeast known place (member k d ms) f
    here e is = record {
      key = k;
      kind = sym (ap (λ (g : Fault). g.kind) is);
      at = sym (ap (λ (g : Fault). g.place) is);
      is_least = record {
        is_key = (0, omega arith, refl);
        unknown = e;
        least = λ l has unknown other. first_before k (keys_of ms) asc l has other;
      };
    }

    by : (b : Bool) → list_any (bytes_eq k) known ≡ b → (if b then only known place ms else Err found) ≡ Err f → (only known place ms ≡ Err f → NamesLeast known place ms f)
        → NamesLeast known place (member k d ms) f
    by true e g next = on e (next g)
    by false e g next = here e (same f g)

-- ---- the keys of a table that is read
after : (k : String Global) (es : List (String Global × Value)) → AllByRecursion (λ y. string_cmp k y ≡ Less) (map.keys_of es) → All (ComesBefore (string_bytes k)) (keys_of (members_view es))
after k [] h = All-nil (ComesBefore (string_bytes k))
after k (e ∷ es) h = All-cons (ComesBefore (string_bytes k)) (string_bytes e.0) (keys_of (members_view es)) h.0 (after k es h.1)

pub keys_ascend : (es : List (String Global × Value)) → IsStrictlySortedBy string_cmp (map.keys_of es) → KeysAscend (members_view es)
unfolding IsStrictlySortedBy
keys_ascend [] h = λ i j d lt within. absurd (omega arith)
keys_ascend (e ∷ es) h = AllPairs-cons ComesBefore (string_bytes e.0) (keys_of (members_view es)) (after e.0 es h.0) (keys_ascend es h.1)
