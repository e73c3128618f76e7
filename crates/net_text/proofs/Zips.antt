-- Two lists side by side, as a loop builds one from the other.
use Rattle.std.specs.Prelude.{All, AllPairs, slice_get}
use Rattle.std.specs.List.{AllZip}
use Rattle.std.proofs.Common.{◌≡◌, ℕ, zero, suc, ◌+◌, ◌≤◌, ◌<◌, List, [], ◌∷◌, ◌++◌, length, map, get_or, take, Some, refl, sym, ap, ◌∙◌, subst, arith}
use Rattle.std.proofs.lemmas.List.{take_more, take_all, map_push}
use Rattle.std.proofs.lemmas.List.Elements.{All-nil, All-cons, All-head, All-tail}
use Rattle.std.proofs.lemmas.List.Kept.{AllPairs-cons}
use Rattle.std.proofs.lemmas.Option.{none-some, same_Some}

-- one more text
pub texts_pushed : {D T : Type 0} (text : D → T) (ds : List D) (i : ℕ) (d : D) → i < length ds → d ≡ get_or ds i d → map text (take (i + 1) ds) ≡ map text (take i ds) ++ text d ∷ []
texts_pushed text ds i d within is = ap (map text) (take_more ds i d within ∙ ap (λ x. take i ds ++ x ∷ []) (sym is)) ∙ map_push text (take i ds) d

module _ {T N : Type 0} (R : T → N → Type 0) where
  zip_push : (ts : List T) (ns : List N) (t : T) (n : N) → AllZip R ts ns → R t n → AllZip R (ts ++ t ∷ []) (ns ++ n ∷ [])
  zip_push [] [] t n h r = (r, tt)
  zip_push [] (y ∷ ys) t n h r = absurd h
  zip_push (x ∷ xs) [] t n h r = absurd h
  zip_push (x ∷ xs) (y ∷ ys) t n h r = (h.0, zip_push xs ys t n h.1 r)

  pub zip_more : {D : Type 0} (text : D → T) (ds : List D) (i : ℕ) (d : D) (ns : List N) (n : N) → i < length ds → d ≡ get_or ds i d → AllZip R (map text (take i ds)) ns → R (text d) n
      → AllZip R (map text (take (i + 1) ds)) (ns ++ n ∷ [])
  zip_more text ds i d ns n within is h r =
      subst (λ l. AllZip R l (ns ++ n ∷ [])) (sym (texts_pushed text ds i d within is)) (zip_push (map text (take i ds)) ns (text d) n h r)

  pub zip_whole : {D : Type 0} (text : D → T) (ds : List D) (i : ℕ) (ns : List N) → length ds ≤ i → AllZip R (map text (take i ds)) ns → AllZip R (map text ds) ns
  zip_whole text ds i ns past h = subst (λ l. AllZip R (map text l) ns) (take_all i ds past) h

  pub zip_unmap : {D : Type 0} (text : D → T) (ds : List D) (ns : List N) → AllZip R (map text ds) ns → AllZip (λ d n. R (text d) n) ds ns
  zip_unmap text [] [] h = tt
  zip_unmap text [] (n ∷ ns) h = absurd h
  zip_unmap text (d ∷ ds) [] h = absurd h
  zip_unmap text (d ∷ ds) (n ∷ ns) h = (h.0, zip_unmap text ds ns h.1)

  pub zip_length : (ts : List T) (ns : List N) → AllZip R ts ns → length ns ≡ length ts
  zip_length [] [] h = refl
  zip_length [] (n ∷ ns) h = absurd h
  zip_length (t ∷ ts) [] h = absurd h
  zip_length (t ∷ ts) (n ∷ ns) h = ap suc (zip_length ts ns h.1)

  -- the partner of the element at a place
  pub record Partner (ns : List N) (i : ℕ) (t : T) : Type 0 where
    pub other : N
    pub is : slice_get ns i ≡ Some other
    pub related : R t other

  pub partner : (ts : List T) (ns : List N) (i : ℕ) (t : T) → AllZip R ts ns → slice_get ts i ≡ Some t → Partner ns i t
  partner [] ns i t h g = absurd (none-some t g)
  partner (x ∷ xs) [] i t h g = absurd h
  partner (x ∷ xs) (n ∷ ns) zero t h g = record { other = n; is = refl; related = subst (λ y. R y n) (same_Some x t g) h.0 }
  partner (x ∷ xs) (n ∷ ns) (suc i) t h g =
      let p = partner xs ns i t h.1 g in
      record { other = p.other; is = p.is; related = p.related }

  -- what holds of each element on the one side holds of each on the other
  pub zip_all : (P : T → Type 0) (Q : N → Type 0) → ((t : T) (n : N) → P t → R t n → Q n) → (ts : List T) (ns : List N) → All P ts → AllZip R ts ns → All Q ns
  zip_all P Q k [] [] a h = All-nil Q
  zip_all P Q k [] (n ∷ ns) a h = absurd h
  zip_all P Q k (t ∷ ts) [] a h = absurd h
  zip_all P Q k (t ∷ ts) (n ∷ ns) a h = All-cons Q n ns (k t n (All-head P t ts a) h.0) (zip_all P Q k ts ns (All-tail P t ts a) h.1)

  pub zip_pairs : (P : T → T → Type 0) (Q : N → N → Type 0) → ((t u : T) (m n : N) → R t m → R u n → P t u → Q m n) → (ts : List T) (ns : List N) → AllPairs P ts → AllZip R ts ns → AllPairs Q ns
  zip_pairs P Q k [] [] a h = λ i j d lt within. absurd (omega arith)
  zip_pairs P Q k [] (n ∷ ns) a h = absurd h
  zip_pairs P Q k (t ∷ ts) [] a h = absurd h
  zip_pairs P Q k (t ∷ ts) (n ∷ ns) a h =
      let first : All (P t) ts = λ j d within. a 0 (suc j) d (omega arith) (omega arith) in
      let later : AllPairs P ts = λ i j d lt within. a (suc i) (suc j) d (omega arith) (omega arith) in
      AllPairs-cons Q n ns (zip_all (P t) (Q n) (λ u m p r. k t u n m h.0 r p) ts ns first h.1) (zip_pairs P Q k ts ns later h.1)

  -- where the one side settles the other, there is one list beside it
  pub zip_one : ((t : T) (m n : N) → R t m → R t n → m ≡ n) → (ts : List T) (ms ns : List N) → AllZip R ts ms → AllZip R ts ns → ms ≡ ns
  zip_one k [] [] [] g h = refl
  zip_one k [] (m ∷ ms) ns g h = absurd g
  zip_one k [] [] (n ∷ ns) g h = absurd h
  zip_one k (t ∷ ts) [] ns g h = absurd g
  zip_one k (t ∷ ts) (m ∷ ms) [] g h = absurd h
  zip_one k (t ∷ ts) (m ∷ ms) (n ∷ ns) g h =
      let first : m ≡ n = k t m n g.0 h.0 in
      let rest : ms ≡ ns = zip_one k ts ms ns g.1 h.1 in
      ap (λ x. x ∷ ms) first ∙ ap (λ l. n ∷ l) rest
