-- What is known where something was read.
use Rattle.std.proofs.Common.{◌≡◌, Bool, true, false, Option, Some, None, option_map, Result, Ok, Err, refl}
use Rattle.std.specs.Prelude.{ok_or, not, if◌then◌else◌}
use Rattle.std.specs.Option.{option_and_then}
use Rattle.document_rows.specs.declared.fault.Column.{Column}
use Rattle.document_rows.specs.Reads.{CellRead, and_then, at}

module _ {X Y E : Type 0} where
  -- one after the other
  pub both_read : (r : Result X E) (f : X → Result Y E) (y : Y) → and_then r f ≡ Ok y → (x : X) × (r ≡ Ok x) × (f x ≡ Ok y)
  both_read (Ok x) f y h = (x, refl, h)
  both_read (Err e) f y h = cc

  -- the same, for what follows from it
  pub read_then : {G : Type 0} (r : Result X E) (f : X → Result Y E) (y : Y) → and_then r f ≡ Ok y → ((x : X) → r ≡ Ok x → f x ≡ Ok y → G) → G
  read_then (Ok x) f y h go = go x refl h
  read_then (Err e) f y h go = absurd (cc)

module _ {X Y : Type 0} where
  pub both_some : (f : X → Option Y) (o : Option X) (y : Y) → option_and_then f o ≡ Some y → (x : X) × (o ≡ Some x) × (f x ≡ Some y)
  both_some f None y h = cc
  both_some f (Some x) y h = (x, refl, h)

  pub one_some : (f : X → Y) (o : Option X) (y : Y) → option_map f o ≡ Some y → (x : X) × (o ≡ Some x) × (f x ≡ y)
  one_some f None y h = cc
  one_some f (Some x) y h = (x, refl, cc)

module _ {X E : Type 0} where
  pub some_read : (o : Option X) (e : E) (x : X) → ok_or o e ≡ Ok x → o ≡ Some x
  some_read None e x h = cc
  some_read (Some y) e x h = cc

  -- neither refused
  pub not_refused : (b : Bool) (e : E) (r : Result X E) (x : X) → (if b then Err e else r) ≡ Ok x → (b ≡ false) × (r ≡ Ok x)
  not_refused true e r x h = cc
  not_refused false e r x h = (refl, h)

  pub not_denied : (b : Bool) (e : E) (r : Result X E) (x : X) → (if not b then Err e else r) ≡ Ok x → (b ≡ true) × (r ≡ Ok x)
  not_denied true e r x h = (refl, h)
  not_denied false e r x h = cc

  pub allowed : (b : Bool) (e : E) (r : Result X E) (x : X) → (if b then r else Err e) ≡ Ok x → (b ≡ true) × (r ≡ Ok x)
  allowed true e r x h = (refl, h)
  allowed false e r x h = cc

  pub same_read : (x y : X) → ◌≡◌ {A = Result X E} (Ok x) (Ok y) → x ≡ y
  same_read x y h = cc

pub some_if : {X : Type 0} (b : Bool) (o : Option X) (x : X) → (if b then o else None) ≡ Some x → (b ≡ true) × (o ≡ Some x)
some_if true o x h = (refl, h)
some_if false o x h = cc

pub some_unless : {X : Type 0} (b : Bool) (y x : X) → (if b then None else Some y) ≡ Some x → (b ≡ false) × (y ≡ x)
some_unless true y x h = cc
some_unless false y x h = (refl, cc)

pub inner : {X : Type 0} (x y : X) → Some x ≡ Some y → x ≡ y
inner x y h = cc

-- in the cell of a column
pub cell_read : {X : Type 0} (column : Column) (r : CellRead X) (x : X) → at column r ≡ Ok x → r ≡ Ok x
cell_read column (Ok y) x h = cc
cell_read column (Err wrong) x h = cc
