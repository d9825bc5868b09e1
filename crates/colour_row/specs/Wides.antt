-- What the tables of a block's parameters hold.
use Rattle.std.specs.Prelude.{◌≡◌, false, List, ℤ}
use Rattle.product_table.specs.Wide.{WideTable}
use Rattle.colour_row.specs.declared.mix.Mix.{Mix}

-- both parameters' tables
pub record Both (k : Mix) (t0 t1 : List ℤ) : Type 0 where
  pub first : WideTable k.p0 t0
  pub second : WideTable k.p1 t1

-- where the short product does not serve they are there
abbrev pub Wides : Mix → List ℤ → List ℤ → Type 0
Wides k t0 t1 = k.short ≡ false → Both k t0 t1
