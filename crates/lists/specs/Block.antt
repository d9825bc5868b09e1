-- Blocks of samples in a lent output: row after row, and what follows them is as it was.
use Rattle.std.specs.Prelude.{ℕ, ◌*◌, ◌/◌, ◌%◌, List, ℤ, Float}
use Rattle.std.specs.Float.{binary32}
use Rattle.std.specs.Float.Ieee.{of_int}
use Rattle.lists.specs.Fill.{filled}

-- entry i of rows of w entries is f's at row i / w and column i % w
abbrev pub rows : {A : Type 0} → ℕ → (ℕ → ℕ → A) → ℕ → A
rows w f i = f (i / w) (i % w)

-- a whole number as a sample of f32
abbrev pub sample : ℤ → Float
sample z = of_int binary32 z

-- h rows of w samples: place (r, c), which is entry r w + c, is the sample p r c. What follows them is as it was
unfoldable pub block : ℕ → ℕ → (ℕ → ℕ → ℤ) → List Float → List Float
block w h p out = filled (h * w) (rows w (λ r c. sample (p r c))) out
