-- Where places of lines stand in the lists of a reference window (document 01, Colour parameters).
use Rattle.std.specs.Prelude.{List, ℕ, ◌+◌, ◌-◌, ◌*◌, ◌^◌, ◌≤◌, ◌<◌, ℤ, length}
use Rattle.colour_lines.specs.declared.lines.Lines.{Lines}

-- n places, of which the first has its centre at entry p, stand in the lists
pub record HeldPlaces (q p n step : ℕ) (luma chroma : List ℤ) : Type 0 where
  pub before : q ≤ p
  pub near : p < 2 ^ 17
  pub short : n ≤ 254
  pub reads : (i : ℕ) → i < n → (p + i * step < 65536) × (p + i * step < length luma) × (p + i * step < length chroma)

-- lines of places stand in the lists
pub record Grid (l : Lines) (back : ℕ) (luma chroma : List ℤ) : Type 0 where
  pub before : back ≤ l.at
  pub few : l.lines ≤ 254
  pub short : l.places ≤ 254
  pub line : (j : ℕ) → j < l.lines → HeldPlaces (l.at + j * l.apart - back) (l.at + j * l.apart) l.places l.step luma chroma
