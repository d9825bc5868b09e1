-- The places of a window as lines, and what the code's functions over all of them do to the totals (document 01, Colour parameters).
use Rattle.std.specs.Prelude.{Bool, ◌&&◌, ℕ, ◌+◌, ◌-◌, ◌*◌, ◌^◌, ℤ}
use Rattle.numbers.specs.Depth.{most}
use Rattle.numbers.specs.declared.colour.ColourDirection.{ColourDirection}
use Rattle.colour_terms.specs.Terms.{stride}
use Rattle.colour_samples.specs.declared.totals.Totals.{Totals}
use Rattle.colour_samples.specs.Sample.{in_range_at}
use Rattle.colour_samples.specs.Took.{Took, empty}
use Rattle.colour_lines.specs.declared.lines.Lines.{Lines}
use Rattle.colour_sums.specs.declared.window.Window.{Window}
use Rattle.colour_sums.specs.Places.{walk, wide, high, rows_above, few}
use Rattle.colour_sums.specs.Sum.{one_more}

-- n columns from column 1 on of r rows from row m + 1 on, as lines: each row, or each column
abbrev pub by_rows : ℕ → ℕ → ℕ → Lines
by_rows m r n = record { at = (m + 1) * stride + 1; lines = r; apart = stride; places = n; step = 1 }

abbrev pub by_columns : ℕ → ℕ → ℕ → Lines
by_columns m r n = record { at = (m + 1) * stride + 1; lines = n; apart = 1; places = r; step = stride }

-- the places inside the above lines, and those below them
abbrev pub above_rows : Window → Lines
above_rows w = by_rows 0 (rows_above w) (wide w)

abbrev pub below_rows : Window → Lines
below_rows w = by_rows (rows_above w) (high w - rows_above w) (few w)

abbrev pub below_columns : Window → Lines
below_columns w = by_columns (rows_above w) (high w - rows_above w) (few w)

abbrev pub readable : ℕ → ColourDirection → (ℕ → ℕ → ℤ) → (ℕ → ℕ → ℤ) → ℕ → ℕ → Bool → Bool
readable M direction luma chroma x y ok = ok && in_range_at M direction luma chroma x y

-- all places of the window
abbrev pub TookAll : ℕ → ColourDirection → (ℕ → ℕ → ℤ) → (ℕ → ℕ → ℤ) → Window → Totals → Type 0
TookAll D direction luma chroma w r =
    Took D (walk w (readable (most D) direction luma chroma)) (walk w (one_more D direction luma chroma)) (2 ^ 41) empty r
