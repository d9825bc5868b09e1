-- What the totals of the fast way stand for (document 01, Colour parameters).
use Rattle.std.specs.Prelude.{ℕ}
use Rattle.colour_terms.specs.Terms.{middle}
use Rattle.colour_samples.specs.declared.totals.Totals.{Totals}
use Rattle.colour_lines.specs.declared.long.LongTotals.{LongTotals}
use Rattle.colour_lines.specs.Fast.{nine_of}

-- the totals that those of the fast way stand for
abbrev pub as_totals : ℕ → LongTotals → Totals
as_totals D g = record { seen = g.seen; sums = nine_of (middle D) g.sums }
