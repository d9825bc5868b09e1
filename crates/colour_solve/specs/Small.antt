-- 14 (document 01, Refusal numbers): how large the sums of a window may be.
use Rattle.std.specs.Prelude.{Bool, ◌&&◌, leb}
use Rattle.colour_samples.specs.Nine.{most_sum}
use Rattle.colour_samples.specs.declared.nine.Nine.{Nine}

-- "one of the nine colour sums exceeds 2,147,483,647"
unfoldable pub is_small : Nine → Bool
is_small s =
    leb s.a00 most_sum && leb s.a01 most_sum && leb s.a02 most_sum && leb s.a11 most_sum && leb s.a12 most_sum
    && leb s.a22 most_sum && leb s.y0 most_sum && leb s.y1 most_sum && leb s.y2 most_sum
