-- What the code's functions over lines of places do to the totals (document 01, Colour parameters), each by the test and the sums of its places, which
-- are told by their entries of the lists.
use Rattle.std.specs.Prelude.{Bool, ◌&&◌, List, ℕ, ◌+◌, ◌-◌, ◌*◌, ◌^◌, ℤ, pos, nat_abs, get_or}
use Rattle.numbers.specs.Depth.{most}
use Rattle.colour_samples.specs.declared.nine.Nine.{Nine}
use Rattle.colour_samples.specs.declared.totals.Totals.{Totals}
use Rattle.colour_samples.specs.declared.sample.Sample.{Sample}
use Rattle.colour_samples.specs.Sample.{in_range, terms}
use Rattle.colour_samples.specs.Nine.{added}
use Rattle.colour_samples.specs.Took.{Took}
use Rattle.colour_lines.specs.declared.lines.Lines.{Lines}
use Rattle.colour_lines.specs.Fold.{fold}

-- by entries of the lists: the direction's luma at entry q, the centre and chroma at entry p
abbrev pub sample_at : List ℤ → List ℤ → ℕ → ℕ → Sample
sample_at luma chroma q p = record { own = get_or luma q (pos 0); centre = get_or luma p (pos 0); chroma = get_or chroma p (pos 0) }

abbrev pub read_at : ℕ → List ℤ → List ℤ → ℕ → ℕ → Bool → Bool
read_at M luma chroma q p ok = ok && in_range M (get_or luma q (pos 0)) (get_or luma p (pos 0)) (get_or chroma p (pos 0))

abbrev pub more_at : ℕ → List ℤ → List ℤ → ℕ → ℕ → Nine → Nine
more_at D luma chroma q p s = added s (terms D (get_or luma q (pos 0)) (get_or luma p (pos 0))) (nat_abs (get_or chroma p (pos 0)))

-- n places, of which the first has its centre at entry p
abbrev pub TookLine : ℕ → List ℤ → List ℤ → ℕ → ℕ → ℕ → ℕ → Totals → Totals → Type 0
TookLine D luma chroma q p n step g r =
    Took D
    (fold n (λ i ok. read_at (most D) luma chroma (q + i * step) (p + i * step) ok))
    (fold n (λ i s. more_at D luma chroma (q + i * step) (p + i * step) s))
    (n * (4095 * 4095)) g r

-- f at the entries of each place of line j, and of the first n lines
abbrev pub over_line : {A : Type 0} → Lines → ℕ → (ℕ → ℕ → A → A) → ℕ → A → A
over_line l back f j a = fold l.places (λ i b. f (l.at + j * l.apart - back + i * l.step) (l.at + j * l.apart + i * l.step) b) a

abbrev pub over_lines : {A : Type 0} → ℕ → Lines → ℕ → (ℕ → ℕ → A → A) → A → A
over_lines n l back f a = fold n (over_line l back f) a

abbrev pub TookLines : ℕ → List ℤ → List ℤ → ℕ → Lines → Totals → Totals → Type 0
TookLines D luma chroma back l g r =
    Took D (over_lines l.lines l back (read_at (most D) luma chroma)) (over_lines l.lines l back (more_at D luma chroma)) (2 ^ 40) g r
