-- Limits (document 01, Ranges and numbers that name things): an associated constant each in the code, and once here in what a reader must believe. The
-- needs of inner functions have them as numerals.
use Rattle.std.specs.Prelude.{ℕ}

-- "A plane is W by H samples of f32, W and H from 4 to 4,096." `Plane::LEAST`, `Plane::MOST`
abbrev pub least_side : ℕ
least_side = 4

abbrev pub most_side : ℕ
most_side = 4096

-- "A plan has 0 to 1,024 jobs." `Plan::MOST`
abbrev pub most_jobs : ℕ
most_jobs = 1024

-- "A job is a row of sixteen 16-bit words" `Word::COUNT` of row_words
abbrev pub row_words : ℕ
row_words = 16

-- "an edge output under 128" `Size::REF_CAP`
abbrev pub ref_cap : ℕ
ref_cap = 128
