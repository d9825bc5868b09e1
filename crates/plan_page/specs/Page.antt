-- "A program reads such a file from standard input and prints, a line a job, its index and sixteen words in decimal, one space between, or else only the
-- refusal number." (document 02, request (iv)). A text is the list of its bytes, in ASCII.
use Rattle.std.specs.Prelude.{cond, List, [], ◌∷◌, ◌++◌, ℕ, zero, suc, ◌*◌, ltb, take, drop}
use Rattle.io.specs.Digits.{last_digits}
use Rattle.numbers.specs.Limits.{most_jobs}
use Rattle.numbers.specs.Answer.{answer_number, is_done, Answer}
use Rattle.block_image.specs.Image.{rows_in}
use Rattle.block_image.specs.Taken.{plan_of}
use Rattle.block_image.specs.Refusals.{file_answer}
use Rattle.block_image.specs.declared.format.Format.{Format}

abbrev pub space : ℕ
space = 32

abbrev pub line_end : ℕ
line_end = 10

-- how many digits a number below 100,000 takes: the fewest, and at least one
abbrev pub digits_in : ℕ → ℕ
digits_in n = cond (ltb n 10) 1 (cond (ltb n 100) 2 (cond (ltb n 1000) 3 (cond (ltb n 10000) 4 5)))

-- a number below 100,000 "in decimal"
unfoldable pub decimal : ℕ → List ℕ
decimal n = last_digits 10 (digits_in n) n

-- the words of a row, before each "one space"
unfoldable pub spaced : List ℕ → List ℕ
spaced [] = []
spaced (w ∷ row) = space ∷ (decimal w ++ spaced row)

-- the line of a job: "its index and sixteen words"
unfoldable pub line_of : ℕ → List ℕ → List ℕ
line_of i row = decimal i ++ (spaced row ++ (line_end ∷ []))

-- row i of a plan with so many words in a row
abbrev pub words_of_row : ℕ → List ℕ → ℕ → List ℕ
words_of_row words plan i = take words (drop (i * words) plan)

-- the lines of its first n rows: "a line a job"
unfoldable pub lines_to : ℕ → List ℕ → ℕ → List ℕ
lines_to words plan zero = []
lines_to words plan (suc n) = lines_to words plan n ++ line_of n (words_of_row words plan n)

-- and of all its rows
abbrev pub lines_of : Format → List ℕ → List ℕ
lines_of F plan = lines_to F.words plan (rows_in F plan)

-- what reading the file answers where there is room for every plan
abbrev pub answer_of_file : Format → List ℕ → Answer
answer_of_file F bytes = file_answer F bytes (most_jobs * F.words) 1

-- what is printed of a file
unfoldable pub page_of : Format → List ℕ → List ℕ
page_of F bytes =
    cond (is_done (answer_of_file F bytes)) (lines_of F (plan_of F bytes)) (decimal (answer_number (answer_of_file F bytes)) ++ (line_end ∷ []))
