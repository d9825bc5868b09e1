-- What a call leaves in the lists that it was lent, in every file's case.
use Rattle.std.specs.Prelude.{List, ◌++◌, ℕ, ◌*◌, length, drop}
use Rattle.refusals.specs.Promise.{lent, Promise}
use Rattle.lists.specs.Fill.{filled}
use Rattle.block_image.specs.Taken.{rows_of, word_at}
use Rattle.block_image.specs.declared.format.Format.{Format}
use Rattle.plan_page.specs.Page.{answer_of_file, page_of}

-- the two that a call is lent: for the plan's words, and for the text
pub record PageLists : Type 0 where
  pub rows : List ℕ
  pub text : List ℕ

abbrev pub page_lists : List ℕ → List ℕ → PageLists
page_lists ws ts = record { rows = ws; text = ts }

-- the plan's words, or nothing new where the file is refused; and the page. What follows each is as it was
abbrev pub shown : Format → List ℕ → PageLists → PageLists
shown F bytes before =
    page_lists (lent (answer_of_file F bytes) (filled (rows_of F bytes * F.words) (word_at F bytes) before.rows) before.rows)
    (page_of F bytes ++ drop (length (page_of F bytes)) before.text)

-- r is the length of the page
abbrev pub ShowPage : Format → List ℕ → PageLists → PageLists → ℕ → Type 0
ShowPage F bytes before after r = Promise (length (page_of F bytes)) (shown F bytes before) r after
