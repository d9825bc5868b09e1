-- What the filling of a row asks of its closure, and what it promises, whatever the closure's entries are.
use Rattle.std.specs.Prelude.{◌≡◌, ℕ, ◌<◌, List}
use Rattle.lists.specs.Fill.{tab}

-- the closure may be called at each place of a row of n entries; `pre` says at which it may
abbrev pub TakesBelow : ℕ → (ℕ → Type 0) → Type 0
TakesBelow n pre = (i : ℕ) → i < n → pre i

-- the row has n entries, each what the closure gives of its place: they are g's, for any g that gives what the closure gives. `post i x` says that it may
-- give x of i
abbrev pub FilledBy : {A : Type 0} → ℕ → (ℕ → A → Type 0) → List A → Type 0
FilledBy {A} n post row = (g : ℕ → A) → ((i : ℕ) (x : A) → i < n → post i x → x ≡ g i) → row ≡ tab n g
