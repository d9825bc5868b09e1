-- Lists that are filled from the front: one law for a store, one for a part that was lent, one for what stands at each place at the end. Each takes
-- the list so far and its equation, so that a function is a chain of them. Assumes nothing.
use mathlib.Core.Path.{◌≡◌, refl, sym, ◌∙◌, ap}
use mathlib.Core.List.{List, [], ◌∷◌, ◌++◌, append_assoc}
use mathlib.Core.Logic.{⊎_elim}
use Prim.Native.Nat.{ℕ, zero, suc, ◌+◌, ◌-◌, ◌<◌, ◌≤◌}
use native.Mathlib.Omega.{arith}
use native.Mathlib.Numerals.{add-one}
use native.Mathlib.Nat.{add-suc, add-zero, eq-or-lt_of_le, le_of_suc-le-suc}
use lib.ListN.{length, get_or, set, take, drop, length-append, length-take, length-drop, get_or-append}
use lib.Seq.{drop-cons, set_at, drop-length, take_at, drop_at, drop-drop, get_or-append-add, get_or-drop, get_or-take, get_or_at}
use borrow.Rule.Slice.PartMut.{put_mid}
use Rattle.lists.specs.Fill.{tab, filled}

module _ {A : Type 0} where
  pub length-tab : (n : ℕ) (f : ℕ → A) → length (tab n f) ≡ n
  unfolding tab
  length-tab zero f = refl
  length-tab (suc n) f = length-append (tab n f) (f n ∷ []) ∙ omega (arith, length-tab n f)

  append-nil : (l : List A) → l ++ [] ≡ l
  append-nil [] = refl
  append-nil (x ∷ l) = ap (λ (t : List A). x ∷ t) (append-nil l)

  tab-suc : (n : ℕ) (f : ℕ → A) → tab (suc n) f ≡ tab n f ++ (f n ∷ [])
  unfolding tab
  tab-suc n f = refl

  pub filled_none : (f : ℕ → A) (xs : List A) → filled 0 f xs ≡ xs
  unfolding tab
  filled_none f xs = refl

  -- one more store, of what stands there: ys is the list so far
  pub filled_more : (n : ℕ) (f : ℕ → A) (xs ys : List A) (v d : A) → n < length xs → ys ≡ filled n f xs → v ≡ f n → set ys n v ≡ filled (n + 1) f xs
  filled_more n f xs ys v d h e u =
      (λ j. set (e j) n (u j))
      ∙ ap (λ (l : List A). set (tab n f ++ l) n (f n)) (drop-cons xs n d h)
      ∙ set_at (tab n f) (get_or xs n d) (drop (suc n) xs) (f n) n (length-tab n f)
      ∙ sym (rw (add-one, tab-suc, append_assoc))

  pub length-filled : (n : ℕ) (f : ℕ → A) (xs : List A) → n ≤ length xs → length (filled n f xs) ≡ length xs
  length-filled n f xs h = simp (length-append, length-tab, length-drop) (omega arith)

  -- the whole list is written
  pub filled-all : (n : ℕ) (f : ℕ → A) (xs : List A) → n ≡ length xs → filled n f xs ≡ tab (length xs) f
  filled-all n f xs e = rw (e, drop-length) (append-nil (tab (length xs) f))

  pub tab-same : (n : ℕ) (f g : ℕ → A) → ((i : ℕ) → i < n → f i ≡ g i) → tab n f ≡ tab n g
  unfolding tab
  tab-same zero f g h = refl
  tab-same (suc n) f g h =
      ap (λ (l : List A). l ++ (f n ∷ [])) (tab-same n f g (λ i k. h i (omega arith)))
      ∙ ap (λ (a : A). tab n g ++ (a ∷ [])) (h n (omega arith))

  tab-add : (m n : ℕ) (f : ℕ → A) → tab (m + n) f ≡ tab m f ++ tab n (λ i. f (m + i))
  unfolding tab
  tab-add m zero f = rw (add-zero) (sym (append-nil (tab m f)))
  tab-add m (suc n) f = rw (add-suc, tab-suc, tab-add m n f, append_assoc)

  -- a part that was lent comes back as n more entries from o on, which hold what stands there
  pub filled-piece : (o n : ℕ) (f g : ℕ → A) (xs ys row : List A) → o + n ≤ length ys → ys ≡ filled o f xs
      → row ≡ tab (length (take n (drop o ys))) g → ((i : ℕ) → i < n → g i ≡ f (o + i))
      → put_mid o n ys row ≡ filled (o + n) f xs
  filled-piece o n f g xs ys row room e u same =
      (λ j. put_mid o n (e j) (whole j))
      ∙ rw (
        take_at (tab o f) (drop o xs) o (length-tab o f),
        drop_at (tab o f) (drop o xs) o (length-tab o f),
        drop-drop n o xs,
        tab-same n g (λ i. f (o + i)) same,
        tab-add o n f,
        append_assoc,
      )
    where
      long : length (take n (drop o ys)) ≡ n
      long = simp (length-take, length-drop) (omega arith)

      whole : row ≡ tab n g
      whole = u ∙ ap (λ (m : ℕ). tab m g) long

  -- and as the code lends it, `&mut xs[o..e]`
  pub filled-part : (o e : ℕ) (f g : ℕ → A) (xs ys row : List A) → o ≤ e → e ≤ length ys → ys ≡ filled o f xs
      → row ≡ tab (length (take (e - o) (drop o ys))) g → ((i : ℕ) → i < e - o → g i ≡ f (o + i))
      → put_mid o (e - o) ys row ≡ filled e f xs
  filled-part o e f g xs ys row le room h u same =
      filled-piece o (e - o) f g xs ys row (omega arith) h u same ∙ ap (λ (m : ℕ). filled m f xs) (omega arith)

  -- the same, where the list is as long as it was
  pub filled_next : (o e : ℕ) (f g : ℕ → A) (xs ys row : List A) → o ≤ e → e ≤ length xs → ys ≡ filled o f xs
      → row ≡ tab (length (take (e - o) (drop o ys))) g → ((i : ℕ) → i < e - o → g i ≡ f (o + i))
      → put_mid o (e - o) ys row ≡ filled e f xs
  filled_next o e f g xs ys row le room h u same =
      filled-part o e f g xs ys row le (rw (ap length h ∙ length-filled o f xs (omega arith)) room) h u same

  pub filled-same : (n : ℕ) (f g : ℕ → A) (xs : List A) → ((i : ℕ) → i < n → f i ≡ g i) → filled n f xs ≡ filled n g xs
  filled-same n f g xs h = ap (λ (l : List A). l ++ drop n xs) (tab-same n f g h)

  -- a part that is lent to the end, `&xs[s..]`
  pub rest-length : (s : ℕ) (xs : List A) → length (take (length xs - s) (drop s xs)) ≡ length xs - s
  rest-length s xs = simp (length-take, length-drop) (omega arith)

  pub rest_at : (s : ℕ) (xs : List A) (i : ℕ) (d : A) → s + i < length xs → get_or (take (length xs - s) (drop s xs)) i d ≡ get_or xs (s + i) d
  rest_at s xs i d h = get_or-take (length xs - s) (drop s xs) i d (omega arith) ∙ get_or-drop s xs i d

  -- what holds of each of the first n entries holds of m that are lent from s on
  pub rest-each : (P : A → Type 0) (n m s : ℕ) (xs : List A) (d : A) → n ≤ length xs → s + m ≤ n → ((i : ℕ) → i < n → P (get_or xs i d))
      → (i : ℕ) → i < m → P (get_or (take (length xs - s) (drop s xs)) i d)
  rest-each P n m s xs d l r h i k = rw (rest_at s xs i d (omega arith)) (h (s + i) (omega arith))

  -- what stands where
  pub tab-at : (n : ℕ) (f : ℕ → A) (i : ℕ) (d : A) → i < n → get_or (tab n f) i d ≡ f i
  unfolding tab
  tab-at zero f i d h = absurd (omega arith)
  tab-at (suc n) f i d h =
      ⊎_elim
      (λ e. rw (e) (get_or_at (tab n f) (f n) [] d n (length-tab n f)))
      (λ l. get_or-append (tab n f) (f n ∷ []) d i (rw (length-tab) l) ∙ tab-at n f i d l)
      (eq-or-lt_of_le (le_of_suc-le-suc h))

  pub filled_at : (n : ℕ) (f : ℕ → A) (xs : List A) (i : ℕ) (d : A) → i < n → get_or (filled n f xs) i d ≡ f i
  filled_at n f xs i d h = get_or-append (tab n f) (drop n xs) d i (rw (length-tab) h) ∙ tab-at n f i d h

  pub filled-past : (n : ℕ) (f : ℕ → A) (xs : List A) (i : ℕ) (d : A) → n ≤ i → get_or (filled n f xs) i d ≡ get_or xs i d
  filled-past n f xs i d h =
      let k : i ≡ length (tab n f) + (i - n) = rw (length-tab) (omega arith) in
      ap (λ (j : ℕ). get_or (tab n f ++ drop n xs) j d) k
      ∙ get_or-append-add (tab n f) (drop n xs) (i - n) d
      ∙ get_or-drop n xs (i - n) d
      ∙ ap (λ (j : ℕ). get_or xs j d) (omega arith)
