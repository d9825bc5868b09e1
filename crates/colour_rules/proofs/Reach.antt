-- The area of luma that a block needs, entry by entry: each of its entries is needed at some place, and what a place needs lies in it. Assumes nothing.
use mathlib.Core.Path.{◌≡◌, refl}
use mathlib.Core.Bool.{Bool, true, false}
use mathlib.Core.Logic.{◌⊎◌, inl, inr}
use Prim.Native.Nat.{ℕ, zero, suc, ◌+◌, ◌-◌, ◌*◌, ◌≤◌, ◌<◌}
use native.Mathlib.Omega.{arith}
use Rattle.numbers.specs.Colour.{the_colour, rows_up, columns_left}
use Rattle.numbers.specs.declared.colour.ColourDirection.{ColourDirection}
use Rattle.numbers.specs.declared.colour.ColourDirection.TheVariants.{Centre, Above, Left}
use Rattle.colour_terms.specs.Terms.{stride}
use Rattle.colour_rules.specs.Needed.{Place, before, centre_at, direction_at}
use Rattle.colour_rules.specs.Area.{up_of, beside_of}
use Rattle.colour_rules.specs.Placed.{InReference}
use Rattle.colour_rules.specs.declared.block.Block.{Block}
use Rattle.colour_rules.proofs.Before.{stays, inner}
use Rattle.colour_rules.proofs.Bounds.{reach, no-reach, reach-most}

-- a place as an entry of the list
abbrev pub entry_of : Place → ℕ
entry_of p = p.y * stride + p.x

module _ (b : Block) where
  abbrev top : ℕ
  top = b.above_lines

  abbrev left : ℕ
  left = b.left_lines

  -- where the area starts, u rows above the block and e columns before it
  abbrev pub cell : ℕ → ℕ → ℕ → ℕ → ℕ
  cell u e y x = (top - u) * stride + (left - e) + y * stride + x

  -- an entry that is needed, by the direction's place d
  pub record Wanted (d : ℕ → ℕ → Place) (p : ℕ) : Type 0 where
    pub i : ℕ
    pub j : ℕ
    pub wide : i < b.width
    pub high : j < b.height
    pub is : (p ≡ entry_of (centre_at b i j)) ⊎ (p ≡ entry_of (d i j))

  -- an entry of the area
  pub record Within (u e p : ℕ) : Type 0 where
    pub y : ℕ
    pub x : ℕ
    pub wide : x < b.width + e
    pub high : y < b.height + u
    pub is : p ≡ cell u e y x

  -- the direction's place, by what is there
  abbrev place_by : ColourDirection → Bool → Bool → ℕ → ℕ → Place
  place_by c t l i j = record { x = before l left (columns_left c) i; y = before t top (rows_up c) j }

module _ (b : Block) (n : ℕ) (g : InReference b n) where
  centred : (d : ℕ → ℕ → Place) (u e y x : ℕ) → u ≡ 0 → e ≡ 0 → y < b.height + u → x < b.width + e → Wanted b d (cell b u e y x)
  centred d u e y x z w p q = record { i = x; j = y; wide = omega arith; high = omega arith; is = inl (omega arith) }

  wanted : (c : ColourDirection) (t l : Bool) → (t ≡ true → 1 ≤ top b) → (l ≡ true → 1 ≤ left b) → (y x : ℕ)
      → y < b.height + reach t (rows_up c) → x < b.width + reach l (columns_left c)
      → Wanted b (place_by b c t l) (cell b (reach t (rows_up c)) (reach l (columns_left c)) y x)
  wanted Centre t l a e y x p q = centred _ _ _ y x (no-reach t) (no-reach l) p q
  wanted Above true l a e zero x p q =
      let z = no-reach l in
      record { i = x; j = 0; wide = omega arith; high = omega (arith, g.high); is = inr (omega (arith, stays l (left b) x)) }
  wanted Above true l a e (suc y) x p q =
      let z = no-reach l in
      let k = a refl in
      record { i = x; j = y; wide = omega arith; high = omega arith; is = inl (omega arith) }
  wanted Above false l a e y x p q = centred _ _ _ y x refl (no-reach l) p q
  wanted Left t true a e y zero p q =
      let z = no-reach t in
      record { i = 0; j = y; wide = omega (arith, g.wide); high = omega arith; is = inr (omega (arith, stays t (top b) y)) }
  wanted Left t true a e y (suc x) p q =
      let z = no-reach t in
      let k = e refl in
      record { i = x; j = y; wide = omega arith; high = omega arith; is = inl (omega arith) }
  wanted Left t false a e y x p q = centred _ _ _ y x (no-reach t) refl p q

  -- what stands at a row y and a column x from the block's own corner on, as the area has it
  inside-at : (u e : ℕ) → u ≤ top b → e ≤ left b → (y x p : ℕ) → x < b.width → y < b.height → p ≡ (top b + y) * stride + (left b + x) → Within b u e p
  inside-at u e hu he y x p hx hy is = record { y = y + u; x = x + e; wide = omega arith; high = omega arith; is = omega arith }

  pub centre-within : (u e : ℕ) → u ≤ top b → e ≤ left b → (i j : ℕ) → i < b.width → j < b.height → Within b u e (entry_of (centre_at b i j))
  centre-within u e hu he i j p q = inside-at u e hu he j i _ p q refl

  within : (c : ColourDirection) (t l : Bool) → (t ≡ true → 1 ≤ top b) → (l ≡ true → 1 ≤ left b) → (i j : ℕ)
      → i < b.width → j < b.height → Within b (reach t (rows_up c)) (reach l (columns_left c)) (entry_of (place_by b c t l i j))
  within Centre t l a e i j p q =
      inside-at _ _ (reach-most t 0 (top b) (omega arith) a) (reach-most l 0 (left b) (omega arith) e) j i _ p q (omega (arith, stays t (top b) j, stays l (left b) i))
  within Above true l a e i zero p q =
      let z = no-reach l in
      let k = a refl in
      record { y = 0; x = i; wide = omega arith; high = omega arith; is = omega (arith, stays l (left b) i) }
  within Above false l a e i zero p q =
      inside-at _ _ (omega arith) (reach-most l 0 (left b) (omega arith) e) 0 i _ p q (omega (arith, stays l (left b) i))
  within Above t l a e i (suc j) p q =
      inside-at _ _ (reach-most t 1 (top b) (omega arith) a) (reach-most l 0 (left b) (omega arith) e) j i _ p (omega arith) (omega (arith, inner t (top b) j, stays l (left b) i))
  within Left t true a e zero j p q =
      let z = no-reach t in
      let k = e refl in
      record { y = j; x = 0; wide = omega arith; high = omega arith; is = omega (arith, stays t (top b) j) }
  within Left t false a e zero j p q =
      inside-at _ _ (reach-most t 0 (top b) (omega arith) a) (omega arith) j 0 _ p q (omega (arith, stays t (top b) j))
  within Left t l a e (suc i) j p q =
      inside-at _ _ (reach-most t 0 (top b) (omega arith) a) (reach-most l 1 (left b) (omega arith) e) j i _ (omega arith) q (omega (arith, stays t (top b) j, inner l (left b) i))

  pub wanted-at : (y x : ℕ) → y < b.height + up_of b → x < b.width + beside_of b → Wanted b (direction_at b) (cell b (up_of b) (beside_of b) y x)
  unfolding up_of beside_of direction_at
  wanted-at y x p q = wanted (the_colour b.direction) b.have_top b.have_left g.top g.side y x p q

  pub within-at : (i j : ℕ) → i < b.width → j < b.height → Within b (up_of b) (beside_of b) (entry_of (direction_at b i j))
  unfolding up_of beside_of direction_at
  within-at i j p q = within (the_colour b.direction) b.have_top b.have_left g.top g.side i j p q
