-- What a step (`Step`) and the entries of an edge (`Entries`) give to the rows and the lines. Assumes nothing.
use mathlib.Core.Path.{◌≡◌, sym, ◌∙◌, ap}
use mathlib.Core.Bool.{true}
use mathlib.Core.List.{List}
use Prim.Native.Nat.{ℕ, ◌+◌, ◌-◌, ◌*◌, ◌/◌, ◌^◌, ◌≤◌, ◌<◌}
use native.Mathlib.Nat.{mul-le-mul}
use native.Mathlib.Omega.{arith}
use lib.IntN.{ℤ, pos, nat_abs}
use lib.ListN.{length, get_or}
use lib.Pow.{pow_pos, pow_mono}
use mir.Syntax.{w32}
use mir.Val.{to_z, of_z}
use Rattle.signed.specs.Range.{inside}
use Rattle.signed.proofs.Bound.{back-abs}
use Rattle.signed.proofs.Range.{inside-abs}
use Rattle.lists.specs.Fill.{filled}
use Rattle.lists.proofs.Fill.{length-filled, filled_at}
use Rattle.smooth_steps.specs.Parts.{edge_at, part, weighed, Step, Entries, Weights}
use Rattle.smooth_steps.proofs.Parts.{ramp-is, part-most, weighed-most}

module _ {e w m k : ℕ} (s : Step e w m k) where
  pub parts-most : (0 < m) × (m ≤ 64)
  parts-most = omega (arith, s.power, pow_pos k, pow_mono s.small)

  -- what a row adds to each product
  pub rest-most : e * (m - w) + m / 2 ≤ 270000
  rest-most =
      let few : m - w ≤ 64 = omega (arith, parts-most) in
      omega (arith, parts-most, mul-le-mul s.end few)

  module _ {t : ℕ} (h : t ≤ 4095) where
    pub step-asks : (t ≤ 4095) × (w ≤ 64) × (e * (m - w) + m / 2 ≤ 270000) × (k ≤ 6)
    step-asks = (h, omega (arith, s.few, parts-most), rest-most, s.small)

    pub step-most : part m e t w ≤ 4095
    step-most = part-most m parts-most.0 4095 e t w s.end h s.few

    pub both_most : (v : ℕ) → v < 64 → weighed m e t w v ≤ 4095
    both_most v l = weighed-most m 4095 e t w v parts-most.0 s.end h s.few (omega arith)

  pub step_is : (t : ℕ) → (t * w + (e * (m - w) + m / 2)) / 2 ^ k ≡ part m e t w
  step_is t = rw (sym s.power) (ramp-is m e t w)

-- the same end by other parts
pub by_parts : {e m k : ℕ} → Step e 0 m k → (w : ℕ) → w ≤ m → Step e w m k
by_parts s w h = record { end = s.end; few = h; power = s.power; small = s.small }

-- an entry, as the code reads it
module _ {edge : List ℤ} {n : ℕ} (s : Entries edge n) (i : ℕ) (l : i < n) where
  pub entry-most : nat_abs (edge_at edge i) ≤ 4095
  entry-most = inside-abs 4095 (edge_at edge i) (s.samples i l)

  back : to_z w32 (of_z w32 (edge_at edge i)) ≡ edge_at edge i
  back = back-abs w32 (edge_at edge i) (omega (arith, entry-most))

  pub entry_in : inside (pos 4095) (to_z w32 (of_z w32 (edge_at edge i))) ≡ true
  entry_in = rw back (s.samples i l)

  pub entry-abs : nat_abs (to_z w32 (of_z w32 (edge_at edge i))) ≡ nat_abs (edge_at edge i)
  entry-abs = ap nat_abs back

-- a whole line from l, as `across` leaves it
module _ {e m k reach : ℕ} {weights line' : List ℕ} (s : Step e 0 m k) (w : Weights weights m reach) (l : ℕ) (line : List ℕ)
    (u : line' ≡ filled m (λ c. weighed m e l (m - 1 - c) (get_or weights c 0)) line) where
  pub line-long : m ≤ length line → length line' ≡ length line
  line-long h = ap length u ∙ length-filled m _ line h

  pub line_at : (i : ℕ) → i < m → get_or line' i 0 ≡ weighed m e l (m - 1 - i) (get_or weights i 0)
  line_at i hi = ap (λ xs. get_or xs i 0) u ∙ filled_at m _ line i 0 hi

  -- its entries are samples
  pub line-most : l ≤ 4095 → (i : ℕ) → i < m → get_or line' i 0 ≤ 4095
  line-most h i hi = omega (arith, line_at i hi, both_most (by_parts s (m - 1 - i) (omega arith)) h (get_or weights i 0) (w.parts i hi))
