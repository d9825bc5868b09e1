-- Zones 1 and 3 read one edge of 2 B entries: its list has the room that they need, holds samples, and gives the definition's block. Assumes nothing.
use mathlib.Core.Bool.{Bool, true}
use mathlib.Core.Path.{◌≡◌, sym, ◌∙◌}
use mathlib.Core.List.{List}
use Prim.Native.Nat.{ℕ, ◌+◌, ◌*◌, ◌/◌, ◌≤◌, ◌<◌}
use native.Mathlib.Nat.{mul-le-mul_left}
use native.Mathlib.Omega.{arith}
use lib.Ieee.{Float}
use lib.IntN.{ℤ, pos, nat_abs}
use Rattle.signed.specs.Range.{inside, Edge}
use Rattle.lists.specs.Fill.{filled}
use Rattle.lists.specs.Block.{block}
use Rattle.edge_filter.specs.Filter.{edge, padded, filtered}
use Rattle.edge_filter.proofs.Filtered.{filtered-inside}
use Rattle.edge_filter.proofs.Ready.{ready_at, ready-inside}
use Rattle.setting.specs.Steps.{step}
use Rattle.setting.proofs.Table.{step-low}
use Rattle.zone_spec.specs.Zones.{zone1, zone3}
use Rattle.zone_rows.specs.Listed.{ahead, Fours}
use Rattle.zone_spec.proofs.Blocks.{zone1-block, zone3-block}
use Rattle.angled.proofs.Samples.{m-is, in-sample, edge-sample}

-- a is the angle that the step is of; the edge is filtered by the strength st below the limit lim
pub record OneEdge (B a st lim : ℕ) (m k : ℤ) (es : List ℤ) : Type 0 where
  pub fours : Fours B
  pub low : 36 ≤ a
  pub high : a < 90
  pub gentle : st ≤ 3
  pub entries : Edge (nat_abs m) (B + B) es
  pub corner : inside (pos (nat_abs m)) k ≡ true
  pub depth : inside (pos 4095) m ≡ true

-- how many entries the list has
abbrev pub size : ℕ → ℕ
size B = B + B + B / 2 + 7

module _ {B a st lim : ℕ} {m k : ℤ} {es : List ℤ} (g : OneEdge B a st lim m k es) where
  abbrev e : ℕ → ℤ
  e = filtered st lim (B + B) (edge k es)

  pub samples : Edge 4095 (B + B) es
  samples = edge-sample m g.depth (B + B) es g.entries

  pub corner-in : inside (pos 4095) k ≡ true
  corner-in = in-sample m g.depth k g.corner

  pub step-few : step a ≤ 96
  step-few = step-low a g.low g.high

  pub reach : B * step a / 64 + B + 7 ≤ size B
  reach = omega (arith, g.fours.2, mul-le-mul_left B step-few)

  last : inside (pos (nat_abs m)) (e (B + B)) ≡ true
  last =
      filtered-inside (nat_abs m) (B + B) st lim k es (B + B) g.gentle g.entries g.corner (omega arith)

  module _ (zs xs : List ℤ) (q : xs ≡ filled (size B) (padded 4 (B + B) e) zs) where
    pub holds-samples : Edge 4095 (size B) xs
    holds-samples = ready-inside 4095 (B + B) st lim (size B) k es zs xs g.gentle samples corner-in q

    module _ (lum : Bool) (M : ℤ) (t : ℕ) (out : List Float) (x : M ≡ m) (p : t ≡ step a) where
      pub by_rows : block B B (ahead lum M t xs) out ≡ block B B (zone1 lum m (B + B) (step a) e) out
      by_rows =
          (λ j. block B B (ahead lum ((x ∙ m-is m g.depth) j) (p j) xs) out)
          ∙ zone1-block (B + B) (size B) e xs (ready_at (B + B) st lim (size B) k es zs xs q) lum (nat_abs m) last B B (step a) out reach
          ∙ (λ j. block B B (zone1 lum (sym (m-is m g.depth) j) (B + B) (step a) e) out)

      pub by-strips : (h : ℕ) → h ≡ B → block B h (λ r c. ahead lum M t xs c r) out ≡ block B B (zone3 lum m (B + B) (step a) e) out
      by-strips h y =
          (λ j. block B (y j) (λ r c. ahead lum ((x ∙ m-is m g.depth) j) (p j) xs c r) out)
          ∙ zone3-block (B + B) (size B) e xs (ready_at (B + B) st lim (size B) k es zs xs q) lum (nat_abs m) last B B (step a) out reach
          ∙ (λ j. block B B (zone3 lum (sym (m-is m g.depth) j) (B + B) (step a) e) out)
