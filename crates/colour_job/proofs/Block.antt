-- A predicted block as samples: each number is in 0..M, and row r's column k is the sample there. Assumes nothing.
use mathlib.Core.Path.{◌≡◌, refl, ◌∙◌, ap}
use mathlib.Core.Bool.{Bool, true, false, cond}
use mathlib.Core.List.{List}
use Prim.Native.Nat.{ℕ, ◌+◌, ◌*◌, ◌≤◌, ◌<◌}
use native.Mathlib.Omega.{arith}
use lib.IntN.{ℤ, pos, negsuc}
use lib.Ieee.{Float}
use lib.Signed.{lt_z}
use lib.ListN.{length, get_or}
use Rattle.numbers.specs.Depth.{is_depth, most}
use Rattle.signed.specs.Range.{inside, Edge}
use Rattle.signed.proofs.Order.{lt_z-false}
use Rattle.signed.proofs.Range.{pos-inside, inside-more}
use Rattle.lists.specs.Block.{sample}
use Rattle.lists.proofs.Fill.{length-filled, filled_at}
use Rattle.lists.proofs.Block.{rows_at}
use Rattle.paint.specs.Painted.{painted}
use Rattle.paint.proofs.Painted.{painted_same}
use Rattle.colour_terms.specs.Terms.{entry}
use Rattle.colour_terms.proofs.Most.{most-all}
use Rattle.colour_row.specs.Sample.{clip_to, clipped}
use Rattle.colour_rules.specs.declared.block.Block.{Block}
use Rattle.colour_block.specs.Predicted.{chroma_at, chroma_block}

-- a number clipped to 0..M
clip-in : (M : ℕ) (z : ℤ) → inside (pos M) (clip_to (pos 0) (pos M) z) ≡ true
unfolding clip_to
clip-in M z = go z (lt_z z (pos 0)) (lt_z (pos M) z) refl refl
  where
    go : (z : ℤ) (s t : Bool) → lt_z z (pos 0) ≡ s → lt_z (pos M) z ≡ t → inside (pos M) (cond s (pos 0) (cond t (pos M) z)) ≡ true
    go z true t e d = pos-inside M 0 (omega arith)
    go z false true e d = pos-inside M M (omega arith)
    go (pos n) false false e d = pos-inside M n (omega (arith, lt_z-false (pos M) (pos n) d))
    go (negsuc n) false false e d = absurd (omega (arith, lt_z-false (negsuc n) (pos 0) e))

clipped-in : (D : ℕ) (z : ℤ) → is_depth D ≡ true → inside (pos 4095) (clipped D z) ≡ true
unfolding clipped
clipped-in D z d = inside-more (most D) 4095 (most-all D d).1 _ (clip-in (most D) _)

module _ (luma : List ℤ) (b : Block) (p0 p1 p2 : ℤ) (out : List ℤ) where
  pub block-length : b.height * b.width ≤ length out → length (chroma_block luma b p0 p1 p2 out) ≡ length out
  unfolding chroma_block
  block-length h = length-filled (b.height * b.width) _ out h

  pub block-edge : is_depth b.d ≡ true → Edge 4095 (b.height * b.width) (chroma_block luma b p0 p1 p2 out)
  unfolding chroma_block
  block-edge d i l = ap (inside (pos 4095)) (filled_at (b.height * b.width) _ out i (pos 0) l) ∙ clipped-in b.d _ d

  block-at : (r k : ℕ) → r < b.height → k < b.width → get_or (chroma_block luma b p0 p1 p2 out) (r * b.width + k) (pos 0)
      ≡ chroma_at (entry luma) b p0 p1 p2 r k
  unfolding chroma_block
  block-at r k hr hk = rows_at b.width b.height (chroma_at (entry luma) b p0 p1 p2) out r k (pos 0) hr hk

-- ---- as the code comes by it: zs is what prediction left, by any name of what it was called with
module _ (luma : List ℤ) (b : Block) (p0 p1 p2 : ℤ) (out zs : List ℤ) where
  pub block-as : (a : Block) (q0 q1 q2 : ℤ) → a ≡ b → q0 ≡ p0 → q1 ≡ p1 → q2 ≡ p2 → zs ≡ chroma_block luma a q0 q1 q2 out
      → zs ≡ chroma_block luma b p0 p1 p2 out
  block-as a q0 q1 q2 e e0 e1 e2 h = h ∙ (λ j. chroma_block luma (e j) (e0 j) (e1 j) (e2 j) out)

  -- a rectangle that is written with its numbers
  pub block-painted : (W x y : ℕ) (plane after : List Float) → zs ≡ chroma_block luma b p0 p1 p2 out
      → after ≡ painted W (record { x = x; y = y; w = b.width; h = b.height }) (λ r k. sample (get_or zs (r * b.width + k) (pos 0))) plane
      → after ≡ painted W (record { x = x; y = y; w = b.width; h = b.height }) (λ r k. sample (chroma_at (entry luma) b p0 p1 p2 r k)) plane
  block-painted W x y plane after e h =
      h ∙ painted_same W _ _ _ plane (λ r k a c.
      ap sample (ap (λ (l : List ℤ). get_or l (r * b.width + k) (pos 0)) e ∙ block-at luma b p0 p1 p2 out r k a c))
