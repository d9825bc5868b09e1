-- `quad_across` meets its contract: four samples, and four stores that fill the row. Assumes nothing.
use native.Mathlib.Omega.{arith}
use mathlib.Core.Path.{◌≡◌, ◌∙◌, ap}
use Prim.Native.Nat.{ℕ, ◌-◌}
use mathlib.Core.List.{List}
use lib.IntN.{pos}
use lib.ListN.{get_or, length-set}
use Rattle.lists.specs.Block.{sample}
use Rattle.lists.proofs.Block.{four-stores}
use Rattle.smooth_steps.specs.Parts.{weighed}
use Rattle.smooth_steps.proofs.Steps.{by_parts}
use Rattle.smooth_lines.proofs.quad.quad_across.Goals as goal

-- column i, whose parts the code has by one subtraction
column : (m e l : ℕ) (weights : List ℕ) (i w : ℕ) → w ≡ m - 1 - i
    → sample (pos (weighed m e l w (get_or weights i 0))) ≡ sample (pos (weighed m e l (m - 1 - i) (get_or weights i 0)))
column m e l weights i w h = ap (λ n. sample (pos (weighed m e l n (get_or weights i 0)))) h

pub smooth_sample-x-requires : goal.smooth_sample-x-requires
smooth_sample-x-requires c = (by_parts c.requires.2 _ (omega arith), c.requires.3, c.requires.4.parts 0 (omega arith))

pub smooth_sample-y-requires : goal.smooth_sample-y-requires
smooth_sample-y-requires c = (by_parts c.requires.2 _ (omega arith), c.requires.3, c.requires.4.parts 1 (omega arith))

pub smooth_sample-z-requires : goal.smooth_sample-z-requires
smooth_sample-z-requires c = (by_parts c.requires.2 _ (omega arith), c.requires.3, c.requires.4.parts 2 (omega arith))

pub smooth_sample-u-requires : goal.smooth_sample-u-requires
smooth_sample-u-requires c = (by_parts c.requires.2 _ (omega arith), c.requires.3, c.requires.4.parts 3 (omega arith))

pub bounds-row-3 : goal.bounds-row-3
bounds-row-3 c = simp length-set (omega arith)

pub returns : goal.returns
returns c =
    let a = c.args in
    four-stores _ a.row.now _ _ _ _ c.requires.0
    (c.smooth_sample-x.ensures ∙ column a.m a.e a.l a.weights.now 0 _ (omega arith))
    (c.smooth_sample-y.ensures ∙ column a.m a.e a.l a.weights.now 1 _ (omega arith))
    (c.smooth_sample-z.ensures ∙ column a.m a.e a.l a.weights.now 2 _ (omega arith))
    (c.smooth_sample-u.ensures ∙ column a.m a.e a.l a.weights.now 3 _ (omega arith))
