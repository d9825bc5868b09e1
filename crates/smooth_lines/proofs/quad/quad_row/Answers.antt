-- `quad_row` meets its contract: four samples, and four stores that fill the row. Assumes nothing.
use native.Mathlib.Omega.{arith}
use mathlib.Core.Path.{◌≡◌, ◌∙◌, ap}
use Prim.Native.Nat.{ℕ}
use lib.IntN.{pos}
use lib.ListN.{length-set}
use Rattle.lists.specs.Block.{sample}
use Rattle.lists.proofs.Block.{four-stores}
use Rattle.smooth_steps.specs.Parts.{weighed}
use Rattle.smooth_steps.proofs.Steps.{entry_in, entry-abs}
use Rattle.smooth_lines.proofs.quad.quad_row.Goals as goal

-- what the call gave is the sample that stands there
stands : (m e w v : ℕ) {t t' : ℕ} → t ≡ t' → sample (pos (weighed m e t w v)) ≡ sample (pos (weighed m e t' w v))
stands m e w v h = ap (λ t. sample (pos (weighed m e t w v))) h

pub entry_sample-x-requires : goal.entry_sample-x-requires
entry_sample-x-requires c = (c.requires.2, entry_in c.requires.1 0 (omega arith), c.requires.3)

pub entry_sample-y-requires : goal.entry_sample-y-requires
entry_sample-y-requires c = (c.requires.2, entry_in c.requires.1 1 (omega arith), c.requires.3)

pub entry_sample-z-requires : goal.entry_sample-z-requires
entry_sample-z-requires c = (c.requires.2, entry_in c.requires.1 2 (omega arith), c.requires.3)

pub entry_sample-u-requires : goal.entry_sample-u-requires
entry_sample-u-requires c = (c.requires.2, entry_in c.requires.1 3 (omega arith), c.requires.3)

pub bounds-row-3 : goal.bounds-row-3
bounds-row-3 c = simp length-set (omega arith)

pub returns : goal.returns
returns c =
    let a = c.args in
    four-stores _ a.row.now _ _ _ _ c.requires.0
    (c.entry_sample-x.ensures ∙ stands a.m a.e a.w a.v (entry-abs c.requires.1 0 (omega arith)))
    (c.entry_sample-y.ensures ∙ stands a.m a.e a.w a.v (entry-abs c.requires.1 1 (omega arith)))
    (c.entry_sample-z.ensures ∙ stands a.m a.e a.w a.v (entry-abs c.requires.1 2 (omega arith)))
    (c.entry_sample-u.ensures ∙ stands a.m a.e a.w a.v (entry-abs c.requires.1 3 (omega arith)))
