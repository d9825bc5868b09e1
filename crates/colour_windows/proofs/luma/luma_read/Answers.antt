-- `luma_read` meets its contract. Assumes nothing.
use mathlib.Core.Path.{◌≡◌, ◌∙◌, subst}
use lib.IntN.{ℤ}
use lib.Ieee.{nan}
use lib.ListN.{get_or}
use mir.Syntax.{w32}
use Rattle.signed.proofs.Bound.{back}
use Rattle.samples.specs.Sample.{is_sample}
use Rattle.edge_line.specs.Every.{every}
use Rattle.colour_words.specs.Colour.{luma_place}
use Rattle.colour_windows.specs.Windows.{luma_read}
use Rattle.colour_windows.proofs.Tested.{most-in}
use Rattle.colour_windows.proofs.luma.luma_read.Goals as goal

pub all_samples-requires : goal.all_samples-requires
all_samples-requires c =
    let l = c.requires.0 in
    let p = l.placed in (
      record { H = l.H; sides = l.sides; whole = l.whole; across = p.luma-across; down = p.luma-down },
      most-in c.args.c.d _ p.is-depth (back w32 c.ranges.m ∙ c.requires.1),
    )

pub returns : goal.returns
unfolding luma_read
returns c =
    let a = c.args in
    subst (λ (m : ℤ). c.all_samples.result ≡ every (λ j. every (λ i. is_sample m (get_or a.luma.now (luma_place a.width a.c i j) nan))
    a.c.ref_width) a.c.ref_height)
    (back w32 c.ranges.m ∙ c.requires.1) c.all_samples.ensures
