-- `base_rects` meets its contract. Assumes nothing.
use mathlib.Core.Path.{◌≡◌, ◌∙◌, ap}
use mathlib.Core.Bool.{Bool}
use mathlib.Core.List.{[], ◌∷◌}
use Prim.Native.Nat.{ℕ, ◌+◌, ◌-◌}
use Rattle.reorder.specs.Rect.{Rect}
use Rattle.touches.specs.Rects.{rect_if}
use Rattle.tower_rects.proofs.base.base_rects.Goals as goal

-- a run above, and one at the left, whose length is another number's
wide-as : (R : Rect) (there : Bool) (x y w w' : ℕ) → R ≡ rect_if there x y w 1 → w ≡ w' → R ≡ rect_if there x y w' 1
wide-as R there x y w w' e q = e ∙ ap (λ n. rect_if there x y n 1) q

high-as : (R : Rect) (there : Bool) (x y h h' : ℕ) → R ≡ rect_if there x y 1 h → h ≡ h' → R ≡ rect_if there x y 1 h'
high-as R there x y h h' e q = e ∙ ap (λ n. rect_if there x y 1 n) q

pub run_left-requires-2 : goal.run_left-requires-2
run_left-requires-2 c =
    c.requires

pub corner-requires : goal.corner-requires
corner-requires c =
    c.requires

pub returns : goal.returns
returns c =
    let s = c.args.s in
    let one = wide-as _ s.have_above s.x (s.y - 1) _ _ c.run_above.ensures c.min.ensures in
    let two = wide-as _ s.have_above (s.x + s.b) (s.y - 1) _ _ c.run_above-2.ensures c.min-2.ensures in
    let three = high-as _ s.have_left (s.x - 1) s.y _ _ c.run_left.ensures c.min-3.ensures in
    let four = high-as _ s.have_left (s.x - 1) (s.y + s.b) _ _ c.run_left-2.ensures c.min-4.ensures in
    λ j. c.square.ensures.0 j ∷ one j ∷ two j ∷ three j ∷ four j ∷ c.corner.ensures j ∷ []
