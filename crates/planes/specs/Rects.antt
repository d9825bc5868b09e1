-- Rectangles of planes, and the same in one tall picture in which the planes stand below one another: rectangles of two planes share no sample there.
use Rattle.std.specs.Prelude.{◌≡◌, ◌⊎◌, List, [], ◌∷◌, ℕ, ◌+◌, ◌*◌, ◌≤◌}
use Rattle.reorder.specs.Rect.{Rect, In}
use Rattle.planes.specs.Three.{PlanePlace}

pub record PlaneRect : Type 0 where
  pub plane : ℕ
  pub rect : Rect

-- q is a sample of it, and of one of several
abbrev pub InPlane : ℕ → PlaneRect → PlanePlace → Type 0
InPlane W R q = (q.plane ≡ R.plane) × In W R.rect q.place

abbrev pub InAnyPlane : ℕ → List PlaneRect → PlanePlace → Type 0
InAnyPlane W [] q = ⊥
InAnyPlane W (R ∷ Rs) q = InPlane W R q ⊎ InAnyPlane W Rs q

-- it lies in a plane of W by H samples, and so do several
abbrev pub Within : ℕ → ℕ → Rect → Type 0
Within W H R = (R.x + R.w ≤ W) × (R.y + R.h ≤ H)

abbrev pub AllWithin : ℕ → ℕ → List PlaneRect → Type 0
AllWithin W H [] = Unit {0}
AllWithin W H (R ∷ Rs) = Within W H R.rect × AllWithin W H Rs

-- where it stands in the tall picture
abbrev pub tall : ℕ → PlaneRect → Rect
tall H R = record { x = R.rect.x; y = R.plane * H + R.rect.y; w = R.rect.w; h = R.rect.h }

abbrev pub talls : ℕ → List PlaneRect → List Rect
talls H [] = []
talls H (R ∷ Rs) = tall H R ∷ talls H Rs
