-- The neighbours' lines of samples lie in the plane. Assumes nothing.
use mathlib.Core.Path.{◌≡◌}
use mathlib.Core.Bool.{true}
use Prim.Native.Nat.{ℕ, ◌+◌, ◌-◌, ◌*◌, min}
use native.Mathlib.Nat.{add-mul}
use native.Mathlib.Omega.{arith}
use Rattle.edge_line.specs.Run.{Line}
use Rattle.block_spec.specs.declared.spec.IntraRefSpec.{IntraRefSpec}
use Rattle.block_spec.specs.Placed.{Placed}
use Rattle.block_spec.proofs.Placed.{small, lies}

module _ {n W : ℕ} {s : IntraRefSpec} (p : Placed n W s) where
  pub above-line : s.have_above ≡ true → Line n ((s.y - 1) * W + s.x) 1 s.b (min s.available_above s.b) (s.b + min s.top_right s.b - s.b)
  above-line t =
      let a = p.stands.above t in
      record {
        block = p.stands.side;
        counts = omega (arith, a.1, p.stands.side);
        lies = omega (arith, lies p (s.y - 1) (s.x + (s.b + min s.top_right s.b - 1)) (omega (arith, p.stands.rows, p.stands.side)) (omega (arith, p.stands.side)));
        near = omega arith;
        small = small p;
      }

  pub left-line : s.have_left ≡ true → Line n (s.y * W + (s.x - 1)) W s.b (min s.available_left s.b) (s.b + min s.bottom_left s.b - s.b)
  left-line t =
      let a = p.stands.left t in
      let k = s.b + (s.b + min s.bottom_left s.b - s.b) - 1 in
      record {
        block = p.stands.side;
        counts = omega (arith, a.1, p.stands.side);
        lies = omega (arith, lies p (s.y + k) (s.x - 1) (omega (arith, p.stands.side)) (omega (arith, p.stands.columns, p.stands.side)), add-mul s.y k W);
        near = p.sides.0;
        small = small p;
      }
