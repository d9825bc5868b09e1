-- A job that was read, by its mode: what its function asks, and what it leaves. Assumes nothing.
use mathlib.Core.Path.{◌≡◌, sym, subst}
use mathlib.Core.List.{List}
use Prim.Native.Nat.{ℕ, ◌*◌, ◌≤◌}
use native.Mathlib.Nat.{mul-le-mul}
use native.Mathlib.Omega.{arith}
use lib.IntN.{ℤ}
use lib.Ieee.{Float}
use Rattle.planes.specs.Three.{Three}
use Rattle.job.specs.declared.job.Job.{Job}
use Rattle.job_work.specs.Granted.{Tested}
use Rattle.colour_words.specs.declared.ColourWords.{ColourWords}
use Rattle.colour_words.specs.Placed.{ColourLaid}
use Rattle.tower_job.specs.declared.tower.TowerMode.{TowerMode}
use Rattle.tower_job.specs.declared.tower.TowerMode.TheVariants.{Base, Colour}
use Rattle.tower_work.specs.Granted.{TowerRead, TowerLeft, BaseOn, ColourOn, ColourRoom}
use Rattle.numbers.specs.Answer.{Answer}

module _ (W n size k : ℕ) (m : TowerMode) (r : TowerRead W n size m k) where
  pub base-asks : (job : Job) → m ≡ Base job → Tested W n size job × (job.spec.b * job.spec.b ≤ 4096)
  base-asks job e =
      let t : Tested W n size job = subst (λ m. TowerRead W n size m k) e r in
      let h = t.place.stands.side.1 in
      (t, omega (arith, mul-le-mul h h))

  pub colour-asks : (c : ColourWords) → m ≡ Colour c → (1 ≤ k) × ColourLaid size W c × ColourRoom c 65536 65536 16384
  colour-asks c e =
      let t : (1 ≤ k) × ColourLaid size W c = subst (λ m. TowerRead W n size m k) e r in
      let p = t.1.placed in (
        t.0,
        t.1,
        record {
          luma-room = omega (arith, p.window-high);
          chroma-room = omega (arith, p.window-high);
          block_room = omega (arith, mul-le-mul p.wide.1 p.high.1);
        },
      )

module _ (W k : ℕ) (differences : List ℤ) (m : TowerMode) (t t' : Three Float) (r : Answer) where
  pub base-left : (job : Job) → m ≡ Base job → BaseOn W differences job k t t' r → TowerLeft W differences m k t t' r
  base-left job e d = subst (λ m. TowerLeft W differences m k t t' r) (sym e) d

  pub colour-left : (c : ColourWords) → m ≡ Colour c → ColourOn W c k t t' r → TowerLeft W differences m k t t' r
  colour-left c e d = subst (λ m. TowerLeft W differences m k t t' r) (sym e) d
