-- What the code of a tower's job goes by: three planes of one length, and what a job that was read leaves of them.
use Rattle.std.specs.Prelude.{◌≡◌, true, List, ℕ, ◌*◌, ◌≤◌, ℤ, Float, length}
use Rattle.refusals.specs.Promise.{Promise}
use Rattle.block_spec.specs.Rules.{is_plane}
use Rattle.planes.specs.Three.{Three, plane_in, with_plane}
use Rattle.job.specs.declared.job.Job.{Job}
use Rattle.job_work.specs.Granted.{Tested, read_answer, read_done}
use Rattle.tower_job.specs.declared.tower.TowerMode.{TowerMode}
use Rattle.tower_job.specs.declared.tower.TowerMode.TheVariants.{Base, Colour}
use Rattle.colour_words.specs.declared.ColourWords.{ColourWords}
use Rattle.colour_words.specs.Placed.{ColourLaid}
use Rattle.colour_job.specs.Answer.{colour_answer}
use Rattle.colour_job.specs.Done.{colour_done}
use Rattle.numbers.specs.Answer.{Answer}

abbrev pub three : List Float → List Float → List Float → Three Float
three p0 p1 p2 = record { p0 = p0; p1 = p1; p2 = p2 }

-- 20 of each
pub record ArePlanes (W H : ℕ) (p0 p1 p2 : List Float) : Type 0 where
  pub first : is_plane W H (length p0) ≡ true
  pub second : is_plane W H (length p1) ≡ true
  pub third : is_plane W H (length p2) ≡ true

-- plane k is one of them, and all are as long as the first
pub record OnePlane (p0 p1 p2 : List Float) (k : ℕ) : Type 0 where
  pub known : k ≤ 2
  pub second : length p1 ≡ length p0
  pub third : length p2 ≡ length p0

-- a job of the first library on plane k
abbrev pub BaseOn : ℕ → List ℤ → Job → ℕ → Three Float → Three Float → Answer → Type 0
BaseOn W differences job k planes planes' r =
    Promise (read_answer W job (plane_in planes k)) (with_plane planes k (read_done W differences job (plane_in planes k))) r planes'

-- a colour job on plane k
abbrev pub ColourOn : ℕ → ColourWords → ℕ → Three Float → Three Float → Answer → Type 0
ColourOn W c k planes planes' r =
    Promise (colour_answer W c (plane_in planes 0) (plane_in planes k)) (with_plane planes k (colour_done W c (plane_in planes 0) (plane_in planes k))) r planes'

-- room for the windows and the block of a colour job
pub record ColourRoom (c : ColourWords) (luma chroma block : ℕ) : Type 0 where
  pub luma-room : c.ref_height * 256 ≤ luma
  pub chroma-room : c.ref_height * 256 ≤ chroma
  pub block_room : c.width * c.height ≤ block

-- what a job that was read asks and leaves, by its mode
abbrev pub TowerRead : ℕ → ℕ → ℕ → TowerMode → ℕ → Type 0
TowerRead W n size (Base job) k = Tested W n size job
TowerRead W n size (Colour c) k = (1 ≤ k) × ColourLaid size W c

abbrev pub TowerLeft : ℕ → List ℤ → TowerMode → ℕ → Three Float → Three Float → Answer → Type 0
TowerLeft W differences (Base job) k planes planes' r = BaseOn W differences job k planes planes' r
TowerLeft W differences (Colour c) k planes planes' r = ColourOn W c k planes planes' r
