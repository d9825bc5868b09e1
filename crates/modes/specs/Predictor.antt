-- The predictor of a job's mode (document 01, Ranges and numbers that name things).
use Rattle.row_words.specs.declared.mode.Mode.{Mode}
use Rattle.row_words.specs.declared.mode.Mode.TheVariants.{Paeth, Smooth, SmoothV, SmoothH, Directional}
use Rattle.direct_calls.specs.Direct.{Predictor}
use Rattle.paeth.specs.Paeth.{paeth_at}
use Rattle.smooth_spec.specs.Smooth.{smooth_at, smooth_v_at, smooth_h_at}
use Rattle.directional.specs.Words.{turned_by}
use Rattle.job.specs.declared.job.Job.{Job}

-- "Modes: 0 Paeth, 1 smooth, 2 smooth_v, 3 smooth_h, 4 a direction with its delta." "Words 5, 6, 13 and 14 are looked at only in mode 4."
abbrev pub predictor_by : Mode → Job → Predictor
predictor_by Paeth job = paeth_at
predictor_by Smooth job = smooth_at
predictor_by SmoothV job = smooth_v_at
predictor_by SmoothH job = smooth_h_at
predictor_by (Directional dir delta) job = turned_by job.spec.d dir delta job.flags job.max_width job.max_height

unfoldable pub predictor_of : Job → Predictor
predictor_of job = predictor_by job.mode job
