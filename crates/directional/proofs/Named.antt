-- What words that name a direction are good for, and the strips of a size. Assumes nothing.
use mathlib.Core.Bool.{true, ◌&&◌}
use mathlib.Core.Path.{◌≡◌}
use Prim.Native.Nat.{ℕ, ◌*◌, ◌/◌, ◌≤◌, ◌<◌}
use native.Mathlib.Omega.{arith}
use Rattle.row_words.specs.Dir.{is_dir, is_delta}
use Rattle.row_words.specs.Flag.{no_stray}
use Rattle.numbers.specs.Size.{is_size}
use Rattle.numbers.proofs.Agree.{size-all}
use Rattle.signed.proofs.Range.{and_both}
use Rattle.zone_rows.specs.Listed.{Fours}
use Rattle.directional.specs.Words.{is_named}

pub fours : (B : ℕ) → is_size B ≡ true → Fours B
fours B e = size-all (λ x. (0 < x) × (x ≤ 64) × (4 * (x / 4) ≡ x)) B (omega arith) e

pub named-all : (direction delta flags : ℕ) → is_named direction delta flags ≡ true → (is_dir direction ≡ true) × (is_delta delta ≡ true)
unfolding is_named
named-all direction delta flags e =
    let p = and_both (is_dir direction) (is_delta delta && no_stray flags) e in
    (p.0, (and_both (is_delta delta) (no_stray flags) p.1).0)
