-- The rooms of a colour job by itself are large enough. Assumes nothing.
use Prim.Native.Nat.{ℕ, ◌*◌, ◌≤◌}
use native.Mathlib.Nat.{mul-le-mul}
use native.Mathlib.Omega.{arith}
use Rattle.colour_words.specs.declared.ColourWords.{ColourWords}
use Rattle.colour_words.specs.Placed.{ColourLaid}
use Rattle.tower_work.specs.Granted.{ColourRoom}

-- of a window of at most m rows
pub room_for : (size W : ℕ) (c : ColourWords) (m : ℕ) → ColourLaid size W c → c.ref_height ≤ m → ColourRoom c (m * 256) (m * 256) (128 * m)
room_for size W c m l h =
    let p = l.placed in
    let high : c.height ≤ m = omega (arith, p.block-down, h) in
    record { luma-room = omega (arith, h); chroma-room = omega (arith, h); block_room = mul-le-mul p.wide.1 high }

-- of any
pub room_most : (size W : ℕ) (c : ColourWords) → ColourLaid size W c → ColourRoom c 65536 65536 16384
room_most size W c l =
    let p = l.placed in
    record { luma-room = omega (arith, p.window-high); chroma-room = omega (arith, p.window-high); block_room = mul-le-mul p.wide.1 p.high.1 }
