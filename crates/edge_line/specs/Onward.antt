-- An edge that goes on with one number.
use Rattle.std.specs.Prelude.{cond, List, ℕ, ltb, ℤ, pos, get_or}

-- an entry below `from` is as it was, and one from there on is v
abbrev pub onward : List ℤ → ℕ → ℤ → ℕ → ℤ
onward before from v i = cond (ltb i from) (get_or before i (pos 0)) v
