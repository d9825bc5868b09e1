-- Steps one after the other, as a walk over places takes them (document 01, Colour parameters).
use Rattle.std.specs.Prelude.{ℕ, zero, suc}

-- f for 0, then for 1, up to n - 1
unfoldable pub fold : {A : Type 0} → ℕ → (ℕ → A → A) → A → A
fold zero f a = a
fold (suc n) f a = f n (fold n f a)
