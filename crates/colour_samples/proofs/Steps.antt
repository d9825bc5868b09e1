-- Laws of `Took`: nothing taken, one after the other, and the same said of other functions. Assumes nothing.
use mathlib.Core.Path.{◌≡◌, refl, ◌∙◌, ap}
use mathlib.Core.Bool.{Bool}
use Prim.Native.Nat.{ℕ, ◌+◌, ◌≤◌}
use native.Mathlib.Omega.{arith}
use Rattle.colour_samples.specs.declared.nine.Nine.{Nine}
use Rattle.colour_samples.specs.declared.totals.Totals.{Totals}
use Rattle.colour_samples.specs.Took.{Took}
use Rattle.colour_samples.proofs.Grown.{wider}

module _ {D : ℕ} where
  pub took-none : (g : Totals) → Took D (λ ok. ok) (λ s. s) 0 g g
  took-none g = record { tested = refl; kept = λ h. h; summed = λ h. refl; grown = λ b h. wider (omega arith) h }

  pub took-then : {t u : Bool → Bool} {m n : Nine → Nine} {x y : ℕ} {g h r : Totals} → Took D t m x g h → Took D u n y h r
      → Took D (λ ok. u (t ok)) (λ s. n (m s)) (x + y) g r
  took-then {t} {u} {m} {n} p q = record {
    tested = q.tested ∙ ap u p.tested;
    kept = λ e. p.kept (q.kept e);
    summed = λ e. q.summed e ∙ ap n (p.summed (q.kept e));
    grown = λ b h. wider (omega arith) (q.grown _ (p.grown b h));
  }

  pub took-as : {t u : Bool → Bool} {m n : Nine → Nine} {x y : ℕ} {g r : Totals}
      → ((ok : Bool) → t ok ≡ u ok) → ((s : Nine) → m s ≡ n s) → x ≤ y → Took D t m x g r → Took D u n y g r
  took-as e f l p = record {
    tested = p.tested ∙ e _;
    kept = p.kept;
    summed = λ h. p.summed h ∙ f _;
    grown = λ b h. wider (omega arith) (p.grown b h);
  }
