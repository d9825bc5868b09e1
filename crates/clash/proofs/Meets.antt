-- Of two jobs that clash, one's block meets the other's hull; and a clash is the same either way round. Assumes nothing.
use mathlib.Core.Path.{◌≡◌, refl, sym, ◌∙◌}
use mathlib.Core.Logic.{◌⊎◌, inl, inr, ⊎_elim, ⊎_map}
use mathlib.Core.Bool.{Bool, true, false, ◌||◌, true≢false}
use mathlib.Core.List.{[], ◌∷◌}
use Prim.Native.Nat.{ℕ}
use Rattle.reorder.specs.Rect.{In, InAny, meet_b, cross_b, clash_b}
use Rattle.reorder.proofs.Rect.{meet-decides}
use Rattle.reorder.proofs.Cross.{clash-swapped, clash-decides}
use Rattle.block_spec.specs.declared.spec.IntraRefSpec.{IntraRefSpec}
use Rattle.job.specs.Row.{Row, spec_of}
use Rattle.job.specs.Rules.{stands}
use Rattle.touches.specs.Rects.{runs_of, reads_of, writes_of, clash_of}
use Rattle.touches.proofs.Exact.{reads-wide, writes-wide, reads-exact, writes-exact}
use Rattle.touches.specs.Touches.{block_at}
use Rattle.clash.specs.Hull.{block_for, hull_for}
use Rattle.clash.proofs.Around.{hull-wide, block-wide, writes-in, block_in, reads_in}

module _ (W H n : ℕ) where
  pub clash-turned : (i j : Row) → clash_of W H n i j ≡ clash_of W H n j i
  unfolding clash_of
  clash-turned i j = clash-swapped _ _ _ _

  pub clash-stands : (i j : Row) → clash_of W H n i j ≡ true → (stands W H n i ≡ true) × (stands W H n j ≡ true)
  unfolding clash_of
  clash-stands i j e =
      ⊎_elim (λ h. hit i j h) (λ h. let t = hit j i h in (t.1, t.0))
      ((clash-decides W _ _ _ _ (reads-wide W H n i) (writes-wide W H n i) (reads-wide W H n j) (writes-wide W H n j)).0 e)
    where
      hit : (a b : Row) → ((p : ℕ) × InAny W (writes_of W H n a) p × (InAny W (reads_of W H n b) p ⊎ InAny W (writes_of W H n b) p))
          → (stands W H n a ≡ true) × (stands W H n b ≡ true)
      hit a b (p, w, o) = (((writes-exact W H n a p).0 w).0, ⊎_elim (λ r. ((reads-exact W H n b p).0 r).0) (λ q. ((writes-exact W H n b p).0 q).0) o)

  -- THE HULL LAW
  pub clash-meets : (i j : Row) → clash_of W H n i j ≡ true
      → (meet_b (block_for W H n i) (hull_for W H n j) ≡ true) ⊎ (meet_b (hull_for W H n i) (block_for W H n j) ≡ true)
  unfolding clash_of
  clash-meets i j e =
      ⊎_map
      (λ h. (meet-decides W _ _ (block-wide W H n i) (hull-wide W H n j)).1 (h.0, writes-in W H n i h.0 h.1, touched j h.0 h.2))
      (λ h. (meet-decides W _ _ (hull-wide W H n i) (block-wide W H n j)).1 (h.0, touched i h.0 h.2, writes-in W H n j h.0 h.1))
      ((clash-decides W _ _ _ _ (reads-wide W H n i) (writes-wide W H n i) (reads-wide W H n j) (writes-wide W H n j)).0 e)
    where
      touched : (a : Row) (p : ℕ) → (InAny W (reads_of W H n a) p ⊎ InAny W (writes_of W H n a) p) → In W (hull_for W H n a) p
      touched a p (inl r) = reads_in W H n a p r
      touched a p (inr w) = block_in W H n a p (writes-in W H n a p w)

  -- a row that fails 1 to 7 clashes with none
  off : (i j : Row) → ¬ ((stands W H n i ≡ true) × (stands W H n j ≡ true)) → false ≡ clash_of W H n i j
  off i j no-pair = go (clash_of W H n i j) refl
    where
      go : (b : Bool) → clash_of W H n i j ≡ b → false ≡ b
      go true e = absurd (no-pair (clash-stands i j e))
      go false e = refl

  pub first_off : (i j : Row) → stands W H n i ≡ false → false ≡ clash_of W H n i j
  first_off i j e = off i j (λ t. true≢false (sym t.0 ∙ e))

  pub second-off : (i j : Row) → stands W H n j ≡ false → false ≡ clash_of W H n i j
  second-off i j e = off i j (λ t. true≢false (sym t.1 ∙ e))

  -- two rows that do not: each one's block against what the other touches
  pub clash-is : (i j : Row) (s t : IntraRefSpec) → stands W H n i ≡ true → stands W H n j ≡ true → s ≡ spec_of i → t ≡ spec_of j → (there back : Bool)
      → there ≡ (cross_b (block_at s ∷ []) (runs_of true t) || cross_b (block_at s ∷ []) (block_at t ∷ []))
      → back ≡ (cross_b (block_at t ∷ []) (runs_of true s) || cross_b (block_at t ∷ []) (block_at s ∷ []))
      → (there || back) ≡ clash_of W H n i j
  unfolding clash_of clash_b reads_of writes_of
  clash-is i j s t ei ej es et there back p q = rw (ei, ej) ((λ k. p k || q k) ∙ (λ k. hit (es k) (et k) || hit (et k) (es k)))
    where
      hit : IntraRefSpec → IntraRefSpec → Bool
      hit a b = cross_b (block_at a ∷ []) (runs_of true b) || cross_b (block_at a ∷ []) (block_at b ∷ [])
