-- A clash by the six rectangles of two rows is the clash of the jobs: a refused row has empty ones, which meet none. Assumes nothing.
use mathlib.Core.Path.{◌≡◌, refl, sym, ◌∙◌}
use mathlib.Core.Bool.{Bool, true, false, cond}
use mathlib.Core.List.{List, [], ◌∷◌, ◌++◌}
use Prim.Native.Nat.{ℕ}
use native.Mathlib.Omega.{arith}
use lib.ListN.{take, drop}
use Rattle.reorder.specs.Rect.{Rect, meet_b, meet_any_b, cross_b, clash_b}
use Rattle.reorder.proofs.Rect.{meet-else}
use Rattle.reorder.proofs.Cross.{clash-swapped}
use Rattle.planes.specs.Rects.{talls}
use Rattle.job.specs.Row.{Row}
use Rattle.tower_job.specs.Row.{is_colour_mode}
use Rattle.tower_job.specs.Rules.{tower_stands}
use Rattle.tower_touches.specs.Rects.{rects_by, tower_reads, tower_writes, tower_clash}
use Rattle.tower_rects.specs.Rows.{nothings, row_rects}

-- ---- rectangles with no column

abbrev Bare : List Rect → Type 0
Bare [] = Unit {0}
Bare (R ∷ Rs) = (R.w ≡ 0) × Bare Rs

left-none : (A B : Rect) → A.w ≡ 0 → meet_b A B ≡ false
left-none A B e = sym (meet-else A B _ _ refl refl (omega arith))

right-none : (A B : Rect) → B.w ≡ 0 → meet_b A B ≡ false
right-none A B e = sym (meet-else A B _ _ refl refl (omega arith))

left-any : (A : Rect) → A.w ≡ 0 → (Bs : List Rect) → meet_any_b A Bs ≡ false
unfolding meet_any_b
left-any A e [] = refl
left-any A e (B ∷ Bs) = rw (left-none A B e) (left-any A e Bs)

right-any : (A : Rect) (Bs : List Rect) → Bare Bs → meet_any_b A Bs ≡ false
unfolding meet_any_b
right-any A [] b = refl
right-any A (B ∷ Bs) b = rw (right-none A B b.0) (right-any A Bs b.1)

left-cross : (As Bs : List Rect) → Bare As → cross_b As Bs ≡ false
unfolding cross_b
left-cross [] Bs b = refl
left-cross (A ∷ As) Bs b = rw (left-any A b.0 Bs) (left-cross As Bs b.1)

right-cross : (As Bs : List Rect) → Bare Bs → cross_b As Bs ≡ false
unfolding cross_b
right-cross [] Bs b = refl
right-cross (A ∷ As) Bs b = rw (right-any A Bs b) (right-cross As Bs b)

-- a job with none clashes with no other
no-clash : (ri wi rj wj : List Rect) → Bare ri → Bare wi → clash_b ri wi rj wj ≡ false
unfolding clash_b
no-clash ri wi rj wj r w = rw (left-cross wi rj w, left-cross wi wj w, right-cross wj ri r, right-cross wj wi w)

-- ---- two rows

-- by six rectangles each
abbrev pub six_clash : List Rect → List Rect → Bool
six_clash As Bs = clash_b (drop 1 As) (take 1 As) (drop 1 Bs) (take 1 Bs)

module _ (W H n : ℕ) where
  bare-reads : (row : Row) → tower_stands W H n row ≡ false → Bare (talls H (tower_reads W H n row))
  unfolding tower_reads
  bare-reads row e = rw e (go (is_colour_mode row))
    where
      go : (m : Bool) → Bare (talls H (rects_by m false row))
      go true = (refl, (refl, (refl, (refl, (refl, tt)))))
      go false = (refl, (refl, (refl, (refl, (refl, tt)))))

  bare-writes : (row : Row) → tower_stands W H n row ≡ false → Bare (talls H (tower_writes W H n row))
  unfolding tower_writes
  bare-writes row e = rw e (refl, tt)

  -- as the rows' rectangles have it
  abbrev rects_if : Bool → Row → List Rect
  rects_if on row = cond on (talls H (tower_writes W H n row) ++ talls H (tower_reads W H n row)) nothings

  first_off : (i j : Row) (Bs : List Rect) → tower_stands W H n i ≡ false → six_clash nothings Bs ≡ tower_clash W H n i j
  unfolding tower_clash
  first_off i j Bs e =
      no-clash _ _ _ _ (refl, (refl, (refl, (refl, (refl, tt))))) (refl, tt) ∙ sym (no-clash _ _ _ _ (bare-reads i e) (bare-writes i e))

  clash-turned : (i j : Row) → tower_clash W H n i j ≡ tower_clash W H n j i
  unfolding tower_clash
  clash-turned i j = clash-swapped _ _ _ _

  pub six-is : (i j : Row) → six_clash (row_rects W H n i) (row_rects W H n j) ≡ tower_clash W H n i j
  unfolding tower_clash tower_writes
  six-is i j = go (tower_stands W H n i) (tower_stands W H n j) refl refl
    where
      go : (a b : Bool) → tower_stands W H n i ≡ a → tower_stands W H n j ≡ b → six_clash (rects_if a i) (rects_if b j) ≡ tower_clash W H n i j
      go true true p q = refl
      go false b p q = first_off i j (rects_if b j) p
      go true false p q = clash-swapped _ _ _ _ ∙ first_off j i (rects_if true i) q ∙ clash-turned j i
