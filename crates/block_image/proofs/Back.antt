-- "One plan has one byte image": bytes that are accepted are the image of the plan that is read from them. Assumes nothing.
use mathlib.Core.Path.{◌≡◌, ◌∙◌, ap}
use mathlib.Core.List.{List}
use mathlib.Core.Logic.{⊎_elim}
use Prim.Native.Nat.{ℕ, ◌+◌, ◌-◌, ◌*◌, ◌/◌, ◌%◌, ◌<◌, ◌≤◌}
use native.Mathlib.Nat.{div-eq_of_lt}
use native.Mathlib.Omega.{arith}
use lib.Arith.{digits_div}
use lib.Dec.{eqb, leb}
use lib.ListN.{length, get_or}
use lib.Seq.{ext_get_or}
use borrow.Author.Tests.{eqb-true}
use Rattle.signed.proofs.Naturals.{either}
use Rattle.signed.proofs.Range.{and_both}
use Rattle.lists.proofs.Fill.{tab-at, length-tab}
use Rattle.block_image.specs.Image.{image_byte, image_size, blocks_for, image}
use Rattle.block_image.specs.Rules.{block_bytes, used_at, is_whole}
use Rattle.block_image.specs.Taken.{blocks_in, WholeFile, rows_of, plan_of}
use Rattle.block_image.specs.Fits.{Fits}
use Rattle.block_image.specs.declared.format.Format.{Format}
use Rattle.block_image.proofs.Held.{of-block, rows_are}
use Rattle.block_image.proofs.RowsOf.{rows-in}
use Rattle.block_image.proofs.BlockBack.{block-is}

module _ (F : Format) (fit : Fits F) (bytes : List ℕ) (small : (i : ℕ) → get_or bytes i 0 < 256) (accepted : WholeFile F bytes) where
  abbrev n : ℕ
  n = blocks_in bytes

  abbrev plan : List ℕ
  plan = plan_of F bytes

  blocks-are : blocks_for F (rows_of F bytes) ≡ n
  blocks-are =
      ⊎_elim
      (λ (p : 1 ≤ n).
      let s = of-block F fit bytes small accepted (n - 1) (omega arith) in
      let u = used_at (block_bytes bytes (n - 1)) in
      let e : rows_of F bytes + F.rows - 1 ≡ n * F.rows + (u - 1) =
      ap (λ (x : ℕ). x + F.rows - 1) (rows_are F fit bytes small accepted (n - 1) (omega arith))
      ∙ (let z : n ≡ n - 1 + 1 = omega arith in let m : n * F.rows ≡ (n - 1 + 1) * F.rows = ap (λ (x : ℕ). x * F.rows) z in omega (arith, s.some)) in
      rw e (digits_div n {m = F.rows} {r = u - 1} (omega (arith, s.some, s.fit))))
      (λ (p : n < 1).
      let z : n ≡ 0 = omega arith in
      rw z (div-eq_of_lt (omega (arith, fit.some-rows))))
      (either 1 n)

  whole_is : length bytes % 512 ≡ 0
  unfolding is_whole
  whole_is = eqb-true (length bytes % 512) 0 (and_both (eqb (length bytes % 512) 0) (leb (length bytes / 512) F.most) accepted.whole).0

  size_is : image_size F plan ≡ length bytes
  size_is =
      ap (λ (x : ℕ). 512 * blocks_for F x) (rows-in F fit bytes)
      ∙ ap (λ (x : ℕ). 512 * x) blocks-are
      ∙ omega (arith, whole_is)

  pub one-image : image F plan ≡ bytes
  unfolding image
  one-image =
      ext_get_or 0 _ _ (length-tab _ _ ∙ size_is)
      (λ i h.
      let l : i < length bytes = rw (length-tab (image_size F plan) (image_byte F plan) ∙ size_is) at h in
      tab-at _ (image_byte F plan) i 0 (rw size_is l)
      ∙ block-is F fit bytes small accepted (i / 512) (omega (arith, whole_is)) (i % 512) (omega arith)
      ∙ ap (λ (x : ℕ). get_or bytes x 0) (omega arith))
