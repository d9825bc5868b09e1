-- Texts put one after the other: none, one byte, and one text after another. Assumes nothing.
use mathlib.Core.Path.{◌≡◌, refl, sym, ◌∙◌, ap, subst₂}
use mathlib.Core.List.{List, [], ◌∷◌, ◌++◌, append_assoc, append-nil}
use Prim.Native.Nat.{ℕ, ◌+◌, ◌<◌}
use native.Mathlib.Numerals.{add-one}
use native.Mathlib.Omega.{arith}
use lib.ListN.{length, take, drop, get_or, set, length-append, take-append-drop}
use lib.Seq.{take-suc, take-suc-set, drop-set-lt, drop-drop}
use Rattle.plan_page.specs.Put.{Put}

pub put-none : (at : ℕ) (xs : List ℕ) → Put [] at xs at xs
put-none at xs = record { there = sym (append-nil (take at xs)); ends = omega arith; rest = refl }

pub put_one : (b at : ℕ) (xs : List ℕ) → at < length xs → Put (b ∷ []) at xs (at + 1) (set xs at b)
put_one b at xs h = record { there = rw add-one (take-suc-set xs at b h); ends = omega arith; rest = drop-set-lt (at + 1) xs at b (omega arith) }

pub put_then : {s t : List ℕ} {at r q : ℕ} {xs ys zs : List ℕ} → Put s at xs r ys → Put t r ys q zs → Put (s ++ t) at xs q zs
put_then {s} {t} {at} {r} {q} {xs} {ys} {zs} f g =
    record {
      there = g.there ∙ ap (λ l. l ++ t) f.there ∙ append_assoc (take at xs) s t;
      ends = omega (arith, f.ends, g.ends, length-append s t);
      rest = g.rest ∙ ap (λ m. drop m ys) g.ends ∙ sym (drop-drop (length t) r ys) ∙ ap (drop (length t)) f.rest ∙ drop-drop (length t) r xs ∙ ap (λ m. drop m xs) (sym g.ends);
    }

-- the same text and the same place, said otherwise
pub put_as : {s t : List ℕ} {at r q : ℕ} {xs ys : List ℕ} → s ≡ t → r ≡ q → Put s at xs r ys → Put t at xs q ys
put_as {at = at} {xs = xs} {ys = ys} e p f = subst₂ (λ (u : List ℕ) (m : ℕ). Put u at xs m ys) e p f

-- one more byte of a text
pub put-more : (text : List ℕ) (i at : ℕ) (xs ys : List ℕ) → i < length text → at + i < length ys → Put (take i text) at xs (at + i) ys
    → Put (take (i + 1) text) at xs (at + (i + 1)) (set ys (at + i) (get_or text i 0))
put-more text i at xs ys h room f =
    put_as (sym (rw add-one (take-suc text i 0 h))) (omega arith) (put_then f (put_one (get_or text i 0) (at + i) ys room))

-- a text at the start of a list, and what follows it
pub put_whole : {t xs ys : List ℕ} {r : ℕ} → Put t 0 xs r ys → (r ≡ length t) × (ys ≡ t ++ drop (length t) xs)
put_whole {t} {xs} {ys} {r} f =
    let e : r ≡ length t = omega (arith, f.ends) in
    (e, sym (take-append-drop r ys) ∙ (λ j. f.there j ++ f.rest j) ∙ ap (λ m. t ++ drop m xs) e)
