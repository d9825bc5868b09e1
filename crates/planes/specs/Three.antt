-- "one luma and two chroma planes"; "A sample is now a plane number with a place" (document 02, request (v)).
use Rattle.std.specs.Prelude.{◌≡◌, cond, List, [], ℕ, eqb, length, get_or}

pub record Three (A : Type 0) : Type 0 where
  pub p0 : List A
  pub p1 : List A
  pub p2 : List A

-- a plane number with a place
pub record PlanePlace : Type 0 where
  pub plane : ℕ
  pub place : ℕ

-- plane k; there is none with a number above 2
unfoldable pub plane_in : {A : Type 0} → Three A → ℕ → List A
plane_in t k = cond (eqb k 0) t.p0 (cond (eqb k 1) t.p1 (cond (eqb k 2) t.p2 []))

-- plane k is another, the others stay
unfoldable pub with_plane : {A : Type 0} → Three A → ℕ → List A → Three A
with_plane t k s = record { p0 = cond (eqb k 0) s t.p0; p1 = cond (eqb k 1) s t.p1; p2 = cond (eqb k 2) s t.p2 }

-- what a sample holds; z is what a list gives past its end
abbrev pub look_in : {A : Type 0} → A → Three A → PlanePlace → A
look_in z t q = get_or (plane_in t q.plane) q.place z

-- each plane has n samples
pub record Sized {A : Type 0} (n : ℕ) (t : Three A) : Type 0 where
  pub l0 : length t.p0 ≡ n
  pub l1 : length t.p1 ≡ n
  pub l2 : length t.p2 ≡ n
