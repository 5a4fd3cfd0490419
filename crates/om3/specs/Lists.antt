-- Lists of hours, places and nodes, as the definitions look through them. Assumes nothing.
--
--   up_from f c       the c numbers f, f + 1, .., up to, not including, f + c
--   any p xs         whether some element passes the test p
--   every p xs       whether each element passes it; of no elements each does
--   keep p xs        the elements that pass it, in their order
--   last_of x xs      the last of x and the elements xs that follow it
--   sum ms           all numbers of a list together; total zs, of signed numbers
--   first_from p j c  the least of j, j + 1, .., j + c that passes the test p, and j + c where none of them does
use Rattle.std.specs.Prelude.{Bool, true, false, cond, ◌&&◌, ◌||◌, List, [], ◌∷◌, ℕ, zero, suc, ◌+◌, ℤ, pos, ◌+ℤ◌}

unfoldable pub up_from : ℕ → ℕ → List ℕ
up_from f zero = []
up_from f (suc c) = f ∷ up_from (f + 1) c

module _ {A : Type 0} (p : A → Bool) where
  unfoldable pub any : List A → Bool
  any [] = false
  any (x ∷ xs) = p x || any xs

  unfoldable pub every : List A → Bool
  every [] = true
  every (x ∷ xs) = p x && every xs

  unfoldable pub keep : List A → List A
  keep [] = []
  keep (x ∷ xs) = cond (p x) (x ∷ keep xs) (keep xs)

unfoldable pub last_of : {A : Type 0} → A → List A → A
last_of x [] = x
last_of x (y ∷ ys) = last_of y ys

abbrev pub sum : List ℕ → ℕ
sum [] = 0
sum (m ∷ ms) = m + sum ms

abbrev pub total : List ℤ → ℤ
total [] = pos 0
total (z ∷ zs) = z +ℤ total zs

unfoldable pub first_from : (ℕ → Bool) → ℕ → ℕ → ℕ
first_from p j zero = j
first_from p j (suc c) = cond (p j) j (first_from p (suc j) c)
