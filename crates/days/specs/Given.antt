-- What the inner function of the day change promises; the call itself cites om3's definition. Assumes nothing.
--
--   MayBeGiven d own              what the change of a day needs, if its own answer is given
--   ChangeGiven n cs ks d own r   the contract of that change
use mathlib.Core.{Path.◌≡◌}
use Rattle.std.specs.Prelude.{Err, Option, Result, List, ℕ, ◌<◌, ℤ}
use Rattle.words.specs.declared.Refusal.{Refusal}
use Rattle.words.specs.declared.Summary.{Summary}
use Rattle.words.specs.{Constants.largest_hours}
use Rattle.om3.specs.Document.{levels, lent, answer_by, answer, before, change_of, examine_before}
use Rattle.columns.specs.Drawing.{SmallAnswer}

-- 24·d can be counted, and the day's own readings can be subtracted.
pub record MayBeGiven (d : ℕ) (own : Option Summary) : Type 0 where
  pub below : d < largest_hours
  pub small : SmallAnswer own

-- The hours before are examined where the definition says so, and the change is that of both answers. [wish2 2, 6]
pub record ChangeGiven (n : ℕ) (cs : List ℤ) (ks : List ℕ) (d : ℕ) (own : Option Summary)
    (r : Result (Option ℤ) Refusal) : Type 0 where
  pub answer : (let t = lent cs ks in
      r ≡ answer_by Err (examine_before n t d own) (change_of (answer (levels n) t (before d)) own))
