-- The changes of days, as the boundary tells them, from a table that a series has. Assumes nothing.
use Rattle.kit.proofs.{◌≡◌, ap, ◌∙◌, List, map, ℕ, ◌*◌, ◌<◌, ℤ, pos, neg_ℤ, ◌≤ℤ◌, arith, Option, Result}
use Rattle.words.specs.declared.Refusal.{Refusal}
use Rattle.words.specs.{day_hours, largest_reading}
use Rattle.om3.specs.Document.{total, Series, hours_from, HasTable, lent, change_of, day_change, days_of, added_by}
use Rattle.om3.specs.Document.{span_of, look_through}
use Rattle.laws.proofs.Days.{look_on, look_before, day-drawn, days-add-up, change-bounds}
use Rattle.told.specs.{declared.columns.ToldChange.ToldChange, Columns.change_told}

-- What is told as the change is what the day adds.
told-adds : (c : Result (Option ℤ) Refusal) → (change_told c).grams ≡ added_by c
told-adds c = grind arith

module _ (n : ℕ) (s cs : List ℤ) (ks : List ℕ) (series : Series n s) (has : HasTable n s (lent cs ks)) where
  module _ (d : ℕ) (there : day_hours * d < n) (r : ToldChange)
      (told : r ≡ change_told (day_change n (lent cs ks) d)) where
    pub change-told : r ≡ change_told (change_of (look_before n s d) (look_on n s d))
    change-told = told ∙ ap change_told (day-drawn n s (lent cs ks) series has d there)

    pub change-adds : r.grams ≡ added_by (change_of (look_before n s d) (look_on n s d))
    change-adds = ap (λ (u : ToldChange). u.grams) change-told
        ∙ told-adds (change_of (look_before n s d) (look_on n s d))

    pub change-within : (neg_ℤ (pos (2 * largest_reading)) ≤ℤ r.grams) × (r.grams ≤ℤ pos (2 * largest_reading))
    change-within = rw change-adds (change-bounds n s series d)

  pub changes-add-up : (r : ℕ → ToldChange)
      → ((d : ℕ) → day_hours * d < n → r d ≡ change_told (day_change n (lent cs ks) d))
      → total (map (λ d. (r d).grams) (days_of n)) ≡ span_of (look_through n s (hours_from 0 n))
  changes-add-up r told =
      days-add-up n s (λ d. (r d).grams) (λ d there. change-adds d there (r d) (told d there))
