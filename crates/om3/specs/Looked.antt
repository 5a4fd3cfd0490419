-- Demand 3: what a look through hours gives, with which the answers from a table are compared, and when one range lies
-- within another. Assumes nothing.
--
--   readings_in n s hs    of the hours hs those that hold a reading, each with it; reading_of n s h, that of hour h
--   least z zs           the least of z and the numbers zs that follow it; greatest, the greatest
--   grams_in readings     what they weigh
--   look_over readings    first, last, lowest and highest of some readings, or that there is none
--   look_through n s hs   what a look through the hours hs of a series gives
--   Covers r z           the reading z lies between the low and the high of the range r; no reading lies in an absent
--                        range
--   LiesWithin r q       the range r lies between the low and the high of q; an absent range lies within any; nothing
--                        but an absent one lies within an absent one
use Rattle.std.specs.Prelude.{not, List, [], ◌∷◌, map, ℕ, ℤ, ◌≤ℤ◌, None, Option, Some}
use Rattle.words.specs.declared.Summary.{Summary}
use Rattle.std.specs.Int.{int_min, int_max}
use Rattle.words.specs.declared.Timestamp.{Timestamp}
use Rattle.words.specs.declared.Range.{Range}
use Rattle.words.specs.declared.Reading.{Reading}
use Rattle.om3.specs.Lists.{keep, last_of}
use Rattle.om3.specs.Series.{is_gap, hour_of}

-- What hour h holds, with its hour.
abbrev pub reading_of : ℕ → List ℤ → Timestamp → Reading
reading_of n s h = record { hour = h; grams = hour_of n s h }

-- Keep the hours that hold a reading, ..
unfoldable pub readings_in : ℕ → List ℤ → List Timestamp → List Reading
readings_in n s hs = map (reading_of n s) (keep (λ h. not (is_gap (hour_of n s h))) hs)

-- .. and take the first of them, the last of them, the least and the greatest.
unfoldable pub least : ℤ → List ℤ → ℤ
least z [] = z
least z (y ∷ ys) = int_min z (least y ys)

unfoldable pub greatest : ℤ → List ℤ → ℤ
greatest z [] = z
greatest z (y ∷ ys) = int_max z (greatest y ys)

abbrev pub grams_in : List Reading → List ℤ
grams_in readings = map (λ (reading : Reading). reading.grams) readings

abbrev pub look_over : List Reading → Option Summary
look_over [] = None
look_over (reading ∷ further) =
    Some
    (record {
      first = reading;
      last = last_of reading further;
      low = least reading.grams (grams_in further);
      high = greatest reading.grams (grams_in further);
    })

unfoldable pub look_through : ℕ → List ℤ → List Timestamp → Option Summary
look_through n s hs = look_over (readings_in n s hs)

-- An absent range has no reading within it.
abbrev pub Covers : Option Range → ℤ → Type 0
Covers None z = ⊥
Covers (Some r) z = (r.low ≤ℤ z) × (z ≤ℤ r.high)

-- An absent range lies within any, and only such a one within an absent one.
abbrev pub LiesWithin : Option Range → Option Range → Type 0
LiesWithin None q = Unit
LiesWithin (Some r) None = ⊥
LiesWithin (Some r) (Some q) = (q.low ≤ℤ r.low) × (r.high ≤ℤ q.high)
