-- What a look through hours gives is the answers of the single hours, joined one after the other; so it is joined from
-- the looks through its parts, and its low and high are those of the range of its hours. Assumes nothing.
use Rattle.kit.proofs.{◌≡◌, refl, sym, ap, ap₂, ◌∙◌, cond, List, [], ◌∷◌, ◌++◌, map, foldr, ℕ, ◌-◌, ◌≤◌, ℤ, None}
use Rattle.kit.proofs.{Option, Some}
use Rattle.words.specs.Said.{held}
use Rattle.words.specs.declared.Summary.{Summary}
use Rattle.words.specs.declared.{Timestamp.Timestamp, Range.Range, Reading.Reading}
use Rattle.om3.specs.Document.{keep, last_of, is_gap, hour_of, hours_from, hour_range, both, look, joined, reading_of}
use Rattle.om3.specs.Document.{readings_in, least, greatest, look_over, look_through}
use Rattle.laws.proofs.{Tests.by-test, Ranges.min_assoc, Ranges.max_assoc, Answers.joined-right, Windows.hours-cut}

pub joined-assoc : (a b c : Option Summary) → joined (joined a b) c ≡ joined a (joined b c)
joined-assoc None b c = refl
joined-assoc (Some a) None c = refl
joined-assoc (Some a) (Some b) None = refl
joined-assoc (Some a) (Some b) (Some c) =
    λ i.
    Some
    (record {
      first = a.first;
      last = c.last;
      low = min_assoc a.low b.low c.low i;
      high = max_assoc a.high b.high c.high i;
    })

-- The low and the high of an answer; without a reading there are none.
abbrev pub range_of_answer : Option Summary → Option Range
range_of_answer None = None
range_of_answer (Some f) = held f.low f.high

pub range-joined : (a b : Option Summary) → range_of_answer (joined a b) ≡ both (range_of_answer a) (range_of_answer b)
range-joined None b = refl
range-joined (Some a) None = refl
range-joined (Some a) (Some b) = refl

-- The answer of one reading: it is the first, the last, the lowest and the highest.
abbrev pub answer_one : Reading → Option Summary
answer_one r = Some (record { first = r; last = r; low = r.grams; high = r.grams })

-- One reading before others: it is the first of all.
one_more : (r : Reading) (rs : List Reading) → look_over (r ∷ rs) ≡ joined (answer_one r) (look_over rs)
unfolding last_of least greatest
one_more r [] = refl
one_more r (q ∷ qs) = refl

module _ (n : ℕ) (s : List ℤ) where
  -- The answer of one hour; at a gap there is none.
  abbrev pub hour_answer : Timestamp → Option Summary
  hour_answer h = cond (is_gap (hour_of n s h)) None (answer_one (reading_of n s h))

  pub look-through-none : look_through n s [] ≡ None
  unfolding look_through readings_in keep
  look-through-none = refl

  pub look-through-more : (h : Timestamp) (hs : List Timestamp)
      → look_through n s (h ∷ hs) ≡ joined (hour_answer h) (look_through n s hs)
  unfolding look_through readings_in keep
  look-through-more h hs = by-test (is_gap (hour_of n s h)) (λ e. rw e) (λ e. rw e (one_more (reading_of n s h) _))

  pub look-through-one : (h : Timestamp) → look_through n s (h ∷ []) ≡ hour_answer h
  look-through-one h = look-through-more h [] ∙ rw look-through-none (joined-right (hour_answer h))

  pub look-through-joined : (hs : List Timestamp)
      → look_through n s hs ≡ foldr {B = Option Summary} joined None (map (λ h. look_through n s (h ∷ [])) hs)
  look-through-joined [] = look-through-none
  look-through-joined (h ∷ hs) =
      look-through-more h hs ∙ ap₂ joined (sym (look-through-one h)) (look-through-joined hs)

  pub look-through-append : (hs gs : List Timestamp)
      → look_through n s (hs ++ gs) ≡ joined (look_through n s hs) (look_through n s gs)
  look-through-append [] gs = rw look-through-none
  look-through-append (h ∷ hs) gs =
      look-through-more h (hs ++ gs) ∙ ap (joined (hour_answer h)) (look-through-append hs gs)
      ∙ sym (joined-assoc (hour_answer h) (look_through n s hs) (look_through n s gs))
      ∙ ap (λ (a : Option Summary). joined a (look_through n s gs)) (sym (look-through-more h hs))

  range-hour : (h : Timestamp) → range_of_answer (hour_answer h) ≡ hour_range (hour_of n s h)
  range-hour h = by-test (is_gap (hour_of n s h)) (λ e. rw e) (λ e. rw e)

  pub look-through-range : (hs : List Timestamp) → range_of_answer (look_through n s hs) ≡ look (map (hour_of n s) hs)
  unfolding look
  look-through-range [] = ap range_of_answer look-through-none
  look-through-range (h ∷ hs) =
      ap range_of_answer (look-through-more h hs)
      ∙ range-joined (hour_answer h) (look_through n s hs) ∙ rw (range-hour h, look-through-range hs)

  -- The hours from f up to, not including, h, cut at hour g: the answers of the two parts join.
  pub look-through-cut : (f g h : ℕ) → f ≤ g → g ≤ h
      → look_through n s (hours_from f (h - f))
      ≡ joined (look_through n s (hours_from f (g - f))) (look_through n s (hours_from g (h - g)))
  look-through-cut f g h p q =
      rw (hours-cut f g h p q) (look-through-append (hours_from f (g - f)) (hours_from g (h - g)))
