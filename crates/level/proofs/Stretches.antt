-- When there is a level j of details, by the tests that the code makes, and where its stretch lies. Assumes nothing.
use Rattle.kit.proofs.{◌≡◌, true, false, not, ◌||◌, List, ⊎_elim, ℕ, suc, ◌+◌, ◌*◌, ◌^◌, ◌≤◌, ◌<◌, two-pow-succ, arith}
use Rattle.kit.proofs.{ℤ, length, leb, leb-true, pow_mono, pow_pos, le-leb, lt-leb}
use Rattle.words.specs.{largest_level}
use Rattle.words.specs.declared.Stretch.{Stretch}
use Rattle.om3.specs.Document.{bad_hours, levels, P, short, has_level, level_stretch}
use Rattle.laws.proofs.{Tests.below_or_not, Tests.and_right, Levels.levels-most, Answers.stretch-within}

module _ (n j : ℕ) where
  -- Level j is there, and is no level of pairs, exactly if two levels below it are.
  pub no_pairs : leb (j + 2) (levels n) ≡ leb (4 * 2 ^ j) (P n)
  no_pairs = ⊎_elim below there (below_or_not (levels n) (j + 2))
    where
      below : levels n < j + 2 → leb (j + 2) (levels n) ≡ leb (4 * 2 ^ j) (P n)
      below d =
          let e : levels n ≤ suc j = omega arith in
          let h : P n < 4 * 2 ^ j = omega (arith, two-pow-succ j, pow_mono e, pow_pos j) in
          rw (lt-leb (j + 2) (levels n) d, lt-leb (4 * 2 ^ j) (P n) h)

      there : j + 2 ≤ levels n → leb (j + 2) (levels n) ≡ leb (4 * 2 ^ j) (P n)
      there d =
          let e : suc (suc j) ≤ levels n = omega arith in
          let h : 4 * 2 ^ j ≤ P n = omega (arith, two-pow-succ (suc j), two-pow-succ j, pow_mono e) in
          rw (le-leb (j + 2) (levels n) d, le-leb (4 * 2 ^ j) (P n) h)

  pub too_deep : largest_level ≤ j → leb (j + 2) (levels n) ≡ false
  too_deep h =
      let d : levels n < j + 2 = omega (arith, levels-most n) in
      lt-leb (j + 2) (levels n) d

  module _ (size : ℕ) (e : has_level n j size ≡ true) where
    pub not_deep : j < largest_level
    not_deep =
        let h : leb (j + 2) (levels n) ≡ true = and_right (not (bad_hours n || short size (P n))) _ e in
        let d : j + 2 ≤ levels n = leb-true (j + 2) (levels n) h in
        omega (arith, levels-most n)

    pub narrow : 2 ^ j ≤ 2 ^ largest_level
    narrow = let d : j ≤ largest_level = omega (arith, not_deep) in pow_mono d

pub ruleset deep = (not_deep, narrow)

-- The part that the code takes lies within the coefficients.
module _ (n j : ℕ) (cs : List ℤ) (r : Stretch) (e : r ≡ level_stretch n j (length cs)) where
  pub part_fits : r.start + r.length ≤ length cs
  part_fits = rw e (stretch-within n j (length cs))
