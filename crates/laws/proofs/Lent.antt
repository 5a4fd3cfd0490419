-- A table is not too short exactly if the places that it needs are lent. Assumes nothing.
use Rattle.kit.proofs.{◌≡◌, false, ℕ, ◌/◌, ◌≤◌, length, le-ltb, ltb-false}
use Rattle.om3.specs.Document.{P, Table, short, table_short}
use Rattle.laws.proofs.Tests.{neither}

module _ (n : ℕ) (t : Table) where
  pub not_short : P n ≤ length t.coefficients → P n / 2 ≤ length t.codes → table_short n t ≡ false
  not_short a b = rw (le-ltb _ _ a, le-ltb _ _ b)

  module _ (room : table_short n t ≡ false) where
    parts : (short (length t.coefficients) (P n) ≡ false) × (short (length t.codes) (P n / 2) ≡ false)
    parts = neither (short (length t.coefficients) (P n)) (short (length t.codes) (P n / 2)) room

    pub coefficients-there : P n ≤ length t.coefficients
    coefficients-there = ltb-false _ _ parts.0

    pub codes-there : P n / 2 ≤ length t.codes
    codes-there = ltb-false _ _ parts.1
