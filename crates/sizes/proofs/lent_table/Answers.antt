-- The checks refuse in their order, each by its own law; where both pass, the table is lent. Assumes nothing.
use Rattle.kit.proofs.{refl, sym, ◌∙◌}
use Rattle.sizes.proofs.Lent as laws
use Rattle.sizes.proofs.lent_table.Goals as goal

pub returns-then-bad_hours : goal.returns-then-bad_hours
returns-then-bad_hours c =
    let a = c.args in
    laws.bad-hours a.n a.coefficients.now a.codes.now (sym c.bad_hours.ensures ∙ c.if-bad_hours.true)

pub returns-then-table_short : goal.returns-then-table_short
returns-then-table_short c =
    let found = rw c.places-p.ensures at c.table_short.ensures in
    laws.short-table _ _ _ (sym c.bad_hours.ensures ∙ c.if-bad_hours.false) (sym found ∙ c.if-table_short.true)

pub returns : goal.returns
returns c =
    let found = rw c.places-p.ensures at c.table_short.ensures in
    record {
      checks = laws.enough _ _ _ (sym c.bad_hours.ensures ∙ c.if-bad_hours.false) (sym found ∙ c.if-table_short.false);
      hours = refl;
      coefficients = refl;
      codes = refl;
    }
