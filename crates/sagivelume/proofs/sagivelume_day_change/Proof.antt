-- The call is handed on, and its answer told in numbers. Assumes nothing.
use Rattle.kit.proofs.{ap, ◌∙◌, rules}
use Rattle.told.specs.Columns.{change_told}
use Rattle.sagivelume.proofs.sagivelume_day_change.Statement.{statement}
use Rattle.sagivelume.proofs.sagivelume_day_change.Tie as tie

returns : tie.Need-returns
returns c = c.into.ensures ∙ ap change_told c.day_change.ensures

pub sagivelume_day_change_spec : {M : Type 1} → statement M
sagivelume_day_change_spec = tie.close (tie.spec (λ c κs. search rules) (λ c κs. search rules) returns)
