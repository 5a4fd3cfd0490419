-- `step` takes a pair's step at a pair, and else goes down by the details, which stand at the numbers of the halves.
-- Assumes nothing.
use Rattle.kit.proofs.{sym, ◌∙◌, ltb-true, ltb-false}
use Rattle.examining.proofs.Examining.{details-told}
use Rattle.stepping.proofs.Stepping as laws
use Rattle.stepping.proofs.step.Goals as goal

pub returns-then-pair : goal.returns-then-pair
returns-then-pair c =
    λ w two told. laws.pair-stepped _ _ _ _ _ w _ two (ltb-true w 4 (sym told ∙ c.if-pair.true)) c.requires.readings _
    c.pair_halves.ensures

pub returns : goal.returns
returns c =
    λ w two told. laws.details-stepped _ _ _ _ _ w _ (ltb-false w 4 (sym told ∙ c.if-pair.false)) c.requires.readings _
    (search details-told)
