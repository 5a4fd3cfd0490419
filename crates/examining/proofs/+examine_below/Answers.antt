-- The node itself, then both its halves, the left one first, with the ranges reached there; halves of four hours are
-- examined as such. Assumes nothing.
use Rattle.kit.proofs.{◌≡◌, Err, rules}
use Rattle.examining.proofs.Examining as laws
use Rattle.examining.proofs.Eights.{eight}
use Rattle.examining.proofs.+examine_below.Goals as goal

pub returns-in_err-left : goal.returns-in_err-left
returns-in_err-left g t c = search (laws.details-unsound, eight, rules)

pub examine_four-requires-clause-readings : goal.examine_four-requires-clause-readings
examine_four-requires-clause-readings g t c =
    laws.left-told _ _ _ c.in_ok-left.ensures.ok_part c.halves_at.ensures c.requires.readings

pub returns-in_err-examine_four : goal.returns-in_err-examine_four
returns-in_err-examine_four g t c =
    let same : c.from_residual-in_err-examine_four.result ≡ Err c.in_err-examine_four.field-0.0 = search rules in
    rw same
    (laws.left-unsound _ _ _ _ _ _ _ (search eight) {x = c.halves_at.result} _ _
    c.in_ok-left.ensures.ok_part c.halves_at.ensures _
    (c.examine_four.ensures.four _ (search eight) (search eight)) _ c.in_err-examine_four.was)

pub examine_four-requires-then-hours-lt16-clause-readings : goal.examine_four-requires-then-hours-lt16-clause-readings
examine_four-requires-then-hours-lt16-clause-readings g t c =
    laws.right-told _ _ _ c.in_ok-left.ensures.ok_part c.halves_at.ensures c.requires.readings

pub returns-then-hours-lt16 : goal.returns-then-hours-lt16
returns-then-hours-lt16 g t c =
    laws.then-right _ _ _ _ _ _ _ (search eight) {x = c.halves_at.result} _ _
    c.in_ok-left.ensures.ok_part c.halves_at.ensures _
    (c.examine_four.ensures.four _ (search eight) (search eight)) c.in_ok-examine_four.was _
    (c.examine_four-then-hours-lt16.ensures.four _ (search eight) (search eight))

pub examine_below-requires : goal.examine_below-requires
examine_below-requires g t c κs lives =
    let readings = laws.left-told _ _ _ c.in_ok-left.ensures.ok_part c.halves_at.ensures c.requires.readings in
    (search eight, (search rules, (search eight, (readings, (search rules, (search eight, search eight))))))

pub returns-in_err-examine_below : goal.returns-in_err-examine_below
returns-in_err-examine_below g t c =
    let same : c.from_residual-in_err-examine_below.result ≡ Err c.in_err-examine_below.field-0.0 = search rules in
    rw same
    (laws.left-unsound _ _ _ _ _ _ _ (search eight) {x = c.halves_at.result} _ _
    c.in_ok-left.ensures.ok_part c.halves_at.ensures _
    c.examine_below.ensures _ c.in_err-examine_below.was)

pub examine_below-requires-2 : goal.examine_below-requires-2
examine_below-requires-2 g t c κs lives =
    let readings = laws.right-told _ _ _ c.in_ok-left.ensures.ok_part c.halves_at.ensures c.requires.readings in
    (search eight, (search rules, (search eight, (readings, (search rules, (search eight, search eight))))))

pub returns : goal.returns
returns g t c =
    laws.then-right _ _ _ _ _ _ _ (search eight) {x = c.halves_at.result} _ _
    c.in_ok-left.ensures.ok_part c.halves_at.ensures _
    c.examine_below.ensures c.in_ok-examine_below.was _ c.examine_below-2.ensures
