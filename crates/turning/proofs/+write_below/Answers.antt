-- What its halves write, the left one first; halves that are pairs without calling itself. Assumes nothing.
use Rattle.kit.proofs.{◌/◌}
use Rattle.node.proofs.Rooms.{half-falls, half-of-four, left-room, right-room, left-hours, right-hours}
use Rattle.examining.proofs.Examining.{details-told, left-told, right-told}
use Rattle.turning.proofs.Writing.{pairs-written, node-written, node-not-written}
use Rattle.turning.proofs.+write_below.Goals as goal

pub returns-then-hours-lt8 : goal.returns-then-hours-lt8
returns-then-hours-lt8 t c = search (pairs-written, details-told)

pub write_below-requires : goal.write_below-requires
write_below-requires t c =
    let a = c.args in (
      half-falls a.hours t c.decreases c.requires.le_hours,
      (
        half-of-four a.hours c.if-hours-lt4.false,
        (
          left-told a.range _ _ c.in-Some.is c.half_ranges-halves.ensures c.requires.readings,
          (
            left-room a.i.0 (a.hours / 2) _ c.requires.hours_in_bounds,
            left-hours a.h.0 a.hours _ c.requires.hours_bound,
          ),
        ),
      ),
    )

pub write_below-requires-2 : goal.write_below-requires-2
write_below-requires-2 t c =
    let a = c.args in (
      half-falls a.hours t c.decreases c.requires.le_hours,
      (
        half-of-four a.hours c.if-hours-lt4.false,
        (
          right-told a.range _ _ c.in-Some.is c.half_ranges-halves.ensures c.requires.readings,
          (
            right-room a.i.0 (a.hours / 2) _ c.requires.hours_in_bounds,
            right-hours a.h.0 a.hours _ c.requires.hours_bound,
          ),
        ),
      ),
    )

pub returns : goal.returns
returns t c = search (node-written, details-told)

pub returns-in_default : goal.returns-in_default
returns-in_default t c = search (node-not-written, details-told)
