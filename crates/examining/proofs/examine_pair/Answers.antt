-- `examine_pair` says whether the pair's two hours come out. Assumes nothing.
use Rattle.std.proofs.Common.{rules}
use Rattle.examining.proofs.Examining.{pair-sound, pair-unsound}
use Rattle.examining.proofs.examine_pair.Goals as goal

pub returns-in_err-ok_or : goal.returns-in_err-ok_or
returns-in_err-ok_or c = search (pair-unsound, rules)

pub returns : goal.returns
returns c = pair-sound _ _ _ _ _ c.pair_halves.ensures _ _ c.in_ok-ok_or.ensures.ok_part
