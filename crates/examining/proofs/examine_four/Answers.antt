-- `examine_four` examines the node and then its pairs. Assumes nothing.
use Rattle.kit.proofs.{◌≡◌, Err, rules}
use Rattle.examining.proofs.Examining.{details-unsound, pairs-examined}
use Rattle.examining.proofs.examine_four.Goals as goal

pub returns-in_err-left : goal.returns-in_err-left
returns-in_err-left g c =
    let same : c.from_residual.result ≡ Err c.args.i = search rules in
    record {
      four = λ w wide eight.
          rw same (details-unsound _ _ _ _ _ w _ wide c.in_err-left.ensures.ok_part c.halves_at.ensures);
    }

pub returns : goal.returns
returns g c =
    record {
      four = λ w wide eight.
          pairs-examined _ _ _ _ _ w _ wide _ _ c.in_ok-left.ensures.ok_part c.halves_at.ensures eight _
          c.examine_pairs.ensures;
    }
