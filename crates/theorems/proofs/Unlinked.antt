-- Asking a record, and the printer, refuse by the first cause of their order: a refusal is told from any other answer,
-- and one from another. Assumes nothing.
use Rattle.kit.proofs.{map, length, Err}
use Rattle.om3.specs.Document.{asking, refusal_line, grams_of}
use Rattle.laws.proofs.{Examined.refused-exactly, RefusalLines.line-one, RefusalLines.drawn-apart}
use Rattle.theorems.specs.Unlinked.{UnlinkedCause}

pub unlinked-cause : UnlinkedCause
unfolding asking
unlinked-cause =
    record {
      ask-record = λ r p why. refused-exactly Err _ (λ y z e. cc) (λ z e. cc) why _;
      print = λ a b w lines why.
          let apart = drawn-apart (length lines) (map grams_of lines) a b w in
          refused-exactly refusal_line _ line-one apart why _;
    }
