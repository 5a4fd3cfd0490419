-- `try_open` hands on why opening refuses. Assumes nothing.
use Rattle.kit.proofs.{◌≡◌, ◌∙◌, Err, rules}
use Rattle.view.proofs.Viewed.{refused}
use Rattle.view.proofs.try_open.Goals as goal

pub returns-in_err-opened : goal.returns-in_err-opened
returns-in_err-opened c =
    let same : c.from_residual.result ≡ Err c.in_err-opened.field-0.0 = search rules in
    same ∙ refused _ c.in_err-opened.was c.open_record.ensures
