-- `ask_record` hands on why opening refuses. Assumes nothing.
use Rattle.kit.proofs.{◌≡◌, ◌∙◌, Err, rules}
use Rattle.view.proofs.Viewed.{asked_refused}
use Rattle.view.proofs.ask_record.Goals as goal

pub returns-in_err-view : goal.returns-in_err-view
returns-in_err-view c =
    let same : c.from_residual.result ≡ Err c.in_err-view.field-0.0 = search rules in
    same ∙ asked_refused _ _ c.in_err-view.was c.try_open.ensures
