-- `judge_kind` decides as the definition does, where it reads the message itself.
use Rattle.std.proofs.Common.{rules, sym, ◌∙◌}
use Rattle.client.proofs.DecideLaws.{revision_cut, revision_ignored, update_cut, update_stored}
use Rattle.client.proofs.judge_kind.Goals as goal

pub returns-in_err-number-in-Unsupported : goal.returns-in_err-number-in-Unsupported
returns-in_err-number-in-Unsupported c = search (rules, revision_cut)

pub returns-in_ok-number-in-Unsupported : goal.returns-in_ok-number-in-Unsupported
returns-in_ok-number-in-Unsupported c = search (rules, revision_ignored)

pub returns-in_err-read_held_update-in-Update : goal.returns-in_err-read_held_update-in-Update
returns-in_err-read_held_update-in-Update c = search (rules, update_cut)

pub returns-in_ok-read_held_update-in-Update : goal.returns-in_ok-read_held_update-in-Update
returns-in_ok-read_held_update-in-Update c =
    let read = sym c.in_ok-read_held_update-in-Update.was ∙ c.read_held_update.ensures in
    update_stored _ _ _ _ _ _ c.in-Update.is read
