use Rattle.sheet.proofs.OneEach.{one_record_each}
use Rattle.sheet.proofs.PassedOver.{changes_nothing}
use Rattle.sheet.proofs.Worked.{cases_stand}
use Rattle.sheet.proofs.run.sheet.Goals as goal

pub returns : goal.returns
returns c =
    record { value = c.run_all.ensures; cases = cases_stand; one_each = one_record_each; passed_over = changes_nothing }
