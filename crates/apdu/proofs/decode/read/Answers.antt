use Rattle.apdu.proofs.Due.{read_lawful}
use Rattle.apdu.proofs.ReadWritesBack.{read_writes_back}
use Rattle.apdu.proofs.Rejects.{reject_due_exactly}
use Rattle.apdu.proofs.TagsRise.{tags_rise}
use Rattle.apdu.proofs.Worked.{cases_stand}
use Rattle.apdu.proofs.decode.read.Goals as goal

pub returns : goal.returns
returns c =
    record { value = c.read_apdu.ensures; writes_back = read_writes_back; lawful = read_lawful c.args.bytes.now _ (λ i. (c.type_inv.bytes i).fits) c.read_apdu.ensures; rising = tags_rise; due = reject_due_exactly; cases = cases_stand }
