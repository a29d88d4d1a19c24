use Rattle.apdu_c.proofs.AbsentHasNoSay.{absent_has_no_say}
use Rattle.apdu_c.proofs.GivenIsFlat.{given_is_flat}
use Rattle.apdu_c.proofs.apdu_write.Goals as goal

pub returns-in-Ok-clause-kept : goal.returns-in-Ok-clause-kept
returns-in-Ok-clause-kept c = given_is_flat

pub returns-in-Ok-clause-absent : goal.returns-in-Ok-clause-absent
returns-in-Ok-clause-absent c = absent_has_no_say

pub returns-in-Err-clause-kept : goal.returns-in-Err-clause-kept
returns-in-Err-clause-kept c = given_is_flat

pub returns-in-Err-clause-absent : goal.returns-in-Err-clause-absent
returns-in-Err-clause-absent c = absent_has_no_say
