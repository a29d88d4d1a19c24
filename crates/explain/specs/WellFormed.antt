-- Which bytes are shown field by field.
use Rattle.std.specs.Prelude.{Bool, true, false, Ok, Err, Result}
use Rattle.apdu.specs.declared.apdus.Apdu.{Apdu}
use Rattle.apdu.specs.NoApdu.{NoApdu}
use Rattle.apdu.specs.declared.apdus.NoApdu.TheVariants.{RejectDue, Garbled}

-- an APDU, or an invoke that is due a reject
abbrev pub is_well_formed : Result Apdu NoApdu → Bool
is_well_formed (Ok a) = true
is_well_formed (Err (RejectDue id problem)) = true
is_well_formed (Err Garbled) = false
