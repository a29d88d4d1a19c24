-- What the two calls from C answer and leave.
use Rattle.std.specs.Prelude.{ℕ, List, length, Some, None, Ok, Err, Option, Result, nat_le, if◌then◌else◌}
use Rattle.refusal.specs.declared.Refusal.{Refusal}
use Rattle.refusal.specs.declared.Refusal.TheVariants.{ShortSheet, Garbled}
use Rattle.refusal.specs.Refusals.{refusal_number}
use Rattle.apdu.specs.declared.apdus.Apdu.{Apdu}
use Rattle.apdu.specs.NoApdu.{NoApdu}
use Rattle.apdu.specs.Encode.{least_buffer, write_answer, write_buffer}
use Rattle.apdu_c.specs.declared.fields.Fields.{Fields}
use Rattle.apdu_c.specs.Flat.{flat}

-- what a read returns: 0 for an APDU
abbrev pub read_status : Result Apdu NoApdu → ℕ
read_status (Ok a) = 0
read_status (Err n) = refusal_number Garbled

-- the struct after a read, where it was f before
abbrev pub read_fields : Result Apdu NoApdu → Fields → Fields
read_fields (Ok a) f = flat a
read_fields (Err n) f = f

-- the length of what is written, or why nothing is; None where the fields make no APDU
abbrev pub write_result : Option Apdu → List ℕ → Result ℕ Refusal
write_result None out = if nat_le least_buffer (length out) then Err Garbled else Err ShortSheet
write_result (Some a) out = write_answer a out

-- the buffer after a write, where it was out before
abbrev pub write_out : Option Apdu → List ℕ → List ℕ
write_out None out = out
write_out (Some a) out = write_buffer a out

-- 0, or the number of the refusal
abbrev pub status_of : Result ℕ Refusal → ℕ
status_of (Ok n) = 0
status_of (Err e) = refusal_number e

-- the length that is written, or old where nothing is
abbrev pub length_or : ℕ → Result ℕ Refusal → ℕ
length_or old (Ok n) = n
length_or old (Err e) = old

-- what a write returns: 0 where the APDU is written
abbrev pub write_status : Option Apdu → List ℕ → ℕ
write_status a out = status_of (write_result a out)

-- the count after a write, where it was old before
abbrev pub write_used : Option Apdu → List ℕ → ℕ → ℕ
write_used a out old = length_or old (write_result a out)
