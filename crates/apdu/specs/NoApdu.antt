-- Why a string of bytes is no APDU. Contracts see an id as its number.
use Rattle.std.specs.Prelude.{ℕ}
use Rattle.apdu.specs.declared.apdus.NoApdu.{NoApdu as no_apdu_with}

abbrev pub NoApdu : Type 0
NoApdu = no_apdu_with ℕ
