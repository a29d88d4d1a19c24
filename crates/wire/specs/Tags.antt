-- The tags of the fields.
use Rattle.std.specs.Prelude.{ℕ}

-- kind, one byte: invoke, result, error or reject
abbrev pub kind : ℕ
kind = 0x01

-- invoke id, two bytes
abbrev pub id : ℕ
id = 0x02

-- operation, one byte
abbrev pub operation : ℕ
operation = 0x03

-- user number, 1 to 15 ASCII digits
abbrev pub user : ℕ
user = 0x04

-- canCompute, empty: the asker can compute responses
abbrev pub can_compute : ℕ
can_compute = 0x05

-- challenge, 8 bytes
abbrev pub challenge : ℕ
challenge = 0x06

-- an algorithm's number, one byte
abbrev pub algorithm : ℕ
algorithm = 0x07

-- unit, 12 bytes: challenge and response
abbrev pub unit : ℕ
unit = 0x08

-- session, 24 bytes: session key and parameter
abbrev pub session : ℕ
session = 0x09

-- response, 4 bytes
abbrev pub response : ℕ
response = 0x0a

-- verdict, one byte
abbrev pub verdict : ℕ
verdict = 0x0b

-- error, one byte
abbrev pub error : ℕ
error = 0x0c

-- problem of a reject, any byte
abbrev pub problem : ℕ
problem = 0x0d
