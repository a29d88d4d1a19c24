-- The entry into service.
use Rattle.std.specs.Prelude.{if◌then◌else◌, replicate, None, Ok, Err, Result}
use Rattle.refusal.specs.declared.Refusal.{Refusal}
use Rattle.refusal.specs.declared.Refusal.TheVariants.{Misfitted}
use Rattle.exchange.specs.declared.fit_out.FitOut.{FitOut}
use Rattle.exchange.specs.declared.service.Service.{Service}
use Rattle.exchange.specs.Bounds.{most_dialogues}
use Rattle.exchange.specs.FitOut.{fitted}

-- an exchange that has just entered service
abbrev pub fresh : FitOut → Service
fresh f = record {
  fit = f;
  last = 0;
  next = record { 0 = 1 };
  dialogues = replicate most_dialogues None;
}

-- entering service, where every value of the fit-out is in its range
abbrev pub entered : FitOut → Result Service Refusal
entered f = if fitted f then Ok (fresh f) else Err Misfitted
