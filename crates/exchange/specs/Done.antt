-- What a call that is not refused gives its host.
use Rattle.exchange.specs.declared.outcome.Report.{Report}
use Rattle.exchange.specs.declared.outcome.Done.{Done as done_with}

abbrev pub Done : Type 0
Done = done_with Report
