use Rattle.std.proofs.Common.{refl}
use Rattle.directory.proofs.Changing.{never_two_from_empty, freed_from_empty}
use Rattle.directory.proofs.directory.Directory.new.Goals as goal

pub returns-clause-apart : goal.returns-clause-apart
returns-clause-apart g c = never_two_from_empty g.R.Keyed.keyed _ refl

pub returns-clause-freed : goal.returns-clause-freed
returns-clause-freed g c = freed_from_empty g.R.Keyed.keyed _ refl
