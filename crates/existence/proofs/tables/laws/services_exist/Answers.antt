use Rattle.existence.proofs.tables.Services.{services}
use Rattle.existence.proofs.tables.laws.services_exist.Goals as goal

pub returns : goal.returns
returns c = services
