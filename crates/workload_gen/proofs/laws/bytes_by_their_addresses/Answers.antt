use Rattle.workload_gen.proofs.AddressLaws.{words-there}
use Rattle.workload_gen.proofs.laws.bytes_by_their_addresses.Goals as goal

pub returns-clause-words : goal.returns-clause-words
returns-clause-words c = words-there
