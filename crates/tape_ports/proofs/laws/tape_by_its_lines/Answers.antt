use Rattle.tape_ports.proofs.TextLaws.{tape_of-text}
use Rattle.tape_ports.proofs.laws.tape_by_its_lines.Goals as goal

pub returns : goal.returns
returns c = tape_of-text
