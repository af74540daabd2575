-- What clauses see of a host.
use Rattle.outside_io.specs.declared.outside.Shelf as shelf
use Rattle.outside_io.specs.declared.outside.Sink as sink
use Rattle.outside_io.specs.declared.host.Host.{Host}
use Rattle.outside_io.specs.Seen.{Seen}

module _ {S O : Type 0} {s : shelf.Ghosts S} {o : sink.Ghosts O} where
  abbrev pub seen : Host S O s o → Seen
  seen h = record {
    shelf_loan = h.shelf.ghost_name;
    out_loan = h.out.ghost_name;
    files = s.files h.shelf.now;
    stores = s.stores h.shelf.now;
    taken = o.taken h.out.now;
    shelf_faults = s.faults h.shelf.now;
    out_faults = o.faults h.out.now;
    absences = s.absences h.shelf.now;
  }
