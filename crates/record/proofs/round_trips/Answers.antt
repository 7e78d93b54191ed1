-- `round_trips` meets its contract: the theorems of proofs/Handover.antt.
use Rattle.record.proofs.Handover.{read_back, same_outcome, first_read, first_outcome, same_rest, record_back, written_back, read_formed}
use Rattle.record.proofs.round_trips.Goals as goal

pub returns : goal.returns
returns c =
    record {
      read_back = read_back;
      same_outcome = same_outcome;
      first_read = first_read;
      first_outcome = first_outcome;
      same_rest = same_rest;
      record_back = record_back;
      written_back = written_back;
      read_formed = read_formed;
    }
