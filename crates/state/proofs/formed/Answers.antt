-- Every state of the code is well-formed: its arrays have as many numbers, and each number its 16 bits.
use Rattle.std.proofs.Common.{rules}
use Rattle.lists.proofs.Signed.{entry_fits}
use Rattle.state.proofs.formed.Goals as goal

pub returns : goal.returns
returns c =
    record {
      signal = record {
        lsp = record { count = search rules; fit = λ i. search (rules, entry_fits) };
        past = record { count = search rules; fit = λ i. search (rules, entry_fits) };
        sharpening = search rules;
        history = record { count = search rules; fit = λ i. search (rules, entry_fits) };
        input_history = record { count = search rules; fit = λ i. search (rules, entry_fits) };
        synthesis_history = record { count = search rules; fit = λ i. search (rules, entry_fits) };
        previous_residual = search rules;
        previous_gain = search rules;
      };
      concealment = record {
        last_lag = search rules;
        gains = record { pitch_history = record { count = search rules; fit = λ i. search (rules, entry_fits) }; code_history = record { count = search rules; fit = λ i. search (rules, entry_fits) }; past = record { pitch = search rules; code = search rules }; last_good = record { pitch = search rules; code = search rules } };
        erased = search rules;
      };
    }
