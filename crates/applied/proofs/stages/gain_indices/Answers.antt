-- The theorems of proofs/Gains.antt.
use Rattle.applied.proofs.Gains.{gain_values, refused_gains_lem, quiet_energies, gains_applied, kept_applied}
use Rattle.applied.proofs.stages.gain_indices.Goals as goal

pub returns : goal.returns
returns c = record { values = gain_values; refused = refused_gains_lem; energies = quiet_energies; applied = gains_applied; kept = kept_applied }
